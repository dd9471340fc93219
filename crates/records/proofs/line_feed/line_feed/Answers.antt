use Rattle.std.proofs.Common.{◌≡◌, ℕ, ◌+◌, ◌<◌, ◌≤◌, ◌==◌, List, take, sym, ap, ◌∙◌, subst, ⊎_elim, arith, rules, tests}
use Rattle.std.proofs.lemmas.List.{take_all}
use Rattle.std.proofs.lemmas.Bool.{cases_lt}
use Rattle.std.proofs.lemmas.Iterator.{YieldsList-from_slice, YieldsList-from_take}
use Rattle.std.proofs.lemmas.Iterator.Search.{position_from_yields_List}
use Rattle.records.specs.Reading.{Fed}
use Rattle.records.proofs.Feeding.{fed_by_place}
use Rattle.records.proofs.line_feed.line_feed.Goals as goal

pub returns : goal.returns
returns c =
    let s = c.args.s.now in
    let n = c.saturating_add.result in
    let most = c.args.most in
    -- a slice has fewer bytes than the highest count
    let window : take n s ≡ take (most + 1) s = ⊎_elim
    (λ (h : most < 18446744073709551615). let e : n ≡ most + 1 = omega (arith, c.saturating_add.ensures) in ap (λ (n : ℕ). take n s) e)
    (λ (h : 18446744073709551615 ≤ most). take_all n s (omega (arith, c.saturating_add.ensures, c.iter.ensures.bound)) ∙ sym (take_all (most + 1) s (omega (arith, c.iter.ensures.bound))))
    (cases_lt most 18446744073709551615) in
    let found = position_from_yields_List (λ b. b == 10) _ _ _ c.position.ensures.ran (YieldsList-from_take n (YieldsList-from_slice s cc) c.take.ensures.count) (λ x b q k. search (rules, tests)) in
    subst (λ (t : List ℕ). Fed t c.position.result) window (fed_by_place (take n s) _ found)
