use Rattle.std.proofs.Common.{◌≡◌, ℕ, ◌+◌, ◌*◌, ◌<◌, ◌≤◌, List, length, get_or, sym, refl, subst, arith}
use Rattle.std.specs.Prelude.{MatchResult, ◌≢◌}
use Rattle.std.specs.Array.{IsWholeChunk}
use Rattle.kinds.proofs.Located.{get_or_zeros}
use Rattle.concave.proofs.counts.ConcaveCounts.new.Goals as goal

pub invariant_of-result : goal.invariant_of-result
invariant_of-result c =
    let right = c.in_ok-check_steps.ensures.accepted in
    let whole = subst (λ r. MatchResult r (λ ns. IsWholeChunk c.args.steps.now ns 512) (λ _. length c.args.steps.now ≢ 512)) c.unwrap.ensures c.try_into.ensures.1 in
    let own = sym whole.same in
    let low = subst (λ (ns : List ℕ). (i : ℕ) → get_or ns i 0 ≤ 8388607) own right.1 in
    let falls = subst (λ (ns : List ℕ). (l j : ℕ) → j < 7 → get_or ns (8 * l + j + 1) 0 ≤ get_or ns (8 * l + j) 0) own right.2 in
    record { table = subst (λ (ns : List ℕ). length ns ≡ 512) own whole.long; lanes = refl; limit = low; falling = falls; most = λ l. omega (arith, get_or_zeros 64 l) }
