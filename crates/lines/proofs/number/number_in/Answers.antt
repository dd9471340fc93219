use Rattle.std.proofs.Common.{◌≡◌, ℕ, ◌<◌, true, false, eqb, List, length, get_or, Some, None, Option, refl, sym, ◌∙◌, subst, arith}
use Rattle.std.proofs.lemmas.Bool.{eqb-true, eqb-false}
use Rattle.std.specs.Borrow.{Bor}
use Rattle.std.specs.Option.{option_eq}
use Rattle.std.specs.Slice.{IsItemAt}
use Rattle.lines.specs.Lines.{Leading}
use Rattle.lines.proofs.Fronts.{found, missed}
use Rattle.lines.proofs.number.number_in.Goals as goal

-- the byte that was got is a line feed just where one stands there
is_feed : (s : List ℕ) (n : ℕ) (r : Option (Bor ℕ)) (feed : Bor ℕ) → IsItemAt s n r → feed.now ≡ 10 → true ≡ option_eq (λ x y. eqb x.now y.now) r (Some feed) → (n < length s) × (get_or s n 0 ≡ 10)
is_feed s n None feed h ten e = cc
is_feed s n (Some x) feed h ten e = (h.3.0, sym (h.4 (omega arith) 0) ∙ (eqb-true x.now feed.now (sym e) ∙ ten))

no_feed : (s : List ℕ) (n : ℕ) (r : Option (Bor ℕ)) (feed : Bor ℕ) → IsItemAt s n r → feed.now ≡ 10 → false ≡ option_eq (λ x y. eqb x.now y.now) r (Some feed) → n < length s → get_or s n 0 ≡ 10 → ⊥
no_feed s n None feed h ten e l there = omega (arith, h.3, l)
no_feed s n (Some x) feed h ten e l there = eqb-false x.now feed.now (sym e) (h.4 (omega arith) 0 ∙ (there ∙ sym ten))

pub returns-then-eq : goal.returns-then-eq
returns-then-eq c =
    let r = c.leading-n.result in
    let s = c.args.s.now in
    let h = subst (λ (t : List ℕ). Leading c.args.base t r) c.front.ensures c.leading-n.ensures in
    let f = is_feed s r.0 c.get.result _ c.get.ensures.lookup refl c.if-eq.ensures in
    found c.args.base c.requires.base c.args.most s r h f.0 f.1

pub returns-else-eq : goal.returns-else-eq
returns-else-eq c =
    let r = c.leading-n.result in
    let s = c.args.s.now in
    let h = subst (λ (t : List ℕ). Leading c.args.base t r) c.front.ensures c.leading-n.ensures in
    missed c.args.base c.requires.base c.args.most s r h (no_feed s r.0 c.get.result _ c.get.ensures.lookup refl c.if-eq.ensures)
