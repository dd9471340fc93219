-- A key at the front of a text.
use Rattle.std.proofs.Common.{◌≡◌, ℕ, ◌+◌, true, false, eqb, List, [], ◌∷◌, ◌++◌, length, drop, refl, ◌∙◌, ⊎_elim, arith}
use Rattle.std.proofs.lemmas.Bool.{eq-eqb, eqb-true, cond-true, cond-false, cases_Bool}
use Rattle.std.specs.List.{common_prefix_len}

-- a text that begins with the key has all of it in common
pub common_front : (key rest : List ℕ) → common_prefix_len eqb key (key ++ rest) ≡ length key
common_front [] rest = refl
common_front (k ∷ key) rest =
    let e : eqb k k ≡ true = eq-eqb k k refl in
    let h = common_front key rest in
    cond-true (eqb k k) _ 0 e ∙ omega (arith, h)

-- and the other way round
pub front_common : (key s : List ℕ) → common_prefix_len eqb key s ≡ length key → s ≡ key ++ drop (length key) s
front_common [] s h = refl
front_common (k ∷ key) [] h = absurd (omega arith)
front_common (k ∷ key) (x ∷ s) h =
    ⊎_elim
    (λ (e : eqb k x ≡ true).
    let c : common_prefix_len eqb key s ≡ length key = omega (arith, cond-true (eqb k x) (1 + common_prefix_len eqb key s) 0 e) in
    let t = front_common key s c in
    let v = eqb-true k x e in
    cc)
    (λ (e : eqb k x ≡ false). absurd (omega (arith, cond-false (eqb k x) (1 + common_prefix_len eqb key s) 0 e)))
    (cases_Bool (eqb k x))
