-- What the set of all places, and of all but one, chooses. Assumes nothing.
use Rattle.std.proofs.Common.{◌≡◌, ℕ, zero, suc, ◌+◌, ◌-◌, ◌*◌, ◌/◌, ◌%◌, ◌^◌, ◌<◌, true, false, eqb, List, [], ◌∷◌, length, refl, ap, ◌∙◌, arith}
use native.Mathlib.Nat.{pow-succ'}
use Rattle.std.specs.List.{remove}
use Rattle.std.proofs.lemmas.Nat.{pow_pos, pow_below}
use Rattle.std.proofs.lemmas.Bool.{eq-eqb, ne_eqb, cond-true, cond-false}
use Rattle.matroids.specs.Chosen.{chosen}

pow_next : (n : ℕ) → 2 ^ suc n ≡ 2 * 2 ^ n
pow_next n = pow-succ' 2 n

module _ {A : Type 0} where
  chosen_in : (x : A) (xs : List A) (m : ℕ) → chosen (x ∷ xs) (2 * m + 1) ≡ x ∷ chosen xs m
  chosen_in x xs m =
      let odd : eqb ((2 * m + 1) % 2) 1 ≡ true = eq-eqb _ _ (omega arith) in
      let half : (2 * m + 1) / 2 ≡ m = omega arith in
      cond-true _ _ _ odd ∙ ap (λ k. x ∷ chosen xs k) half

  chosen_out : (x : A) (xs : List A) (m : ℕ) → chosen (x ∷ xs) (2 * m) ≡ chosen xs m
  chosen_out x xs m =
      let even : eqb ((2 * m) % 2) 1 ≡ false = ne_eqb _ _ (λ e. omega arith) in
      let half : (2 * m) / 2 ≡ m = omega arith in
      cond-false _ _ _ even ∙ ap (λ k. chosen xs k) half

  pub chosen-all : (xs : List A) → chosen xs (2 ^ length xs - 1) ≡ xs
  chosen-all [] = refl
  chosen-all (x ∷ xs) =
      let e : 2 ^ suc (length xs) - 1 ≡ 2 * (2 ^ length xs - 1) + 1 = omega (arith, pow_next (length xs), pow_pos (length xs)) in
      ap (λ k. chosen (x ∷ xs) k) e ∙ chosen_in x xs (2 ^ length xs - 1) ∙ ap (λ ys. x ∷ ys) (chosen-all xs)

  pub chosen_but : (xs : List A) (p : ℕ) → p < length xs → chosen xs (2 ^ length xs - 1 - 2 ^ p) ≡ remove xs p
  chosen_but [] p h = absurd (omega arith)
  chosen_but (x ∷ xs) zero h =
      let e : 2 ^ suc (length xs) - 1 - 2 ^ zero ≡ 2 * (2 ^ length xs - 1) = omega (arith, pow_next (length xs), pow_pos (length xs)) in
      ap (λ k. chosen (x ∷ xs) k) e ∙ chosen_out x xs (2 ^ length xs - 1) ∙ chosen-all xs
  chosen_but (x ∷ xs) (suc p) h =
      let l : p < length xs = omega arith in
      let e : 2 ^ suc (length xs) - 1 - 2 ^ suc p ≡ 2 * (2 ^ length xs - 1 - 2 ^ p) + 1 = omega (arith, pow_next (length xs), pow_next p, pow_pos (length xs), pow_below p (length xs) l) in
      ap (λ k. chosen (x ∷ xs) k) e ∙ chosen_in x xs (2 ^ length xs - 1 - 2 ^ p) ∙ ap (λ ys. x ∷ ys) (chosen_but xs p l)
