-- How many frames a set chooses. Assumes nothing.
use Rattle.std.proofs.Common.{◌≡◌, ℕ, zero, suc, ◌+◌, ◌-◌, ◌*◌, ◌/◌, ◌%◌, ◌^◌, ◌<◌, min, cond, eqb, ◌⊎◌, List, [], ◌∷◌, length, sym, refl, ap, ◌∙◌, inl, inr, ⊎_elim, pow-suc, add-one, arith}
use lib.Bits.{bit_and, and_mask}
use lib.Count.{ones, ones_step}
use Rattle.std.proofs.lemmas.Nat.{mod-pow-add}
use Rattle.std.proofs.lemmas.Bool.{cases_lt}
use Rattle.matroids.specs.Chosen.{chosen}

module _ {A : Type 0} where
  pub chosen_none : (xs : List A) → chosen xs 0 ≡ []
  chosen_none [] = refl
  chosen_none (x ∷ xs) = chosen_none xs

  -- n is below 2
  length_pick : (n : ℕ) (x : A) (s : List A) → (n ≡ 0) ⊎ (n ≡ 1) → length (cond (eqb n 1) (x ∷ s) s) ≡ n + length s
  length_pick n x s (inl e) = ap (λ m. length (cond (eqb m 1) (x ∷ s) s)) e ∙ omega arith
  length_pick n x s (inr e) = ap (λ m. length (cond (eqb m 1) (x ∷ s) s)) e ∙ omega arith

-- bit 0
pub bit : (n : ℕ) → (n % 2 ≡ 0) ⊎ (n % 2 ≡ 1)
bit n = ⊎_elim (λ l. inl (omega arith)) (λ l. inr (omega arith)) (cases_lt (n % 2) 1)

ones_mod : (n j : ℕ) → ones (n % 2 ^ suc j) ≡ n % 2 + ones (n / 2 % 2 ^ j)
ones_mod n j =
    let whole : n % 2 ^ suc j ≡ (n / 2 % 2 ^ j) * 2 + n % 2 = ap (λ i. n % 2 ^ i) (sym (add-one j)) ∙ mod-pow-add n j 1 in
    let rest : n % 2 ^ suc j / 2 ≡ n / 2 % 2 ^ j = omega arith in
    ones_step (n % 2 ^ suc j) ∙ omega (arith, ap ones rest)

ones_none : (n : ℕ) → ones (n % 1) ≡ 0
unfolding ones
ones_none n = let e : n % 1 ≡ 0 = omega arith in ap ones e

module _ {A : Type 0} where
  ones-chosen : (k : ℕ) (xs : List A) (n j : ℕ) → n < 2 ^ k → j ≡ min (length xs) k → ones (n % 2 ^ j) ≡ length (chosen xs n)
  ones-chosen k [] n j h e = let z : j ≡ 0 = omega arith in ap (λ i. ones (n % 2 ^ i)) z ∙ ones_none n
  ones-chosen zero (x ∷ xs) n j h e =
      let z : j ≡ 0 = omega arith in
      let none : n ≡ 0 = omega arith in
      ap (λ i. ones (n % 2 ^ i)) z ∙ ones_none n ∙ sym (ap (λ i. length (chosen (x ∷ xs) i)) none ∙ ap length (chosen_none xs))
  ones-chosen (suc k) (x ∷ xs) n j h e =
      let z : j ≡ suc (min (length xs) k) = omega arith in
      ap (λ i. ones (n % 2 ^ i)) z ∙ ones_mod n (min (length xs) k)
      ∙ omega (arith, ones-chosen k xs (n / 2) (min (length xs) k) (omega (arith, pow-suc 2 k)) refl, length_pick (n % 2) x (chosen xs (n / 2)) (bit n))

  -- the ones of a set of k bits, masked to the places that the list has
  pub count-chosen : (k : ℕ) (xs : List A) (n mask : ℕ) → n < 2 ^ k → mask ≡ 2 ^ min (length xs) k - 1 → ones (bit_and n mask) ≡ length (chosen xs n)
  count-chosen k xs n mask h e = ap (λ m. ones (bit_and n m)) e ∙ ap ones (and_mask n (min (length xs) k)) ∙ ones-chosen k xs n (min (length xs) k) h refl
