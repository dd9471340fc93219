-- The frames that a set chooses, by the lowest of its places and the others, and place by place. Assumes nothing.
use Rattle.std.proofs.Common.{◌≡◌, ℕ, zero, suc, ◌+◌, ◌-◌, ◌/◌, ◌%◌, ◌^◌, ◌<◌, ◌≤◌, if◌then◌else◌, eqb, List, [], ◌∷◌, length, get_or, drop, sym, refl, ap, ◌∙◌, arith, bit_and, w64}
use Rattle.std.specs.Int.{bit_at, trailing_zeros}
use Rattle.std.proofs.lemmas.List.{at_drop_more, at_drop_all}
use Rattle.std.proofs.lemmas.Nat.{and_le_l, and_le_r, and_shr, and_mod}
use lib.Bits.{and_self}
use Rattle.std.proofs.lemmas.Nat.Bits.{bit_at_lowest, bit_at-suc, bit_at-trailing_zeros}
use Rattle.std.proofs.lemmas.Bool.{eq-eqb, ne_eqb, cond-true, cond-false}
use Rattle.matroids.specs.Chosen.{chosen}

-- n without its lowest bit
abbrev rest : ℕ → ℕ
rest n = bit_and n (n - 1)

module _ {A : Type 0} (x : A) (xs : List A) (n : ℕ) where
  chosen_in : n % 2 ≡ 1 → chosen (x ∷ xs) n ≡ x ∷ chosen xs (n / 2)
  chosen_in e = cond-true (eqb (n % 2) 1) (x ∷ chosen xs (n / 2)) (chosen xs (n / 2)) (eq-eqb (n % 2) 1 e)

  chosen_out : n % 2 ≡ 0 → chosen (x ∷ xs) n ≡ chosen xs (n / 2)
  chosen_out e = cond-false (eqb (n % 2) 1) (x ∷ chosen xs (n / 2)) (chosen xs (n / 2)) (ne_eqb (n % 2) 1 (λ k. omega arith))

rest_even : (n : ℕ) → 0 < n → rest n % 2 ≡ 0
rest_even n l = and_mod n (n - 1) 1 ∙ omega (arith, and_le_l (n % 2) ((n - 1) % 2), and_le_r (n % 2) ((n - 1) % 2))

rest_odd_half : (n : ℕ) → n % 2 ≡ 1 → rest n / 2 ≡ n / 2
rest_odd_half n e =
    let same : (n - 1) / 2 ≡ n / 2 = omega arith in
    and_shr n (n - 1) 1 ∙ ap (bit_and (n / 2)) same ∙ and_self (n / 2)

rest_even_half : (n : ℕ) → 0 < n → n % 2 ≡ 0 → rest n / 2 ≡ rest (n / 2)
rest_even_half n l e =
    let same : (n - 1) / 2 ≡ n / 2 - 1 = omega arith in
    and_shr n (n - 1) 1 ∙ ap (bit_and (n / 2)) same

module _ {A : Type 0} where
  -- where p is the lowest place of the set, its frame comes first, and then those of the others
  chosen_lowest : (xs : List A) (d : A) (p n : ℕ) → p < length xs → 0 < n → bit_at n p ≡ 1 → ((i : ℕ) → i < p → bit_at n i ≡ 0) → chosen xs n ≡ get_or xs p d ∷ chosen xs (rest n)
  chosen_lowest [] d p n l some one low = absurd (omega arith)
  chosen_lowest (x ∷ xs) d zero n l some one low =
      let odd : n % 2 ≡ 1 = sym (bit_at_lowest n) ∙ one in
      chosen_in x xs n odd ∙ ap (λ k. x ∷ chosen xs k) (sym (rest_odd_half n odd)) ∙ ap (λ s. x ∷ s) (sym (chosen_out x xs (rest n) (rest_even n some)))
  chosen_lowest (x ∷ xs) d (suc p) n l some one low =
      let even : n % 2 ≡ 0 = sym (bit_at_lowest n) ∙ low 0 (omega arith) in
      chosen_out x xs n even
      ∙ chosen_lowest xs d p (n / 2) (omega arith) (omega arith) (sym (bit_at-suc n p) ∙ one) (λ i k. sym (bit_at-suc n i) ∙ low (suc i) (omega arith))
      ∙ ap (λ k. get_or xs p d ∷ chosen xs k) (sym (rest_even_half n some even))
      ∙ ap (λ s. get_or xs p d ∷ s) (sym (chosen_out x xs (rest n) (rest_even n some)))

  -- a set of places past the end chooses nothing
  pub chosen_past : (xs : List A) (n : ℕ) → ((i : ℕ) → i < length xs → bit_at n i ≡ 0) → chosen xs n ≡ []
  chosen_past [] n low = refl
  chosen_past (x ∷ xs) n low = chosen_out x xs n (sym (bit_at_lowest n) ∙ low 0 (omega arith)) ∙ chosen_past xs (n / 2) (λ i k. sym (bit_at-suc n i) ∙ low (suc i) (omega arith))

module _ {A : Type 0} (xs : List A) (n : ℕ) (some : 0 < n) (fits : n < 2 ^ 64) where
  -- the lowest place has the frame x
  pub chosen_next : (x : A) → trailing_zeros w64 n < length xs → x ≡ get_or xs (trailing_zeros w64 n) x → chosen xs n ≡ x ∷ chosen xs (rest n)
  chosen_next x l e =
      let lowest = bit_at-trailing_zeros w64 n some fits in
      chosen_lowest xs x (trailing_zeros w64 n) n l some lowest.1 lowest.2 ∙ ap (λ y. y ∷ chosen xs (rest n)) (sym e)

  -- the lowest place is past the end
  pub chosen_none : length xs ≤ trailing_zeros w64 n → chosen xs n ≡ []
  chosen_none l =
      let lowest = bit_at-trailing_zeros w64 n some fits in
      chosen_past xs n (λ i k. lowest.2 i (omega arith))

module _ {A B : Type 0} (f : List A → B) (xs : List A) (i n : ℕ) where
  -- bit 0 of what is left of the set says whether place i is chosen
  pub chosen_more : (d : A) → i < length xs → f (chosen (drop i xs) n) ≡ f (if eqb (n % 2) 1 then get_or xs i d ∷ chosen (drop (i + 1) xs) (n / 2) else chosen (drop (i + 1) xs) (n / 2))
  chosen_more d l = at_drop_more (λ ys. f (chosen ys n)) xs i d l

  -- no place is left to be chosen
  pub chosen-all : length xs ≤ i → f (chosen (drop i xs) n) ≡ f []
  chosen-all l = at_drop_all (λ ys. f (chosen ys n)) xs i l
