-- What a set of places chooses, cut down to some of them. Assumes nothing.
use Rattle.std.proofs.Common.{◌≡◌, ℕ, zero, suc, ◌+◌, ◌-◌, ◌*◌, ◌/◌, ◌%◌, ◌^◌, ◌<◌, min, Bool, true, false, cond, not, ◌&&◌, eqb, ◌⊎◌, List, [], ◌∷◌, ◌++◌, length, get_or, take, filter, sym, refl, ap, ◌∙◌, subst, ap₂, inl, inr, ⊎_elim, pow-suc, arith}
use lib.Bits.{bit_and, bit_or, and_step, or_shifted_r}
use Rattle.std.proofs.lemmas.List.{take_more, take_all, length-take-le}
use Rattle.std.proofs.lemmas.Bool.{cases_lt}
use Rattle.matroids.specs.Chosen.{chosen}
use Rattle.matroids.proofs.Counted.{chosen_none, bit}
use Rattle.operations.specs.Masks.{mask_of}

-- of the first k places, the mask has those whose elements pass p
abbrev Marks : {A : Type 0} → (A → Bool) → ℕ → List A → ℕ → Type 0
Marks p zero xs m = Unit {0}
Marks p (suc k) [] m = Unit {0}
Marks p (suc k) (x ∷ xs) m = (m % 2 ≡ cond (p x) 1 0) × Marks p k xs (m / 2)

module _ {A : Type 0} (p : A → Bool) where
  pick_part : (a b : ℕ) (q : Bool) (x : A) (s : List A) → (a ≡ 0) ⊎ (a ≡ 1) → b ≡ cond q 1 0 → p x ≡ q → cond (eqb (min a b) 1) (x ∷ filter p s) (filter p s) ≡ filter p (cond (eqb a 1) (x ∷ s) s)
  pick_part a b true x s (inl e) f g = ap₂ (λ i j. cond (eqb (min i j) 1) (x ∷ filter p s) (filter p s)) e f ∙ sym (ap (λ i. filter p (cond (eqb i 1) (x ∷ s) s)) e)
  pick_part a b false x s (inl e) f g = ap₂ (λ i j. cond (eqb (min i j) 1) (x ∷ filter p s) (filter p s)) e f ∙ sym (ap (λ i. filter p (cond (eqb i 1) (x ∷ s) s)) e)
  pick_part a b true x s (inr e) f g = ap₂ (λ i j. cond (eqb (min i j) 1) (x ∷ filter p s) (filter p s)) e f ∙ sym (ap (λ i. filter p (cond (eqb i 1) (x ∷ s) s)) e ∙ ap (λ c. cond c (x ∷ filter p s) (filter p s)) g)
  pick_part a b false x s (inr e) f g = ap₂ (λ i j. cond (eqb (min i j) 1) (x ∷ filter p s) (filter p s)) e f ∙ sym (ap (λ i. filter p (cond (eqb i 1) (x ∷ s) s)) e ∙ ap (λ c. cond c (x ∷ filter p s) (filter p s)) g)

  chosen-part : (k : ℕ) (xs : List A) (n m : ℕ) → n < 2 ^ k → Marks p k xs m → chosen xs (bit_and n m) ≡ filter p (chosen xs n)
  chosen-part k [] n m h t = refl
  chosen-part zero (x ∷ xs) n m h t =
      let none : n ≡ 0 = omega arith in
      ap (λ i. chosen (x ∷ xs) (bit_and i m)) none ∙ chosen_none xs ∙ sym (ap (λ i. filter p (chosen (x ∷ xs) i)) none ∙ ap (filter p) (chosen_none xs))
  chosen-part (suc k) (x ∷ xs) n m h t =
      let low : bit_and n m % 2 ≡ min (n % 2) (m % 2) = omega (arith, and_step n m) in
      let high : bit_and n m / 2 ≡ bit_and (n / 2) (m / 2) = omega (arith, and_step n m) in
      let rest : chosen xs (bit_and n m / 2) ≡ filter p (chosen xs (n / 2)) = ap (chosen xs) high ∙ chosen-part k xs (n / 2) (m / 2) (omega (arith, pow-suc 2 k)) t.1 in
      ap₂ (λ b s. cond (eqb b 1) (x ∷ s) s) low rest ∙ pick_part (n % 2) (m % 2) (p x) x (chosen xs (n / 2)) (bit n) t.0 refl

  bit_double : (b : Bool) (m : ℕ) → ((cond b 1 0 + 2 * m) % 2 ≡ cond b 1 0) × ((cond b 1 0 + 2 * m) / 2 ≡ m)
  bit_double true m = (omega arith, omega arith)
  bit_double false m = (omega arith, omega arith)

  mask_marks : (k : ℕ) (xs : List A) → Marks p k xs (mask_of p (take k xs))
  mask_marks zero xs = tt
  mask_marks (suc k) [] = tt
  mask_marks (suc k) (x ∷ xs) = let e = bit_double (p x) (mask_of p (take k xs)) in (e.0, subst (Marks p k xs) (sym e.1) (mask_marks k xs))

  mask_below : (xs : List A) → mask_of p xs < 2 ^ length xs
  mask_below [] = omega arith
  mask_below (x ∷ xs) = go (p x) (mask_below xs)
    where
      go : (b : Bool) → mask_of p xs < 2 ^ length xs → cond b 1 0 + 2 * mask_of p xs < 2 ^ suc (length xs)
      go true h = omega (arith, pow-suc 2 (length xs))
      go false h = omega (arith, pow-suc 2 (length xs))

  mask_push : (xs : List A) (x : A) → mask_of p (xs ++ (x ∷ [])) ≡ cond (p x) 1 0 * 2 ^ length xs + mask_of p xs
  mask_push [] x = go (p x)
    where
      go : (b : Bool) → cond b 1 0 + 2 * 0 ≡ cond b 1 0 * 2 ^ 0 + 0
      go true = refl
      go false = refl
  mask_push (y ∷ xs) x = go (p x) (mask_push xs x)
    where
      go : (b : Bool) → mask_of p (xs ++ (x ∷ [])) ≡ cond b 1 0 * 2 ^ length xs + mask_of p xs → cond (p y) 1 0 + 2 * mask_of p (xs ++ (x ∷ [])) ≡ cond b 1 0 * 2 ^ suc (length xs) + (cond (p y) 1 0 + 2 * mask_of p xs)
      go true e = omega (arith, pow-suc 2 (length xs))
      go false e = omega arith

  -- one place more
  pub mask_more : (xs : List A) (i : ℕ) (d : A) → i < length xs → bit_or (mask_of p (take i xs)) (cond (p (get_or xs i d)) 1 0 * 2 ^ i) ≡ mask_of p (take (i + 1) xs)
  mask_more xs i d l =
      let long = length-take-le i xs (omega arith) in
      or_shifted_r (cond (p (get_or xs i d)) 1 0) i (mask_of p (take i xs)) (subst (λ n. mask_of p (take i xs) < 2 ^ n) long (mask_below (take i xs)))
      ∙ ap (λ n. cond (p (get_or xs i d)) 1 0 * 2 ^ n + mask_of p (take i xs)) (sym long)
      ∙ sym (mask_push (take i xs) (get_or xs i d))
      ∙ ap (mask_of p) (sym (take_more xs i d l))

  -- no more places than the list has
  pub mask_all : (k : ℕ) (xs : List A) (i : ℕ) → i ≡ min (length xs) k → mask_of p (take i xs) ≡ mask_of p (take k xs)
  mask_all k xs i e =
      ⊎_elim
      (λ long. ap (λ n. mask_of p (take n xs)) (omega arith))
      (λ short. ap (mask_of p) (take_all i xs (omega arith) ∙ sym (take_all k xs (omega arith))))
      (cases_lt k (length xs))

module _ {A : Type 0} (p : A → Bool) where
  others : (k : ℕ) (xs : List A) (m : ℕ) → m < 2 ^ k → Marks p k xs m → Marks (λ x. not (p x)) k xs (2 ^ k - 1 - m)
  others zero xs m h t = tt
  others (suc k) [] m h t = tt
  others (suc k) (x ∷ xs) m h t =
      let half : (2 ^ suc k - 1 - m) / 2 ≡ 2 ^ k - 1 - m / 2 = omega (arith, pow-suc 2 k) in
      (go (p x) t.0, subst (Marks (λ y. not (p y)) k xs) (sym half) (others k xs (m / 2) (omega (arith, pow-suc 2 k)) t.1))
    where
      go : (b : Bool) → m % 2 ≡ cond b 1 0 → (2 ^ suc k - 1 - m) % 2 ≡ cond (not b) 1 0
      go true e = omega (arith, pow-suc 2 k)
      go false e = omega (arith, pow-suc 2 k)

  -- a set of k bits cut down to the places that pass p, and to the others
  module _ (k : ℕ) (xs : List A) (n m : ℕ) (small : n < 2 ^ k) (below : m < 2 ^ k) (is : m ≡ mask_of p (take k xs)) where
    chosen_kept : chosen xs (bit_and n m) ≡ filter p (chosen xs n)
    chosen_kept = chosen-part p k xs n m small (subst (Marks p k xs) (sym is) (mask_marks p k xs))

    chosen_rest : chosen xs (bit_and n (2 ^ k - 1 - m)) ≡ filter (λ x. not (p x)) (chosen xs n)
    chosen_rest = chosen-part (λ x. not (p x)) k xs n (2 ^ k - 1 - m) small (others k xs m below (subst (Marks p k xs) (sym is) (mask_marks p k xs)))

    -- two tests, each asked of its own places, the second only if the first says yes
    module _ (adm other : List A → Bool) (r : Bool) where
      pub parts_yes : true ≡ adm (chosen xs (bit_and n m)) → r ≡ other (chosen xs (bit_and n (2 ^ k - 1 - m))) → r ≡ (adm (filter p (chosen xs n)) && other (filter (λ x. not (p x)) (chosen xs n)))
      parts_yes e f = ap₂ ◌&&◌ (e ∙ ap adm chosen_kept) (f ∙ ap other chosen_rest)

      pub parts_no : r ≡ false → r ≡ adm (chosen xs (bit_and n m)) → r ≡ (adm (filter p (chosen xs n)) && other (filter (λ x. not (p x)) (chosen xs n)))
      parts_no f e = f ∙ ap (λ b. b && other (filter (λ x. not (p x)) (chosen xs n))) (sym f ∙ e ∙ ap adm chosen_kept)
