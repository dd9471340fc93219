-- Lists as bags, by counts. Assumes nothing.
use Rattle.std.proofs.Common.{◌≡◌, ℕ, suc, ◌+◌, ◌<◌, ◌≤◌, Bool, true, false, cond, List, [], ◌∷◌, ◌++◌, length, set, sym, refl, ap, ◌∙◌, arith, if◌then◌else◌, slice_index_or}
use Rattle.std.specs.List.{remove}
use Rattle.std.specs.Set.{remove_key}
use Rattle.std.proofs.lemmas.List.Sums.{sum_by-cons, sum_by-append, sum_by-set, sum_by-remove}
use Rattle.theory.specs.Bag.{Same, count, Orderless}

-- no element occurs more often in s than in t
abbrev pub Within : {A : Type 0} → (A → A → Bool) → List A → List A → Type 0
Within {A} same s t = (x : A) → count same x s ≤ count same x t

-- each element occurs as often in s as in t
abbrev pub Alike : {A : Type 0} → (A → A → Bool) → List A → List A → Type 0
Alike {A} same s t = (x : A) → count same x s ≡ count same x t

-- what std says of sums, of how often an element occurs
module _ {A : Type 0} (same : A → A → Bool) (z : A) where
  pub count_cons : (x : A) (s : List A) → count same z (x ∷ s) ≡ (if same z x then 1 else 0) + count same z s
  count_cons = sum_by-cons (λ y. cond (same z y) 1 0)

  pub count_append : (s t : List A) → count same z (s ++ t) ≡ count same z s + count same z t
  count_append = sum_by-append (λ y. cond (same z y) 1 0)

  pub count_set : (s : List A) (p : ℕ) (x d : A) → p < length s → count same z (set s p x) + (if same z (slice_index_or s p d) then 1 else 0) ≡ count same z s + (if same z x then 1 else 0)
  count_set = sum_by-set (λ y. cond (same z y) 1 0)

  pub count_removed : (s : List A) (p : ℕ) (d : A) → p < length s → count same z (remove s p) + (if same z (slice_index_or s p d) then 1 else 0) ≡ count same z s
  count_removed = sum_by-remove (λ y. cond (same z y) 1 0)

module _ {A : Type 0} {same : A → A → Bool} (eq : Same same) where
  pub one_self : (x : A) → ◌≡◌ {A = ℕ} (if same x x then 1 else 0) 1
  one_self x = ap (λ b. cond b 1 0) (eq.self x)

  pub one_both : (z x y : A) → same x y ≡ true → ◌≡◌ {A = ℕ} (if same z x then 1 else 0) (if same z y then 1 else 0)
  one_both z x y e = ap (λ w. cond (same z w) 1 0) (eq.tells x y e)

  pub count_without : (z x : A) (s : List A) → 0 < count same x s → count same z (remove_key (same x) s) + (if same z x then 1 else 0) ≡ count same z s
  count_without z x [] h = omega arith
  count_without z x (y ∷ s) h = go (same x y) refl (omega (arith, count_cons)) (λ k. count_without z x s k)
    where
      go : (b : Bool) → same x y ≡ b → 0 < (if b then 1 else 0) + count same x s → (0 < count same x s → count same z (remove_key (same x) s) + (if same z x then 1 else 0) ≡ count same z s) → count same z (if b then s else y ∷ remove_key (same x) s) + (if same z x then 1 else 0) ≡ count same z (y ∷ s)
      go true e k ih = omega (arith, count_cons, one_both z x y e)
      go false e k ih = omega (arith, count_cons, ih (omega arith))

  pub length_without : (x : A) (s : List A) → 0 < count same x s → length (remove_key (same x) s) + 1 ≡ length s
  length_without x [] h = omega arith
  length_without x (y ∷ s) h = go (same x y) (omega (arith, count_cons)) (λ k. length_without x s k)
    where
      go : (b : Bool) → 0 < (if b then 1 else 0) + count same x s → (0 < count same x s → length (remove_key (same x) s) + 1 ≡ length s) → length (if b then s else y ∷ remove_key (same x) s) + 1 ≡ suc (length s)
      go true k ih = omega arith
      go false k ih = omega (arith, ih (omega arith))

  -- what is left of t when s is taken out
  pub rest_of : (s t : List A) → Within same s t → (r : List A) × Alike same (r ++ s) t × (length r + length s ≡ length t)
  rest_of [] t h = (t, λ z. omega (arith, count_append), omega arith)
  rest_of (x ∷ s) t h =
      let has : 0 < count same x t = omega (arith, count_cons, h x, one_self x) in
      let left = rest_of s (remove_key (same x) t) (λ z. omega (arith, count_cons, h z, count_without z x t has)) in
      (left.0, λ z. omega (arith, count_cons, count_append, left.1 z, count_without z x t has), omega (arith, left.2, length_without x t has))

  pub length_within : (s t : List A) → Within same s t → length s ≤ length t
  length_within s t h = omega (arith, (rest_of s t h).2)

  pub length_alike : (s t : List A) → Alike same s t → length s ≡ length t
  length_alike s t h = omega (arith, length_within s t (λ z. omega (arith, h z)), length_within t s (λ z. omega (arith, h z)))

  pub within_back : (s t : List A) → Within same s t → length t ≤ length s → Within same t s
  within_back s t h l = let left = rest_of s t h in go left.0 left.1 left.2
    where
      go : (r : List A) → Alike same (r ++ s) t → length r + length s ≡ length t → Within same t s
      go [] a e = λ z. omega (arith, a z)
      go (x ∷ r) a e = absurd (omega arith)

  -- the one element by which t is longer
  pub one_more : (s t : List A) → Within same s t → length s + 1 ≡ length t → (z : A) × Alike same (z ∷ s) t
  one_more s t h l = let left = rest_of s t h in go left.0 left.1 left.2
    where
      go : (r : List A) → Alike same (r ++ s) t → length r + length s ≡ length t → (z : A) × Alike same (z ∷ s) t
      go [] a e = absurd (omega arith)
      go (z ∷ []) a e = (z, a)
      go (z ∷ x ∷ r) a e = absurd (omega arith)

  -- an x that occurs more often in t may be added to s
  pub within_cons : (x : A) (s t : List A) → Within same s t → count same x s < count same x t → Within same (x ∷ s) t
  within_cons x s t h m z = go (same z x) refl
    where
      go : (b : Bool) → same z x ≡ b → count same z (x ∷ s) ≤ count same z t
      go true e = let i = eq.tells z x e in let j : ◌≡◌ {A = ℕ} (cond (same z x) 1 0) 1 = ap (λ b. cond b 1 0) e in omega (arith, count_cons, ap (λ w. count same w s) i, ap (λ w. count same w t) i)
      go false e = let j : ◌≡◌ {A = ℕ} (cond (same z x) 1 0) 0 = ap (λ b. cond b 1 0) e in omega (arith, count_cons, h z)

  -- x may be taken to the front
  pub to_front : {B : Type 0} (h : List A → B) → Orderless h → (x : A) (s : List A) → 0 < count same x s → h s ≡ h (x ∷ remove_key (same x) s)
  to_front h o x [] k = absurd (omega arith)
  to_front {B} h o x (y ∷ s) k = go (same x y) refl (omega (arith, count_cons)) (λ j. to_front (λ t. h (y ∷ t)) (λ p. o (y ∷ p)) x s j)
    where
      go : (b : Bool) → same x y ≡ b → 0 < (if b then 1 else 0) + count same x s → (0 < count same x s → h (y ∷ s) ≡ h (y ∷ x ∷ remove_key (same x) s)) → h (y ∷ s) ≡ h (x ∷ (if b then s else y ∷ remove_key (same x) s))
      go true e j ih = ap (λ w. h (w ∷ s)) (sym (eq.tells x y e))
      go false e j ih = ih (omega arith) ∙ o [] y x (remove_key (same x) s)

  -- what does not go by the order goes by the counts alone
  pub by_counts : {B : Type 0} (h : List A → B) → Orderless h → (s t : List A) → Alike same s t → h s ≡ h t
  by_counts h o [] [] e = refl
  by_counts h o [] (y ∷ t) e = absurd (omega (arith, count_cons, e y, one_self y))
  by_counts h o (x ∷ s) t e =
      let has : 0 < count same x t = omega (arith, count_cons, e x, one_self x) in
      by_counts (λ u. h (x ∷ u)) (λ p. o (x ∷ p)) s (remove_key (same x) t) (λ z. omega (arith, count_cons, e z, count_without z x t has))
      ∙ sym (to_front h o x t has)
