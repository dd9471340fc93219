-- Caps on boxes, one after another. Assumes nothing.
use Rattle.std.proofs.Common.{◌≡◌, ℕ, zero, suc, ◌+◌, ◌<◌, ◌≤◌, Bool, true, false, cond, not, ◌&&◌, leb, ◌⊎◌, List, [], ◌∷◌, count_by, filter, sym, refl, ap, ◌∙◌, subst, ap₂, inl, inr, ⊎_elim, arith, nat_le}
use mathlib.Core.Bool.{and-true, and_assoc}
use Rattle.std.specs.List.{AllByRecursion}
use Rattle.std.proofs.ByRecursion.{kept_by_passes}
use Rattle.std.proofs.lemmas.List.Filters.{sum_by-filter_both}
use Rattle.std.proofs.lemmas.Bool.{cases_Bool, cases_lt, both_ways, and_parts, and_from, not-true, leb-true, le-leb}
use Rattle.theory.specs.Bag.{Same}
use Rattle.theory.specs.Laws.{MatroidLaws}
use Rattle.kinds.specs.Matroids.{few, under_caps, Splits}
use Rattle.kinds.proofs.Counts.{count_at}
use Rattle.kinds.proofs.Parts.{matroid_same}
use Rattle.kinds.proofs.Boxes.{box_matroid}

-- if some frame passes both tests, all that pass r pass p
abbrev pub Nests : {A : Type 0} → (A → Bool) → (A → Bool) → Type 0
Nests {A} r p = (x : A) → r x ≡ true → p x ≡ true → (y : A) → r y ≡ true → p y ≡ true

splits_and : {A : Type 0} (p : A → Bool) {adm other : List A → Bool} → Splits p adm → Splits p other → Splits p (λ s. adm s && other s)
splits_and p {adm} {other} h k s = ap₂ ◌&&◌ (h s) (k s) ∙ cross (adm (filter p s)) (adm (filter (λ x. not (p x)) s)) (other (filter p s)) (other (filter (λ x. not (p x)) s))
  where
    cross : (a b c d : Bool) → ((a && b) && (c && d)) ≡ ((a && c) && (b && d))
    cross true true c d = refl
    cross true false true d = refl
    cross true false false d = refl
    cross false b c d = refl

-- a cap holds of a sum if it holds of both parts and one of them is 0, or the cap is
sum-leb : (a b c : ℕ) → (a ≡ 0) ⊎ ((b ≡ 0) ⊎ (c ≡ 0)) → nat_le (a + b) c ≡ (nat_le a c && nat_le b c)
sum-leb a b c h = grind arith

-- a frame of s that passes r; P holds of all of s
found : {A : Type 0} (r : A → Bool) (P : A → Type 0) (s : List A) → AllByRecursion P s → 0 < count_by r s → (x : A) × (r x ≡ true) × P x
found r P [] a h = absurd (omega arith)
found r P (x ∷ s) a h = ⊎_elim (λ e. (x, e, a.0)) (λ e. found r P s a.1 (omega (arith, h, count_at r x s false e))) (cases_Bool (r x))

module _ {A : Type 0} (p r : A → Bool) where
  count_parts : (s : List A) → count_by r (filter p s) + count_by r (filter (λ x. not (p x)) s) ≡ count_by r s
  count_parts s = sum_by-filter_both p (λ x. not (p x)) (λ x. refl) (λ x. cond (r x) 1 0) s

  pub splits_none : Splits p (few r 0)
  splits_none s = ap (λ n. leb n 0) (sym (count_parts s)) ∙ sum-leb (count_by r (filter p s)) (count_by r (filter (λ x. not (p x)) s)) 0 (inr (inr refl))

  splits_few : Nests r p → (c : ℕ) → Splits p (few r c)
  splits_few h c s = ap (λ n. leb n c) (sym (count_parts s)) ∙ sum-leb (count_by r (filter p s)) (count_by r (filter (λ x. not (p x)) s)) c (⊎_elim (λ some. inr (inl (others some))) (λ none. inl (omega arith)) (cases_lt 0 (count_by r (filter p s))))
    where
      others : 0 < count_by r (filter p s) → count_by r (filter (λ x. not (p x)) s) ≡ 0
      others some = ⊎_elim (λ more. absurd (clash (found r (λ x. not (p x) ≡ true) (filter (λ x. not (p x)) s) (kept_by_passes (λ x. not (p x)) s) more))) (λ none. omega arith) (cases_lt 0 (count_by r (filter (λ x. not (p x)) s)))
        where
          one : (x : A) × (r x ≡ true) × (p x ≡ true)
          one = found r (λ x. p x ≡ true) (filter p s) (kept_by_passes p s) some

          clash : (y : A) × (r y ≡ true) × (not (p y) ≡ true) → ⊥
          clash y = both_ways (p y.0) (not-true (p y.0) y.2) (h one.0 one.1 one.2 y.0 y.1)

module _ {A : Type 0} (box : ℕ → A → Bool) (cap : ℕ → ℕ) where
  under_splits : (p : A → Bool) (n : ℕ) → ((j : ℕ) → j < n → Nests (box j) p) → Splits p (under_caps box cap n)
  under_splits p zero h = λ s. refl
  under_splits p (suc j) h = splits_and p (under_splits p j (λ i l. h i (omega arith))) (splits_few p (box j) (h j (omega arith)) (cap j))

  -- boxes of which a later one holds all of each earlier one that it meets
  pub under_matroid : {same : A → A → Bool} → Same same → {adm : List A → Bool} → MatroidLaws same adm → ((p : A → Bool) → Splits p adm) → (n : ℕ) → ((i j : ℕ) → i < n → j < i → Nests (box j) (box i)) → MatroidLaws same (λ s. adm s && under_caps box cap n s)
  under_matroid eq {adm} m splits zero h = matroid_same (λ s. sym (and-true (adm s))) m
  under_matroid eq {adm} m splits (suc j) h =
      matroid_same (λ s. and_assoc (adm s) (under_caps box cap j s) (few (box j) (cap j) s))
      (box_matroid eq (under_matroid eq m splits j (λ i k l. h i k (omega arith))) (box j) (splits_and (box j) (splits (box j)) (under_splits (box j) j (λ k l. h j k (omega arith) l))) (cap j))

  -- what the test says
  pub under-true : (n : ℕ) (s : List A) → under_caps box cap n s ≡ true → (j : ℕ) → j < n → count_by (box j) s ≤ cap j
  under-true zero s h j l = absurd (omega arith)
  under-true (suc n) s h j l =
      let k = and_parts (under_caps box cap n s) (few (box n) (cap n) s) h in
      ⊎_elim (λ low. under-true n s k.0 j low) (λ top. let e : n ≡ j = omega arith in subst (λ i. count_by (box i) s ≤ cap i) e (leb-true (count_by (box n) s) (cap n) k.1)) (cases_lt j n)

  pub under_from : (n : ℕ) (s : List A) → ((j : ℕ) → j < n → count_by (box j) s ≤ cap j) → under_caps box cap n s ≡ true
  under_from zero s h = refl
  under_from (suc n) s h = and_from (under_caps box cap n s) (few (box n) (cap n) s) (under_from n s (λ j l. h j (omega arith))) (le-leb (count_by (box n) s) (cap n) (h n (omega arith)))
