-- What the tests of independence say, of a bag and of one frame more. Assumes nothing.
use Rattle.std.proofs.Common.{◌≡◌, ℕ, ◌+◌, ◌-◌, ◌<◌, ◌≤◌, Bool, true, false, cond, eqb, leb, ◌⊎◌, ◌↔◌, List, [], ◌∷◌, length, get_or, set, count_by, sym, refl, ap, ◌∙◌, subst, inl, inr, ⊎_elim, arith, if◌then◌else◌, ◌==◌, nat_lt, slice_index}
use Rattle.std.specs.List.{AllByRecursion}
use Rattle.std.proofs.ByRecursion.{All-weaker}
use Rattle.std.proofs.lemmas.List.{get_or-set_same, get_or-set_other}
use Rattle.std.proofs.lemmas.List.Sums.{sum_by-cons}
use Rattle.std.proofs.lemmas.Bool.{cases_Bool, cases_eq, cases_lt, and_parts, and_from, leb-true, ltb-false, le-ltb, eqb-true, eq-eqb, ne_eqb}
use Rattle.std.proofs.lemmas.Bool.Decides.{same_from_decides, Decides-like}
use Rattle.kinds.specs.Matroids.{few, under_caps, in_lanes, partition, lies_in, laminar}
use Rattle.kinds.proofs.Counts.{count_at}
use Rattle.kinds.proofs.Caps.{under-true, under_from}

-- none passes p
none_means : {A : Type 0} (p : A → Bool) (s : List A) → (few p 0 s ≡ true) ↔ AllByRecursion (λ x. p x ≡ false) s
none_means p [] = (λ h. tt, λ h. refl)
none_means p (x ∷ s) = (λ h. ⊎_elim (λ e. absurd (omega (arith, leb-true (count_by p (x ∷ s)) 0 h, count_at p x s true e))) (λ e. (e, (none_means p s).0 (ap (λ n. leb n 0) (sym (count_at p x s false e)) ∙ h))) (cases_Bool (p x)), λ h. ap (λ n. leb n 0) (count_at p x s false h.0) ∙ (none_means p s).1 h.1)

-- all frames are of lanes, and no box has more than its cap
abbrev pub Roomy : {A : Type 0} → (A → ℕ) → (ℕ → A → Bool) → List ℕ → ℕ → List A → Type 0
Roomy lane box caps n s = AllByRecursion (λ x. lane x < 64) s × ((j : ℕ) → j < n → count_by (box j) s ≤ slice_index caps j)

-- x is of a lane, and each box that it lies in has fewer frames than its cap
abbrev pub RoomFor : {A : Type 0} → (A → ℕ) → (ℕ → A → Bool) → List ℕ → ℕ → List A → A → Type 0
RoomFor lane box caps n s x = (lane x < 64) × ((j : ℕ) → j < n → box j x ≡ true → count_by (box j) s < slice_index caps j)

module _ {A : Type 0} (lane : A → ℕ) (box : ℕ → A → Bool) (caps : List ℕ) (n : ℕ) where
  means : (s : List A) → (in_lanes lane box caps n s ≡ true) ↔ Roomy lane box caps n s
  means s = (
    λ h. let k = and_parts (few outside 0 s) (under_caps box cap n s) h in (All-weaker (λ x. outside x ≡ false) (λ x. lane x < 64) (λ x e. omega (arith, ltb-false 63 (lane x) e)) s ((none_means outside s).0 k.0), under-true box cap n s k.1),
    λ h. and_from (few outside 0 s) (under_caps box cap n s) ((none_means outside s).1 (All-weaker (λ x. lane x < 64) (λ x. outside x ≡ false) (λ x l. le-ltb 63 (lane x) (omega arith)) s h.0)) (under_from box cap n s h.1),
  )
    where
      outside : A → Bool
      outside x = nat_lt 63 (lane x)

      cap : ℕ → ℕ
      cap j = slice_index caps j

  one_more : (x : A) (s : List A) → in_lanes lane box caps n s ≡ true → (in_lanes lane box caps n (x ∷ s) ≡ true) ↔ RoomFor lane box caps n s x
  one_more x s h =
      let was = (means s).0 h in (
        λ k. let now = (means (x ∷ s)).0 k in (now.0.0, λ j l e. omega (arith, now.1 j l, count_at (box j) x s true e)),
        λ k. (means (x ∷ s)).1 ((k.0, was.0), λ j l. ⊎_elim (λ e. omega (arith, k.1 j l e, count_at (box j) x s true e)) (λ e. omega (arith, was.1 j l, count_at (box j) x s false e)) (cases_Bool (box j x))),
      )

module _ {A : Type 0} (lane : A → ℕ) (box : ℕ → A → Bool) (caps : List ℕ) (n : ℕ) (x : A) (s : List A) where
  -- x takes one from the cap of each box that it lies in
  takes : (after : List ℕ) → lane x < 64 → ((j : ℕ) → j < n → slice_index after j + (if box j x then 1 else 0) ≡ slice_index caps j) → in_lanes lane box caps n (x ∷ s) ≡ in_lanes lane box after n s
  takes after low h =
      same_from_decides (in_lanes lane box caps n (x ∷ s)) (in_lanes lane box after n s) (means lane box caps n (x ∷ s))
      (Decides-like (in_lanes lane box after n s) (λ k. ((low, k.0), λ j l. omega (arith, k.1 j l, h j l, one j))) (λ k. (k.0.1, λ j l. omega (arith, k.1 j l, h j l, one j))) (means lane box after n s))
    where
      one : (j : ℕ) → count_by (box j) (x ∷ s) ≡ (if box j x then 1 else 0) + count_by (box j) s
      one j = sum_by-cons (λ y. cond (box j y) 1 0) x s

  -- where x is of no lane, or a box that it lies in may have no frame, no bag with x is independent
  full : (64 ≤ lane x) ⊎ ((j : ℕ) × (j < n) × (box j x ≡ true) × (slice_index caps j ≡ 0)) → in_lanes lane box caps n (x ∷ s) ≡ false
  full h = ⊎_elim (λ t. absurd (clash h ((means lane box caps n (x ∷ s)).0 t))) (λ f. f) (cases_Bool (in_lanes lane box caps n (x ∷ s)))
    where
      clash : (64 ≤ lane x) ⊎ ((j : ℕ) × (j < n) × (box j x ≡ true) × (slice_index caps j ≡ 0)) → Roomy lane box caps n (x ∷ s) → ⊥
      clash (inl out) r = omega (arith, r.0.0)
      clash (inr none) r = omega (arith, r.1 none.0 none.1, none.3, count_at (box none.0) x s true none.2)

module _ {A : Type 0} (lane : A → ℕ) (caps : List ℕ) where
  pub partition_means : (s : List A) → (partition lane caps s ≡ true) ↔ Roomy lane (λ l x. lane x == l) caps 64 s
  unfolding partition
  partition_means = means lane (λ l x. eqb (lane x) l) caps 64

  -- only the lane of x counts
  pub partition_more : (x : A) (s : List A) → partition lane caps s ≡ true → (partition lane caps (x ∷ s) ≡ true) ↔ ((lane x < 64) × (count_by (λ y. lane y == lane x) s < slice_index caps (lane x)))
  unfolding partition
  partition_more x s h =
      let got = one_more lane (λ l y. eqb (lane y) l) caps 64 x s h in
      (λ k. let r = got.0 k in (r.0, r.1 (lane x) r.0 (eq-eqb (lane x) (lane x) refl)), λ k. got.1 (k.0, λ j l e. subst (λ i. count_by (λ y. eqb (lane y) i) s < get_or caps i 0) (eqb-true (lane x) j e) k.1))

module _ {A : Type 0} (lane : A → ℕ) (caps : List ℕ) (x : A) (s : List A) where
  -- x takes one from the cap of its lane
  pub partition_takes : lane x < length caps → 0 < slice_index caps (lane x) → lane x < 64 → partition lane caps (x ∷ s) ≡ partition lane (set caps (lane x) (slice_index caps (lane x) - 1)) s
  unfolding partition
  partition_takes inside place low = takes lane (λ l y. eqb (lane y) l) caps 64 x s (set caps (lane x) (get_or caps (lane x) 0 - 1)) low (λ j l. one j)
    where
      one : (j : ℕ) → slice_index (set caps (lane x) (slice_index caps (lane x) - 1)) j + (if lane x == j then 1 else 0) ≡ slice_index caps j
      one j =
          ⊎_elim
          (λ e. omega (arith, ap {B = ℕ} (λ b. cond b 1 0) (eq-eqb (lane x) j e), ap (λ i. get_or (set caps (lane x) (get_or caps (lane x) 0 - 1)) i 0) e, get_or-set_same caps (lane x) (get_or caps (lane x) 0 - 1) 0 inside, ap (λ i. get_or caps i 0) e))
          (λ e. omega (arith, ap {B = ℕ} (λ b. cond b 1 0) (ne_eqb (lane x) j e), get_or-set_other caps (lane x) j (get_or caps (lane x) 0 - 1) 0 (λ f. e (sym f))))
          (cases_eq (lane x) j)

  -- where the lane of x may have no frame, no bag with x is independent
  pub partition_full : (64 ≤ lane x) ⊎ (slice_index caps (lane x) ≡ 0) → partition lane caps (x ∷ s) ≡ false
  unfolding partition
  partition_full (inl out) = full lane (λ l y. eqb (lane y) l) caps 64 x s (inl out)
  partition_full (inr none) = full lane (λ l y. eqb (lane y) l) caps 64 x s (⊎_elim (λ low. inr (lane x, low, eq-eqb (lane x) (lane x) refl, none)) inl (cases_lt (lane x) 64))

module _ {A : Type 0} (lane : A → ℕ) (parents caps : List ℕ) where
  pub laminar_means : (s : List A) → (laminar lane parents caps s ≡ true) ↔ Roomy lane (λ j x. lies_in parents (lane x) j) caps 96 s
  unfolding laminar
  laminar_means = means lane (λ j x. lies_in parents (lane x) j) caps 96

  pub laminar_more : (x : A) (s : List A) → laminar lane parents caps s ≡ true → (laminar lane parents caps (x ∷ s) ≡ true) ↔ RoomFor lane (λ j y. lies_in parents (lane y) j) caps 96 s x
  unfolding laminar
  laminar_more = one_more lane (λ j x. lies_in parents (lane x) j) caps 96

  -- x takes one from the cap of each box that it lies in
  pub laminar_takes : (x : A) (s : List A) (after : List ℕ) → lane x < 64 → ((j : ℕ) → j < 96 → slice_index after j + (if lies_in parents (lane x) j then 1 else 0) ≡ slice_index caps j) → laminar lane parents caps (x ∷ s) ≡ laminar lane parents after s
  unfolding laminar
  laminar_takes = takes lane (λ j x. lies_in parents (lane x) j) caps 96

  -- where x is of no lane, or a box that it lies in may have no frame, no bag with x is independent
  pub laminar_full : (x : A) (s : List A) → (64 ≤ lane x) ⊎ ((j : ℕ) × (j < 96) × (lies_in parents (lane x) j ≡ true) × (slice_index caps j ≡ 0)) → laminar lane parents caps (x ∷ s) ≡ false
  unfolding laminar
  laminar_full = full lane (λ j x. lies_in parents (lane x) j) caps 96
