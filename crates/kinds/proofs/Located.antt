-- Facility location once the views have some likeness. Assumes nothing.
use Rattle.std.proofs.Common.{◌≡◌, ℕ, ◌+◌, ◌-◌, ◌<◌, max, List, [], ◌∷◌, get_or, replicate, sum_by, ap, ◌∙◌, ⊎_elim, arith, slice_index}
use mathlib.Core.Path.{fun_ext}
use native.Mathlib.Nat.{sub-zero}
use Rattle.std.specs.List.{range_with_len}
use Rattle.std.proofs.lemmas.List.{get_or-replicate, get_or_past, length-replicate}
use Rattle.std.proofs.lemmas.Bool.{cases_lt}
use Rattle.theory.specs.Laws.{Lawful}
use Rattle.kinds.specs.Objectives.{greatest, likeness, of_view, facility, facility_above}
use Rattle.kinds.proofs.Gains.{adds_below}
use Rattle.kinds.proofs.Lawful.{lawful_same, greatest_lawful}
use Rattle.kinds.proofs.Objectives.{below_lawful, below_small, below_more, greatest_le}

-- nothing but zeros
pub get_or_zeros : (n i : ℕ) → slice_index (replicate n 0) i ≡ 0
get_or_zeros n i = ⊎_elim (λ l. get_or-replicate {A = ℕ} n i 0 0 l) (λ l. get_or_past {X = ℕ} (replicate n 0) i 0 (omega (arith, length-replicate {A = ℕ} n 0))) (cases_lt i n)

-- what the greatest is above b
greatest_above : {A : Type 0} (v : A → ℕ) (b : ℕ) (s : List A) → greatest (λ x. v x - b) s ≡ greatest v s - b
greatest_above v b [] = omega arith
greatest_above v b (x ∷ s) = omega (arith, greatest_above v b s)

module _ {A : Type 0} (look : A → ℕ) (table : List ℕ) where
  pub above_keeps : (best : List ℕ) → Lawful (facility_above look table best)
  unfolding facility_above
  above_keeps best = record {
    submodular = below_lawful (λ v s. of_view look table v s - get_or best v 0) 64 (λ v l. lawful_same (greatest_above (λ x. likeness table (look x) v) (get_or best v 0)) (greatest_lawful (λ x. likeness table (look x) v - get_or best v 0)));
    bounded = below_small (λ v s. of_view look table v s - get_or best v 0) 64 65535 (omega arith) (λ v l s. omega (arith, greatest_le (λ x. likeness table (look x) v) 65535 (λ x. omega arith) s));
  }

  -- where no view has any likeness yet, all of it is left
  pub above_none : (n : ℕ) (s : List A) → facility_above look table (replicate n 0) s ≡ facility look table s
  unfolding facility facility_above
  above_none n s = ap (λ f. sum_by f (range_with_len 0 64)) (fun_ext (λ v. ap (λ b. of_view look table v s - b) (get_or_zeros n v) ∙ sub-zero (of_view look table v s)))

  -- once x is added each view has the likeness of x, if that is more
  pub facility_added : (best raised : List ℕ) (x : A) (s : List A) → ((v : ℕ) → v < 64 → slice_index raised v ≡ max (slice_index best v) (likeness table (look x) v)) → facility_above look table best (x ∷ s) ≡ facility_above look table raised s + facility_above look table best (x ∷ [])
  unfolding facility_above
  facility_added best raised x s h = adds_below (λ v. of_view look table v (x ∷ s) - get_or best v 0) (λ v. of_view look table v s - get_or raised v 0) (λ v. of_view look table v (x ∷ []) - get_or best v 0) 64 (λ v l. omega (arith, h v l))

-- by how much the frames are more like the views below n than `best` has it
abbrev pub views_below : {A : Type 0} → (A → ℕ) → List ℕ → List ℕ → ℕ → List A → ℕ
views_below look table best n s = sum_by (λ v. of_view look table v s - slice_index best v) (range_with_len 0 n)

module _ {A : Type 0} (look : A → ℕ) (table best : List ℕ) (s : List A) where
  pub views_more : (n : ℕ) → views_below look table best (n + 1) s ≡ views_below look table best n s + (of_view look table n s - slice_index best n)
  views_more n = below_more (λ v. of_view look table v s - get_or best v 0) n

  pub views_all : (n : ℕ) → n ≡ 64 → views_below look table best n s ≡ facility_above look table best s
  unfolding facility_above
  views_all n e = ap (λ k. views_below look table best k s) e
