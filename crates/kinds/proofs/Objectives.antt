-- Each kind of objective is submodular, and its values fit 32 bits. Assumes nothing.
use Rattle.std.proofs.Common.{◌≡◌, ℕ, zero, suc, ◌+◌, ◌*◌, ◌<◌, ◌≤◌, Bool, true, false, List, [], ◌∷◌, get_or, sum_by, sym, ap, ◌∙◌, arith, if◌then◌else◌, slice_index}
use Rattle.std.specs.List.{list_any, range_with_len, AllByRecursion}
use Rattle.std.proofs.lemmas.List.{map-id}
use Rattle.std.proofs.lemmas.List.FromFn.{length-range_with_len, sum_by-map-range_with_len_more}
use Rattle.std.proofs.ByRecursion.{sum_by_le}
use Rattle.theory.specs.Laws.{Submodular, Lawful}
use Rattle.kinds.specs.Objectives.{Bounded, greatest, shows, of_class, coverage, likeness, of_view, facility, capped, joint}
use Rattle.kinds.proofs.Lawful.{plus_lawful, min_lawful, sum_lawful, greatest_lawful, any_lawful}

pub all_counting : (P : ℕ → Type 0) (a n : ℕ) → ((i : ℕ) → i < a + n → P i) → AllByRecursion P (range_with_len a n)
all_counting P a zero h = tt
all_counting P a (suc n) h = (h a (omega arith), all_counting P (a + 1) n (λ i l. h i (omega arith)))

-- a sum over the indices below n
module _ {A : Type 0} (f : ℕ → List A → ℕ) (n : ℕ) where
  pub below_lawful : ((i : ℕ) → i < n → Submodular (f i)) → Submodular (λ s. sum_by (λ i. f i s) (range_with_len 0 n))
  below_lawful h = sum_lawful f (range_with_len 0 n) (all_counting (λ i. Submodular (f i)) 0 n (λ i l. h i (omega arith)))

  pub below_small : (m : ℕ) → n * m ≤ 4294967295 → ((i : ℕ) → i < n → (s : List A) → f i s ≤ m) → Bounded (λ s. sum_by (λ i. f i s) (range_with_len 0 n))
  below_small m fits h s = omega (arith, sum_by_le (λ i. f i s) m (range_with_len 0 n) (all_counting (λ i. f i s ≤ m) 0 n (λ i l. h i (omega arith) s)), ap (λ k. k * m) (length-range_with_len 0 n))

-- a sum over the indices below n, one index on
pub below_more : (f : ℕ → ℕ) (n : ℕ) → sum_by f (range_with_len 0 (n + 1)) ≡ sum_by f (range_with_len 0 n) + f n
below_more f n = ap (sum_by f) (sym (map-id (range_with_len 0 (n + 1)))) ∙ sum_by-map-range_with_len_more f (λ i. i) 0 n n (omega arith) ∙ ap (λ is. sum_by f is + f n) (map-id (range_with_len 0 n))

pub get_or_le : (m : ℕ) (xs : List ℕ) (i : ℕ) → AllByRecursion (λ x. x ≤ m) xs → slice_index xs i ≤ m
get_or_le m [] i h = omega arith
get_or_le m (x ∷ xs) zero h = h.0
get_or_le m (x ∷ xs) (suc i) h = get_or_le m xs i h.1

pub cond_le : (b : Bool) (n m : ℕ) → n ≤ m → (if b then n else 0) ≤ m
cond_le true n m h = h
cond_le false n m h = omega arith

pub greatest_le : {A : Type 0} (v : A → ℕ) (m : ℕ) → ((x : A) → v x ≤ m) → (s : List A) → greatest v s ≤ m
greatest_le v m h [] = omega arith
greatest_le v m h (x ∷ s) = omega (arith, h x, greatest_le v m h s)

module _ {A : Type 0} (marks : A → ℕ) (weights : List ℕ) where
  pub coverage_lawful : Submodular (coverage marks weights)
  unfolding coverage
  coverage_lawful = below_lawful (of_class marks weights) 64 (λ i l. any_lawful (λ x. shows (marks x) i) (get_or weights i 0))

  pub coverage_small : AllByRecursion (λ w. w ≤ 67108863) weights → Bounded (coverage marks weights)
  unfolding coverage
  coverage_small h = below_small (of_class marks weights) 64 67108863 (omega arith) (λ i l s. cond_le (list_any (λ x. shows (marks x) i) s) (get_or weights i 0) 67108863 (get_or_le 67108863 weights i h))

pub facility_keeps : {A : Type 0} (look : A → ℕ) (table : List ℕ) → Lawful (facility look table)
unfolding facility
facility_keeps look table = record {
  submodular = below_lawful (of_view look table) 64 (λ v l. greatest_lawful (λ x. likeness table (look x) v));
  bounded = below_small (of_view look table) 64 65535 (omega arith) (λ v l. greatest_le (λ x. likeness table (look x) v) 65535 (λ x. omega arith));
}

module _ {A : Type 0} (c : ℕ) (f : List A → ℕ) where
  pub capped_lawful : Submodular f → Submodular (capped c f)
  capped_lawful w = min_lawful w c

  pub capped_small : c ≤ 4294967295 → Bounded (capped c f)
  capped_small h s = omega arith

module _ {A : Type 0} (m : ℕ) (f g : List A → ℕ) where
  pub joint_lawful : Submodular f → Submodular g → Submodular (joint m f g)
  joint_lawful w v = min_lawful (plus_lawful w v) m

  pub joint_small : m ≤ 4294967295 → Bounded (joint m f g)
  joint_small h s = omega arith
