-- Labels of stations do what new names for the ends do, one frame at a time. Assumes nothing.
use Rattle.std.proofs.Common.{◌≡◌, ◌≢◌, ℕ, ◌<◌, min, max, true, false, cond, eqb, List, [], ◌∷◌, length, sym, refl, ap, ◌∙◌, ap₂, ⊎_elim, arith, slice_index, slice_index_or}
use mathlib.Core.Path.{fun_ext}
use Rattle.std.specs.List.{range_with_len}
use Rattle.std.proofs.lemmas.List.FromFn.{length-range_with_len, get_or-range_with_len, fill_by_all}
use Rattle.std.proofs.lemmas.List.{get_or_past, map-id}
use Rattle.std.proofs.lemmas.Bool.{cases_lt, eq-eqb, ne_eqb, cond-true, cond-false}
use Rattle.cycles.specs.Labels.{merged, joins, joins_by}
use Rattle.cycles.proofs.Forests.{forest}

-- a list that has each station at its place
pub numbered : (n : ℕ) (labels : List ℕ) → length labels ≡ n → ((k : ℕ) → k < n → slice_index labels k ≡ k) → labels ≡ range_with_len 0 n
numbered n labels e h = fill_by_all (λ k. k) labels n 0 e h ∙ map-id (range_with_len 0 n)

pub own_label : (n w : ℕ) → slice_index_or (range_with_len 0 n) w w ≡ w
own_label n w = ⊎_elim (λ l. omega (arith, get_or-range_with_len 0 n w w l)) (λ l. get_or_past (range_with_len 0 n) w w (omega (arith, length-range_with_len 0 n))) (cases_lt w n)

-- which labels are equal once b has become a
test_merged : (a b x y : ℕ) → eqb (merged a b x) (merged a b y) ≡ cond (eqb x b) (cond (eqb y b) true (eqb a y)) (cond (eqb y b) (eqb x a) (eqb x y))
test_merged a b x y = grind arith

-- the same are if the greater becomes the smaller
test_ordered : (a b x y : ℕ) → eqb (merged a b x) (merged a b y) ≡ eqb (merged (min a b) (max a b) x) (merged (min a b) (max a b) y)
test_ordered a b x y = grind arith

module _ {A : Type 0} (tail head : A → ℕ) where
  joins_are : (label : ℕ → ℕ) (s : List A) → joins tail head label s ≡ forest (λ y. label (tail y)) (λ y. label (head y)) s
  joins_are label [] = refl
  joins_are label (x ∷ s) = ap (cond (eqb (label (tail x)) (label (head x))) false) (joins_are (λ w. merged (label (tail x)) (label (head x)) (label w)) s)

  pub joins_first : (n : ℕ) (s : List A) → joins_by tail head (range_with_len 0 n) s ≡ forest tail head s
  unfolding joins_by
  joins_first n s = ap (λ label. joins tail head label s) (fun_ext (own_label n)) ∙ joins_are (λ w. w) s

  -- it is only asked which stations have equal labels
  joins_alike : (f g : ℕ → ℕ) → ((u v : ℕ) → eqb (f u) (f v) ≡ eqb (g u) (g v)) → (s : List A) → joins tail head f s ≡ joins tail head g s
  joins_alike f g e [] = refl
  joins_alike f g e (x ∷ s) =
      ap₂ (λ b r. cond b false r) (e (tail x) (head x))
      (joins_alike (λ w. merged (f (tail x)) (f (head x)) (f w)) (λ w. merged (g (tail x)) (g (head x)) (g w))
      (λ u v. test_merged (f (tail x)) (f (head x)) (f u) (f v) ∙ simp e (sym (test_merged (g (tail x)) (g (head x)) (g u) (g v)))) s)

  pub joins_none : (label : ℕ → ℕ) → joins tail head label [] ≡ true
  joins_none label = refl

  module _ (label : ℕ → ℕ) (x : A) (s : List A) where
    -- both ends of x have one label
    pub joins_clash : label (tail x) ≡ label (head x) → joins tail head label (x ∷ s) ≡ false
    joins_clash e = cond-true (eqb (label (tail x)) (label (head x))) false _ (eq-eqb _ _ e)

    -- the greater label of the ends becomes the smaller one
    pub joins_more : label (tail x) ≢ label (head x) → (new : ℕ → ℕ) → ((w : ℕ) → new w ≡ merged (min (label (tail x)) (label (head x))) (max (label (tail x)) (label (head x))) (label w)) → joins tail head label (x ∷ s) ≡ joins tail head new s
    joins_more n new e =
        cond-false (eqb (label (tail x)) (label (head x))) false _ (ne_eqb _ _ n)
        ∙ joins_alike (λ w. merged (label (tail x)) (label (head x)) (label w)) new (λ u v. simp e (test_ordered (label (tail x)) (label (head x)) (label u) (label v))) s
