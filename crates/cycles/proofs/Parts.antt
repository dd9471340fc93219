-- The parts of a list, and what the tests say of them. Assumes nothing.
use Rattle.std.proofs.Common.{◌≡◌, ℕ, ◌+◌, ◌%◌, ◌<◌, Bool, true, false, cond, not, ◌&&◌, ◌||◌, eqb, ◌≢◌, List, [], ◌∷◌, Decides, refl, ap, ◌∙◌, subst, ⊎_elim, arith, if◌then◌else◌, ◌==◌}
use Rattle.std.specs.List.{items_where_true, list_all}
use Rattle.std.proofs.lemmas.List.Sums.{sum_by-cons}
use Rattle.std.proofs.lemmas.Bool.{cases_Bool, cases_lt, both_ways, eqb-true, eq-eqb, and_parts, and_from, or_cases, or_left, or_right, not-true, not_from_false}
use Rattle.cycles.specs.Graphs.{touches, even_at, even, is_empty, every_part, graphic, EvenlyTouched, NoEvenPart}

module _ {A : Type 0} where
  part_nil : (m : List Bool) → items_where_true {X = A} m [] ≡ []
  part_nil [] = refl
  part_nil (b ∷ m) = refl

  every_part_lem : (p : List A → Bool) (s : List A) → Decides (every_part p s) ((m : List Bool) → p (items_where_true m s) ≡ true)
  every_part_lem p [] = (λ h m. ap p (part_nil m) ∙ h, λ h. h [])
  every_part_lem p (x ∷ s) =
      let with-x = every_part_lem (λ t. p (x ∷ t)) s in
      let without = every_part_lem p s in
      (λ h. let k = and_parts (every_part (λ t. p (x ∷ t)) s) (every_part p s) h in all (with-x.0 k.0) (without.0 k.1), λ h. and_from (every_part (λ t. p (x ∷ t)) s) (every_part p s) (with-x.1 (λ m. h (true ∷ m))) (without.1 (λ m. h (false ∷ m))))
    where
      all : ((m : List Bool) → p (x ∷ items_where_true m s) ≡ true) → ((m : List Bool) → p (items_where_true m s) ≡ true) → (m : List Bool) → p (items_where_true m (x ∷ s)) ≡ true
      all f g [] = g []
      all f g (true ∷ m) = f m
      all f g (false ∷ m) = g m

  empty_means : (s : List A) → Decides (is_empty s) (s ≡ [])
  empty_means [] = (λ h. refl, λ h. refl)
  empty_means (x ∷ s) = (λ h. absurd (both_ways false refl h), λ h. ap is_empty h)

pub touches_cons : {A : Type 0} (tail head : A → ℕ) (c : ℕ) (x : A) (s : List A) → touches tail head c (x ∷ s) ≡ (if tail x == c then 1 else 0) + (if head x == c then 1 else 0) + touches tail head c s
touches_cons tail head c = sum_by-cons (λ x. cond (eqb (tail x) c) 1 0 + cond (eqb (head x) c) 1 0)

module _ {A : Type 0} (tail head : A → ℕ) (s : List A) where
  -- both ends of x are touched evenly
  abbrev ends : A → Bool
  ends x = even_at tail head s (tail x) && even_at tail head s (head x)

  -- s touches evenly each station that t touches
  ends_even : (t : List A) → list_all ends t ≡ true → (c : ℕ) → 0 < touches tail head c t → touches tail head c s % 2 ≡ 0
  ends_even [] h c k = absurd (omega arith)
  ends_even (x ∷ t) h c k =
      let one = and_parts (ends x) (list_all ends t) h in
      let two = and_parts (even_at tail head s (tail x)) (even_at tail head s (head x)) one.0 in
      ⊎_elim (λ e. at (tail x) e two.0) (λ e. ⊎_elim (λ f. at (head x) f two.1) (λ f. ends_even t one.1 c (omega (arith, k, touches_cons tail head c x t, none (eqb (tail x) c) e, none (eqb (head x) c) f))) (cases_Bool (eqb (head x) c))) (cases_Bool (eqb (tail x) c))
    where
      at : (w : ℕ) → (w == c) ≡ true → even_at tail head s w ≡ true → touches tail head c s % 2 ≡ 0
      at w e f = subst (λ d. touches tail head d s % 2 ≡ 0) (eqb-true w c e) (eqb-true (touches tail head w s % 2) 0 f)

      none : (b : Bool) → b ≡ false → ◌≡◌ {A = ℕ} (if b then 1 else 0) 0
      none b e = ap (λ a. cond a 1 0) e

  all-even : EvenlyTouched tail head s → (t : List A) → list_all ends t ≡ true
  all-even k [] = refl
  all-even k (x ∷ t) = and_from (ends x) (list_all ends t) (and_from (even_at tail head s (tail x)) (even_at tail head s (head x)) (eq-eqb (touches tail head (tail x) s % 2) 0 (k (tail x))) (eq-eqb (touches tail head (head x) s % 2) 0 (k (head x)))) (all-even k t)

  even_means : Decides (even tail head s) (EvenlyTouched tail head s)
  even_means = (λ h c. ⊎_elim (ends_even s h c) (λ k. let z : touches tail head c s ≡ 0 = omega arith in ap (◌% 2) z) (cases_lt 0 (touches tail head c s)), λ k. all-even k s)

module _ {A : Type 0} (tail head : A → ℕ) where
  odd_means : (t : List A) → Decides (is_empty t || not (even tail head t)) (t ≢ [] → ¬ EvenlyTouched tail head t)
  odd_means t = (
    λ h some k. ⊎_elim (λ e. some ((empty_means t).0 e)) (λ e. both_ways (even tail head t) (not-true (even tail head t) e) ((even_means tail head t).1 k)) (or_cases (is_empty t) (not (even tail head t)) h),
    λ h. ⊎_elim (λ e. or_left (is_empty t) (not (even tail head t)) e) (λ e. or_right (is_empty t) (not (even tail head t)) (not_from_false (even tail head t) (uneven h (λ f. both_ways (is_empty t) e ((empty_means t).1 f))))) (cases_Bool (is_empty t)),
  )
    where
      uneven : (t ≢ [] → ¬ EvenlyTouched tail head t) → t ≢ [] → even tail head t ≡ false
      uneven h some = ⊎_elim (λ e. absurd (h some ((even_means tail head t).0 e))) (λ e. e) (cases_Bool (even tail head t))

  pub graphic_means : (s : List A) → Decides (graphic tail head s) (NoEvenPart tail head s)
  unfolding graphic
  graphic_means s =
      let each = every_part_lem (λ t. is_empty t || not (even tail head t)) s in
      (λ h m. (odd_means (items_where_true m s)).0 (each.0 h m), λ h. each.1 (λ m. (odd_means (items_where_true m s)).1 (h m)))
