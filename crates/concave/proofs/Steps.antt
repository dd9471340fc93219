-- What it means that a table of steps is not refused. Assumes nothing.
use Rattle.std.proofs.Common.{◌≡◌, ℕ, zero, suc, ◌+◌, ◌*◌, ◌%◌, ◌<◌, ◌≤◌, cond, ◌||◌, eqb, leb, ◌⊎◌, List, [], ◌∷◌, length, get_or, drop, Some, None, Option, sym, ap, ◌∙◌, ⊎_elim, arith}
use Rattle.std.proofs.lemmas.List.{at_drop_more, at_drop_all}
use Rattle.std.proofs.lemmas.Bool.{or_cases, or_left, or_right, or_from, leb-true, le-leb, lt-leb, eqb-true, eq-eqb, ne_eqb, cond-true, cond-false}
use Rattle.frames.specs.declared.refusal.Refusal.{Refusal}
use Rattle.frames.specs.declared.refusal.Refusal.TheVariants.{Over, Rising}
use Rattle.frames.specs.declared.setting.SettingFault.{SettingFault}
use Rattle.frames.proofs.Settings.{passed}
use Rattle.concave.specs.Steps.{first_wrong}

abbrev wrong : Refusal → ℕ → Option SettingFault
wrong r i = Some (record { refusal = r; index = i })

module _ (highest : ℕ) where
  -- the first step is neither too high nor above the one before it
  first_right : (i p n : ℕ) (ns : List ℕ) → first_wrong highest i p (n ∷ ns) ≡ None → (n ≤ highest) × ((i % 8 ≡ 0 → ⊥) → n ≤ p) × (first_wrong highest (i + 1) n ns ≡ None)
  first_right i p n ns e =
      let low = passed (leb n highest) (cond (eqb (i % 8) 0 || leb n p) (first_wrong highest (i + 1) n ns) (wrong Rising i)) (record { refusal = Over; index = i }) e in
      let down = passed (eqb (i % 8) 0 || leb n p) (first_wrong highest (i + 1) n ns) (record { refusal = Rising; index = i }) low.1 in
      (leb-true n highest low.0, (λ h. ⊎_elim (λ t. absurd (h (eqb-true (i % 8) 0 t))) (λ t. leb-true n p t) (or_cases (eqb (i % 8) 0) (leb n p) down.0)), down.1)

  all_low : (i p : ℕ) (ns : List ℕ) → first_wrong highest i p ns ≡ None → (k : ℕ) → get_or ns k 0 ≤ highest
  all_low i p [] e k = omega arith
  all_low i p (n ∷ ns) e zero = (first_right i p n ns e).0
  all_low i p (n ∷ ns) e (suc k) = all_low (i + 1) n ns (first_right i p n ns e).2 k

  all_falling : (i p : ℕ) (ns : List ℕ) → first_wrong highest i p ns ≡ None → (k : ℕ) → ((i + k) % 8 ≡ 0 → ⊥) → get_or ns k 0 ≤ get_or (p ∷ ns) k 0
  all_falling i p [] e k h = omega arith
  all_falling i p (n ∷ ns) e zero h = (first_right i p n ns e).1 (λ m. h (omega arith))
  all_falling i p (n ∷ ns) e (suc k) h = all_falling (i + 1) n ns (first_right i p n ns e).2 k (λ m. h (let same : i + 1 + k ≡ i + suc k = omega arith in ap (λ j. j % 8) (sym same) ∙ m))

  -- of steps that are not refused none is too high, and in no lane do they rise
  pub steps_accepted : (ns : List ℕ) → first_wrong highest 0 0 ns ≡ None → ((i : ℕ) → get_or ns i 0 ≤ highest) × ((l j : ℕ) → j < 7 → get_or ns (8 * l + j + 1) 0 ≤ get_or ns (8 * l + j) 0)
  steps_accepted ns e = (all_low 0 0 ns e, λ l j k. let same : suc (8 * l + j) ≡ 8 * l + j + 1 = omega arith in omega (arith, ap (λ i. get_or ns i 0) same, all_falling 0 0 ns e (suc (8 * l + j)) (λ h. omega arith)))

-- the step at i follows p
module _ (highest : ℕ) (ns : List ℕ) (i p : ℕ) (l : i < length ns) where
  at_step : first_wrong highest i p (drop i ns) ≡ first_wrong highest i p (get_or ns i 0 ∷ drop (i + 1) ns)
  at_step = at_drop_more (first_wrong highest i p) ns i 0 l

  within : get_or ns i 0 ≤ highest → first_wrong highest i p (drop i ns) ≡ cond (eqb (i % 8) 0 || leb (get_or ns i 0) p) (first_wrong highest (i + 1) (get_or ns i 0) (drop (i + 1) ns)) (wrong Rising i)
  within h = at_step ∙ cond-true (leb (get_or ns i 0) highest) (cond (eqb (i % 8) 0 || leb (get_or ns i 0) p) (first_wrong highest (i + 1) (get_or ns i 0) (drop (i + 1) ns)) (wrong Rising i)) (wrong Over i) (le-leb (get_or ns i 0) highest h)

  -- it is right
  pub steps_more : get_or ns i 0 ≤ highest → (i % 8 ≡ 0) ⊎ (get_or ns i 0 ≤ p) → first_wrong highest i p (drop i ns) ≡ first_wrong highest (i + 1) (get_or ns i 0) (drop (i + 1) ns)
  steps_more h k = within h ∙ cond-true (eqb (i % 8) 0 || leb (get_or ns i 0) p) (first_wrong highest (i + 1) (get_or ns i 0) (drop (i + 1) ns)) (wrong Rising i) (⊎_elim (λ e. or_left (eqb (i % 8) 0) (leb (get_or ns i 0) p) (eq-eqb (i % 8) 0 e)) (λ e. or_right (eqb (i % 8) 0) (leb (get_or ns i 0) p) (le-leb (get_or ns i 0) p e)) k)

  -- it is too high
  pub steps_over : highest < get_or ns i 0 → first_wrong highest i p (drop i ns) ≡ wrong Over i
  steps_over h = at_step ∙ cond-false (leb (get_or ns i 0) highest) (cond (eqb (i % 8) 0 || leb (get_or ns i 0) p) (first_wrong highest (i + 1) (get_or ns i 0) (drop (i + 1) ns)) (wrong Rising i)) (wrong Over i) (lt-leb (get_or ns i 0) highest h)

  -- it is above the one before it in its lane
  pub steps_rising : get_or ns i 0 ≤ highest → (i % 8 ≡ 0 → ⊥) → p < get_or ns i 0 → first_wrong highest i p (drop i ns) ≡ wrong Rising i
  steps_rising h m k = within h ∙ cond-false (eqb (i % 8) 0 || leb (get_or ns i 0) p) (first_wrong highest (i + 1) (get_or ns i 0) (drop (i + 1) ns)) (wrong Rising i) (or_from (eqb (i % 8) 0) (leb (get_or ns i 0) p) (ne_eqb (i % 8) 0 m) (lt-leb (get_or ns i 0) p k))

-- the end is reached
pub steps_all : (highest : ℕ) (ns : List ℕ) (i p : ℕ) → length ns ≤ i → first_wrong highest i p (drop i ns) ≡ None
steps_all highest ns i p l = at_drop_all (first_wrong highest i p) ns i l
