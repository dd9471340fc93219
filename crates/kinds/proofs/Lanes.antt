-- The matroids of lanes, and of boxes that hold lanes and one another. Assumes nothing.
use Rattle.std.proofs.Common.{◌≡◌, ℕ, zero, suc, ◌+◌, ◌<◌, ◌≤◌, Bool, true, false, ◌&&◌, ◌||◌, eqb, ltb, ◌⊎◌, List, length, get_or, sym, refl, ap, ◌∙◌, subst, inl, inr, ⊎_elim, arith, ◌==◌}
use Rattle.std.proofs.lemmas.List.{get_or_past}
use Rattle.std.proofs.lemmas.Bool.{cases_Bool, cases_lt, eqb-true, eq-eqb, ne_eqb, ltb-true, and_parts, or_cases, or_left, or_right}
use Rattle.std.proofs.lemmas.Bool.Decides.{same_from_decides}
use Rattle.theory.specs.Bag.{Same}
use Rattle.theory.specs.Laws.{MatroidLaws}
use Rattle.kinds.specs.Matroids.{in_lanes, partition, parent_of, reaches, lies_in, laminar, may_hold, Parents}
use Rattle.kinds.proofs.Boxes.{box_matroid, free_matroid}
use Rattle.kinds.proofs.Caps.{Nests, splits_none, under_matroid}

module _ {A : Type 0} {same : A → A → Bool} (eq : Same same) (lane : A → ℕ) where
  lanes_matroid : (box : ℕ → A → Bool) (caps : List ℕ) (n : ℕ) → ((i j : ℕ) → i < n → j < i → Nests (box j) (box i)) → MatroidLaws same (in_lanes lane box caps n)
  lanes_matroid box caps n h = under_matroid box (λ j. get_or caps j 0) eq (box_matroid eq (free_matroid eq) (λ x. ltb 63 (lane x)) (λ s. refl) 0) (λ p. splits_none p (λ x. ltb 63 (lane x))) n h

  pub partition_matroid : (caps : List ℕ) → MatroidLaws same (partition lane caps)
  unfolding partition
  partition_matroid caps = lanes_matroid (λ l x. eqb (lane x) l) caps 64 (λ i j k l x e f. absurd (omega (arith, eqb-true (lane x) j e, eqb-true (lane x) i f)))

reaches_self : (parents : List ℕ) (k b j : ℕ) → (b == j) ≡ true → reaches parents k b j ≡ true
reaches_self parents zero b j h = h
reaches_self parents (suc k) b j h = or_left (eqb b j) (reaches parents k (parent_of parents b) j) h

module _ (parents : List ℕ) (law : Parents parents) where
  -- a parent that is a box stands above its box
  above : (b j : ℕ) → j < 96 → parent_of parents b ≤ j → b < parent_of parents b
  above b j l h = ⊎_elim (λ low. omega (arith, law.1 b low)) (λ high. absurd (omega (arith, get_or_past parents b 255 (omega (arith, law.0))))) (cases_lt b 96)

  -- a box reaches none below it
  reaches_up : (k b j : ℕ) → j < 96 → reaches parents k b j ≡ true → b ≤ j
  reaches_up zero b j l h = omega (arith, eqb-true b j h)
  reaches_up (suc k) b j l h =
      ⊎_elim (λ e. omega (arith, eqb-true b j e)) (λ e. let ih = reaches_up k (parent_of parents b) j l e in omega (arith, above b j l ih)) (or_cases (eqb b j) (reaches parents k (parent_of parents b) j) h)

  parent_up : (k b j : ℕ) → j < 96 → reaches parents k (parent_of parents b) j ≡ true → (b < parent_of parents b) × (parent_of parents b ≤ j)
  parent_up k b j l h = let m = reaches_up k (parent_of parents b) j l h in (above b j l m, m)

  -- as many steps as there are numbers above b are enough
  pub reaches_enough : (m k b j : ℕ) → j < 96 → 95 ≤ b + k → reaches parents m b j ≡ true → reaches parents k b j ≡ true
  reaches_enough zero k b j l far h = reaches_self parents k b j h
  reaches_enough (suc m) zero b j l far h = ⊎_elim (λ e. e) (λ e. absurd (omega (arith, parent_up m b j l e))) (or_cases (eqb b j) (reaches parents m (parent_of parents b) j) h)
  reaches_enough (suc m) (suc k) b j l far h =
      ⊎_elim
      (λ e. reaches_self parents (suc k) b j e)
      (λ e. or_right (eqb b j) (reaches parents k (parent_of parents b) j) (reaches_enough m k (parent_of parents b) j l (omega (arith, parent_up m b j l e)) e))
      (or_cases (eqb b j) (reaches parents m (parent_of parents b) j) h)

  -- what b reaches, what it reaches in turn
  reaches_on : (k m b j i : ℕ) → j < 96 → i < 96 → 95 ≤ b + k → reaches parents k b j ≡ true → reaches parents m j i ≡ true → reaches parents k b i ≡ true
  reaches_on zero m b j i lj li far h g = reaches_enough m 0 b i li far (subst (λ a. reaches parents m a i ≡ true) (sym (eqb-true b j h)) g)
  reaches_on (suc k) m b j i lj li far h g =
      ⊎_elim
      (λ e. reaches_enough m (suc k) b i li far (subst (λ a. reaches parents m a i ≡ true) (sym (eqb-true b j e)) g))
      (λ e. or_right (eqb b i) (reaches parents k (parent_of parents b) i) (reaches_on k m (parent_of parents b) j i lj li (omega (arith, parent_up k b j lj e)) e g))
      (or_cases (eqb b j) (reaches parents k (parent_of parents b) j) h)

  -- of two boxes that b reaches, the lower reaches the other
  reaches_next : (k b j i : ℕ) → i < 96 → j < i → reaches parents k b j ≡ true → reaches parents k b i ≡ true → (m : ℕ) × (reaches parents m j i ≡ true)
  reaches_next zero b j i li l h g = absurd (omega (arith, eqb-true b j h, eqb-true b i g))
  reaches_next (suc k) b j i li l h g =
      ⊎_elim
      (λ e. (suc k, subst (λ a. reaches parents (suc k) a i ≡ true) (eqb-true b j e) g))
      (λ e. ⊎_elim (λ f. absurd (omega (arith, eqb-true b i f, parent_up k b j (omega arith) e))) (λ f. reaches_next k (parent_of parents b) j i li l e f) (or_cases (eqb b i) (reaches parents k (parent_of parents b) i) g))
      (or_cases (eqb b j) (reaches parents k (parent_of parents b) j) h)

  -- so a box that meets a later one lies in it
  reaches_nests : {A : Type 0} (lane : A → ℕ) (k : ℕ) → 95 ≤ k → (i j : ℕ) → i < 96 → j < i → Nests (λ x. reaches parents k (lane x) j) (λ x. reaches parents k (lane x) i)
  reaches_nests lane k far i j li l x h g y e = let on = reaches_next k (lane x) j i li l h g in reaches_on k on.0 (lane y) j i (omega arith) li (omega arith) e on.1

  -- each box lies in itself
  pub lies_self : (b : ℕ) → lies_in parents b b ≡ true
  unfolding lies_in
  lies_self b = reaches_self parents 96 b b (eq-eqb b b refl)

  -- what is no box lies in none
  pub lies_nowhere : (b j : ℕ) → 96 ≤ b → j < 96 → lies_in parents b j ≡ false
  unfolding lies_in
  lies_nowhere b j out l = ⊎_elim (λ e. absurd (omega (arith, reaches_up 96 b j l e))) (λ e. e) (cases_Bool (reaches parents 96 b j))

  -- the parent of b does not lie in b
  pub parent_outside : (b : ℕ) → b < 96 → lies_in parents (parent_of parents b) b ≡ false
  unfolding lies_in
  parent_outside b l = ⊎_elim (λ e. absurd (omega (arith, parent_up 96 b b l e))) (λ e. e) (cases_Bool (reaches parents 96 (parent_of parents b) b))

  -- but for b itself, b lies where its parent does
  pub lies_on : (b j : ℕ) → j < 96 → (b ≡ j → ⊥) → lies_in parents b j ≡ lies_in parents (parent_of parents b) j
  unfolding lies_in
  lies_on b j l other = both (reaches parents 95 (parent_of parents b) j) (reaches parents 96 (parent_of parents b) j) (reaches_enough 95 96 (parent_of parents b) j l (omega arith)) (reaches_enough 96 95 (parent_of parents b) j l (omega arith))
    where
      both : (p q : Bool) → (p ≡ true → q ≡ true) → (q ≡ true → p ≡ true) → (b == j || p) ≡ q
      both p q f g = ap (λ e. e || p) (ne_eqb b j other) ∙ same_from_decides p q (f, g) (λ e. e, λ e. e)

-- the test of each box and its parent
pub parents_from : (parents : List ℕ) → length parents ≡ 96 → ((b : ℕ) → may_hold b (parent_of parents b) ≡ true) → Parents parents
parents_from parents long h = (long, λ b l. each b (parent_of parents b) (h b))
  where
    each : (b p : ℕ) → may_hold b p ≡ true → (p ≡ 255) ⊎ ((b < p) × (64 ≤ p) × (p < 96))
    each b p t =
        ⊎_elim
        (λ e. inl (eqb-true p 255 e))
        (λ e.
        let one = and_parts (ltb b p) (ltb 63 p && ltb p 96) e in
        let two = and_parts (ltb 63 p) (ltb p 96) one.1 in
        inr (ltb-true b p one.0, omega (arith, ltb-true 63 p two.0), ltb-true p 96 two.1))
        (or_cases (eqb p 255) (ltb b p && (ltb 63 p && ltb p 96)) t)

module _ {A : Type 0} {same : A → A → Bool} (eq : Same same) (lane : A → ℕ) where
  pub laminar_matroid : (parents caps : List ℕ) → Parents parents → MatroidLaws same (laminar lane parents caps)
  unfolding laminar lies_in
  laminar_matroid parents caps law = lanes_matroid eq lane (λ j x. reaches parents 96 (lane x) j) caps 96 (reaches_nests parents law lane 96 (omega arith))
