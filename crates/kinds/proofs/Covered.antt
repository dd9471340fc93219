-- Coverage once some classes are covered. Assumes nothing.
use Rattle.std.proofs.Common.{◌≡◌, ℕ, ◌+◌, ◌-◌, ◌^◌, ◌<◌, ◌≤◌, min, Bool, true, false, cond, not, ◌&&◌, ◌||◌, eqb, List, [], ◌∷◌, length, get_or, sum_by, sym, refl, ap, ◌∙◌, ⊎_elim, arith, if◌then◌else◌, ◌==◌, slice_index}
use lib.Bits.{bit_and, bit_or}
use Rattle.std.specs.Int.{w64, bit_at, bit_not}
use Rattle.std.specs.List.{list_any, range_with_len}
use Rattle.std.proofs.lemmas.Nat.Bits.{bit_at-zero, bit_at_and, bit_at_not}
use Rattle.std.proofs.lemmas.List.FromFn.{length-map-range_with_len, get_or-map-range_with_len}
use Rattle.std.proofs.ByRecursion.{All-from_get_or}
use Rattle.std.proofs.lemmas.List.{get_or_past, ext_get_or}
use Rattle.std.proofs.lemmas.Bool.{cases_lt}
use Rattle.theory.specs.Laws.{Lawful}
use Rattle.kinds.specs.Objectives.{shows, of_class, coverage, uncovered}
use Rattle.kinds.proofs.Gains.{shows_or, adds_below}
use Rattle.kinds.proofs.Objectives.{coverage_lawful, coverage_small, below_more}

cond_same : (b : Bool) (n : ℕ) → (if b then n else n) ≡ n
cond_same true n = refl
cond_same false n = refl

cond_le_else : (b : Bool) (n m : ℕ) → n ≤ m → (if b then 0 else n) ≤ m
cond_le_else true n m h = omega arith
cond_le_else false n m h = h

length-uncovered : (covered : ℕ) (weights : List ℕ) → length (uncovered covered weights) ≡ length weights
unfolding uncovered
length-uncovered covered weights = length-map-range_with_len (λ i. cond (shows covered i) 0 (get_or weights i 0)) 0 (length weights)

module _ (covered : ℕ) (weights : List ℕ) (i : ℕ) where
  get_or_near : i < length weights → slice_index (uncovered covered weights) i ≡ (if shows covered i then 0 else slice_index weights i)
  unfolding uncovered
  get_or_near l = get_or-map-range_with_len (λ k. cond (shows covered k) 0 (get_or weights k 0)) 0 (length weights) i i 0 l (omega arith)

  get_or_beyond : length weights ≤ i → slice_index (uncovered covered weights) i ≡ (if shows covered i then 0 else slice_index weights i)
  get_or_beyond l = get_or_past (uncovered covered weights) i 0 (omega (arith, length-uncovered covered weights)) ∙ sym (ap (cond (shows covered i) 0) (get_or_past weights i 0 l) ∙ cond_same (shows covered i) 0)

  -- a covered class has the weight 0
  pub get_or_uncovered : slice_index (uncovered covered weights) i ≡ (if shows covered i then 0 else slice_index weights i)
  get_or_uncovered = ⊎_elim get_or_near get_or_beyond (cases_lt i (length weights))

shows_none : (i : ℕ) → shows 0 i ≡ false
shows_none i = ap (λ k. eqb k 1) (bit_at-zero i)

-- where no class is covered, all weights are left
pub uncovered_none : (weights : List ℕ) → uncovered 0 weights ≡ weights
uncovered_none weights = ext_get_or 0 (uncovered 0 weights) weights (length-uncovered 0 weights) (λ i l. get_or_uncovered 0 weights i ∙ ap (λ b. cond b 0 (get_or weights i 0)) (shows_none i))

module _ {A : Type 0} (marks : A → ℕ) (weights : List ℕ) (limit : (i : ℕ) → slice_index weights i ≤ 67108863) where
  pub coverage_keeps : Lawful (coverage marks weights)
  coverage_keeps = record { submodular = coverage_lawful marks weights; bounded = coverage_small marks weights (All-from_get_or (λ w. w ≤ 67108863) weights 0 (λ i l. limit i)) }

module _ {A : Type 0} (marks : A → ℕ) (covered : ℕ) (weights : List ℕ) where
  pub uncovered_keeps : ((i : ℕ) → slice_index weights i ≤ 67108863) → Lawful (coverage marks (uncovered covered weights))
  uncovered_keeps limit = coverage_keeps marks (uncovered covered weights) (λ i. let low = cond_le_else (shows covered i) (get_or weights i 0) 67108863 (limit i) in omega (arith, low, get_or_uncovered covered weights i))

  -- once x is added its classes are covered too
  pub coverage_added : (x : A) (s : List A) → coverage marks (uncovered covered weights) (x ∷ s) ≡ coverage marks (uncovered (bit_or covered (marks x)) weights) s + coverage marks (uncovered covered weights) (x ∷ [])
  unfolding coverage
  coverage_added x s = adds_below (λ i. of_class marks (uncovered covered weights) i (x ∷ s)) (λ i. of_class marks (uncovered (bit_or covered (marks x)) weights) i s) (λ i. of_class marks (uncovered covered weights) i (x ∷ [])) 64 (λ i l. each i)
    where
      go : (c m r : Bool) (w : ℕ) → (if m || r then (if c then 0 else w) else 0) ≡ (if r then (if c || m then 0 else w) else 0) + (if m || false then (if c then 0 else w) else 0)
      go true true true w = refl
      go true true false w = refl
      go true false true w = refl
      go true false false w = refl
      go false true true w = omega arith
      go false true false w = omega arith
      go false false true w = omega arith
      go false false false w = refl

      each : (i : ℕ) → of_class marks (uncovered covered weights) i (x ∷ s) ≡ of_class marks (uncovered (bit_or covered (marks x)) weights) i s + of_class marks (uncovered covered weights) i (x ∷ [])
      each i = simp (get_or_uncovered, shows_or) (go (shows covered i) (shows (marks x) i) (list_any (λ y. shows (marks y) i) s) (get_or weights i 0))

-- classes in both sets
pub shows_and : (m n i : ℕ) → shows (bit_and m n) i ≡ (shows m i && shows n i)
shows_and m n i = ap (λ k. eqb k 1) (bit_at_and m n i) ∙ both (bit_at m i) (bit_at n i) (omega arith) (omega arith)
  where
    both : (u v : ℕ) → u < 2 → v < 2 → (min u v == 1) ≡ (u == 1 && v == 1)
    both u v h k = grind arith

-- of the 64 classes, those that are not in the set
pub shows-not : (m i : ℕ) → i < 64 → m < 2 ^ 64 → shows (bit_not w64 m) i ≡ not (shows m i)
shows-not m i l h = ap (λ k. eqb k 1) (bit_at_not w64 m i h l) ∙ other (bit_at m i) (omega arith)
  where
    other : (u : ℕ) → u < 2 → (1 - u == 1) ≡ not (u == 1)
    other u k = grind arith

-- the weights of the classes below n that some frame shows
abbrev pub classes_below : {A : Type 0} → (A → ℕ) → List ℕ → ℕ → List A → ℕ
classes_below marks weights n s = sum_by (λ i. of_class marks weights i s) (range_with_len 0 n)

module _ {A : Type 0} (marks : A → ℕ) (weights : List ℕ) (s : List A) where
  pub classes_more : (n : ℕ) → classes_below marks weights (n + 1) s ≡ classes_below marks weights n s + of_class marks weights n s
  classes_more n = below_more (λ i. of_class marks weights i s) n

  pub classes_all : (n : ℕ) → n ≡ 64 → classes_below marks weights n s ≡ coverage marks weights s
  unfolding coverage
  classes_all n e = ap (λ k. classes_below marks weights k s) e

-- class i counts for x if x shows it and it is not covered yet
pub class_new : {A : Type 0} (marks : A → ℕ) (covered : ℕ) (weights : List ℕ) (x : A) (i : ℕ) → i < 64 → covered < 2 ^ 64 → (if shows (bit_and (marks x) (bit_not w64 covered)) i then slice_index weights i else 0) ≡ of_class marks (uncovered covered weights) i (x ∷ [])
class_new marks covered weights x i l h = ap (λ b. cond b (get_or weights i 0) 0) (shows_and (marks x) (bit_not w64 covered) i ∙ ap (λ b. shows (marks x) i && b) (shows-not covered i l h)) ∙ go (shows (marks x) i) (shows covered i) (get_or weights i 0) ∙ ap (λ w. cond (shows (marks x) i || false) w 0) (sym (get_or_uncovered covered weights i))
  where
    go : (m c : Bool) (w : ℕ) → (if m && not c then w else 0) ≡ (if m || false then (if c then 0 else w) else 0)
    go true true w = refl
    go true false w = refl
    go false c w = refl
