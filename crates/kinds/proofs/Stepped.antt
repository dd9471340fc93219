-- Concave counts once each lane has had some frames. Assumes nothing.
use Rattle.std.proofs.Common.{◌≡◌, ℕ, zero, suc, ◌+◌, ◌*◌, ◌<◌, ◌≤◌, min, true, false, eqb, List, [], ◌∷◌, length, get_or, take, drop, set, replicate, sum_by, sum, count_by, sym, refl, ap, ◌∙◌, inr, ⊎_elim, zero-add, arith, ◌==◌, slice_index}
use mathlib.Core.Path.{fun_ext}
use Rattle.std.specs.List.{range_with_len, AllByRecursion}
use Rattle.std.proofs.lemmas.List.{length-take, length-drop, get_or-take, get_or-drop, get_or_past, get_or-set_same, get_or-set_other, drop-drop, drop_all}
use Rattle.std.proofs.ByRecursion.{All-take, All-drop, All-from_get_or, sum_by_le}
use Rattle.std.proofs.lemmas.List.Sums.{sum_by-cons}
use Rattle.std.proofs.lemmas.Bool.{cases_lt, cases_eq, eq-eqb, ne_eqb}
use Rattle.theory.specs.Laws.{Lawful}
use Rattle.kinds.specs.Objectives.{steps_of, steps_left, of_lane, concave}
use Rattle.kinds.proofs.Counts.{count_at}
use Rattle.kinds.proofs.Gains.{adds_below, only, only_here, only_not, sum_one, sum_out}
use Rattle.kinds.proofs.Lawful.{Concave, count_lawful}
use Rattle.kinds.proofs.Located.{get_or_zeros}
use Rattle.kinds.proofs.Objectives.{below_lawful, below_small}

-- one step more
sum-take : (xs : List ℕ) (n : ℕ) → sum (take (suc n) xs) ≡ sum (take n xs) + slice_index xs n
sum-take [] zero = refl
sum-take [] (suc n) = refl
sum-take (x ∷ xs) zero = omega arith
sum-take (x ∷ xs) (suc n) = omega (arith, sum-take xs n, sum_by-cons (λ y. y) x (take (suc n) xs), sum_by-cons (λ y. y) x (take n xs))

-- the first step, and then those after it
sum_first : (xs : List ℕ) (n : ℕ) → sum (take (suc n) xs) ≡ sum (take n (drop 1 xs)) + slice_index xs 0
sum_first [] zero = refl
sum_first [] (suc n) = refl
sum_first (x ∷ xs) n = omega (arith, sum_by-cons (λ y. y) x (take n xs))

-- numbers that never rise
abbrev pub Falling : List ℕ → Type 0
Falling xs = (j : ℕ) → slice_index xs (suc j) ≤ slice_index xs j

-- at most eight steps, none above 8,388,607, that never rise
pub record Steps (xs : List ℕ) : Type 0 where
  pub few : length xs ≤ 8
  pub low : AllByRecursion (λ n. n ≤ 8388607) xs
  pub falls : Falling xs

module _ (xs : List ℕ) (h : Steps xs) where
  steps_concave : Concave (λ c. sum (take c xs))
  steps_concave = record {
    starts = refl;
    rises = λ n. omega (arith, sum-take xs n);
    slows = λ n. omega (arith, sum-take xs n, sum-take xs (suc n), h.falls n);
  }

  steps_small : (c : ℕ) → sum (take c xs) ≤ 67108856
  steps_small c = omega (arith, sum_by_le (λ n. n) 8388607 (take c xs) (All-take (λ n. n ≤ 8388607) c xs h.low), length-take c xs, h.few)

  steps_drop : (n : ℕ) → Steps (drop n xs)
  steps_drop n = record {
    few = omega (arith, length-drop n xs, h.few);
    low = All-drop (λ m. m ≤ 8388607) n xs h.low;
    falls = λ j. let same : suc (n + j) ≡ n + suc j = omega arith in omega (arith, h.falls (n + j), get_or-drop n xs j 0, get_or-drop n xs (suc j) 0, ap (λ i. get_or xs i 0) same);
  }

-- the steps of a lane by their places in the table
module _ (steps : List ℕ) (l : ℕ) where
  lane_falling : ((j : ℕ) → j < 7 → slice_index steps (8 * l + j + 1) ≤ slice_index steps (8 * l + j)) → Falling (steps_of steps l)
  lane_falling h j = ⊎_elim near past (cases_lt j 7)
    where
      near : j < 7 → slice_index (steps_of steps l) (suc j) ≤ slice_index (steps_of steps l) j
      near k =
          let same : 8 * l + suc j ≡ 8 * l + j + 1 = omega arith in
          omega (
            arith,
            h j k,
            get_or-take 8 (drop (8 * l) steps) j 0 (omega arith),
            get_or-take 8 (drop (8 * l) steps) (suc j) 0 (omega arith),
            get_or-drop (8 * l) steps j 0,
            get_or-drop (8 * l) steps (suc j) 0,
            ap (λ i. get_or steps i 0) same,
          )

      past : 7 ≤ j → slice_index (steps_of steps l) (suc j) ≤ slice_index (steps_of steps l) j
      past k = omega (arith, get_or_past (steps_of steps l) (suc j) 0 (omega (arith, length-take 8 (drop (8 * l) steps))))

  pub steps_lane : ((i : ℕ) → slice_index steps i ≤ 8388607) → ((j : ℕ) → j < 7 → slice_index steps (8 * l + j + 1) ≤ slice_index steps (8 * l + j)) → Steps (steps_of steps l)
  steps_lane limit falls = record {
    few = omega (arith, length-take 8 (drop (8 * l) steps));
    low = All-take (λ n. n ≤ 8388607) 8 (drop (8 * l) steps) (All-drop (λ n. n ≤ 8388607) (8 * l) steps (All-from_get_or (λ n. n ≤ 8388607) steps 0 (λ i k. limit i)));
    falls = lane_falling falls;
  }

module _ {A : Type 0} (lane : A → ℕ) where
  pub concave_keeps : (steps_at : ℕ → List ℕ) → ((l : ℕ) → l < 64 → Steps (steps_at l)) → Lawful (concave lane steps_at)
  unfolding concave
  concave_keeps steps_at h = record {
    submodular = below_lawful (of_lane lane steps_at) 64 (λ l k. count_lawful (steps_concave (steps_at l) (h l k)) (λ x. eqb (lane x) l));
    bounded = below_small (of_lane lane steps_at) 64 67108856 (omega arith) (λ l k s. steps_small (steps_at l) (h l k) (count_by (λ x. eqb (lane x) l) s));
  }

  -- both meanings, whatever the counts
  pub steps_keep : (steps : List ℕ) → ((i : ℕ) → slice_index steps i ≤ 8388607) → ((l j : ℕ) → j < 7 → slice_index steps (8 * l + j + 1) ≤ slice_index steps (8 * l + j)) → Lawful (concave lane (steps_of steps))
  steps_keep steps limit falls = concave_keeps (steps_of steps) (λ l k. steps_lane steps l limit (falls l))

  pub left_keeps : (counts steps : List ℕ) → ((i : ℕ) → slice_index steps i ≤ 8388607) → ((l j : ℕ) → j < 7 → slice_index steps (8 * l + j + 1) ≤ slice_index steps (8 * l + j)) → Lawful (concave lane (steps_left counts steps))
  left_keeps counts steps limit falls = concave_keeps (steps_left counts steps) (λ l k. steps_drop (steps_of steps l) (steps_lane steps l limit (falls l)) (get_or counts l 0))

  -- where no frame is added all steps are left
  pub left_none : (n : ℕ) (steps : List ℕ) (s : List A) → concave lane (steps_left (replicate n 0) steps) s ≡ concave lane (steps_of steps) s
  left_none n steps s = ap (λ f. concave lane f s) (fun_ext (λ l. ap (λ c. drop c (steps_of steps l)) (get_or_zeros n l)))

module _ {A : Type 0} (lane : A → ℕ) (steps_at : ℕ → List ℕ) (x : A) where
  first : ℕ → ℕ
  first l = slice_index (steps_at l) 0

  one_lane : (l : ℕ) → of_lane lane steps_at l (x ∷ []) ≡ only first (lane x) l
  unfolding first
  one_lane l =
      ⊎_elim
      (λ e. ap (λ c. sum (take c (steps_at l))) (count_at (λ y. eqb (lane y) l) x [] true (eq-eqb (lane x) l e)) ∙ sum-take (steps_at l) 0 ∙ zero-add (get_or (steps_at l) 0 0) ∙ sym (only_here first (lane x) l e ∙ ap (λ k. get_or (steps_at k) 0 0) e))
      (λ e. ap (λ c. sum (take c (steps_at l))) (count_at (λ y. eqb (lane y) l) x [] false (ne_eqb (lane x) l e)) ∙ sym (only_not first (lane x) l e))
      (cases_eq (lane x) l)

  one_sum : concave lane steps_at (x ∷ []) ≡ sum_by (only first (lane x)) (range_with_len 0 64)
  unfolding concave
  one_sum = ap (λ f. sum_by f (range_with_len 0 64)) (fun_ext one_lane)

  -- a frame alone has the first step of its lane
  pub concave_one : lane x < 64 → concave lane steps_at (x ∷ []) ≡ slice_index (steps_at (lane x)) 0
  unfolding first
  concave_one l = one_sum ∙ sum_one first (lane x) 0 64 (omega arith) (omega arith)

  -- a frame of no lane has nothing
  pub concave_outside : 64 ≤ lane x → concave lane steps_at (x ∷ []) ≡ 0
  concave_outside l = one_sum ∙ sum_out first (lane x) 0 64 (inr l)

  -- once x is added the first step of its lane is gone
  pub concave_added : (after : ℕ → List ℕ) (s : List A) → ((l : ℕ) → l < 64 → lane x ≡ l → after l ≡ drop 1 (steps_at l)) → ((l : ℕ) → (lane x ≡ l → ⊥) → after l ≡ steps_at l) → concave lane steps_at (x ∷ s) ≡ concave lane after s + concave lane steps_at (x ∷ [])
  unfolding concave
  concave_added after s here other = adds_below (λ l. of_lane lane steps_at l (x ∷ s)) (λ l. of_lane lane after l s) (λ l. of_lane lane steps_at l (x ∷ [])) 64 each
    where
      n : ℕ → ℕ
      n l = count_by (λ y. lane y == l) s

      each : (l : ℕ) → l < 64 → of_lane lane steps_at l (x ∷ s) ≡ of_lane lane after l s + of_lane lane steps_at l (x ∷ [])
      each l k =
          ⊎_elim
          (λ e. omega (
            arith,
            ap (λ c. sum (take c (steps_at l))) (count_at (λ y. eqb (lane y) l) x s true (eq-eqb (lane x) l e)) ∙ sum_first (steps_at l) (n l),
            ap (λ c. sum (take c (steps_at l))) (count_at (λ y. eqb (lane y) l) x [] true (eq-eqb (lane x) l e)) ∙ sum-take (steps_at l) 0,
            ap (λ ys. sum (take (n l) ys)) (here l k e),
          ))
          (λ e. omega (
            arith,
            ap (λ c. sum (take c (steps_at l))) (count_at (λ y. eqb (lane y) l) x s false (ne_eqb (lane x) l e)),
            ap (λ c. sum (take c (steps_at l))) (count_at (λ y. eqb (lane y) l) x [] false (ne_eqb (lane x) l e)),
            ap (λ ys. sum (take (n l) ys)) (other l e),
          ))
          (cases_eq (lane x) l)

module _ (counts steps : List ℕ) where
  -- the next step of lane l
  pub next_step : (l : ℕ) → slice_index counts l < 8 → slice_index (steps_left counts steps l) 0 ≡ slice_index steps (8 * l + slice_index counts l)
  next_step l h =
      let c = get_or counts l 0 in
      let same : 8 * l + (c + 0) ≡ 8 * l + c = omega arith in
      get_or-drop c (steps_of steps l) 0 0 ∙ get_or-take 8 (drop (8 * l) steps) (c + 0) 0 (omega arith) ∙ get_or-drop (8 * l) steps (c + 0) 0 ∙ ap (λ i. get_or steps i 0) same

  -- none is left
  pub no_step : (l : ℕ) → 8 ≤ slice_index counts l → slice_index (steps_left counts steps l) 0 ≡ 0
  no_step l h = get_or_past (steps_left counts steps l) 0 0 (omega (arith, length-drop (get_or counts l 0) (steps_of steps l), length-take 8 (drop (8 * l) steps)))

  -- one frame more of lane k takes its next step; eight are all that count
  pub count_here : (k n l : ℕ) → k < length counts → n ≡ min 8 (slice_index counts k + 1) → k ≡ l → steps_left (set counts k n) steps l ≡ drop 1 (steps_left counts steps l)
  count_here k n l m up e = ap (λ i. steps_left (set counts k n) steps i) (sym e) ∙ ap (λ c. drop c (steps_of steps k)) (get_or-set_same counts k n 0 m ∙ up) ∙ ⊎_elim few full (cases_lt (get_or counts k 0) 8) ∙ ap (λ i. drop 1 (steps_left counts steps i)) e
    where
      few : slice_index counts k < 8 → drop (min 8 (slice_index counts k + 1)) (steps_of steps k) ≡ drop 1 (steps_left counts steps k)
      few h = let same : min 8 (get_or counts k 0 + 1) ≡ get_or counts k 0 + 1 = omega arith in ap (λ c. drop c (steps_of steps k)) same ∙ sym (drop-drop 1 (get_or counts k 0) (steps_of steps k))

      full : 8 ≤ slice_index counts k → drop (min 8 (slice_index counts k + 1)) (steps_of steps k) ≡ drop 1 (steps_left counts steps k)
      full h =
          let short = length-take 8 (drop (8 * k) steps) in
          drop_all (min 8 (get_or counts k 0 + 1)) (steps_of steps k) (omega (arith, short)) ∙ sym (drop_all 1 (steps_left counts steps k) (omega (arith, short, length-drop (get_or counts k 0) (steps_of steps k))))

  pub count_other : (k c l : ℕ) → (k ≡ l → ⊥) → steps_left (set counts k c) steps l ≡ steps_left counts steps l
  count_other k c l h = ap (λ n. drop n (steps_of steps l)) (get_or-set_other counts k l c 0 (λ e. h (sym e)))
