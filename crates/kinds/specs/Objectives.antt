-- The value of a bag of frames, by kind. Assumes nothing.
use Rattle.std.specs.Prelude.{ℕ, ◌+◌, ◌-◌, ◌*◌, ◌≤◌, min, max, Bool, List, [], ◌∷◌, ◌++◌, map, length, take, drop, sum_by, sum, count_by, if◌then◌else◌, ◌==◌, nat_eq, slice_index}
use Rattle.std.specs.Int.{bit_at}
use Rattle.std.specs.List.{list_any, range_with_len}

-- what fits 32 bits
abbrev pub Bounded : {A : Type 0} → (List A → ℕ) → Type 0
Bounded {A} f = (s : List A) → f s ≤ 4294967295

-- the greatest of the numbers v; 0 of no frame
abbrev pub greatest : {A : Type 0} → (A → ℕ) → List A → ℕ
greatest v [] = 0
greatest v (x ∷ s) = max (v x) (greatest v s)

-- class i is in the set m, whose bit i is then set
abbrev pub shows : ℕ → ℕ → Bool
shows m i = bit_at m i == 1

-- the weight of class i, once some frame shows it
abbrev pub of_class : {A : Type 0} → (A → ℕ) → List ℕ → ℕ → List A → ℕ
of_class marks weights i s = if list_any (λ x. shows (marks x) i) s then slice_index weights i else 0

-- the weights of the classes that some frame shows
unfoldable pub coverage : {A : Type 0} → (A → ℕ) → List ℕ → List A → ℕ
coverage marks weights s = sum_by (λ i. of_class marks weights i s) (range_with_len 0 64)

-- the weights, with 0 for each class in the set of those covered
unfoldable pub uncovered : ℕ → List ℕ → List ℕ
uncovered covered weights = map (λ i. if shows covered i then 0 else slice_index weights i) (range_with_len 0 (length weights))

-- how like view v a frame of look r is: a place past the table's end counts 0, and 16 bits hold no more than 65,535
abbrev pub likeness : List ℕ → ℕ → ℕ → ℕ
likeness table r v = min 65535 (slice_index table (64 * r + v))

-- how like view v is the frame that is most like it
abbrev pub of_view : {A : Type 0} → (A → ℕ) → List ℕ → ℕ → List A → ℕ
of_view look table v s = greatest (λ x. likeness table (look x) v) s

-- how like the views are the frames that are most like them
unfoldable pub facility : {A : Type 0} → (A → ℕ) → List ℕ → List A → ℕ
facility look table s = sum_by (λ v. of_view look table v s) (range_with_len 0 64)

-- by how much the frames are more like the views than `best` has it
unfoldable pub facility_above : {A : Type 0} → (A → ℕ) → List ℕ → List ℕ → List A → ℕ
facility_above look table best s = sum_by (λ v. of_view look table v s - slice_index best v) (range_with_len 0 64)

-- the eight steps of lane l
abbrev pub steps_of : List ℕ → ℕ → List ℕ
steps_of steps l = take 8 (drop (8 * l) steps)

-- the steps of lane l that are left once its count of frames is added
abbrev pub steps_left : List ℕ → List ℕ → ℕ → List ℕ
steps_left counts steps l = drop (slice_index counts l) (steps_of steps l)

-- as many of the steps of lane l, from the first on, as there are frames of the lane
abbrev pub of_lane : {A : Type 0} → (A → ℕ) → (ℕ → List ℕ) → ℕ → List A → ℕ
of_lane lane steps_at l s = sum (take (count_by (λ x. nat_eq (lane x) l) s) (steps_at l))

-- the steps of all lanes
unfoldable pub concave : {A : Type 0} → (A → ℕ) → (ℕ → List ℕ) → List A → ℕ
concave lane steps_at s = sum_by (λ l. of_lane lane steps_at l s) (range_with_len 0 64)

-- the smaller of the cap c and f
abbrev pub capped : {A : Type 0} → ℕ → (List A → ℕ) → List A → ℕ
capped c f s = min c (f s)

-- the smaller of m and the sum of f and g
abbrev pub joint : {A : Type 0} → ℕ → (List A → ℕ) → (List A → ℕ) → List A → ℕ
joint m f g s = min m (f s + g s)

-- what is left of f once the frames a are added
abbrev pub residual : {A : Type 0} → (List A → ℕ) → List A → List A → ℕ
residual f a s = f (a ++ s) - f a

-- what is left of r once x is added
abbrev pub tell : {A : Type 0} → (List A → ℕ) → A → List A → ℕ
tell r x s = r (x ∷ s) - r (x ∷ [])
