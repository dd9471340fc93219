-- Frames that join two stations, and which bags of them are independent. Assumes nothing.
use Rattle.std.specs.Prelude.{◌≡◌, ℕ, ◌+◌, ◌%◌, Bool, true, false, if◌then◌else◌, not, ◌&&◌, ◌||◌, ◌≢◌, List, [], ◌∷◌, sum_by, ◌==◌}
use Rattle.std.specs.List.{items_where_true, list_all}

-- how often the frames of s touch the station c; one whose tail and head are both c touches it twice
abbrev pub touches : {A : Type 0} → (A → ℕ) → (A → ℕ) → ℕ → List A → ℕ
touches tail head c s = sum_by (λ x. (if tail x == c then 1 else 0) + (if head x == c then 1 else 0)) s

-- s touches the station c an even number of times
abbrev pub even_at : {A : Type 0} → (A → ℕ) → (A → ℕ) → List A → ℕ → Bool
even_at tail head s c = touches tail head c s % 2 == 0

-- s touches every station an even number of times: those that are no end of its frames it does not touch
abbrev pub even : {A : Type 0} → (A → ℕ) → (A → ℕ) → List A → Bool
even tail head s = list_all (λ x. even_at tail head s (tail x) && even_at tail head s (head x)) s

abbrev pub is_empty : {A : Type 0} → List A → Bool
is_empty [] = true
is_empty (x ∷ s) = false

-- each part of s passes p, the empty one and s itself among them
abbrev pub every_part : {A : Type 0} → (List A → Bool) → List A → Bool
every_part p [] = p []
every_part p (x ∷ s) = every_part (λ t. p (x ∷ t)) s && every_part p s

-- no non-empty part of s touches every station an even number of times
unfoldable pub graphic : {A : Type 0} → (A → ℕ) → (A → ℕ) → List A → Bool
graphic tail head s = every_part (λ t. is_empty t || not (even tail head t)) s

-- s touches every station an even number of times, as a statement
abbrev pub EvenlyTouched : {A : Type 0} → (A → ℕ) → (A → ℕ) → List A → Type 0
EvenlyTouched tail head s = (c : ℕ) → touches tail head c s % 2 ≡ 0

-- the same of bags with no even part: m says of each place of s whether it is chosen, and no place past the end of m is
abbrev pub NoEvenPart : {A : Type 0} → (A → ℕ) → (A → ℕ) → List A → Type 0
NoEvenPart tail head s = (m : List Bool) → items_where_true m s ≢ [] → ¬ EvenlyTouched tail head (items_where_true m s)
