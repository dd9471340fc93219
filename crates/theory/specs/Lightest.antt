-- Which place is the lightest. Assumes nothing.
use Rattle.std.specs.Prelude.{◌≡◌, ℕ, ◌<◌, ◌≤◌, Bool, true, List, length, Some, None, Option, ◌≢◌, slice_index}

-- of the places below n that count, the one of the least gain, the lowest on a tie; none where none counts
abbrev pub LightestBelow : (ℕ → Bool) → List ℕ → ℕ → Option ℕ → Type 0
LightestBelow counts gs n None = (q : ℕ) → q < n → counts q ≢ true
LightestBelow counts gs n (Some p) = (p < n) × (counts p ≡ true) × ((q : ℕ) → q < n → counts q ≡ true → slice_index gs p ≤ slice_index gs q) × ((q : ℕ) → q < p → counts q ≡ true → slice_index gs p < slice_index gs q)

-- the same of all places
abbrev pub LightestIs : (ℕ → Bool) → List ℕ → Option ℕ → Type 0
LightestIs counts gs o = LightestBelow counts gs (length gs) o
