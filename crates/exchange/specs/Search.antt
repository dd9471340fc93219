-- The search for the lightest place. Assumes nothing.
use Rattle.std.specs.Prelude.{ℕ, Bool, true, List, Some, None, Option, nat_lt, slice_index}

-- place p has less gain than the best place so far, or there is none
abbrev pub lighter_than : List ℕ → ℕ → Option ℕ → Bool
lighter_than gs p None = true
lighter_than gs p (Some q) = nat_lt (slice_index gs p) (slice_index gs q)
