-- What is known of kept frames and their gains. Assumes nothing.
use Rattle.std.specs.Prelude.{ℕ, Bool, true, ◌&&◌, List, [], ◌∷◌, sum_by, nat_le}
use Rattle.frames.specs.declared.frame.Frame.{Frame}
use Rattle.frames.specs.Frames.{in_range}

-- the sum of the gains
abbrev pub total : List (Frame × ℕ) → ℕ
total es = sum_by (λ e. e.1) es

-- each frame is one that a record can hold, and each gain has 32 bits
abbrev pub sound : List (Frame × ℕ) → Bool
sound [] = true
sound (e ∷ es) = (in_range e.0 && nat_le e.1 4294967295) && sound es
