-- Which frames are declined, whatever the shift has taken in. Assumes nothing.
use Rattle.std.specs.Prelude.{Bool, ◌||◌, nat_lt}
use Rattle.frames.specs.declared.frame.Frame.{Frame}

-- the lane or the side is too high for a record
abbrev pub too_high : Frame → Bool
too_high x = nat_lt 63 x.lane || nat_lt 1 x.side
