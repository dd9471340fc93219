-- The calls made of a picker after its opening, and the frames that they bring. Assumes nothing.
use Rattle.std.specs.Prelude.{ℕ, ◌-◌, if◌then◌else◌, List, [], ◌∷◌, ◌++◌, length, take, fold, ◌==◌, nat_le}
use Rattle.frames.specs.declared.frame.Frame.{Frame}
use Rattle.records.specs.Reading.{frames_in}
use Rattle.picker.specs.Arrivals.{too_high}

-- a call, with what it was given
pub data Called : Type 0 where
  -- an offer of a frame
  offering : Frame → Called
  -- an offer of a text
  reading : List ℕ → Called
  -- a look-up of a place
  looking : ℕ → Called
  -- a look-up of the counts
  counting : Called
  -- a print-out
  printing : Called
  clearing : Called

-- a frame is taken in unless its lane or its side is too high for a record, or 1,000,000 are there
abbrev pub arrive : List Frame → Frame → List Frame
arrive xs x = if too_high x then xs else (if length xs == 1000000 then xs else (xs ++ x ∷ []))

-- what a call makes of the arrivals: a text brings the frames of its records, up to the first that cannot be read or
-- taken in, unless it is too long; a clear empties them; a look-up or a print-out leaves them
abbrev pub arrive_by : List Frame → Called → List Frame
arrive_by xs (offering x) = arrive xs x
arrive_by xs (reading t) = if nat_le (length t) 65536 then xs ++ take (1000000 - length xs) (frames_in t) else xs
arrive_by xs (looking i) = xs
arrive_by xs counting = xs
arrive_by xs printing = xs
arrive_by xs clearing = []

-- the frames taken in since the last clear, by the calls' arguments alone
abbrev pub arrivals : List Called → List Frame
arrivals h = fold arrive_by [] h
