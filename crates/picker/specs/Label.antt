-- The promise of the label, over any run of calls. Assumes nothing.
use Rattle.std.specs.Prelude.{◌≡◌, ℕ, ◌*◌, ◌≤◌, Bool, true, List, length, sum_by}
use Rattle.theory.specs.Bag.{Choice}
use Rattle.theory.specs.Digits.{binary_length}
use Rattle.theory.specs.Replay.{frames, replay}
use Rattle.frames.specs.declared.frame.Frame.{Frame}

-- what is promised of the frames es, kept with their gains, and of how many were ever accepted, where the frames xs
-- arrived: f says what a list is worth, adm which lists are independent, and n is the size
pub record Label (f : List Frame → ℕ) (adm : List Frame → Bool) (n : ℕ) (xs : List Frame) (es : List (Frame × ℕ)) (took : ℕ) : Type 0 where
  -- the kept frames and gains, place by place, and the accepted frames are those of the replay along the arrivals
  pub kept : es ≡ (replay f adm n xs).kept
  pub accepted : took ≡ length (replay f adm n xs).accepted
  -- the kept frames are independent together, at most the size, and stand at as many different places of the arrivals
  pub admitted : adm (frames es) ≡ true
  pub arrived : Choice xs n (frames es)
  -- no independent choice of at most n different places of the arrivals is worth more than four times as much
  pub quarter : (c : List Frame) → Choice xs n c → adm c ≡ true → f c ≤ 4 * f (frames es)
  -- few frames were ever accepted: at most as many as the kept gains have binary digits
  pub few : took ≤ sum_by (λ e. binary_length e.1) es

-- what holds of the counts beside it
pub record Beside (f : List Frame → ℕ) (adm : List Frame → Bool) (n : ℕ) (xs : List Frame) (es : List (Frame × ℕ)) (took gain told : ℕ) : Type 0 where
  -- all accepted gains come to the value of the accepted frames
  pub tells : told ≡ f (replay f adm n xs).accepted
  pub twice : told ≤ 2 * gain
  pub earned : gain ≤ f (frames es)
  pub most : took ≤ 32 * n
