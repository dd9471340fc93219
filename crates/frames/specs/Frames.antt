-- Frames: when two are equal, and which a shift may take in. Assumes nothing.
use Rattle.std.specs.Prelude.{◌≤◌, Bool, ◌&&◌, ◌==◌, nat_le}
use Rattle.frames.specs.declared.frame.Frame.{Frame}

-- all seven numbers are equal
abbrev pub same : Frame → Frame → Bool
same x y =
    (x.number == y.number) && x.marks == y.marks && x.look == y.look && x.lane == y.lane && x.tail == y.tail
    && x.head == y.head
    && x.side == y.side

-- each number is at most the highest value that a record may give it
pub record InRange (x : Frame) : Type 0 where
  pub number : x.number ≤ 4294967295
  pub marks : x.marks ≤ 18446744073709551615
  pub look : x.look ≤ 255
  pub lane : x.lane ≤ 63
  pub tail : x.tail ≤ 255
  pub head : x.head ≤ 255
  pub side : x.side ≤ 1

-- the same as a test
abbrev pub in_range : Frame → Bool
in_range x =
    nat_le x.number 4294967295 && nat_le x.marks 18446744073709551615 && nat_le x.look 255 && nat_le x.lane 63 && nat_le x.tail 255
    && nat_le x.head 255
    && nat_le x.side 1
