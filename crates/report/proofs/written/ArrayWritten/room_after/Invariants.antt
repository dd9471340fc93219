use Rattle.std.proofs.Common.{◌≡◌, ◌+◌, length, drop}
use Rattle.std.specs.List.{flat_map}
use Rattle.report.proofs.written.ArrayWritten.room_after.Given as goal

-- the room that is left is as much too large or too small for what is left to be written as all was for all
abbrev pub invariant-loop-x : goal.invariant-loop-x
invariant-loop-x g l = l.initial.left + length (flat_map g.T.Written.text (drop l.x-index l.self)) ≡ l.left + length (flat_map g.T.Written.text l.self)
