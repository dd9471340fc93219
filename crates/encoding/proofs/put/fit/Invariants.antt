use Rattle.std.proofs.Common.{◌≡◌, ◌+◌, length, drop}
use Rattle.encoding.proofs.Placing.{joined}
use Rattle.encoding.proofs.put.fit.Given as goal

abbrev pub invariant-loop-part : goal.invariant-loop-part
invariant-loop-part l = length (joined l.parts) + l.left ≡ length (joined (drop l.part-index l.parts)) + l.room
