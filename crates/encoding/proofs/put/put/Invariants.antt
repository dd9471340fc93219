use Rattle.std.proofs.Common.{drop}
use Rattle.encoding.proofs.Placing.{Left, joined}
use Rattle.encoding.proofs.put.put.Given as goal

abbrev pub invariant-loop-part : goal.invariant-loop-part
invariant-loop-part l = Left (joined l.parts) (joined (drop l.part-index l.parts)) l.at l.out l.initial.out
