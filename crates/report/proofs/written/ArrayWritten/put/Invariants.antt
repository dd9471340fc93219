use Rattle.std.proofs.Common.{drop}
use Rattle.std.specs.List.{flat_map}
use Rattle.report.proofs.Pieces.{Left}
use Rattle.report.proofs.written.ArrayWritten.put.Given as goal

abbrev pub invariant-loop-x : goal.invariant-loop-x
invariant-loop-x g l = Left (flat_map g.T.Written.text l.self) (flat_map g.T.Written.text (drop l.x-index l.self)) l.at l.out l.initial.out
