use Rattle.std.proofs.Common.{◌≡◌, ◌+◌, ◌*◌, ◌≤◌}
use Rattle.objectives.proofs.New.{gain_below}
use Rattle.objectives.proofs.coverage.CoverageObjective.gain.Given as goal

abbrev pub invariant-loop-i : goal.invariant-loop-i
invariant-loop-i l = (l.gain ≡ gain_below l.self.covered l.x l.self.weights (l.first + l.i)) × (l.gain ≤ 67108863 * (l.first + l.i))
