use Rattle.std.proofs.Common.{refl, arith}
use Rattle.kinds.proofs.Covered.{coverage_added}
use Rattle.objectives.proofs.coverage.CoverageObjective.add.Goals as goal

pub returns : goal.returns
returns c = record { whole = λ s. refl; left = λ s. omega (arith, coverage_added (λ x. x.marks) c.args.self.now.covered c.args.self.now.weights c.args.x.now s) }
