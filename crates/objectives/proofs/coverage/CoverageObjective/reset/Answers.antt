use Rattle.std.proofs.Common.{refl, ap}
use Rattle.kinds.specs.Objectives.{coverage}
use Rattle.kinds.proofs.Covered.{uncovered_none}
use Rattle.objectives.proofs.coverage.CoverageObjective.reset.Goals as goal

pub returns : goal.returns
returns c = record { whole = λ s. refl; left = λ s. ap (λ ws. coverage (λ x. x.marks) ws s) (uncovered_none c.args.self.now.weights) }
