use Rattle.std.proofs.Common.{refl}
use Rattle.kinds.proofs.Located.{above_none}
use Rattle.facility.proofs.location.FacilityLocationObjective.reset.Goals as goal

pub returns : goal.returns
returns c = record { whole = λ s. refl; left = λ s. above_none (λ x. x.look) c.args.self.now.table.now 64 s }
