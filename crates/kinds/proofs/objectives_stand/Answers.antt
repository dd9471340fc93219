use Rattle.kinds.proofs.Theorems.{objectives_stand}
use Rattle.kinds.proofs.objectives_stand.Goals as goal

pub returns : goal.returns
returns g c = objectives_stand _
