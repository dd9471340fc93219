use Rattle.kinds.proofs.Theorems.{matroids_stand}
use Rattle.kinds.proofs.matroids_stand.Goals as goal

pub returns : goal.returns
returns g c = matroids_stand _
