use Rattle.cycles.proofs.Theorem.{graphic_stands}
use Rattle.cycles.proofs.graphic_stands.Goals as goal

pub returns : goal.returns
returns g c = graphic_stands _
