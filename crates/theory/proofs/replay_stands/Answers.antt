use Rattle.theory.proofs.Theorem.{stands}
use Rattle.theory.proofs.replay_stands.Goals as goal

pub returns : goal.returns
returns g c = stands _
