use Rattle.runs.proofs.Plain.{label_stands}
use Rattle.runs.proofs.stands.label_stands.Goals as goal

pub returns : goal.returns
returns c = label_stands
