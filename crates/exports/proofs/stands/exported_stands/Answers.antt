use Rattle.exports.proofs.Plain.{exported_stands}
use Rattle.exports.proofs.stands.exported_stands.Goals as goal

pub returns : goal.returns
returns c = exported_stands
