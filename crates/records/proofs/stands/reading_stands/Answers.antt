use Rattle.records.proofs.Claims.{reading_stands}
use Rattle.records.proofs.stands.reading_stands.Goals as goal

pub returns : goal.returns
returns c = reading_stands
