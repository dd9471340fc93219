use Rattle.encoding.proofs.Reader.{one_reading}
use Rattle.encoding.proofs.stands.encoding_stands.Goals as goal

pub returns : goal.returns
returns c = one_reading
