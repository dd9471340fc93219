use Rattle.outside_laws.proofs.Counts.{count_lawful, count_added, uniform_matroid}
use Rattle.outside_laws.proofs.Taken.{taken_least}
use Rattle.outside_laws.proofs.counts_stand.Goals as goal

pub returns : goal.returns
returns g c = record { counts = count_lawful; adds = count_added; exchanges = λ same eq. uniform_matroid eq; takes = taken_least }
