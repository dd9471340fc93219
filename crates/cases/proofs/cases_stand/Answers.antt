use Rattle.cases.proofs.Cases.{cases_stand}
use Rattle.cases.proofs.Wrong.{wrong_cases_fail}
use Rattle.cases.proofs.cases_stand.Goals as goal

pub returns : goal.returns
returns c = record { stand = cases_stand; wrong = wrong_cases_fail }
