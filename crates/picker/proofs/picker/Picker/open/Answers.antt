use Rattle.std.proofs.Common.{rules}
use Rattle.picker.proofs.Labels.{met_open}
use Rattle.picker.proofs.picker.Picker.open.Goals as goal

pub returns-clause-met : goal.returns-clause-met
returns-clause-met g c = met_open g.W.Objective g.R.Matroid c.args.size.n c.args.objective c.args.matroid _ (search rules)
