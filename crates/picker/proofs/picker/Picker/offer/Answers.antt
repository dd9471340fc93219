use Rattle.std.proofs.Common.{Ok, rules}
use Rattle.picker.specs.Offers.{Offered}
use Rattle.picker.proofs.Labels.{met_offer}
use Rattle.picker.proofs.picker.Picker.offer.Goals as goal

pub returns-clause-carries : goal.returns-clause-carries
returns-clause-carries g c =
    let q = c.take_in.new.self in
    let step : Offered g.W.Objective g.R.Matroid c.args.self.now c.args.x (Ok c.take_in.result) q = search rules in
    λ h k. met_offer g.W.Objective g.R.Matroid h c.args.self.now c.args.x _ q step k
