use Rattle.std.proofs.Common.{refl, arith}
use Rattle.kinds.proofs.Located.{facility_added}
use Rattle.facility.proofs.location.FacilityLocationObjective.add.Goals as goal

pub returns : goal.returns
returns c =
    record {
      whole = λ s. refl;
      left = λ s. omega (arith, facility_added (λ x. x.look) c.args.self.now.table.now c.args.self.now.best c.loop-v.best-items c.args.x.now s (λ v h. omega (arith, c.loop-v.invariant.raised v, c.row_of-row.ensures v h)));
    }
