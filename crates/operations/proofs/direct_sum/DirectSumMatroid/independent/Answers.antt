use Rattle.std.proofs.Common.{eqb, arith}
use Rattle.operations.proofs.Masks.{parts_yes, parts_no}
use Rattle.operations.proofs.direct_sum.DirectSumMatroid.independent.Goals as goal

pub returns-then-independent : goal.returns-then-independent
returns-then-independent g c =
    parts_yes (λ x. eqb x.side 0) 64 c.args.frames.now c.args.places c.first_side-side.result (omega arith) (omega arith) c.first_side-side.ensures (g.Q.Matroid.admits c.args.self.now.first) (g.R.Matroid.admits c.args.self.now.second) c.independent-then-independent.result c.if-independent.ensures c.independent-then-independent.ensures

pub returns-else-independent : goal.returns-else-independent
returns-else-independent g c =
    parts_no (λ x. eqb x.side 0) 64 c.args.frames.now c.args.places c.first_side-side.result (omega arith) (omega arith) c.first_side-side.ensures (g.Q.Matroid.admits c.args.self.now.first) (g.R.Matroid.admits c.args.self.now.second) c.independent.result c.if-independent.false c.independent.ensures
