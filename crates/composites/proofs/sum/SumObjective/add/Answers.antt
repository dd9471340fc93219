use mathlib.Core.Path.{ap₂}
use Prim.Native.Nat.{◌+◌, min}
use Rattle.kinds.proofs.Told.{joint_added}
use Rattle.composites.proofs.sum.SumObjective.add.Goals as goal

pub returns : goal.returns
returns g c =
    let w = c.args.self.now in
    let first = (g.V.Objective.laws w.first).left.submodular in
    let second = (g.W.Objective.laws w.second).left.submodular in
    record {
      whole = λ s. ap₂ (λ m n. min 4294967295 (m + n)) (c.add.ensures.whole s) (c.add-2.ensures.whole s);
      left = λ s. joint_added c.args.x.now s w.room c.gain.result (g.V.Objective.residual c.add.new.self) (g.W.Objective.residual c.add-2.new.self) first second c.gain.ensures (c.add.ensures.left s) (c.add-2.ensures.left s);
    }
