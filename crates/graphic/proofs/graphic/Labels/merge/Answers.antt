use Rattle.std.proofs.Common.{arith}
use Rattle.cycles.proofs.Roots.{root_merged}
use Rattle.graphic.proofs.graphic.Labels.merge.Goals as goal

pub returns : goal.returns
returns c = λ w.
    let room = c.args.self.now in
    rw (c.max.ensures, c.min.ensures) (root_merged room.labels room.falling c.args.a c.args.b (omega arith) (omega arith) c.requires.0 c.requires.1 w)
