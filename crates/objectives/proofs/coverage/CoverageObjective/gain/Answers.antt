use Rattle.std.proofs.Common.{◌+◌, get_or, ◌∙◌, arith}
use Rattle.kinds.specs.Objectives.{shows}
use Rattle.kinds.proofs.Objectives.{cond_le}
use Rattle.objectives.proofs.New.{part_long, part_shown, shown, first, some_shown, gain_more, gain_before, gain_behind, gain_none}
use Rattle.objectives.proofs.coverage.CoverageObjective.gain.Goals as goal

pub returns-then-shown-eq0 : goal.returns-then-shown-eq0
returns-then-shown-eq0 c =
    let w = c.args.self.now in
    gain_none w.covered c.args.x.now w.weights (omega arith) c.if-shown-eq0.true

pub between-weights-requires : goal.between-weights-requires
between-weights-requires c = (omega (arith, some_shown c.args.self.now.covered c.args.x.now (omega arith)), omega arith)

pub loop-i-init : goal.loop-i-init
loop-i-init c =
    let w = c.args.self.now in
    (omega (arith, gain_before w.covered c.args.x.now w.weights (omega arith)), omega arith)

pub loop-i-preserved : goal.loop-i-preserved
loop-i-preserved c =
    let w = c.args.self.now in
    let x = c.args.x.now in
    let i = first w.covered x + c.loop-i.i in
    let part = c.between-weights.result.now in
    let long = part_long w.covered x w.weights part c.between-weights.ensures in
    let here = c.weight_if_shown-gain.ensures ∙ part_shown w.covered x w.weights part c.between-weights.ensures c.loop-i.i (omega (arith, long)) in
    let more = gain_more w.covered x w.weights (omega arith) i (first w.covered x + (c.loop-i.i + 1)) (omega arith) (omega (arith, long)) in
    let few = cond_le (shows (shown w.covered x) i) (get_or w.weights i 0) 67108863 (w.limit i) in
    (omega (arith, c.loop-i.invariant.0), omega (arith, c.loop-i.invariant.1))

pub returns : goal.returns
returns c =
    let w = c.args.self.now in
    let x = c.args.x.now in
    omega (arith, c.loop-i.invariant.0, gain_behind w.covered x w.weights (omega arith), part_long w.covered x w.weights c.between-weights.result.now c.between-weights.ensures, some_shown w.covered x (omega arith))
