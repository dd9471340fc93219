use Rattle.std.proofs.Common.{arith}
use Rattle.runs.specs.Runs.{called}
use Rattle.serving.proofs.Windows.{answered_in}
use Rattle.serving.proofs.serve.answer.Goals as goal

pub returns : goal.returns
returns g c =
    answered_in g.W.Objective g.R.Matroid (called c.args.request.now.call) c.args.picker.now c.carry_out-said.new.picker c.args.window.now c.carry_out-said.new.sheet c.put_answer.new.out c.carry_out-said.result c.fixed-fixed.result c.fixed-fixed.ensures (omega (arith, c.requires, c.fixed-fixed.ensures)) c.carry_out-said.ensures c.put_answer.ensures
