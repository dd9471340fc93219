use Rattle.std.proofs.Common.{sym, ap, ◌∙◌, arith}
use Rattle.std.specs.Option.{option_or}
use Rattle.frames.specs.Settings.{first_over, numbers_fault}
use Rattle.frames.proofs.Settings.{over_none, over_more, over_here, over-all}
use Rattle.frames.proofs.setting.check_numbers.Goals as goal

pub returns-then-n-highest : goal.returns-then-n-highest
unfolding numbers_fault
returns-then-n-highest c =
    record {
      fault =
          sym (over_here c.args.highest c.args.numbers.now c.loop-i.i 0 (omega arith) (omega arith)) ∙ c.loop-i.invariant
          ∙ ap (λ o. option_or o (first_over c.args.highest 0 c.args.numbers.now)) c.in_ok-check_count.ensures.fault;
      accepted = tt;
    }

pub loop-i-preserved : goal.loop-i-preserved
loop-i-preserved c = sym (over_more c.args.highest c.args.numbers.now c.loop-i.i 0 (omega arith) (omega arith)) ∙ c.loop-i.invariant

pub returns : goal.returns
unfolding numbers_fault
returns c =
    let none = sym (over-all c.args.highest c.args.numbers.now c.loop-i.i 0 (omega arith)) ∙ c.loop-i.invariant in
    record {
      fault = none ∙ ap (λ o. option_or o (first_over c.args.highest 0 c.args.numbers.now)) c.in_ok-check_count.ensures.fault;
      accepted = (c.in_ok-check_count.ensures.accepted, over_none c.args.highest 0 c.args.numbers.now (sym none));
    }
