use Rattle.std.proofs.Common.{sym, ap, ◌∙◌, inl, inr, arith}
use Rattle.std.specs.Option.{option_or}
use Rattle.concave.specs.Steps.{first_wrong, steps_fault}
use Rattle.concave.proofs.Steps.{steps_accepted, steps_more, steps_over, steps_rising, steps_all}
use Rattle.concave.proofs.setting.check_steps.Goals as goal
use Rattle.concave.proofs.setting.check_steps.Goals.{else-i-ne0-via-then-i-ne0+else-step-before, else-i-ne0-via-else-i-ne0}

pub returns-then-step-gt-HIGHEST_STEP : goal.returns-then-step-gt-HIGHEST_STEP
unfolding steps_fault
returns-then-step-gt-HIGHEST_STEP c =
    record {
      fault = sym (steps_over 8388607 c.args.steps.now c.loop-i.i c.loop-i.before (omega arith) (omega arith)) ∙ c.loop-i.invariant ∙ ap (λ o. option_or o (first_wrong 8388607 0 0 c.args.steps.now)) c.in_ok-check_count.ensures.fault;
      accepted = tt;
    }

pub returns-then-step-before : goal.returns-then-step-before
unfolding steps_fault
returns-then-step-before c =
    record {
      fault = sym (steps_rising 8388607 c.args.steps.now c.loop-i.i c.loop-i.before (omega arith) (omega arith) (λ h. omega arith) (omega arith)) ∙ c.loop-i.invariant ∙ ap (λ o. option_or o (first_wrong 8388607 0 0 c.args.steps.now)) c.in_ok-check_count.ensures.fault;
      accepted = tt;
    }

pub loop-i-preserved : goal.loop-i-preserved
loop-i-preserved c =
    let more = steps_more 8388607 c.args.steps.now c.loop-i.i c.loop-i.before (omega arith) (omega arith) in
    sym (more (elim c.else-i-ne0.branch [ else-i-ne0-via-then-i-ne0+else-step-before w ↦ inr w.if-step-before.false | else-i-ne0-via-else-i-ne0 w ↦ inl w.if-i-ne0.false ])) ∙ c.loop-i.invariant

pub returns : goal.returns
unfolding steps_fault
returns c =
    let none = sym (steps_all 8388607 c.args.steps.now c.loop-i.i c.loop-i.before (omega arith)) ∙ c.loop-i.invariant in
    let right = steps_accepted 8388607 c.args.steps.now (sym none) in
    record { fault = none ∙ ap (λ o. option_or o (first_wrong 8388607 0 0 c.args.steps.now)) c.in_ok-check_count.ensures.fault; accepted = (c.in_ok-check_count.ensures.accepted, right.0, right.1) }
