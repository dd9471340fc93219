use Rattle.std.proofs.Common.{◌≡◌, List, [], None, refl, ◌∙◌}
use Rattle.frames.specs.declared.frame.Frame.{Frame}
use Rattle.kept.specs.Tables.{held}
use Rattle.picker.specs.Calls.{arrivals}
use Rattle.picker.specs.Label.{Beside, Label}
use Rattle.picker.proofs.Labels.{promises}
use Rattle.runs.specs.Runs.{history, run_on}
use Rattle.runs.proofs.Turns.{led_more, led_all, moved}
use Rattle.runs.proofs.run.run.Goals as goal

pub loop-call-preserved : goal.loop-call-preserved
loop-call-preserved g c =
    led_more g.W.Objective g.R.Matroid c.open-picker.result c.args.calls.now c.args.sheet.now c.loop-call.call-index _ _ c.loop-call.picker c.carry_out.new.picker c.loop-call.sheet c.carry_out.new.sheet c.loop-call.answer c.carry_out.result c.loop-call-test.true refl c.carry_out.ensures c.loop-call.invariant

pub returns : goal.returns
returns g c =
    let p = c.loop-call.picker in
    let p₀ = c.open-picker.result in
    let led = c.loop-call.invariant in
    let made = c.open-picker.ensures.opened in
    let h = history c.args.calls.now in
    let all = led_all g.W.Objective g.R.Matroid p₀ c.args.calls.now c.args.sheet.now c.loop-call.call-index p c.loop-call.sheet c.loop-call.answer c.loop-call-test.false led in
    let value : (s : List Frame) → g.W.Objective.value p.objective s ≡ g.W.Objective.value c.args.objective s = λ s. led.settings.value s ∙ made.whole s in
    let matroid : p.matroid ≡ c.args.matroid = led.settings.matroid ∙ made.rule in
    let size : p.size.n ≡ c.args.size.n = led.settings.size ∙ made.size in
    let both = promises g.W.Objective g.R.Matroid p h all.0 in
    record {
      size = size;
      matroid = matroid;
      value = value;
      met = all.0;
      label = moved g.R.Matroid (λ f adm n. Label f adm n (arrivals h) (held p.table) p.took) value matroid size both.0;
      bounds = moved g.R.Matroid (λ f adm n. Beside f adm n (arrivals h) (held p.table) p.took p.gain p.told) value matroid size both.1;
      left = moved g.R.Matroid (λ f adm n. (c.loop-call.sheet, c.loop-call.answer) ≡ run_on f adm n [] h c.args.sheet.now None) made.whole made.rule made.size all.1;
    }
