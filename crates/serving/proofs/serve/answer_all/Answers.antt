use Rattle.std.proofs.Common.{◌≡◌, ◌+◌, ◌-◌, length, take, drop, sym, subst, arith}
use borrow.Rule.Slice.PartMut.{put_mid}
use Rattle.runs.specs.Runs.{called}
use Rattle.serving.specs.Answering.{Answered}
use Rattle.serving.specs.Serving.{due_of}
use Rattle.serving.proofs.Runs.{Led, led_none, led_more, led_all, led_short, window_long}
use Rattle.serving.proofs.Walks.{due_is}
use Rattle.serving.proofs.serve.answer_all.Goals as goal

pub loop-request-init : goal.loop-request-init
loop-request-init g c =
    let a = c.args in
    subst (λ i. Led g.W.Objective g.R.Matroid a.picker a.calls.now a.answers.now i.rest.now 0 a.picker a.answers.now) (sym c.into_iter-request-iterator.ensures.into_iter_gives)
    (led_none g.W.Objective g.R.Matroid a.picker a.calls.now a.answers.now c.requires)

pub returns-then-due-answers : goal.returns-then-due-answers
returns-then-due-answers g c =
    let l = c.loop-request in
    let t = l.request-iterator.rest.now in
    let x = c.in-Some.request in
    let q = c.in-Some.ensures.steps.0.0 in
    let k = c.in-Some.ensures.steps.0.1 in
    let is : c.due-due.result ≡ due_of q = due_is c.due-due.result t x q c.due-due.ensures k in
    led_short g.W.Objective g.R.Matroid c.args.picker c.args.calls.now c.args.answers.now t l.to c.due-due.result x q l.picker l.answers k is c.if-due-answers.true l.invariant

pub loop-request-preserved : goal.loop-request-preserved
loop-request-preserved g c =
    let s = c.args.calls.now in
    let l = c.loop-request in
    let t = l.request-iterator.rest.now in
    let x = c.in-Some.request in
    let q = c.in-Some.ensures.steps.0.0 in
    let k = c.in-Some.ensures.steps.0.1 in
    let m = c.due-due.result in
    let is : m ≡ due_of q = due_is c.due-due.result t x q c.due-due.ensures k in
    let same : l.to + m - l.to ≡ m = omega arith in
    let p = c.answer.new.picker in
    let v = c.answer.new.window in
    let kept = c.answer.auto.window in
    let long : length v ≡ m = omega (arith, window_long l.to m l.answers c.if-due-answers.false l.invariant.room) in
    let a : Answered g.W.Objective g.R.Matroid (called x.call) l.picker (take m (drop l.to l.answers)) p v =
    subst (λ n. Answered g.W.Objective g.R.Matroid (called x.call) l.picker (take n (drop l.to l.answers)) p v) same c.answer.ensures in
    subst (λ n. Led g.W.Objective g.R.Matroid c.args.picker s c.args.answers.now c.next.new.self.rest.now (l.to + m) p (put_mid l.to n l.answers v)) (sym same)
    (subst (λ t. Led g.W.Objective g.R.Matroid c.args.picker s c.args.answers.now t (l.to + m) p (put_mid l.to m l.answers v)) (sym c.in-Some.ensures.steps.1)
    (led_more g.W.Objective g.R.Matroid c.args.picker s c.args.answers.now t l.to m x q l.picker p l.answers v k is c.if-due-answers.false long a l.invariant))

pub returns : goal.returns
returns g c =
    let l = c.loop-request in
    led_all g.W.Objective g.R.Matroid c.args.picker c.args.calls.now c.args.answers.now l.request-iterator.rest.now l.to l.picker l.answers c.in-None.ensures.steps.0 l.invariant
