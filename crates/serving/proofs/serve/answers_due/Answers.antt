use Rattle.std.proofs.Common.{◌+◌, ◌==◌, length, drop, sym, ap, ◌∙◌, subst}
use Rattle.serving.specs.Serving.{Due}
use Rattle.serving.proofs.Walks.{Walk, walk_more, walk_ended}
use Rattle.serving.proofs.serve.answers_due.Goals as goal

pub loop-request-preserved : goal.loop-request-preserved
loop-request-preserved c =
    let s = c.args.calls.now in
    let l = c.loop-request in
    let t = l.requests.rest.now in
    let x = c.in-Some.request in
    subst (λ t. Walk s t (l.due + c.due-due.result)) (sym c.in-Some.ensures.steps.1)
    (subst (λ k. Walk s (drop x.length t) (l.due + k)) (sym c.due-due.ensures) (walk_more s t l.due x l.invariant c.in-Some.ensures.steps.0))

pub returns : goal.returns
returns c =
    let s = c.args.calls.now in
    let l = c.loop-request in
    let none = c.in_default.ensures.steps in
    subst (Due s) (sym c.then_some.ensures)
    (walk_ended s l.requests.rest.now l.due c.is_empty.result (c.is_empty.ensures ∙ ap (λ t. length t == 0) none.1) l.invariant none.0)
