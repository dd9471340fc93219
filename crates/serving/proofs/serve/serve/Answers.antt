use Rattle.std.proofs.Common.{ℕ, ◌<◌, ◌≤◌, ap, subst}
use Rattle.serving.specs.Promise.{Promises}
use Rattle.serving.proofs.Promise.{kept_promise}
use Rattle.serving.proofs.Serves.{served_none, served_short, served_all}
use Rattle.serving.proofs.serve.serve.Given as given
use Rattle.serving.proofs.serve.serve.Goals as goal

promised : (g : given.Over) (w : g.row.W.Denot) (m : g.row.R.Denot) (n : ℕ) → Promises (g.W.Objective.value w) (g.R.Matroid.admits m) n
promised g w m n = kept_promise (g.W.Objective.value w) (g.W.Objective.residual w) (g.R.Matroid.admits m) n (g.W.Objective.laws w) (g.R.Matroid.laws m)

pub returns-in_default : goal.returns-in_default
returns-in_default g c =
    let w = c.args.objective in
    let m = c.args.matroid in
    record {
      served = served_none (g.W.Objective.value w) (g.R.Matroid.admits m) c.args.size.n c.args.calls.now c.args.answers.now c.in_default.ensures;
      promise = promised g w m c.args.size.n;
    }

pub returns-then-due-room : goal.returns-then-due-room
returns-then-due-room g c =
    let w = c.args.objective in
    let m = c.args.matroid in
    record {
      served = served_short (g.W.Objective.value w) (g.R.Matroid.admits m) c.args.size.n c.args.calls.now c.args.answers.now c.in-Some.due c.in-Some.ensures (subst (λ k. k < c.in-Some.due) c.min-room.ensures c.if-due-room.true);
      promise = promised g w m c.args.size.n;
    }

pub returns : goal.returns
returns g c =
    let w = c.args.objective in
    let m = c.args.matroid in
    let o = c.open.result in
    let made = c.open.ensures.opened in
    record {
      served =
          served_all (g.W.Objective.value w) (g.R.Matroid.admits m) c.args.size.n c.args.calls.now c.args.answers.now c.in-Some.due c.answer_all.new.answers (g.W.Objective.value o.objective) (g.R.Matroid.admits o.matroid) o.size.n c.in-Some.ensures (subst (λ k. c.in-Some.due ≤ k) c.min-room.ensures c.if-due-room.false) made.whole (ap g.R.Matroid.admits made.rule) made.size c.answer_all.ensures;
      promise = promised g w m c.args.size.n;
    }
