use Rattle.std.proofs.Common.{Ok}
use Rattle.exports.proofs.Exported.{exported_by}
use Rattle.exports.proofs.Served.{served_few}
use Rattle.exports.proofs.run.run.Goals as goal

pub run_number-requires : goal.run_number-requires
run_number-requires g c =
    let s = c.in-Ok.s in
    served_few (g.W.Objective.value s.objective) (g.R.Matroid.admits s.matroid) s.size.n c.args.calls.now c.args.answers.now c.serve.result c.serve.new.answers c.serve.ensures.served

pub returns-in-Ok : goal.returns-in-Ok
returns-in-Ok g c =
    let a = c.serve.ensures in
    let both =
    exported_by c.args.calls.now c.args.answers.now c.run_number.result c.serve.new.answers g.W.Objective g.R.Matroid (Ok c.in-Ok.s)
    (record { answer = c.serve.result; number = c.run_number.ensures; served = a.served; promise = a.promise }) in
    rw c.in-Ok.is (record { exported = both.0; refused = both.1 })
