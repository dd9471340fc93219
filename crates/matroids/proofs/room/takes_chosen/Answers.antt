use Rattle.std.proofs.Common.{◌≡◌, ◌-◌, [], bit_and, sym, ap, ◌∙◌, arith}
use Rattle.std.proofs.lemmas.Nat.Bits.{bit_at-zero}
use Rattle.std.proofs.lemmas.Bool.{ltb-false}
use Rattle.matroids.specs.Chosen.{chosen}
use Rattle.matroids.proofs.Chosen.{chosen_next, chosen_none, chosen_past}
use Rattle.matroids.proofs.room.takes_chosen.Goals as goal
use Rattle.matroids.proofs.room.takes_chosen.Goals.{else-loop-rest-test, then-loop-rest-test+in_default}

pub returns-then-not-takes : goal.returns-then-not-takes
returns-then-not-takes g c =
    let got = c.in-Some.ensures.lookup.3 in
    let next = chosen_next c.args.frames.now c.loop-rest.rest (omega arith) (omega arith) c.in-Some.x.now got.0 (got.1 c.in-Some.x.now) in
    sym (ap (g.R.Room.admits c.loop-rest.room) next ∙ c.if-not-takes.ensures (chosen c.args.frames.now (bit_and c.loop-rest.rest (c.loop-rest.rest - 1)))) ∙ c.loop-rest.invariant

pub loop-rest-preserved : goal.loop-rest-preserved
loop-rest-preserved g c =
    let got = c.in-Some.ensures.lookup.3 in
    let next = chosen_next c.args.frames.now c.loop-rest.rest (omega arith) (omega arith) c.in-Some.x.now got.0 (got.1 c.in-Some.x.now) in
    sym (ap (g.R.Room.admits c.loop-rest.room) next ∙ c.if-not-takes.ensures (chosen c.args.frames.now (bit_and c.loop-rest.rest (c.loop-rest.rest - 1)))) ∙ c.loop-rest.invariant

pub returns : goal.returns
returns g c =
    let none : chosen c.args.frames.now c.loop-rest.rest ≡ [] =
    elim c.loop-rest-test.branch [
      | else-loop-rest-test w ↦ ap (chosen c.args.frames.now) w.loop-rest-test.false ∙ chosen_past c.args.frames.now 0 (λ i k. bit_at-zero i)
      | then-loop-rest-test+in_default w ↦ chosen_none c.args.frames.now c.loop-rest.rest (let h = w.loop-rest-test.true in omega arith) (omega arith) (ltb-false _ _ (sym w.in_default.ensures.lookup.0))
    ] in
    sym (ap (g.R.Room.admits c.loop-rest.room) none ∙ g.met.R.Room.nothing c.loop-rest.room) ∙ c.loop-rest.invariant
