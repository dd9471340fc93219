use Rattle.std.proofs.Common.{◌≡◌, [], ◌∷◌, ◌∙◌, length, length-append, arith}
use Rattle.std.proofs.lemmas.Slice.Zip.{zip_turn, zip_end}
use Rattle.kinds.proofs.Located.{views_more}
use Rattle.facility.proofs.Rows.{views_of_row}
use Rattle.facility.proofs.location.FacilityLocationObjective.gain.Goals as goal

pub loop-likeness-preserved : goal.loop-likeness-preserved
loop-likeness-preserved c =
    let w = c.args.self.now in
    let l = c.loop-likeness in
    let start = c.into_iter-likeness-iterator.result in
    let row : start.a.rest.now ≡ c.row_of.result.now = cc in
    let best : start.b.rest.now ≡ w.best = cc in
    let turn = zip_turn c.row_of.result.now w.best l.yielded start l.likeness-iterator c.next.new.self c.next.result row best l.yielded_by (c.in-Some.likeness, c.in-Some.best) c.in-Some.is c.next.ensures.steps in
    let here = c.row_of.ensures (length l.yielded) (omega (arith, turn.1, w.count)) in
    let more = views_more (λ y. y.look) w.table.now w.best (c.args.x.now ∷ []) (length l.yielded) in
    let long = length-append l.yielded ((c.in-Some.likeness, c.in-Some.best) ∷ []) in
    record { so_far = rw long (omega (arith, turn.2 0, turn.3 0)); low = omega arith }

pub returns : goal.returns
returns c =
    let w = c.args.self.now in
    let l = c.loop-likeness in
    let start = c.into_iter-likeness-iterator.result in
    let row : start.a.rest.now ≡ c.row_of.result.now = cc in
    let best : start.b.rest.now ≡ w.best = cc in
    let end = zip_end c.row_of.result.now w.best l.yielded start l.likeness-iterator c.next.new.self c.next.result row best l.yielded_by c.in-None.is c.next.ensures.steps in
    l.invariant.so_far ∙ views_of_row (λ y. y.look) w.table.now w.best c.args.x.now c.row_of.result.now c.row_of.ensures (length l.yielded) (omega (arith, w.count))
