use Rattle.std.proofs.Common.{◌≡◌, ◌-◌, ◌^◌, ◌<◌, min, Bool, ◌&&◌, ◌∷◌, length, sym, refl, ap, ◌∙◌, arith}
use Rattle.std.proofs.lemmas.Bool.{lt-ltb}
use Rattle.theory.specs.Replay.{frames}
use Rattle.kept.specs.Tables.{held}
use Rattle.kept.proofs.Tables.{length-held, length-frames}
use Rattle.exchange.proofs.Asked.{asked_all}
use Rattle.exchange.proofs.bid.Bid.has_room.Goals as goal

pub returns-then-len-get : goal.returns-then-len-get
returns-then-len-get g c =
    let b = c.args.self.now in
    let t = b.table.now in
    let row = b.row.now in
    let adm = g.R.Matroid.admits b.matroid.now in
    let l : length (held t) < c.args.size.n = omega (arith, length-held t, c.len.ensures.value, c.get.ensures.value, c.if-len-get.true) in
    let few : min (length row) 64 ≡ length row = omega (arith, ap length b.lined, length-frames t, length-held t, c.args.size.high) in
    let set = c.places_below.ensures ∙ ap (λ n. 2 ^ n - 1) few in
    let stands : Bool = adm (b.frame ∷ frames (held t)) in
    let asked : c.independent.result ≡ stands = asked_all adm t b.frame row b.lined (length row) refl row refl c.places_below.result c.independent.result c.independent.ensures set in
    ◌∙◌ {b = stands} asked (ap (λ s. s && stands) (sym (lt-ltb (length (held t)) c.args.size.n l)))
