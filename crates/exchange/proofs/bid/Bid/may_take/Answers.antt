use Rattle.std.proofs.Common.{length, refl}
use Rattle.exchange.proofs.Asked.{asked_but}
use Rattle.exchange.proofs.bid.Bid.may_take.Goals as goal

pub returns : goal.returns
returns g c =
    let b = c.args.self.now in
    asked_but (g.R.Matroid.admits b.matroid.now) b.table.now b.frame b.row.now b.lined (length b.row.now) refl b.row.now refl c.all_but.result c.independent.result c.independent.ensures c.args.place c.requires c.all_but.ensures
