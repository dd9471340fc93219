use Rattle.std.proofs.Common.{◌≡◌, length, sym, ◌∙◌, subst, arith}
use Rattle.theory.specs.Lightest.{LightestBelow}
use Rattle.theory.specs.Replay.{gains, may_take}
use Rattle.kept.specs.Tables.{held}
use Rattle.kept.proofs.Tables.{length-gains}
use Rattle.exchange.specs.Search.{lighter_than}
use Rattle.exchange.proofs.Search.{search_barred, search_heavy, search_found}
use Rattle.exchange.proofs.bid.Bid.lightest.Goals as goal
use Rattle.exchange.proofs.bid.Bid.lightest.Goals.{else-is_lighter-via-then-is_lighter+else-may_take, else-is_lighter-via-else-is_lighter}

pub may_take-requires : goal.may_take-requires
may_take-requires g c =
    let s = c.in-Some.ensures.steps in
    omega (arith, s.1.0, s.1.1, c.loop-p.invariant.1, c.len.ensures.value)

pub loop-p-preserved-then-may_take : goal.loop-p-preserved-then-may_take
loop-p-preserved-then-may_take g c =
    let b = c.args.self.now in
    let counts = may_take (g.R.Matroid.admits b.matroid.now) (held b.table.now) b.frame in
    let gs = gains (held b.table.now) in
    let s = c.in-Some.ensures.steps in
    let p = c.in-Some.p in
    let inv = c.loop-p.invariant in
    let light = sym {b = lighter_than gs p c.loop-p.best} c.is_lighter.ensures ∙ c.if-is_lighter.true in
    let taken = sym {b = counts p} c.may_take.ensures ∙ c.if-may_take.true in
    (omega (arith, inv.0, s.0, s.1.0, s.1.2), s.0 ∙ inv.1, search_found counts gs c.loop-p.places.start p c.next.new.self.start s.1.1 s.1.2 c.loop-p.best light taken inv.2)

pub loop-p-preserved : goal.loop-p-preserved
loop-p-preserved g c =
    let b = c.args.self.now in
    let counts = may_take (g.R.Matroid.admits b.matroid.now) (held b.table.now) b.frame in
    let gs = gains (held b.table.now) in
    let s = c.in-Some.ensures.steps in
    let p = c.in-Some.p in
    let inv = c.loop-p.invariant in
    let kept : LightestBelow counts gs c.next.new.self.start c.loop-p.best = elim c.else-is_lighter.branch [
      | else-is_lighter-via-then-is_lighter+else-may_take w ↦ search_barred counts gs c.loop-p.places.start p c.next.new.self.start s.1.1 s.1.2 c.loop-p.best (sym {b = counts p} w.may_take.ensures ∙ w.if-may_take.false) inv.2
      | else-is_lighter-via-else-is_lighter w ↦ search_heavy counts gs c.loop-p.places.start p c.next.new.self.start s.1.1 s.1.2 c.loop-p.best (sym {b = lighter_than gs p c.loop-p.best} c.is_lighter.ensures ∙ w.if-is_lighter.false) inv.2
    ] in
    (omega (arith, inv.0, s.0, s.1.0, s.1.2), s.0 ∙ inv.1, kept)

pub returns : goal.returns
returns g c =
    let b = c.args.self.now in
    let t = b.table.now in
    let s = c.in_default.ensures.steps in
    let inv = c.loop-p.invariant in
    let n : c.loop-p.places.start ≡ length (gains (held t)) = omega (arith, inv.0, inv.1, s, c.len.ensures.value, length-gains t) in
    subst (λ n. LightestBelow (may_take (g.R.Matroid.admits b.matroid.now) (held t) b.frame) (gains (held t)) n c.loop-p.best) n inv.2
