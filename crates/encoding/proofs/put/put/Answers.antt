use Rattle.std.proofs.Common.{◌≡◌, ℕ, ◌+◌, ◌-◌, true, false, Bor, List, [], length, drop, get_or, ap, refl, sym, subst, ◌∙◌, arith}
use borrow.Rule.Slice.PartMut.{put_mid}
use Rattle.std.proofs.lemmas.Bool.{leb-true}
use Rattle.encoding.proofs.Placing.{Left, joined, part_put, left_none, placed_by}
use Rattle.encoding.proofs.put.put.Goals as goal

pub returns-then-not-fit : goal.returns-then-not-fit
returns-then-not-fit c = sym (placed_by (joined c.args.parts.now) c.args.out.now false (sym c.if-not-fit.true ∙ c.fit.ensures))

pub loop-part-init : goal.loop-part-init
loop-part-init c = let room = leb-true (length (joined c.args.parts.now)) (length c.args.out.now) (sym c.fit.ensures ∙ c.if-not-fit.false) in record { within = omega arith; same = refl }

pub loop-part-preserved : goal.loop-part-preserved
loop-part-preserved c =
    let ps = c.args.parts.now in
    let l = c.loop-part in
    let t = c.copy_from_slice.new.self in
    let none : Bor (List ℕ) = record { ref_ptr = (0, 0); now = [] } in
    let p = get_or ps l.part-index none in
    let is : t ≡ p.now = c.copy_from_slice.ensures.after in
    let same : l.at + length p.now - l.at ≡ length p.now = omega arith in
    subst (λ m. Left (joined ps) (joined (drop (l.part-index + 1) ps)) (l.at + length p.now) (put_mid l.at m l.out t) c.args.out.now) (sym same)
    (part_put ps l.part-index none c.loop-part-test.true l.at (length p.now) t l.out c.args.out.now is (ap length (sym is)) l.invariant)

pub returns : goal.returns
returns c =
    let t = joined c.args.parts.now in
    left_none c.args.parts.now c.loop-part.part-index c.loop-part.at c.loop-part.out c.args.out.now c.loop-part-test.false c.loop-part.invariant ∙ sym (placed_by t c.args.out.now true (sym c.if-not-fit.false ∙ c.fit.ensures))
