use Rattle.std.proofs.Common.{◌≡◌, ◌*◌, ◌^◌, ◌<◌, Bool, true, false, cond, eqb, take, sym, refl, ap, ◌∙◌, subst, ap₂, arith}
use lib.Bits.{bit_or}
use Rattle.std.specs.Int.{from_bool}
use Rattle.std.proofs.lemmas.List.{take_all, length-take-le}
use Rattle.std.proofs.lemmas.Nat.{shl_whole}
use Rattle.operations.specs.Masks.{mask_of}
use Rattle.operations.proofs.Masks.{mask_more, mask_all}
use Rattle.operations.proofs.direct_sum.first_side.Goals as goal

one_bit : (b : Bool) → (from_bool b < 2) × (from_bool b ≡ cond b 1 0)
one_bit true = (omega arith, refl)
one_bit false = (omega arith, refl)

pub loop-i-preserved : goal.loop-i-preserved
loop-i-preserved c =
    let first = take c.min.result c.args.frames.now in
    let i = c.loop-i.i in
    let bit = shl_whole c.from.result 1 i 64 (subst (λ n. n < 2) (sym c.from.ensures) (one_bit _).0) (omega (arith, length-take-le c.min.result c.args.frames.now (omega arith))) in
    ap₂ bit_or c.loop-i.invariant (bit ∙ ap (λ n. n * 2 ^ i) (c.from.ensures ∙ (one_bit _).1)) ∙ mask_more (λ x. eqb x.side 0) first i _ (omega arith)

pub returns : goal.returns
returns c =
    c.loop-i.invariant ∙ ap (mask_of (λ x. eqb x.side 0)) (take_all c.loop-i.i (take c.min.result c.args.frames.now) (omega arith)) ∙ mask_all (λ x. eqb x.side 0) 64 c.args.frames.now c.min.result (omega arith)
