use Rattle.std.proofs.Common.{ℕ, ◌+◌, ◌*◌, ◌^◌, ◌<◌, subst, arith}
use Rattle.lines.proofs.Numbers.{digits_more, number_more, four_bits, sixty_four}
use Rattle.lines.proofs.number.leading.Goals as goal

small : (c : goal.In-Some) → c.loop-i.n * c.args.base + c.in-Some.d < 2 ^ (4 * (c.loop-i.i + 1))
small c = four_bits c.loop-i.n c.args.base c.in-Some.d c.loop-i.i c.loop-i.invariant.2 c.in-Some.ensures.1 c.requires.base

room : (c : goal.In-Some) → c.loop-i.n * c.args.base + c.in-Some.d < 2 ^ 64
room c = omega (arith, small c, sixty_four c.loop-i.i (omega arith))

pub overflow_mul-n : goal.overflow_mul-n
overflow_mul-n c = omega (arith, room c)

pub overflow_add-n : goal.overflow_add-n
overflow_add-n c = omega (arith, room c)

pub loop-i-preserved : goal.loop-i-preserved
loop-i-preserved c =
    let bs = c.args.bytes.now in
    let i = c.loop-i.i in
    let h = c.in-Some.ensures in
    let d = digits_more c.args.base bs i c.loop-i-test.true c.loop-i.invariant.0 (subst (λ (d : ℕ). d < c.args.base) h.0 h.1) in
    let n = number_more c.args.base bs i c.loop-i-test.true in
    let far = c.loop-i.invariant.1 in
    (d, cc (n, far, h.0), small c)
