use Rattle.std.proofs.Common.{arith}
use Rattle.encoding.proofs.Begins.{frame_is}
use Rattle.encoding.proofs.words.frame_in.Goals as goal

pub returns : goal.returns
returns c =
    let bytes = c.type_inv.bytes in
    let a = c.in_ok-number.ensures.cases in
    let b = c.in_ok-marks.ensures.cases in
    let d = c.in_ok-look.ensures.cases in
    frame_is c.args.bytes.now c.in_ok-number.number.now c.in_ok-number.rest.now c.in_ok-marks.marks.now c.in_ok-marks.rest.now c.in_ok-look.field-0.now c.from_le_bytes.result c.from_le_bytes-2.result (λ i. omega (arith, bytes i)) a.0 a.1 a.2 b.0 b.1 b.2 d.same d.enough c.from_le_bytes.ensures c.from_le_bytes-2.ensures c.from_le_bytes.type_inv c.from_le_bytes-2.type_inv
