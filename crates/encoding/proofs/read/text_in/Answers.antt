use Rattle.std.proofs.Common.{arith}
use Rattle.encoding.proofs.Begins.{word_is, text_is}
use Rattle.encoding.proofs.read.text_in.Goals as goal

pub returns : goal.returns
returns c =
    let s = c.args.bytes.now in
    let t = c.in_ok-length.rest.now in
    let n = c.from_le_bytes.result in
    let a = c.in_ok-length.ensures.cases in
    let bytes = c.type_inv.bytes in
    text_is s t n c.from_le_bytes.type_inv (word_is s c.in_ok-length.length.now t n (λ i. omega (arith, bytes i)) (omega (arith, a.2)) a.0 a.1 c.from_le_bytes.ensures) c.get.result c.get.ensures.lookup.0
