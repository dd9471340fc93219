use Rattle.std.proofs.Common.{drop, refl, arith}
use Rattle.encoding.proofs.Begins.{word_is}
use Rattle.encoding.proofs.words.u32_in.Goals as goal

pub returns : goal.returns
returns c =
    let s = c.args.bytes.now in
    let first = c.in_ok-word.ensures.cases in
    let bytes = c.type_inv.bytes in
    let n = c.from_le_bytes.result in
    (drop 4 s, c.from_le_bytes.type_inv, word_is s c.in_ok-word.word.now (drop 4 s) n (λ i. omega (arith, bytes i)) first.enough first.same refl c.from_le_bytes.ensures)
