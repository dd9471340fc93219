use Rattle.encoding.proofs.answer.put_counted.Goals as goal

pub returns : goal.returns
returns c = simp (c.put.ensures, c.to_le_bytes.ensures, c.to_le_bytes-2.ensures, c.to_le_bytes-3.ensures, c.to_le_bytes-4.ensures, c.to_le_bytes-5.ensures, c.to_le_bytes-6.ensures)
