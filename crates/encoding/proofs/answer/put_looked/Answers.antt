use Rattle.encoding.proofs.answer.put_looked.Goals as goal

pub returns-in-Ok : goal.returns-in-Ok
returns-in-Ok c = simp (c.put.ensures, c.in-Ok.is, c.to_le_bytes.ensures, c.frame_bytes.ensures)
