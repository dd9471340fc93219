use Rattle.encoding.proofs.answer.put_texted.Goals as goal

pub returns-in-Err : goal.returns-in-Err
returns-in-Err c = simp (c.put-in-Err.ensures, c.in-Err.is, c.number.ensures, c.refusal.ensures, c.to_le_bytes-in-Err.ensures, c.low_byte.ensures, c.to_le_bytes-in-Err-2.ensures, c.spot-spot.ensures)
