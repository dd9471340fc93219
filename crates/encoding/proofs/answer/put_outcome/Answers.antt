use Rattle.encoding.proofs.answer.put_outcome.Goals as goal

pub returns-in-Swapped : goal.returns-in-Swapped
returns-in-Swapped c = simp (c.put-in-Swapped.ensures, c.in-Swapped.is, c.low_byte-in-Swapped.ensures, c.to_le_bytes-in-Swapped.ensures, c.frame_bytes.ensures)

pub returns-in-Light : goal.returns-in-Light
returns-in-Light c = simp (c.put-in-Light.ensures, c.in-Light.is, c.low_byte-in-Light.ensures, c.to_le_bytes-gain.ensures, c.to_le_bytes-lost_to.ensures)
