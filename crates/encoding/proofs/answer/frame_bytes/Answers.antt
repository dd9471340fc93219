use Rattle.encoding.specs.Answers.{placed}
use Rattle.encoding.proofs.answer.frame_bytes.Goals as goal

pub returns : goal.returns
unfolding placed
returns c = simp (c.put.ensures, c.to_le_bytes.ensures, c.to_le_bytes-2.ensures)
