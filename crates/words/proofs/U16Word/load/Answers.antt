use Rattle.std.proofs.Common.{arith}
use Rattle.words.proofs.Laws.{le_at-two}
use Rattle.words.proofs.U16Word.load.Goals as goal

pub returns : goal.returns
returns c = rw (c.from_le_bytes.ensures, le_at-two) (omega arith)
