use Rattle.std.proofs.Common.{arith}
use Rattle.words.proofs.Laws.{le_at-eight}
use Rattle.words.proofs.U64Word.load.Goals as goal

pub returns : goal.returns
returns c = rw (c.from_le_bytes.ensures, le_at-eight) (omega arith)
