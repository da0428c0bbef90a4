use Rattle.std.proofs.Common.{arith}
use Rattle.words.specs.Le.{le_at}
use Rattle.words.proofs.U8Word.load.Goals as goal

pub returns : goal.returns
unfolding le_at
returns c = omega arith
