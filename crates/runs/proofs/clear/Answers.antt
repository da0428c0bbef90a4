use borrow.Author.Rules.{rules}
use Rattle.words.proofs.Sets.{sets-front}
use Rattle.runs.proofs.clear.Goals as goal

pub returns : goal.returns
returns c = search (rules, sets-front, c.fill.ensures.after (λ y e. e))
