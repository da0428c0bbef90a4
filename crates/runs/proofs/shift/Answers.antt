use borrow.Author.Rules.{rules}
use Rattle.words.proofs.Sets.{sets-front, length_part}
use Rattle.runs.proofs.shift.Goals as goal

pub returns : goal.returns
returns c =
    let a = c.args in
    search (rules, sets-front, length_part a.s.now a.at a.count c.requires)
