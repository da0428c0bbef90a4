use Rattle.std.proofs.Common.{◌+◌, add-zero, ◌*◌, eqb, arith, refl, ◌∙◌, rules, tests}
use Rattle.std.proofs.lemmas.Iterator.{YieldsList-from_range}
use Rattle.std.proofs.lemmas.Iterator.Search.{all_from_yields_List}
use Rattle.words.specs.Le.{le_at}
use Rattle.scans.proofs.Parts.{zeros-words}
use Rattle.scans.proofs.zero_words.Goals as goal

pub returns : goal.returns
returns c =
    let a = c.args in
    all_from_yields_List (λ k. eqb (le_at 8 a.s.now (a.at + 8 * k)) 0) _ _ _ c.all.ensures.ran (YieldsList-from_range 0 a.count a.count refl (omega arith)) (λ x b q k. search (rules, tests))
    ∙ rw add-zero at (zeros-words 8 a.s.now a.at 0 a.count)
