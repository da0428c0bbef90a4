use Rattle.std.proofs.Common.{eqb, sym, ◌∙◌, rules, tests}
use native.Mathlib.Nat.{add-sub_cancel_left}
use Rattle.std.proofs.lemmas.Iterator.{YieldsList-from_slice}
use Rattle.std.proofs.lemmas.Iterator.Search.{all_from_yields_List}
use Rattle.words.specs.Bytes.{part}
use Rattle.scans.proofs.Parts.{zeros-part}
use Rattle.scans.proofs.zero_bytes.Goals as goal

pub returns : goal.returns
returns c =
    let a = c.args in
    all_from_yields_List (λ b. eqb b 0) _ _ _ c.all.ensures.ran (YieldsList-from_slice (part a.s.now a.at a.count) (search (rules, add-sub_cancel_left))) (λ x b q k. search (rules, tests))
    ∙ sym (zeros-part a.s.now a.count a.at c.requires)
