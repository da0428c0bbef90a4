-- One answer: crate `checks`.
use mathlib.Core.Path.{refl, sym, ◌∙◌}
use Rattle.one_answer.specs.OneAnswer.{OneAnswer}
use Rattle.types.proofs.Outcomes.{answered-one}
use Rattle.checks.proofs as code

pub check : OneAnswer code.check.Kinds.ps code.check.Kinds.r code.check.Reads.Post
check κs a z z' ws ws' p q = (answered-one z z' (p ∙ sym q), refl)
