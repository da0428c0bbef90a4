-- One answer: crate `grounds`.
use mathlib.Core.Path.{refl, sym, ◌∙◌}
use Rattle.one_answer.specs.OneAnswer.{OneAnswer}
use Rattle.grounds.proofs as code

pub error-of : OneAnswer code.error_of.Kinds.ps code.error_of.Kinds.r code.error_of.Reads.Post
error-of κs a z z' ws ws' p q = (p ∙ sym q, refl)

pub goes : OneAnswer code.goes.Kinds.ps code.goes.Kinds.r code.goes.Reads.Post
goes κs a z z' ws ws' p q = (p ∙ sym q, refl)
