-- One answer: crate `scans`.
use mathlib.Core.Path.{refl, sym, ◌∙◌}
use Rattle.one_answer.specs.OneAnswer.{OneAnswer}
use Rattle.scans.proofs as code

pub all-zero : OneAnswer code.all_zero.Kinds.ps code.all_zero.Kinds.r code.all_zero.Reads.Post
all-zero κs a z z' ws ws' p q = (p ∙ sym q, refl)

pub same_bytes : OneAnswer code.same_bytes.Kinds.ps code.same_bytes.Kinds.r code.same_bytes.Reads.Post
same_bytes κs a z z' ws ws' p q = (p ∙ sym q, refl)
