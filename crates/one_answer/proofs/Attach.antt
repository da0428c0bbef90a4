-- One answer: crate `attach`.
use mathlib.Core.Path.{sym, ◌∙◌, ap}
use Rattle.one_answer.specs.OneAnswer.{OneAnswer}
use Rattle.attach.proofs as code

pub attach : OneAnswer code.attach.Kinds.ps code.attach.Kinds.r code.attach.Reads.Post
attach κs a z z' ws ws' p q = (p.0 ∙ sym q.0, ap (λ v. (v, (tt, (tt, tt)))) (p.1 ∙ sym q.1))
