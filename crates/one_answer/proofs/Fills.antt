-- One answer: crate `fills`.
use mathlib.Core.Path.{refl, sym, ◌∙◌, ap}
use Rattle.one_answer.specs.OneAnswer.{OneAnswer}
use Rattle.fills.proofs as code

pub write : OneAnswer code.write.Kinds.ps code.write.Kinds.r code.write.Reads.Post
write κs a z z' ws ws' p q = (refl, ap (λ v. (v, (tt, (tt, tt)))) (p ∙ sym q))

pub write-at : OneAnswer code.write_at.Kinds.ps code.write_at.Kinds.r code.write_at.Reads.Post
write-at κs a z z' ws ws' p q = (refl, ap (λ v. (v, (tt, (tt, (tt, (tt, tt)))))) (p ∙ sym q))
