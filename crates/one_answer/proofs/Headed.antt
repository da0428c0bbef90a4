-- One answer: crate `headed`.
use mathlib.Core.Path.{refl, sym, ◌∙◌, ap}
use Rattle.one_answer.specs.OneAnswer.{OneAnswer}
use Rattle.headed.proofs as code

pub write-header : OneAnswer code.write_header.Kinds.ps code.write_header.Kinds.r code.write_header.Reads.Post
write-header κs a z z' ws ws' p q = (refl, ap (λ v. (v, (tt, (tt, (tt, (tt, (tt, tt))))))) (p ∙ sym q))
