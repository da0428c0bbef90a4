-- One answer: crate `copies`.
use mathlib.Core.Path.{refl, sym, ◌∙◌, ap}
use Rattle.one_answer.specs.OneAnswer.{OneAnswer}
use Rattle.copies.proofs as code

pub write-slot : OneAnswer code.write_slot.Kinds.ps code.write_slot.Kinds.r code.write_slot.Reads.Post
write-slot κs a z z' ws ws' p q = (refl, ap (λ v. (v, (tt, (tt, (tt, (tt, tt)))))) (p ∙ sym q))

pub read-slot : OneAnswer code.read_slot.Kinds.ps code.read_slot.Kinds.r code.read_slot.Reads.Post
read-slot κs a z z' ws ws' p q = (p.0 ∙ sym q.0, ap (λ v. (tt, (tt, (tt, (tt, (v, tt)))))) (p.1 ∙ sym q.1))
