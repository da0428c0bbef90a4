-- One answer: crate `next`.
use mathlib.Core.Path.{refl, sym, ◌∙◌}
use Rattle.one_answer.specs.OneAnswer.{OneAnswer}
use Rattle.next.proofs as code

pub slot-access : OneAnswer code.slot_access.Kinds.ps code.slot_access.Kinds.r code.slot_access.Reads.Post
slot-access κs a z z' ws ws' p q = (p ∙ sym q, refl)

pub next : OneAnswer code.next.Kinds.ps code.next.Kinds.r code.next.Reads.Post
next κs a z z' ws ws' p q = (p ∙ sym q, refl)
