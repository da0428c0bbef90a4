-- One answer: crate `take`.
use mathlib.Core.Path.{refl, sym, ◌∙◌}
use Rattle.one_answer.specs.OneAnswer.{OneAnswer}
use Rattle.take.proofs as code

pub step_after : OneAnswer code.step_after.Kinds.ps code.step_after.Kinds.r code.step_after.Reads.Post
step_after κs a z z' ws ws' p q = (p ∙ sym q, refl)

pub answer-of : OneAnswer code.answer_of.Kinds.ps code.answer_of.Kinds.r code.answer_of.Reads.Post
answer-of κs a z z' ws ws' p q = (p ∙ sym q, refl)

pub counter-after : OneAnswer code.counter_after.Kinds.ps code.counter_after.Kinds.r code.counter_after.Reads.Post
counter-after κs a z z' ws ws' p q = (p ∙ sym q, refl)

pub closed_after : OneAnswer code.closed_after.Kinds.ps code.closed_after.Kinds.r code.closed_after.Reads.Post
closed_after κs a z z' ws ws' p q = (p ∙ sym q, refl)

pub take : OneAnswer code.take.Kinds.ps code.take.Kinds.r code.take.Reads.Post
take κs a z z' ws ws' p q = (p ∙ sym q, refl)
