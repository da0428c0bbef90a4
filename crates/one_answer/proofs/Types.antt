-- One answer: crate `types`.
use mathlib.Core.Path.{refl, sym, ◌∙◌}
use Rattle.one_answer.specs.OneAnswer.{OneAnswer}
use Rattle.types.proofs as code

pub told-from-answer : OneAnswer code.ToldFromAnswer.from.Kinds.ps code.ToldFromAnswer.from.Kinds.r code.ToldFromAnswer.from.Reads.Post
told-from-answer κs a z z' ws ws' p q = (p ∙ sym q, refl)

pub answer-from-refusal : OneAnswer code.AnswerFromRefusal.from.Kinds.ps code.AnswerFromRefusal.from.Kinds.r code.AnswerFromRefusal.from.Reads.Post
answer-from-refusal κs a z z' ws ws' p q = (p ∙ sym q, refl)

pub answer-from-outcome : OneAnswer code.AnswerFromResultUnitRefusal.from.Kinds.ps code.AnswerFromResultUnitRefusal.from.Kinds.r code.AnswerFromResultUnitRefusal.from.Reads.Post
answer-from-outcome κs a z z' ws ws' p q = (p ∙ sym q, refl)

pub refusal-unless : OneAnswer code.Refusal.unless.Kinds.ps code.Refusal.unless.Kinds.r code.Refusal.unless.Reads.Post
refusal-unless κs a z z' ws ws' p q = (p ∙ sym q, refl)
