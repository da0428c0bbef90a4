-- One answer: crate `wakes`.
use mathlib.Core.Path.{refl, sym, ◌∙◌}
use Rattle.one_answer.specs.OneAnswer.{OneAnswer}
use Rattle.wakes.proofs as code

pub woke-of : OneAnswer code.woke_of.Kinds.ps code.woke_of.Kinds.r code.woke_of.Reads.Post
woke-of κs a z z' ws ws' p q = (p ∙ sym q, refl)

pub wakened : OneAnswer code.wakened.Kinds.ps code.wakened.Kinds.r code.wakened.Reads.Post
wakened κs a z z' ws ws' p q = (p ∙ sym q, refl)
