-- One answer: crate `sums`.
use mathlib.Core.Path.{refl, sym, ◌∙◌}
use Rattle.one_answer.specs.OneAnswer.{OneAnswer}
use Rattle.sums.proofs as code

pub party-word : OneAnswer code.party_word.Kinds.ps code.party_word.Kinds.r code.party_word.Reads.Post
party-word κs a z z' ws ws' p q = (p ∙ sym q, refl)

pub told-word : OneAnswer code.told_word.Kinds.ps code.told_word.Kinds.r code.told_word.Reads.Post
told-word κs a z z' ws ws' p q = (p ∙ sym q, refl)

pub bytes_word : OneAnswer code.bytes_word.Kinds.ps code.bytes_word.Kinds.r code.bytes_word.Reads.Post
bytes_word κs a z z' ws ws' p q = (p ∙ sym q, refl)

pub came-sum : OneAnswer code.came_sum.Kinds.ps code.came_sum.Kinds.r code.came_sum.Reads.Post
came-sum κs a z z' ws ws' p q = (p ∙ sym q, refl)
