-- One answer: crate `moves`.
use mathlib.Core.Path.{refl, sym, ◌∙◌}
use Rattle.one_answer.specs.OneAnswer.{OneAnswer}
use Rattle.moves.proofs as code

pub move_at : OneAnswer code.move_at.Kinds.ps code.move_at.Kinds.r code.move_at.Reads.Post
move_at κs a z z' ws ws' p q = (p ∙ sym q, refl)
