-- One answer: crate `records`.
use mathlib.Core.Path.{refl, sym, ◌∙◌}
use Rattle.one_answer.specs.OneAnswer.{OneAnswer}
use Rattle.records.proofs as code

pub action-of : OneAnswer code.action_of.Kinds.ps code.action_of.Kinds.r code.action_of.Reads.Post
action-of κs a z z' ws ws' p q = (p ∙ sym q, refl)

pub side-of : OneAnswer code.side_of.Kinds.ps code.side_of.Kinds.r code.side_of.Reads.Post
side-of κs a z z' ws ws' p q = (p ∙ sym q, refl)

pub record-move-asked : OneAnswer code.Record.move_asked.Kinds.ps code.Record.move_asked.Kinds.r code.Record.move_asked.Reads.Post
record-move-asked κs a z z' ws ws' p q = (p ∙ sym q, refl)

pub record-asked-at : OneAnswer code.Record.asked_at.Kinds.ps code.Record.asked_at.Kinds.r code.Record.asked_at.Reads.Post
record-asked-at κs a z z' ws ws' p q = (p ∙ sym q, refl)

pub asked_in : OneAnswer code.asked_in.Kinds.ps code.asked_in.Kinds.r code.asked_in.Reads.Post
asked_in κs a z z' ws ws' p q = (p ∙ sym q, refl)
