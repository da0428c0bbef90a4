-- One answer: crate `rooms`.
use mathlib.Core.Path.{refl, sym, ◌∙◌}
use Rattle.one_answer.specs.OneAnswer.{OneAnswer}
use Rattle.rooms.proofs as code

pub room-with : OneAnswer code.room_with.Kinds.ps code.room_with.Kinds.r code.room_with.Reads.Post
room-with κs a z z' ws ws' p q = (p ∙ sym q, refl)

pub room_of : OneAnswer code.room_of.Kinds.ps code.room_of.Kinds.r code.room_of.Reads.Post
room_of κs a z z' ws ws' p q = (p ∙ sym q, refl)

pub was-blocked : OneAnswer code.was_blocked.Kinds.ps code.was_blocked.Kinds.r code.was_blocked.Reads.Post
was-blocked κs a z z' ws ws' p q = (p ∙ sym q, refl)
