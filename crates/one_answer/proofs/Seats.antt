-- One answer: crate `seats`.
use mathlib.Core.Path.{refl, sym, ◌∙◌}
use Rattle.one_answer.specs.OneAnswer.{OneAnswer}
use Rattle.seats.proofs as code

pub party-of : OneAnswer code.party_of.Kinds.ps code.party_of.Kinds.r code.party_of.Reads.Post
party-of κs a z z' ws ws' p q = (p ∙ sym q, refl)

pub seat : OneAnswer code.seat.Kinds.ps code.seat.Kinds.r code.seat.Reads.Post
seat κs a z z' ws ws' p q = (p ∙ sym q, refl)

pub settled : OneAnswer code.settled.Kinds.ps code.settled.Kinds.r code.settled.Reads.Post
settled κs a z z' ws ws' p q = (p ∙ sym q, refl)

pub turned : OneAnswer code.turned.Kinds.ps code.turned.Kinds.r code.turned.Reads.Post
turned κs a z z' ws ws' p q = (p ∙ sym q, refl)
