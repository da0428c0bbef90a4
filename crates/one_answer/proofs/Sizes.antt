-- One answer: crate `sizes`.
use mathlib.Core.Path.{refl, sym, ◌∙◌}
use Rattle.one_answer.specs.OneAnswer.{OneAnswer}
use Rattle.sizes.proofs as code

pub power-ok : OneAnswer code.power_ok.Kinds.ps code.power_ok.Kinds.r code.power_ok.Reads.Post
power-ok κs a z z' ws ws' p q = (p ∙ sym q, refl)

pub slot_ok : OneAnswer code.slot_ok.Kinds.ps code.slot_ok.Kinds.r code.slot_ok.Reads.Post
slot_ok κs a z z' ws ws' p q = (p ∙ sym q, refl)

pub spins-ok : OneAnswer code.spins_ok.Kinds.ps code.spins_ok.Kinds.r code.spins_ok.Reads.Post
spins-ok κs a z z' ws ws' p q = (p ∙ sym q, refl)

pub capacity : OneAnswer code.capacity.Kinds.ps code.capacity.Kinds.r code.capacity.Reads.Post
capacity κs a z z' ws ws' p q = (p ∙ sym q, refl)

pub payload-capacity : OneAnswer code.payload_capacity.Kinds.ps code.payload_capacity.Kinds.r code.payload_capacity.Reads.Post
payload-capacity κs a z z' ws ws' p q = (p ∙ sym q, refl)

pub ring-bytes : OneAnswer code.ring_bytes.Kinds.ps code.ring_bytes.Kinds.r code.ring_bytes.Reads.Post
ring-bytes κs a z z' ws ws' p q = (p ∙ sym q, refl)

pub total-bytes : OneAnswer code.total_bytes.Kinds.ps code.total_bytes.Kinds.r code.total_bytes.Reads.Post
total-bytes κs a z z' ws ws' p q = (p ∙ sym q, refl)

pub slot_at : OneAnswer code.slot_at.Kinds.ps code.slot_at.Kinds.r code.slot_at.Reads.Post
slot_at κs a z z' ws ws' p q = (p ∙ sym q, refl)
