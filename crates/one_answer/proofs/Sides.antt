-- One answer: crate `sides`.
use mathlib.Core.Path.{refl, sym, ◌∙◌}
use Rattle.one_answer.specs.OneAnswer.{OneAnswer}
use Rattle.sides.proofs as code

pub other : OneAnswer code.other.Kinds.ps code.other.Kinds.r code.other.Reads.Post
other κs a z z' ws ws' p q = (p ∙ sym q, refl)

pub used : OneAnswer code.used.Kinds.ps code.used.Kinds.r code.used.Reads.Post
used κs a z z' ws ws' p q = (p ∙ sym q, refl)

pub limit : OneAnswer code.limit.Kinds.ps code.limit.Kinds.r code.limit.Reads.Post
limit κs a z z' ws ws' p q = (p ∙ sym q, refl)

pub blocked-answer : OneAnswer code.blocked_answer.Kinds.ps code.blocked_answer.Kinds.r code.blocked_answer.Reads.Post
blocked-answer κs a z z' ws ws' p q = (p ∙ sym q, refl)

pub ring-bell : OneAnswer code.ring_bell.Kinds.ps code.ring_bell.Kinds.r code.ring_bell.Reads.Post
ring-bell κs a z z' ws ws' p q = (p ∙ sym q, refl)

pub sleep-bell : OneAnswer code.sleep_bell.Kinds.ps code.sleep_bell.Kinds.r code.sleep_bell.Reads.Post
sleep-bell κs a z z' ws ws' p q = (p ∙ sym q, refl)

pub rings : OneAnswer code.rings.Kinds.ps code.rings.Kinds.r code.rings.Reads.Post
rings κs a z z' ws ws' p q = (p ∙ sym q, refl)

pub wait-op : OneAnswer code.wait_op.Kinds.ps code.wait_op.Kinds.r code.wait_op.Reads.Post
wait-op κs a z z' ws ws' p q = (p ∙ sym q, refl)

pub wake-op : OneAnswer code.wake_op.Kinds.ps code.wake_op.Kinds.r code.wake_op.Reads.Post
wake-op κs a z z' ws ws' p q = (p ∙ sym q, refl)
