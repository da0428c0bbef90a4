-- One answer: crate `slots`.
use mathlib.Core.Path.{refl, sym, ◌∙◌, ap}
use Rattle.one_answer.specs.OneAnswer.{OneAnswer}
use Rattle.slots.proofs as code

pub read_head : OneAnswer code.read_head.Kinds.ps code.read_head.Kinds.r code.read_head.Reads.Post
read_head κs a z z' ws ws' p q = (p ∙ sym q, refl)

pub head_at : OneAnswer code.head_at.Kinds.ps code.head_at.Kinds.r code.head_at.Reads.Post
head_at κs a z z' ws ws' p q = (p ∙ sym q, refl)

pub head_of : OneAnswer code.head_of.Kinds.ps code.head_of.Kinds.r code.head_of.Reads.Post
head_of κs a z z' ws ws' p q = (p ∙ sym q, refl)

pub read-payload : OneAnswer code.read_payload.Kinds.ps code.read_payload.Kinds.r code.read_payload.Reads.Post
read-payload κs a z z' ws ws' p q = (refl, ap (λ v. (tt, (tt, (v, tt)))) (p ∙ sym q))

pub payload-at : OneAnswer code.payload_at.Kinds.ps code.payload_at.Kinds.r code.payload_at.Reads.Post
payload-at κs a z z' ws ws' p q = (refl, ap (λ v. (tt, (tt, (tt, (tt, (v, tt)))))) (p ∙ sym q))
