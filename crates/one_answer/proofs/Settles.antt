-- One answer: crate `settles`.
use mathlib.Core.Path.{refl, sym, ◌∙◌}
use Rattle.one_answer.specs.OneAnswer.{OneAnswer}
use Rattle.settles.proofs as code

pub spurious : OneAnswer code.spurious.Kinds.ps code.spurious.Kinds.r code.spurious.Reads.Post
spurious κs a z z' ws ws' p q = (p ∙ sym q, refl)

pub time-out : OneAnswer code.time_out.Kinds.ps code.time_out.Kinds.r code.time_out.Reads.Post
time-out κs a z z' ws ws' p q = (p ∙ sym q, refl)

pub push : OneAnswer code.push.Kinds.ps code.push.Kinds.r code.push.Reads.Post
push κs a z z' ws ws' p q = (p ∙ sym q, refl)

pub pop : OneAnswer code.pop.Kinds.ps code.pop.Kinds.r code.pop.Reads.Post
pop κs a z z' ws ws' p q = (p ∙ sym q, refl)

pub close : OneAnswer code.close.Kinds.ps code.close.Kinds.r code.close.Reads.Post
close κs a z z' ws ws' p q = (p ∙ sym q, refl)

pub shutdown : OneAnswer code.shutdown.Kinds.ps code.shutdown.Kinds.r code.shutdown.Reads.Post
shutdown κs a z z' ws ws' p q = (p ∙ sym q, refl)
