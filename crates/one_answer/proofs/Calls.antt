-- One answer: crate `calls`.
use mathlib.Core.Path.{refl, sym, ◌∙◌}
use Rattle.one_answer.specs.OneAnswer.{OneAnswer}
use Rattle.calls.proofs as code

pub begin-push : OneAnswer code.begin_push.Kinds.ps code.begin_push.Kinds.r code.begin_push.Reads.Post
begin-push κs a z z' ws ws' p q = (p ∙ sym q, refl)

pub begin-pop : OneAnswer code.begin_pop.Kinds.ps code.begin_pop.Kinds.r code.begin_pop.Reads.Post
begin-pop κs a z z' ws ws' p q = (p ∙ sym q, refl)

pub begin-close : OneAnswer code.begin_close.Kinds.ps code.begin_close.Kinds.r code.begin_close.Reads.Post
begin-close κs a z z' ws ws' p q = (p ∙ sym q, refl)

pub begin-shutdown : OneAnswer code.begin_shutdown.Kinds.ps code.begin_shutdown.Kinds.r code.begin_shutdown.Reads.Post
begin-shutdown κs a z z' ws ws' p q = (p ∙ sym q, refl)

pub spurious : OneAnswer code.spurious.Kinds.ps code.spurious.Kinds.r code.spurious.Reads.Post
spurious κs a z z' ws ws' p q = (p ∙ sym q, refl)

pub time-out : OneAnswer code.time_out.Kinds.ps code.time_out.Kinds.r code.time_out.Reads.Post
time-out κs a z z' ws ws' p q = (p ∙ sym q, refl)
