-- One answer: crate `steps`.
use mathlib.Core.Path.{refl, sym, ◌∙◌}
use Rattle.one_answer.specs.OneAnswer.{OneAnswer}
use Rattle.steps.proofs as code

pub room-here : OneAnswer code.room_here.Kinds.ps code.room_here.Kinds.r code.room_here.Reads.Post
room-here κs a z z' ws ws' p q = (p ∙ sym q, refl)

pub room-move : OneAnswer code.room_move.Kinds.ps code.room_move.Kinds.r code.room_move.Reads.Post
room-move κs a z z' ws ws' p q = (p ∙ sym q, refl)

pub goes-or-ends : OneAnswer code.goes_or_ends.Kinds.ps code.goes_or_ends.Kinds.r code.goes_or_ends.Reads.Post
goes-or-ends κs a z z' ws ws' p q = (p ∙ sym q, refl)

pub blocked-move : OneAnswer code.blocked_move.Kinds.ps code.blocked_move.Kinds.r code.blocked_move.Reads.Post
blocked-move κs a z z' ws ws' p q = (p ∙ sym q, refl)

pub look-move : OneAnswer code.look_move.Kinds.ps code.look_move.Kinds.r code.look_move.Reads.Post
look-move κs a z z' ws ws' p q = (p ∙ sym q, refl)

pub fit-move : OneAnswer code.fit_move.Kinds.ps code.fit_move.Kinds.r code.fit_move.Reads.Post
fit-move κs a z z' ws ws' p q = (p ∙ sym q, refl)

pub copy-with : OneAnswer code.copy_with.Kinds.ps code.copy_with.Kinds.r code.copy_with.Reads.Post
copy-with κs a z z' ws ws' p q = (p ∙ sym q, refl)

pub copy-move : OneAnswer code.copy_move.Kinds.ps code.copy_move.Kinds.r code.copy_move.Reads.Post
copy-move κs a z z' ws ws' p q = (p ∙ sym q, refl)

pub publish-move : OneAnswer code.publish_move.Kinds.ps code.publish_move.Kinds.r code.publish_move.Reads.Post
publish-move κs a z z' ws ws' p q = (p ∙ sym q, refl)

pub check-move : OneAnswer code.check_move.Kinds.ps code.check_move.Kinds.r code.check_move.Reads.Post
check-move κs a z z' ws ws' p q = (p ∙ sym q, refl)

pub unless-failed : OneAnswer code.unless_failed.Kinds.ps code.unless_failed.Kinds.r code.unless_failed.Reads.Post
unless-failed κs a z z' ws ws' p q = (p ∙ sym q, refl)

pub wake-move : OneAnswer code.wake_move.Kinds.ps code.wake_move.Kinds.r code.wake_move.Reads.Post
wake-move κs a z z' ws ws' p q = (p ∙ sym q, refl)
