-- One answer: crate `replies`.
use mathlib.Core.Path.{refl, sym, ◌∙◌}
use Rattle.one_answer.specs.OneAnswer.{OneAnswer}
use Rattle.replies.proofs as code

pub at : OneAnswer code.at.Kinds.ps code.at.Kinds.r code.at.Reads.Post
at κs a z z' ws ws' p q = (p ∙ sym q, refl)

pub reply : OneAnswer code.reply.Kinds.ps code.reply.Kinds.r code.reply.Reads.Post
reply κs a z z' ws ws' p q = (p ∙ sym q, refl)

pub named : OneAnswer code.named.Kinds.ps code.named.Kinds.r code.named.Reads.Post
named κs a z z' ws ws' p q = (p ∙ sym q, refl)

pub begins : OneAnswer code.begins.Kinds.ps code.begins.Kinds.r code.begins.Reads.Post
begins κs a z z' ws ws' p q = (p ∙ sym q, refl)

pub rouses : OneAnswer code.rouses.Kinds.ps code.rouses.Kinds.r code.rouses.Reads.Post
rouses κs a z z' ws ws' p q = (p ∙ sym q, refl)
