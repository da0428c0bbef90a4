-- One answer: crate `sound`.
use mathlib.Core.Path.{refl, sym, ◌∙◌}
use Rattle.one_answer.specs.OneAnswer.{OneAnswer}
use Rattle.sound.proofs as code

pub stance-of : OneAnswer code.stance_of.Kinds.ps code.stance_of.Kinds.r code.stance_of.Reads.Post
stance-of κs a z z' ws ws' p q = (p ∙ sym q, refl)

pub length-ok : OneAnswer code.length_ok.Kinds.ps code.length_ok.Kinds.r code.length_ok.Reads.Post
length-ok κs a z z' ws ws' p q = (p ∙ sym q, refl)

pub sound : OneAnswer code.sound.Kinds.ps code.sound.Kinds.r code.sound.Reads.Post
sound κs a z z' ws ws' p q = (p ∙ sym q, refl)

pub ready : OneAnswer code.ready.Kinds.ps code.ready.Kinds.r code.ready.Reads.Post
ready κs a z z' ws ws' p q = (p ∙ sym q, refl)

pub sleeps : OneAnswer code.sleeps.Kinds.ps code.sleeps.Kinds.r code.sleeps.Reads.Post
sleeps κs a z z' ws ws' p q = (p ∙ sym q, refl)
