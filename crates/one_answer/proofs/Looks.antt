-- One answer: crate `looks`.
use mathlib.Core.Path.{refl, sym, ◌∙◌}
use Rattle.one_answer.specs.OneAnswer.{OneAnswer}
use Rattle.looks.proofs as code

pub door-of : OneAnswer code.door_of.Kinds.ps code.door_of.Kinds.r code.door_of.Reads.Post
door-of κs a z z' ws ws' p q = (p ∙ sym q, refl)

pub fit_of : OneAnswer code.fit_of.Kinds.ps code.fit_of.Kinds.r code.fit_of.Reads.Post
fit_of κs a z z' ws ws' p q = (p ∙ sym q, refl)

pub nap-of : OneAnswer code.nap_of.Kinds.ps code.nap_of.Kinds.r code.nap_of.Reads.Post
nap-of κs a z z' ws ws' p q = (p ∙ sym q, refl)
