-- One answer: crate `stores`.
use mathlib.Core.Path.{refl, sym, ◌∙◌, ap}
use Rattle.one_answer.specs.OneAnswer.{OneAnswer}
use Rattle.stores.proofs as code

pub publish : OneAnswer code.publish.Kinds.ps code.publish.Kinds.r code.publish.Reads.Post
publish κs a z z' ws ws' p q = (refl, ap (λ v. (v, (tt, (tt, tt)))) (p ∙ sym q))

pub raise : OneAnswer code.raise.Kinds.ps code.raise.Kinds.r code.raise.Reads.Post
raise κs a z z' ws ws' p q = (refl, ap (λ v. (v, (tt, tt))) (p ∙ sym q))

pub set-flag : OneAnswer code.set_flag.Kinds.ps code.set_flag.Kinds.r code.set_flag.Reads.Post
set-flag κs a z z' ws ws' p q = (refl, ap (λ v. (v, (tt, tt))) (p ∙ sym q))
