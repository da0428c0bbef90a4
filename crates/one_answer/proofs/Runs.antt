-- One answer: crate `runs`.
use mathlib.Core.Path.{refl, sym, ◌∙◌, ap}
use Rattle.one_answer.specs.OneAnswer.{OneAnswer}
use Rattle.runs.proofs as code

pub copy-in : OneAnswer code.copy_in.Kinds.ps code.copy_in.Kinds.r code.copy_in.Reads.Post
copy-in κs a z z' ws ws' p q = (refl, ap (λ v. (v, (tt, (tt, tt)))) (p ∙ sym q))

pub copy-out : OneAnswer code.copy_out.Kinds.ps code.copy_out.Kinds.r code.copy_out.Reads.Post
copy-out κs a z z' ws ws' p q = (refl, ap (λ v. (tt, (tt, (tt, (v, tt))))) (p ∙ sym q))

pub shift : OneAnswer code.shift.Kinds.ps code.shift.Kinds.r code.shift.Reads.Post
shift κs a z z' ws ws' p q = (refl, ap (λ v. (v, (tt, (tt, tt)))) (p ∙ sym q))

pub clear : OneAnswer code.clear.Kinds.ps code.clear.Kinds.r code.clear.Reads.Post
clear κs a z z' ws ws' p q = (refl, ap (λ v. (v, (tt, tt))) (p ∙ sym q))
