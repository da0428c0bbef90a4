-- One answer: crate `create`.
use mathlib.Core.Path.{sym, ◌∙◌, ap}
use Rattle.one_answer.specs.OneAnswer.{OneAnswer}
use Rattle.types.proofs.Outcomes.{answered-one}
use Rattle.create.proofs as code

pub create : OneAnswer code.create.Kinds.ps code.create.Kinds.r code.create.Reads.Post
create κs a z z' ws ws' p q = (answered-one z z' (p.0 ∙ sym q.0), ap (λ v. (v, (tt, (tt, (tt, (tt, tt)))))) (p.1 ∙ sym q.1))
