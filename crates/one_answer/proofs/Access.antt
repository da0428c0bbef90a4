-- One answer: crate `access`.
use mathlib.Core.Path.{sym, ◌∙◌}
use Rattle.one_answer.specs.OneAnswer.{OneAnswer}
use Rattle.one_answer.proofs.Both.{both}
use Rattle.access.proofs as code

pub perform : OneAnswer code.perform.Kinds.ps code.perform.Kinds.r code.perform.Reads.Post
perform κs a z z' ws ws' p q = (p.0 ∙ sym q.0, both (λ u v. (u, (tt, (tt, (tt, (v, tt)))))) (p.1.0 ∙ sym q.1.0) (p.1.1 ∙ sym q.1.1))
