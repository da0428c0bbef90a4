-- One answer: crate `acts`.
use mathlib.Core.Path.{sym, ◌∙◌}
use Rattle.one_answer.specs.OneAnswer.{OneAnswer}
use Rattle.one_answer.proofs.Both.{both}
use Rattle.acts.proofs as code

pub act : OneAnswer code.act.Kinds.ps code.act.Kinds.r code.act.Reads.Post
act κs a z z' ws ws' p q = (p.0 ∙ sym q.0, both (λ u v. (u, (tt, (tt, (v, (tt, tt)))))) (p.1.0 ∙ sym q.1.0) (p.1.1 ∙ sym q.1.1))
