-- One answer: crate `bench`.
use mathlib.Core.Path.{sym, ◌∙◌}
use Rattle.one_answer.specs.OneAnswer.{OneAnswer}
use Rattle.one_answer.proofs.Both.{both}
use Rattle.bench.proofs as code

pub play : OneAnswer code.play.Kinds.ps code.play.Kinds.r code.play.Reads.Post
play κs a z z' ws ws' p q = (p.0 ∙ sym q.0, both (λ u v. (u, (tt, (tt, (tt, (v, tt)))))) (p.1.0 ∙ sym q.1.0) (p.1.1 ∙ sym q.1.1))
