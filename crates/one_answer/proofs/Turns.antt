-- One answer: crate `turns`.
use mathlib.Core.Path.{sym, ◌∙◌, ap}
use Rattle.one_answer.specs.OneAnswer.{OneAnswer}
use Rattle.one_answer.proofs.Both.{both}
use Rattle.turns.proofs as code

pub turn : OneAnswer code.turn.Kinds.ps code.turn.Kinds.r code.turn.Reads.Post
turn κs a z z' ws ws' p q = (p.0 ∙ sym q.0, both (λ u v. (tt, (u, (tt, (tt, (v, (tt, tt))))))) (p.1.0 ∙ sym q.1.0) (p.1.1 ∙ sym q.1.1))

pub push-turn : OneAnswer code.push_turn.Kinds.ps code.push_turn.Kinds.r code.push_turn.Reads.Post
push-turn κs a z z' ws ws' p q = (p.0 ∙ sym q.0, ap (λ v. (v, (tt, (tt, (tt, tt))))) (p.1 ∙ sym q.1))

pub pop-turn : OneAnswer code.pop_turn.Kinds.ps code.pop_turn.Kinds.r code.pop_turn.Reads.Post
pop-turn κs a z z' ws ws' p q = (p.0 ∙ sym q.0, both (λ u v. (u, (tt, (v, (tt, tt))))) (p.1.0 ∙ sym q.1.0) (p.1.1 ∙ sym q.1.1))
