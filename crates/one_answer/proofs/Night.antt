-- One answer: crate `night`.
use mathlib.Core.Path.{refl, sym, ◌∙◌}
use Rattle.opening.specs.Night.{Night}
use Rattle.one_answer.specs.OneAnswer.{OneAnswer}
use Rattle.one_answer.proofs.Both.{both, both₃}
use Rattle.one_answer.proofs.Opening.{player_of}
use Rattle.night.proofs as code

pub play-block : OneAnswer code.play_block.Kinds.ps code.play_block.Kinds.r code.play_block.Reads.Post
play-block κs a z z' ws ws' p q =
    (refl, both (λ (n : Night) v. (n.region, (player_of n, (tt, (v, tt))))) (p.0 ∙ sym q.0) (p.1 ∙ sym q.1))

pub feed : OneAnswer code.feed.Kinds.ps code.feed.Kinds.r code.feed.Reads.Post
feed κs a z z' ws ws' p q = (
  both (λ t l. record { told = t; left = l }) (p.1.1.1.0.0 ∙ sym q.1.1.1.0.0) (p.1.1.1.0.1 ∙ sym q.1.1.1.0.1),
  both₃ (λ (n : Night) u v. (n.region, (player_of n, (u, (tt, (v, tt)))))) (p.0 ∙ sym q.0) (p.1.1.0 ∙ sym q.1.1.0) (p.1.0 ∙ sym q.1.0),
)
