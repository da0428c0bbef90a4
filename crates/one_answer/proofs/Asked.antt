-- One answer: crate `asked`.
use mathlib.Core.Path.{sym, ◌∙◌, ap}
use Rattle.types.specs.declared.Played.{Played}
use Rattle.opening.specs.declared.Player.{Player}
use Rattle.one_answer.specs.OneAnswer.{OneAnswer}
use Rattle.one_answer.proofs.Both.{both, both₃}
use Rattle.asked.proofs as code

pub play-asked : OneAnswer code.play_asked.Kinds.ps code.play_asked.Kinds.r code.play_asked.Reads.Post
play-asked κs a z z' ws ws' p q = (
  ap (λ (x : Played). x.answer) (p.0 ∙ sym q.0),
  both (λ r (x : Player). (r, (x, (tt, tt)))) (p.1.0 ∙ sym q.1.0)
      (both₃ (λ b i o. record { bench = b; payload = i; buffer = o }) (ap (λ (x : Played). x.bench) (p.0 ∙ sym q.0)) (p.1.1.1 ∙ sym q.1.1.1) (p.1.1.0 ∙ sym q.1.1.0)),
)
