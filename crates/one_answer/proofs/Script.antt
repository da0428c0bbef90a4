-- One answer: crate `script`.
use mathlib.Core.Path.{refl, sym, ◌∙◌}
use Rattle.opening.specs.Night.{Night}
use Rattle.one_answer.specs.OneAnswer.{OneAnswer}
use Rattle.one_answer.proofs.Both.{both}
use Rattle.one_answer.proofs.Opening.{player_of}
use Rattle.script.proofs as code

pub play-record : OneAnswer code.play_record.Kinds.ps code.play_record.Kinds.r code.play_record.Reads.Post
play-record κs a z z' ws ws' p q =
    (refl, both (λ (n : Night) v. (n.region, (player_of n, (tt, (v, tt))))) (p.0 ∙ sym q.0) (p.1 ∙ sym q.1))
