-- One answer: crate `opening`.
use mathlib.Core.Path.{sym, ◌∙◌, ap}
use Rattle.opening.specs.declared.Player.{Player}
use Rattle.opening.specs.Night.{Night}
use Rattle.one_answer.specs.OneAnswer.{OneAnswer}
use Rattle.opening.proofs as code

abbrev pub player_of : Night → Player
player_of n = record { bench = n.bench; payload = n.payload; buffer = n.buffer }

pub start : OneAnswer code.start.Kinds.ps code.start.Kinds.r code.start.Reads.Post
start κs a z z' ws ws' p q = (ap player_of (p ∙ sym q), ap (λ (n : Night). (n.region, tt)) (p ∙ sym q))
