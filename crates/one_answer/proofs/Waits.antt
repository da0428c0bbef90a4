-- One answer: crate `waits`.
use mathlib.Core.Path.{refl, sym, ◌∙◌}
use Rattle.one_answer.specs.OneAnswer.{OneAnswer}
use Rattle.waits.proofs as code

pub gate-move : OneAnswer code.gate_move.Kinds.ps code.gate_move.Kinds.r code.gate_move.Reads.Post
gate-move κs a z z' ws ws' p q = (p ∙ sym q, refl)

pub to-spin : OneAnswer code.to_spin.Kinds.ps code.to_spin.Kinds.r code.to_spin.Reads.Post
to-spin κs a z z' ws ws' p q = (p ∙ sym q, refl)

pub spin-move : OneAnswer code.spin_move.Kinds.ps code.spin_move.Kinds.r code.spin_move.Reads.Post
spin-move κs a z z' ws ws' p q = (p ∙ sym q, refl)

pub again-move : OneAnswer code.again_move.Kinds.ps code.again_move.Kinds.r code.again_move.Reads.Post
again-move κs a z z' ws ws' p q = (p ∙ sym q, refl)

pub nap-move : OneAnswer code.nap_move.Kinds.ps code.nap_move.Kinds.r code.nap_move.Reads.Post
nap-move κs a z z' ws ws' p q = (p ∙ sym q, refl)

pub wait-move : OneAnswer code.wait_move.Kinds.ps code.wait_move.Kinds.r code.wait_move.Reads.Post
wait-move κs a z z' ws ws' p q = (p ∙ sym q, refl)

pub last-move : OneAnswer code.last_move.Kinds.ps code.last_move.Kinds.r code.last_move.Reads.Post
last-move κs a z z' ws ws' p q = (p ∙ sym q, refl)

pub close-move : OneAnswer code.close_move.Kinds.ps code.close_move.Kinds.r code.close_move.Reads.Post
close-move κs a z z' ws ws' p q = (p ∙ sym q, refl)

pub shut-move : OneAnswer code.shut_move.Kinds.ps code.shut_move.Kinds.r code.shut_move.Reads.Post
shut-move κs a z z' ws ws' p q = (p ∙ sym q, refl)
