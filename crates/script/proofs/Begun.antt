-- A push that is begun, by its record's kind and by its answer's number.
use Rattle.std.proofs.Common.{◌≡◌, ℕ, ◌&&◌, List, eqb, arith}
use Rattle.std.proofs.lemmas.Grind.{common_steps}
use Rattle.records.specs.Records.{action_of, kind_in, asked_in}
use Rattle.opening.specs.Night.{Night}
use Rattle.asked.specs.Played.{played_by}
use Rattle.script.specs.Script.{is_push, is_begun}

pub begun-push : (s : List ℕ) (w : Night)
    → (is_push (asked_in s) && is_begun (played_by (asked_in s) w).answer) ≡ (eqb (kind_in s) 8 && is_begun (played_by (asked_in s) w).answer)
unfolding asked_in action_of played_by
begun-push s w = grind (arith, common_steps)
