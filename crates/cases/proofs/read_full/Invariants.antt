use Rattle.std.proofs.Common.{◌-◌, ◌≤◌, length}
use Rattle.cases.proofs.read_full.Given as goal

abbrev pub invariant-loop-got : goal.invariant-loop-got
invariant-loop-got g l = l.got ≤ length l.given

abbrev pub decreases-loop-got : goal.decreases-loop-got
decreases-loop-got g l = length l.given - l.got
