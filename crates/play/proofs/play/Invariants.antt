use Rattle.std.proofs.Common.{◌<◌}
use Rattle.records.specs.Records.{record_bytes}
use Rattle.play.proofs.play.Given as goal

abbrev pub invariant-loop : goal.invariant-loop
invariant-loop g l = l.left < record_bytes
