use Rattle.std.proofs.Common.{◌≡◌, ◌++◌, ◌*◌, drop}
use Rattle.records.specs.Records.{record_bytes}
use Rattle.opening.specs.Night.{night_of}
use Rattle.script.specs.Script.{nights, reports}
use Rattle.night.proofs.play_block.Given as goal

abbrev pub invariant-loop-k : goal.invariant-loop-k
invariant-loop-k l = record {
  leaves : night_of l.region l.player ≡ nights l.k (night_of l.initial.region l.initial.player) l.script;
  tells : l.out ≡ reports l.k (night_of l.initial.region l.initial.player) l.script ++ drop (record_bytes * l.k) l.initial.out;
}
