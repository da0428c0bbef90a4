-- What a record asks, played: what becomes of the bench, of the region and of the buffer.
use Rattle.std.specs.Prelude.{List, ◌++◌, ℕ, Some, None, take, drop}
use Rattle.types.specs.declared.Played.{Played}
use Rattle.types.specs.declared.Answer.TheVariants.{BadCall}
use Rattle.rules.specs.Bench.{played, played_leaves, played_buffer}
use Rattle.opening.specs.Night.{Night}
use Rattle.records.specs.Records.{Asked}

-- a turn is lent as much of payload and buffer as the calls named
abbrev pub lent_in : Night → List ℕ
lent_in w = take w.bench.sender.length w.payload

abbrev pub lent_out : Night → List ℕ
lent_out w = take w.bench.recorder.length w.buffer

unfoldable pub played_by : Asked → Night → Played
played_by (Some e) w = played w.region w.bench (lent_in w) (lent_out w) e
played_by None w = record { bench = w.bench; answer = BadCall }

unfoldable pub region_by : Asked → Night → List ℕ
region_by (Some e) w = played_leaves w.region w.bench (lent_in w) (lent_out w) e
region_by None w = w.region

unfoldable pub buffer_by : Asked → Night → List ℕ
buffer_by (Some e) w = played_buffer w.region w.bench (lent_in w) (lent_out w) e ++ drop w.bench.recorder.length w.buffer
buffer_by None w = w.buffer
