-- The whole report of a whole script.
use Rattle.std.specs.Prelude.{Bool, true, false, ◌&&◌, Some, None, List, [], ◌++◌, ℕ, zero, suc, ◌/◌, ◌%◌, eqb, length, take, drop}
use Rattle.types.specs.Pick.{pick}
use Rattle.types.specs.declared.Event.TheVariants.{Turn, Failing, Spurious, TimeOut, Push, Pop, Close, Shutdown}
use Rattle.types.specs.declared.Answer.{Answer}
use Rattle.records.specs.Records.{Asked}
use Rattle.types.specs.Answers.{told_of, number}
use Rattle.opening.specs.Night.{Night, start}
pub use Rattle.asked.specs.Played.{played_by, region_by, buffer_by}
use Rattle.records.specs.Records.{record_bytes, kind_in, payload_in, asked_in, report_of, cut_report}

abbrev pub is_push : Asked → Bool
is_push None = false
is_push (Some (Turn side)) = false
is_push (Some (Failing side error)) = false
is_push (Some (Spurious side)) = false
is_push (Some (TimeOut side)) = false
is_push (Some (Push blocking tag length)) = true
is_push (Some (Pop blocking length)) = false
is_push (Some (Close side)) = false
is_push (Some (Shutdown side)) = false

abbrev pub is_begun : Answer → Bool
is_begun a = eqb (number a) 254

-- a push that was begun keeps its record's payload for its copy turn
unfoldable pub payload_by : List ℕ → Night → List ℕ
payload_by s w =
    pick (eqb (kind_in s) 8 && is_begun (played_by (asked_in s) w).answer) (payload_in s) w.payload

-- one record: what it leaves, and what is reported
unfoldable pub after : Night → List ℕ → Night
after w s =
    record {
      region = region_by (asked_in s) w;
      bench = (played_by (asked_in s) w).bench;
      payload = payload_by s w;
      buffer = buffer_by (asked_in s) w;
    }

unfoldable pub reported : Night → List ℕ → List ℕ
reported w s = report_of (kind_in s) (told_of (played_by (asked_in s) w).answer) (buffer_by (asked_in s) w)

-- n records, from the start of a script on
unfoldable pub nights : ℕ → Night → List ℕ → Night
nights zero w s = w
nights (suc n) w s = nights n (after w (take record_bytes s)) (drop record_bytes s)

unfoldable pub reports : ℕ → Night → List ℕ → List ℕ
reports zero w s = []
reports (suc n) w s = reported w (take record_bytes s) ++ reports n (after w (take record_bytes s)) (drop record_bytes s)

-- a whole script, the last record cut or not
unfoldable pub report : List ℕ → List ℕ
report s = reports (length s / record_bytes) start s ++ pick (eqb (length s % record_bytes) 0) [] cut_report
