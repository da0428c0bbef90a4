-- What a script's player keeps between two records, and what it begins with.
use Rattle.std.specs.Prelude.{true, List, ℕ, replicate}
use Rattle.types.specs.declared.Side.TheVariants.{Sender, Recorder}
use Rattle.types.specs.declared.Bench.{Bench}
use Rattle.layout.specs.Limits.{total_bytes}
use Rattle.layout.specs.Create.{created}
use Rattle.layout.specs.Attach.{attach_reply, attach_leaves}
use Rattle.records.specs.Records.{payload_bytes}
use Rattle.opening.specs.declared.Player.{Player}

-- what the program keeps between two records: the region, both parties, the running push's payload and the pop's buffer,
-- 24 bytes each
pub record Night : Type 0 where
  pub region : List ℕ
  pub bench : Bench
  pub payload : List ℕ
  pub buffer : List ℕ

abbrev pub night_of : (region : List ℕ) → Player → Night
night_of region p = record { region = region; bench = p.bench; payload = p.payload; buffer = p.buffer }

-- power 2, slot 32, not-full on, both attached, neither of which spins
abbrev pub power : ℕ
power = 2

abbrev pub slot : ℕ
slot = 32

abbrev pub made_region : List ℕ
made_region = created (replicate (total_bytes power slot) 0) power slot true 0

abbrev pub sender_in : List ℕ
sender_in = attach_leaves made_region Sender 0

unfoldable pub start : Night
start =
    record {
      region = attach_leaves sender_in Recorder 0;
      bench = record { sender = (attach_reply made_region Sender 0).party; recorder = (attach_reply sender_in Recorder 0).party };
      payload = replicate payload_bytes 0;
      buffer = replicate payload_bytes 0;
    }
