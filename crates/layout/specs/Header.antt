-- The header: document 01's table of fields, and the bytes between them.
use Rattle.std.specs.Prelude.{Bool, true, ◌&&◌, List, [], ◌∷◌, ℕ, ◌+◌, replicate}
use Rattle.std.proofs.lemmas.List.Edits.{sets}
use Rattle.words.specs.Bytes.{zeros}
use Rattle.words.specs.Le.{put_le}
use Rattle.types.specs.declared.Side.{Side}
use Rattle.types.specs.declared.Side.TheVariants.{Sender, Recorder}
use Rattle.types.specs.declared.Bell.{Bell}
use Rattle.types.specs.declared.Bell.TheVariants.{NotEmpty, NotFull}
use Rattle.layout.specs.Limits.{header_bytes}

abbrev pub magic : List ℕ
magic = 0x51 ∷ 0x46 ∷ 0x53 ∷ 0x50 ∷ 0x53 ∷ 0x51 ∷ 0x48 ∷ 0x53 ∷ []

-- where the fields lie that are read again
abbrev pub major_at : ℕ
major_at = 0x008

abbrev pub minor_at : ℕ
minor_at = 0x00A

abbrev pub header_size_at : ℕ
header_size_at = 0x00C

abbrev pub total_size_at : ℕ
total_size_at = 0x010

abbrev pub ring_offset_at : ℕ
ring_offset_at = 0x018

abbrev pub ring_bytes_at : ℕ
ring_bytes_at = 0x020

abbrev pub arena_offset_at : ℕ
arena_offset_at = 0x028

abbrev pub arena_bytes_at : ℕ
arena_bytes_at = 0x030

abbrev pub power_at : ℕ
power_at = 0x038

abbrev pub slot_size_at : ℕ
slot_size_at = 0x040

abbrev pub flags_at : ℕ
flags_at = 0x048

-- a side's own counter: head is the sender's, tail the recorder's
abbrev pub counter_at : Side → ℕ
counter_at Sender = 0x080
counter_at Recorder = 0x0C0

abbrev pub bell_at : Bell → ℕ
bell_at NotEmpty = 0x100
bell_at NotFull = 0x140

-- a field: its width in bytes, where it lies, and what create writes there
pub data Field : Type 0 where
  field : (width at value : ℕ) → Field

-- every field after the magic, in document 01's order: version, sizes, the ring's sizes and the flags, pids and error
-- code, counters, bells
abbrev pub fields : (ring power slot flags start : ℕ) → List Field
fields ring power slot flags start =
    field 2 major_at 0
    ∷ field 2 minor_at 1
    ∷ field 4 header_size_at header_bytes
    ∷ field 8 total_size_at (header_bytes + ring)
    ∷ field 8 ring_offset_at header_bytes
    ∷ field 8 ring_bytes_at ring
    ∷ field 8 arena_offset_at 0
    ∷ field 8 arena_bytes_at 0
    ∷ field 1 power_at power
    ∷ field 4 slot_size_at slot
    ∷ field 4 flags_at flags
    ∷ field 4 0x050 0
    ∷ field 4 0x054 0
    ∷ field 4 0x058 0
    ∷ field 8 (counter_at Sender) start
    ∷ field 8 (counter_at Recorder) start
    ∷ field 4 (bell_at NotEmpty) 0
    ∷ field 4 (bell_at NotFull) 0
    ∷ []

abbrev pub put_fields : List Field → List ℕ → List ℕ
put_fields [] r = r
put_fields (field width at value ∷ fs) r = put_fields fs (put_le width r at value)

-- a header with no field written but the magic
unfoldable pub blank : List ℕ → List ℕ
blank r = sets (sets r 0 (replicate header_bytes 0)) 0 magic

-- the region with a whole header written
unfoldable pub headed : List ℕ → (ring power slot flags start : ℕ) → List ℕ
headed r ring power slot flags start = put_fields (fields ring power slot flags start) (blank r)

-- a run of bytes: how many, and from where on
pub data Run : Type 0 where
  run : (count at : ℕ) → Run

-- the reserved bytes: every header byte in no field
abbrev pub reserved : List Run
reserved =
    run 7 0x039
    ∷ run 4 0x044
    ∷ run 4 0x04C
    ∷ run 36 0x05C
    ∷ run 56 0x088
    ∷ run 56 0x0C8
    ∷ run 60 0x104
    ∷ run 60 0x144
    ∷ []

-- every byte of the runs is zero
abbrev pub all_zero : List ℕ → List Run → Bool
all_zero r [] = true
all_zero r (run count at ∷ rs) = zeros r count at && all_zero r rs
