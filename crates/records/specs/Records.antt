-- The script program's records: what one asks, and how an answer is reported.
use Rattle.std.specs.Prelude.{Bool, ◌&&◌, List, [], ◌∷◌, ◌++◌, ℕ, ◌/◌, ◌%◌, Option, Some, None, option_and_then, leb, eqb, take, replicate}
use Rattle.words.specs.Bytes.{part}
use Rattle.words.specs.Le.{le_at, le_bytes}
use Rattle.types.specs.Pick.{pick}
use Rattle.types.specs.declared.Side.{Side}
use Rattle.types.specs.declared.Side.TheVariants.{Sender, Recorder}
use Rattle.types.specs.declared.Told.{Told}
use Rattle.types.specs.declared.Event.{Event}
use Rattle.types.specs.declared.Event.TheVariants.{Turn, Failing, Spurious, TimeOut, Push, Pop, Close, Shutdown}
use Rattle.records.specs.declared.Action.{Action}
use Rattle.records.specs.declared.Action.TheVariants.{Turn as Turns, Spurious as Returns, TimeOut as Expires, Failing as Fails, Move, Close as Closes, Shutdown as Shuts}
use Rattle.records.specs.declared.Record.{Record}

-- a record is 32 bytes: kind, mode, tag u16, length u16, error u16, 24 payload bytes
abbrev pub record_bytes : ℕ
record_bytes = 32

abbrev pub payload_bytes : ℕ
payload_bytes = 24

abbrev pub kind_in : List ℕ → ℕ
kind_in s = le_at 1 s 0

abbrev pub mode_in : List ℕ → ℕ
mode_in s = le_at 1 s 1

abbrev pub tag_in : List ℕ → ℕ
tag_in s = le_at 2 s 2

abbrev pub length_in : List ℕ → ℕ
length_in s = le_at 2 s 4

abbrev pub error_in : List ℕ → ℕ
error_in s = le_at 2 s 6

abbrev pub payload_in : List ℕ → List ℕ
payload_in s = part s 8 payload_bytes

-- what a record says before its payload
abbrev pub fields_in : List ℕ → Record
fields_in s = record { kind = kind_in s; mode = mode_in s; tag = tag_in s; length = length_in s; error = error_in s }

-- kinds go in pairs, the sender's first: 0, 1 turn; 2, 3 spurious return; 4, 5 time-out; 6, 7 failing turn; 8, 9 push and
-- pop; 10, 11 close; 12, 13 shutdown
unfoldable pub action_of : (pair : ℕ) → Option Action
action_of pair =
    pick (eqb pair 0) (Some Turns)
    (pick (eqb pair 1) (Some Returns)
    (pick (eqb pair 2) (Some Expires)
    (pick (eqb pair 3) (Some Fails)
    (pick (eqb pair 4) (Some Move)
    (pick (eqb pair 5) (Some Closes)
    (pick (eqb pair 6) (Some Shuts) None))))))

abbrev pub side_of : (kind : ℕ) → Side
side_of kind = pick (eqb (kind % 2) 0) Sender Recorder

-- what a record asks: an event of the bench, or nothing that is known
abbrev pub Asked : Type 0
Asked = Option Event

-- a mode is 0 or 1; a pop's buffer has at most 24 bytes
abbrev pub when : Bool → Event → Asked
when ok e = pick ok (Some e) None

abbrev pub move_asked : Side → Record → Asked
move_asked Sender f = when (leb f.mode 1) (Push (eqb f.mode 1) f.tag f.length)
move_asked Recorder f = when (leb f.mode 1 && leb f.length payload_bytes) (Pop (eqb f.mode 1) f.length)

abbrev pub asked_at : Action → Side → Record → Asked
asked_at Turns side f = Some (Turn side)
asked_at Returns side f = Some (Spurious side)
asked_at Expires side f = Some (TimeOut side)
asked_at Fails side f = Some (Failing side f.error)
asked_at Move side f = move_asked side f
asked_at Closes side f = Some (Close side)
asked_at Shuts side f = Some (Shutdown side)

unfoldable pub asked_in : List ℕ → Asked
asked_in s = option_and_then (λ a. asked_at a (side_of (kind_in s)) (fields_in s)) (action_of (kind_in s / 2))

-- a delivered note's bytes are shown, and nothing else of a buffer; a report is filled up with zeros
abbrev pub shown : Told → (buffer : List ℕ) → List ℕ
shown t buffer = pick (eqb t.number 0) (take t.length buffer) []

abbrev pub filled : List ℕ → (n : ℕ) → List ℕ
filled s n = take n (s ++ replicate n 0)

-- kind, answer, tag, length, error, payload
unfoldable pub report_of : (kind : ℕ) → Told → (buffer : List ℕ) → List ℕ
report_of kind t buffer =
    le_bytes 1 kind
    ++ (le_bytes 1 t.number
    ++ (le_bytes 2 t.tag ++ (le_bytes 2 t.length ++ (le_bytes 2 t.error ++ filled (shown t buffer) payload_bytes))))

-- of a cut last record
unfoldable pub cut_report : List ℕ
cut_report = filled (0xFF ∷ 0x14 ∷ []) record_bytes
