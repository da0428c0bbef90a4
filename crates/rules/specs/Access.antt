-- What an access gives back, and what it leaves of the region and of a pop's buffer.
use Rattle.std.specs.Prelude.{List, ℕ}
use Rattle.words.specs.Bytes.{part}
use Rattle.words.specs.Le.{le_at, put_le}
use Rattle.words.specs.Wrap.{next}
use Rattle.types.specs.declared.Own.{Own}
use Rattle.types.specs.declared.Fit.{Fit}
use Rattle.types.specs.declared.Fit.TheVariants.{Bad, Small, Fits}
use Rattle.types.specs.declared.Access.{Access}
use Rattle.types.specs.declared.Access.TheVariants.{None, LoadCounter, LoadFlags, LoadBell, WriteSlot, ReadSlot, StoreCounter, RaiseBell, SetFlag, WaitBell, WakeBell}
use Rattle.layout.specs.Limits.{payload_capacity}
use Rattle.layout.specs.Flags.{worth, set_bit}
use Rattle.layout.specs.Header.{flags_at, counter_at, bell_at}
use Rattle.layout.specs.Slots.{slot_at, head_word, head_of, slot_put, buffer_put}
use Rattle.rules.specs.Looks.{fit_of}

-- the bytes of the slot of a counter, by a party's own sizes
abbrev pub place_of : Own → (count : ℕ) → ℕ
place_of own count = slot_at own.power own.slot count

abbrev pub slot_of : List ℕ → Own → (count : ℕ) → List ℕ
slot_of region own count = part region (place_of own count) own.slot

-- the value; a read of a slot gives its header, and what gives nothing gives 0
unfoldable pub value_of : List ℕ → Own → Access → ℕ
value_of region own None = 0
value_of region own (LoadCounter side) = le_at 8 region (counter_at side)
value_of region own LoadFlags = le_at 4 region flags_at
value_of region own (LoadBell b) = le_at 4 region (bell_at b)
value_of region own (WriteSlot n) = 0
value_of region own (ReadSlot n) = head_word (slot_of region own n)
value_of region own (StoreCounter side n) = 0
value_of region own (RaiseBell b) = 0
value_of region own (SetFlag m) = 0
value_of region own (WaitBell b e) = le_at 4 region (bell_at b)
value_of region own (WakeBell b n) = 0

-- the region: one counter, one bell, the flags, or one slot
unfoldable pub leaves_of : List ℕ → Own → Access → (tag : ℕ) → (payload : List ℕ) → List ℕ
leaves_of region own None tag payload = region
leaves_of region own (LoadCounter side) tag payload = region
leaves_of region own LoadFlags tag payload = region
leaves_of region own (LoadBell b) tag payload = region
leaves_of region own (WriteSlot n) tag payload = slot_put region (place_of own n) tag payload
leaves_of region own (ReadSlot n) tag payload = region
leaves_of region own (StoreCounter side n) tag payload = put_le 8 region (counter_at side) n
leaves_of region own (RaiseBell b) tag payload = put_le 4 region (bell_at b) (next 32 (le_at 4 region (bell_at b)))
leaves_of region own (SetFlag m) tag payload = put_le 4 region flags_at (set_bit (worth m) (le_at 4 region flags_at))
leaves_of region own (WaitBell b e) tag payload = region
leaves_of region own (WakeBell b n) tag payload = region

-- the buffer: a payload that fits stands at its start, else nothing is copied
abbrev pub copied_out : Fit → (buffer slot : List ℕ) → (length : ℕ) → List ℕ
copied_out Bad buffer slot length = buffer
copied_out Small buffer slot length = buffer
copied_out Fits buffer slot length = buffer_put buffer slot length

abbrev pub read_out : (named payload_capacity : ℕ) → (buffer slot : List ℕ) → List ℕ
read_out named payload_capacity buffer slot =
    copied_out (fit_of (head_of (head_word slot)) payload_capacity named) buffer slot (head_of (head_word slot)).length

unfoldable pub buffer_of : List ℕ → Own → Access → (named : ℕ) → (buffer : List ℕ) → List ℕ
buffer_of region own None named buffer = buffer
buffer_of region own (LoadCounter side) named buffer = buffer
buffer_of region own LoadFlags named buffer = buffer
buffer_of region own (LoadBell b) named buffer = buffer
buffer_of region own (WriteSlot n) named buffer = buffer
buffer_of region own (ReadSlot n) named buffer = read_out named (payload_capacity own.slot) buffer (slot_of region own n)
buffer_of region own (StoreCounter side n) named buffer = buffer
buffer_of region own (RaiseBell b) named buffer = buffer
buffer_of region own (SetFlag m) named buffer = buffer
buffer_of region own (WaitBell b e) named buffer = buffer
buffer_of region own (WakeBell b n) named buffer = buffer
