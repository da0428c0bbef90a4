-- Document 01's starred cases, at the limits of requests (iv) and (v): a table, and what each row claims.
use Rattle.std.specs.Prelude.{◌≡◌, Bool, true, List, [], ◌∷◌, ℕ, ◌-◌, ◌^◌, ◌≤◌, ◌<◌, ℤ, pos, negsuc, length}
use Rattle.std.specs.Int.{w32}
use Rattle.std.proofs.Common.{to_z}
use Rattle.words.specs.Wrap.{plus, next}
use Rattle.types.specs.declared.Side.{Side}
use Rattle.types.specs.declared.Side.TheVariants.{Sender, Recorder}
use Rattle.types.specs.declared.Room.{Room}
use Rattle.types.specs.declared.Room.TheVariants.{Corrupt, Blocked, Free}
use Rattle.types.specs.declared.Answer.{Answer}
use Rattle.types.specs.declared.Answer.TheVariants.{Done, InvalidLayout, InvalidCapacity, InvalidSlotSize, BadCall}
use Rattle.layout.specs.Limits.{power_ok, slot_ok, spins_ok, capacity, payload_capacity, ring_bytes, total_bytes}
use Rattle.layout.specs.Header.{headed}
use Rattle.layout.specs.Slots.{slot_at}
use Rattle.layout.specs.Create.{create_answer, created}
use Rattle.layout.specs.Attach.{attach_answer}
use Rattle.layout.specs.Whole.{Fitting}
use Rattle.rules.specs.Looks.{room_of}

pub data Case : Type 0 where
  -- sizes that are accepted, with the total and the payload capacity
  accepted : (power slot total payload : ℕ) → Case
  -- the largest total and the largest payload capacity of all sizes within the limits
  largest : (total payload : ℕ) → Case
  -- sizes that are refused
  refused : (power slot : ℕ) → Answer → Case
  -- flags that attach refuses
  flagged : (flags : ℕ) → Answer → Case
  -- a spin count that attach takes
  spinning : (spins : ℕ) → Case
  -- a spin count that attach refuses
  overspun : (spins : ℕ) → Answer → Case
  -- so many used, at a capacity: what the sender finds, and what the recorder finds
  used : (capacity n : ℕ) → (sender recorder : Room) → Case
  -- head and tail that are corrupt
  corrupt : (head tail : ℕ) → Case
  -- where the slot of a counter begins, and the next counter
  place : (power slot count at next : ℕ) → Case
  -- a bell, by its signed reading, raised
  bell : (reading raised : ℤ) → Case

abbrev pub starred : List Case
starred =
    accepted 1 8 400 0
    ∷ accepted 30 65536 70368744178048 65528
    ∷ largest 70368744178048 65528
    ∷ refused 0 8 InvalidCapacity
    ∷ refused 31 8 InvalidCapacity
    ∷ refused 1 0 InvalidSlotSize
    ∷ refused 1 12 InvalidSlotSize
    ∷ refused 1 65544 InvalidSlotSize
    ∷ refused 0 12 InvalidSlotSize
    ∷ used 4 4 Blocked Free
    ∷ used 4 5 Corrupt Corrupt
    ∷ corrupt 1 3
    ∷ place 2 32 (2 ^ 64 - 1) 480 0
    ∷ bell (negsuc 0) (pos 0)
    ∷ bell (pos 2147483647) (negsuc 2147483647)
    ∷ flagged 0x80 InvalidLayout
    ∷ spinning 1000
    ∷ overspun 1001 BadCall
    ∷ []

-- a region of any bytes of that total: create accepts it, and attach what create made, for either side with any count
-- within the limit
abbrev pub Accepted : (power slot total payload : ℕ) → Type 0
Accepted power slot total payload =
    (total_bytes power slot ≡ total)
    × (payload_capacity slot ≡ payload)
    × (create_answer total power slot ≡ Done 0 0)
    × ((r : List ℕ) (notfull : Bool) (start : ℕ) (side : Side) (spins : ℕ) → length r ≡ total → start < 256 ^ 8 → spins_ok spins ≡ true
    → attach_answer (created r power slot notfull start) side spins ≡ Done 0 0)

-- no sizes within the limits have more, and some have as much
abbrev pub Largest : (total payload : ℕ) → Type 0
Largest total payload =
    ((power slot : ℕ) → power_ok power ≡ true → slot_ok slot ≡ true → (total_bytes power slot ≤ total) × (payload_capacity slot ≤ payload))
    × ((power : ℕ) × ((slot : ℕ) × ((power_ok power ≡ true) × ((slot_ok slot ≡ true) × ((total_bytes power slot ≡ total) × (payload_capacity slot ≡ payload))))))

-- create refuses any region, and attach any whole header with those sizes, whatever its ring bytes and flags are
abbrev pub Refused : (power slot : ℕ) → Answer → Type 0
Refused power slot answer =
    ((bytes : ℕ) → create_answer bytes power slot ≡ answer)
    × ((r : List ℕ) (ring flags start : ℕ) (side : Side) (spins : ℕ) → Fitting r ring power slot flags start → spins_ok spins ≡ true
    → attach_answer (headed r ring power slot flags start) side spins ≡ answer)

-- attach refuses any whole header with sizes within the limits and those flags
abbrev pub Flagged : ℕ → Answer → Type 0
Flagged flags answer =
    (r : List ℕ) (power slot start : ℕ) (side : Side) (spins : ℕ) → power_ok power ≡ true → slot_ok slot ≡ true → spins_ok spins ≡ true → Fitting r (ring_bytes power slot) power slot flags start
    → attach_answer (headed r (ring_bytes power slot) power slot flags start) side spins ≡ answer

-- over any region at all, of either side: what is answered without spins
abbrev pub Spinning : ℕ → Type 0
Spinning spins = (r : List ℕ) (side : Side) → attach_answer r side spins ≡ attach_answer r side 0

abbrev pub Overspun : ℕ → Answer → Type 0
Overspun spins answer = (r : List ℕ) (side : Side) → attach_answer r side spins ≡ answer

-- from any start of both counters
abbrev pub Used : (capacity n : ℕ) → (sender recorder : Room) → Type 0
Used capacity n sender recorder =
    (tail : ℕ) → tail < 2 ^ 64
    → (room_of Sender capacity (plus 64 tail n) tail ≡ sender) × (room_of Recorder capacity tail (plus 64 tail n) ≡ recorder)

-- at every power
abbrev pub CorruptAt : (head tail : ℕ) → Type 0
CorruptAt head tail =
    (power : ℕ) → (room_of Sender (capacity power) head tail ≡ Corrupt) × (room_of Recorder (capacity power) tail head ≡ Corrupt)

abbrev pub Raised : (reading raised : ℤ) → Type 0
Raised reading raised = (n : ℕ) → n < 2 ^ 32 → to_z w32 n ≡ reading → to_z w32 (next 32 n) ≡ raised

abbrev pub Holds : Case → Type 0
Holds (accepted power slot total payload) = Accepted power slot total payload
Holds (largest total payload) = Largest total payload
Holds (refused power slot answer) = Refused power slot answer
Holds (flagged flags answer) = Flagged flags answer
Holds (spinning spins) = Spinning spins
Holds (overspun spins answer) = Overspun spins answer
Holds (used capacity n sender recorder) = Used capacity n sender recorder
Holds (corrupt head tail) = CorruptAt head tail
Holds (place power slot count at after) = (slot_at power slot count ≡ at) × (next 64 count ≡ after)
Holds (bell reading raised) = Raised reading raised

-- every row of a table
abbrev pub AllHold : List Case → Type 0
AllHold [] = Unit
AllHold (c ∷ cs) = Holds c × AllHold cs
