-- T5, one access: what a turn may touch and what it may see of the region, by the step alone.
use Rattle.std.specs.Prelude.{◌≡◌, List, ◌⊎◌, ℕ, ◌+◌, ◌<◌, ◌≤◌, length, get_or}
use Rattle.words.specs.Le.{le_at}
use Rattle.types.specs.declared.Side.{Side}
use Rattle.types.specs.declared.Side.TheVariants.{Sender, Recorder}
use Rattle.types.specs.declared.Bell.{Bell}
use Rattle.types.specs.declared.Bell.TheVariants.{NotEmpty, NotFull}
use Rattle.types.specs.declared.Party.{Party}
use Rattle.types.specs.Faults.{Fault}
use Rattle.types.specs.declared.Step.{Step}
use Rattle.types.specs.declared.Step.TheVariants.{Rest, Look, Copy, Publish, Check, Raise, Wake, Gate, Spin, Epoch, Again, GateAgain, Wait, Asleep, LastLook, CloseSet, CloseRaise, CloseWake, ShutSet, ShutRaiseNe, ShutWakeNe, ShutRaiseNf, ShutWakeNf}
use Rattle.types.specs.declared.Stance.{Stance}
use Rattle.types.specs.declared.Stance.TheVariants.{Resting, Sleeping, Copying, Publishing, Closing, Moving}
use Rattle.layout.specs.Limits.{slot_head_bytes}
use Rattle.layout.specs.Header.{flags_at, counter_at, bell_at}
use Rattle.layout.specs.Slots.{head_word}
use Rattle.rules.specs.Sides.{other, ring_bell, sleep_bell}
use Rattle.rules.specs.Take.{stance_of}
use Rattle.rules.specs.Access.{place_of, slot_of}
use Rattle.rules.specs.Turn.{turn_spec, turn_leaves, turn_buffer}

-- a load, a wait and a wake touch no byte; a store touches the own counter, one bell, the flags, or the own slot
pub data Touch : Type 0 where
  nothing own_counter the_flags own_slot : Touch
  a_bell : Bell → Touch

abbrev pub slot_touch : Side → Touch
slot_touch Sender = own_slot
slot_touch Recorder = nothing

abbrev pub touch_of : Side → Step → Touch
touch_of side Rest = nothing
touch_of side Look = nothing
touch_of side Copy = slot_touch side
touch_of side (Publish l t) = own_counter
touch_of side (Check l t) = nothing
touch_of side (Raise l t) = a_bell (ring_bell side)
touch_of side (Wake l t) = nothing
touch_of side Gate = nothing
touch_of side (Spin left) = nothing
touch_of side Epoch = nothing
touch_of side (Again e) = nothing
touch_of side (GateAgain e) = nothing
touch_of side (Wait e) = nothing
touch_of side Asleep = nothing
touch_of side (LastLook timed) = nothing
touch_of side CloseSet = the_flags
touch_of side CloseRaise = a_bell (ring_bell side)
touch_of side CloseWake = nothing
touch_of side (ShutSet c) = the_flags
touch_of side (ShutRaiseNe c) = a_bell NotEmpty
touch_of side (ShutWakeNe c) = nothing
touch_of side (ShutRaiseNf c e) = a_bell NotFull
touch_of side (ShutWakeNf c e) = nothing

abbrev pub touched_at : Touch → Party → ℕ
touched_at nothing p = 0
touched_at own_counter p = counter_at p.own.side
touched_at the_flags p = flags_at
touched_at own_slot p = place_of p.own p.counter
touched_at (a_bell b) p = bell_at b

abbrev pub touched_bytes : Touch → (payload : ℕ) → ℕ
touched_bytes nothing n = 0
touched_bytes own_counter n = 8
touched_bytes the_flags n = 4
touched_bytes own_slot n = slot_head_bytes + n
touched_bytes (a_bell b) n = 4

-- what a turn sees: the other's counter, the flags, the bell that it sleeps on, a slot's header; else nothing
abbrev pub slot_seen : Side → List ℕ → Party → ℕ
slot_seen Sender r p = 0
slot_seen Recorder r p = head_word (slot_of r p.own p.counter)

abbrev pub seen_by : Side → Step → List ℕ → Party → ℕ
seen_by side Rest r p = 0
seen_by side Look r p = le_at 8 r (counter_at (other side))
seen_by side Copy r p = slot_seen side r p
seen_by side (Publish l t) r p = 0
seen_by side (Check l t) r p = le_at 8 r (counter_at (other side))
seen_by side (Raise l t) r p = 0
seen_by side (Wake l t) r p = 0
seen_by side Gate r p = le_at 4 r flags_at
seen_by side (Spin left) r p = le_at 8 r (counter_at (other side))
seen_by side Epoch r p = le_at 4 r (bell_at (sleep_bell side))
seen_by side (Again e) r p = le_at 8 r (counter_at (other side))
seen_by side (GateAgain e) r p = le_at 4 r flags_at
seen_by side (Wait e) r p = le_at 4 r (bell_at (sleep_bell side))
seen_by side Asleep r p = 0
seen_by side (LastLook timed) r p = le_at 8 r (counter_at (other side))
seen_by side CloseSet r p = 0
seen_by side CloseRaise r p = 0
seen_by side CloseWake r p = 0
seen_by side (ShutSet c) r p = 0
seen_by side (ShutRaiseNe c) r p = 0
seen_by side (ShutWakeNe c) r p = 0
seen_by side (ShutRaiseNf c e) r p = 0
seen_by side (ShutWakeNf c e) r p = 0

-- only a pop's copy gives the buffer anything: what its slot holds
abbrev pub SlotGiven : Side → List ℕ → List ℕ → Party → Type 0
SlotGiven Sender r s p = Unit
SlotGiven Recorder r s p = slot_of r p.own p.counter ≡ slot_of s p.own p.counter

abbrev pub GivenAt : Stance → Side → (r s : List ℕ) → Party → Type 0
GivenAt Resting side r s p = Unit
GivenAt Sleeping side r s p = Unit
GivenAt Copying side r s p = SlotGiven side r s p
GivenAt Publishing side r s p = Unit
GivenAt Closing side r s p = Unit
GivenAt Moving side r s p = Unit

abbrev pub GivenBy : Side → Step → (r s : List ℕ) → Party → Type 0
GivenBy side step r s p = GivenAt (stance_of step) side r s p

module _ (side : Side) (p : Party) (payload buffer : List ℕ) (fault : Fault) where
  abbrev pub touch : Touch
  touch = touch_of p.own.side p.step

  -- every other byte is as it was ..
  abbrev pub TouchesOne : Type 0
  TouchesOne = (r : List ℕ) (k : ℕ) → (k < touched_at touch p) ⊎ (touched_at touch p + touched_bytes touch (length payload) ≤ k)
      → get_or (turn_leaves side r p payload buffer fault) k 0 ≡ get_or r k 0

  -- .. all of them where nothing is touched
  abbrev pub TouchesNone : Type 0
  TouchesNone = touch ≡ nothing → (r : List ℕ) → turn_leaves side r p payload buffer fault ≡ r

  -- answer, record and whom it wakes depend on the region's length and on the one value seen; the buffer on the one slot read
  abbrev pub SeesOne : Type 0
  SeesOne = (r s : List ℕ) → length r ≡ length s → seen_by p.own.side p.step r p ≡ seen_by p.own.side p.step s p → turn_spec side r p payload buffer fault ≡ turn_spec side s p payload buffer fault

  abbrev pub GivesOne : Type 0
  GivesOne = (r s : List ℕ) → length r ≡ length s → GivenBy p.own.side p.step r s p → turn_buffer side r p payload buffer fault ≡ turn_buffer side s p payload buffer fault
