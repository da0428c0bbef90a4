-- The one access of a turn, by what it writes: at most one run of bytes of the region, and the buffer at a read of a slot.
-- That the region keeps its length is length-leaves, in Frames.
use mathlib.Core.Path.{◌≡◌, refl, ◌∙◌}
use mathlib.Core.Bool.{Bool, true, false}
use mathlib.Core.List.{List, [], ◌∷◌}
use Prim.Native.Nat.{ℕ, ◌+◌}
use native.Mathlib.Omega.{arith}
use lib.ListN.{length, get_or}
use lib.Seq.{sets}
use Rattle.words.specs.Le.{le_at, le_bytes, put_le}
use Rattle.words.specs.Wrap.{next}
use Rattle.words.proofs.Sets.{Outside, sets-other}
use Rattle.words.proofs.Laws.{length-le_bytes}
use Rattle.types.specs.declared.Own.{Own}
use Rattle.types.specs.declared.Access.{Access}
use Rattle.types.specs.declared.Access.TheVariants.{None, LoadCounter, LoadFlags, LoadBell, WriteSlot, ReadSlot, StoreCounter, RaiseBell, SetFlag, WaitBell, WakeBell}
use Rattle.layout.specs.Limits.{slot_head_bytes}
use Rattle.layout.specs.Flags.{worth, set_bit}
use Rattle.layout.specs.Header.{flags_at, counter_at, bell_at}
use Rattle.layout.specs.Slots.{slot_bytes, slot_put}
use Rattle.layout.proofs.SlotLaws.{length-slot_bytes}
use Rattle.rules.specs.Access.{place_of, leaves_of, buffer_of}

-- where an access writes: one counter, one bell, the flags or one slot
abbrev pub writes_at : Own → Access → ℕ
writes_at own None = 0
writes_at own (LoadCounter side) = 0
writes_at own LoadFlags = 0
writes_at own (LoadBell b) = 0
writes_at own (WriteSlot n) = place_of own n
writes_at own (ReadSlot n) = 0
writes_at own (StoreCounter side n) = counter_at side
writes_at own (RaiseBell b) = bell_at b
writes_at own (SetFlag m) = flags_at
writes_at own (WaitBell b e) = 0
writes_at own (WakeBell b n) = 0

-- how many bytes: a load, a read of a slot, a wait and a wake write none
abbrev pub writes : Access → (payload : ℕ) → ℕ
writes None payload = 0
writes (LoadCounter side) payload = 0
writes LoadFlags payload = 0
writes (LoadBell b) payload = 0
writes (WriteSlot n) payload = slot_head_bytes + payload
writes (ReadSlot n) payload = 0
writes (StoreCounter side n) payload = 8
writes (RaiseBell b) payload = 4
writes (SetFlag m) payload = 4
writes (WaitBell b e) payload = 0
writes (WakeBell b n) payload = 0

-- a read of a slot alone may change the buffer
abbrev pub gives : Access → Bool
gives None = false
gives (LoadCounter side) = false
gives LoadFlags = false
gives (LoadBell b) = false
gives (WriteSlot n) = false
gives (ReadSlot n) = true
gives (StoreCounter side n) = false
gives (RaiseBell b) = false
gives (SetFlag m) = false
gives (WaitBell b e) = false
gives (WakeBell b n) = false

module _ (region : List ℕ) (own : Own) (tag : ℕ) (payload : List ℕ) where
  -- and which bytes
  abbrev pub written : Access → List ℕ
  written None = []
  written (LoadCounter side) = []
  written LoadFlags = []
  written (LoadBell b) = []
  written (WriteSlot n) = slot_bytes tag payload
  written (ReadSlot n) = []
  written (StoreCounter side n) = le_bytes 8 n
  written (RaiseBell b) = le_bytes 4 (next 32 (le_at 4 region (bell_at b)))
  written (SetFlag m) = le_bytes 4 (set_bit (worth m) (le_at 4 region flags_at))
  written (WaitBell b e) = []
  written (WakeBell b n) = []

  length-written : (a : Access) → length (written a) ≡ writes a (length payload)
  length-written None = refl
  length-written (LoadCounter side) = refl
  length-written LoadFlags = refl
  length-written (LoadBell b) = refl
  length-written (WriteSlot n) = length-slot_bytes tag payload
  length-written (ReadSlot n) = refl
  length-written (StoreCounter side n) = length-le_bytes 8 n
  length-written (RaiseBell b) = length-le_bytes 4 (next 32 (le_at 4 region (bell_at b)))
  length-written (SetFlag m) = length-le_bytes 4 (set_bit (worth m) (le_at 4 region flags_at))
  length-written (WaitBell b e) = refl
  length-written (WakeBell b n) = refl

  pub one-run : (a : Access) → leaves_of region own a tag payload ≡ sets region (writes_at own a) (written a)
  unfolding leaves_of slot_put put_le
  one-run None = refl
  one-run (LoadCounter side) = refl
  one-run LoadFlags = refl
  one-run (LoadBell b) = refl
  one-run (WriteSlot n) = refl
  one-run (ReadSlot n) = refl
  one-run (StoreCounter side n) = refl
  one-run (RaiseBell b) = refl
  one-run (SetFlag m) = refl
  one-run (WaitBell b e) = refl
  one-run (WakeBell b n) = refl

  -- every other byte is as it was
  pub leaves-other : (a : Access) (k : ℕ) → Outside k (writes_at own a) (writes a (length payload)) → get_or (leaves_of region own a tag payload) k 0 ≡ get_or region k 0
  leaves-other a k o = rw one-run (sets-other region (writes_at own a) (written a) k 0 (rw length-written o))

  none_written : (vs : List ℕ) (i : ℕ) → length vs ≡ 0 → sets region i vs ≡ region
  none_written [] i z = refl
  none_written (v ∷ vs) i z = absurd (omega arith)

  -- and all of them where none is written
  pub leaves_all : (a : Access) → writes a (length payload) ≡ 0 → leaves_of region own a tag payload ≡ region
  leaves_all a z = one-run a ∙ none_written (written a) (writes_at own a) (length-written a ∙ z)

pub buffer-same : (region : List ℕ) (own : Own) (a : Access) (named : ℕ) (buffer : List ℕ) → gives a ≡ false → buffer_of region own a named buffer ≡ buffer
unfolding buffer_of
buffer-same region own None named buffer z = refl
buffer-same region own (LoadCounter side) named buffer z = refl
buffer-same region own LoadFlags named buffer z = refl
buffer-same region own (LoadBell b) named buffer z = refl
buffer-same region own (WriteSlot n) named buffer z = refl
buffer-same region own (ReadSlot n) named buffer z = absurd (let y : ◌≡◌ {A = ℕ} 0 1 = cc in omega arith)
buffer-same region own (StoreCounter side n) named buffer z = refl
buffer-same region own (RaiseBell b) named buffer z = refl
buffer-same region own (SetFlag m) named buffer z = refl
buffer-same region own (WaitBell b e) named buffer z = refl
buffer-same region own (WakeBell b n) named buffer z = refl
