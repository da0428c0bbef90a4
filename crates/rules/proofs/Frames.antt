-- What a word of the header reads after an access: the word that was stored, or what it was.
use mathlib.Core.Path.{◌≡◌, refl}
use mathlib.Core.Bool.{Bool, true, ◌||◌}
use mathlib.Core.List.{List}
use mathlib.Core.Logic.{inl}
use Prim.Native.Nat.{ℕ, ◌+◌, ◌^◌, ◌<◌, ◌≤◌}
use native.Mathlib.Omega.{arith}
use lib.Dec.{leb}
use lib.ListN.{length}
use Rattle.layout.proofs.Headed.{counter-in, bell-in}
use Rattle.layout.proofs.Fields.{apart-field}
use Rattle.words.specs.Le.{le_at}
use Rattle.words.specs.Wrap.{next}
use Rattle.words.proofs.Laws.{le_at-ext, le_at-put_le, le_at-put_le-other, length-put_le}
use Rattle.words.proofs.Wrapped.{plus-lt}
use Rattle.types.specs.declared.Side.{Side}
use Rattle.types.specs.declared.Bell.{Bell}
use Rattle.types.specs.declared.Mark.{Mark}
use Rattle.types.specs.declared.Own.{Own}
use Rattle.types.specs.declared.Access.{Access}
use Rattle.types.specs.declared.Access.TheVariants.{None, LoadCounter, LoadFlags, LoadBell, WriteSlot, ReadSlot, StoreCounter, RaiseBell, SetFlag, WaitBell, WakeBell}
use Rattle.layout.specs.Limits.{header_bytes}
use Rattle.layout.specs.Flags.{worth, set_bit}
use Rattle.layout.specs.Header.{flags_at, counter_at, bell_at}
use Rattle.layout.specs.Slots.{slot_at, slot_put}
use Rattle.layout.proofs.SlotLaws.{slot_put-other, length-slot_put}
use Rattle.rules.specs.Access.{place_of, leaves_of}

-- the w bytes from i on are apart from what the access stores in the header
abbrev away : (j v i w : ℕ) → Bool
away j v i w = leb (i + w) j || leb (j + v) i

abbrev pub clear : Access → (i w : ℕ) → Bool
clear None i w = true
clear (LoadCounter side) i w = true
clear LoadFlags i w = true
clear (LoadBell b) i w = true
clear (WriteSlot n) i w = true
clear (ReadSlot n) i w = true
clear (StoreCounter side n) i w = away (counter_at side) 8 i w
clear (RaiseBell b) i w = away (bell_at b) 4 i w
clear (SetFlag m) i w = away flags_at 4 i w
clear (WaitBell b e) i w = true
clear (WakeBell b n) i w = true

module _ (r : List ℕ) (own : Own) (tag : ℕ) (payload : List ℕ) where
  pub length-leaves : (a : Access) → length (leaves_of r own a tag payload) ≡ length r
  unfolding leaves_of
  length-leaves None = refl
  length-leaves (LoadCounter side) = refl
  length-leaves LoadFlags = refl
  length-leaves (LoadBell b) = refl
  length-leaves (WriteSlot n) = length-slot_put r (place_of own n) tag payload
  length-leaves (ReadSlot n) = refl
  length-leaves (StoreCounter side n) = length-put_le 8 r (counter_at side) n
  length-leaves (RaiseBell b) = length-put_le 4 r (bell_at b) (next 32 (le_at 4 r (bell_at b)))
  length-leaves (SetFlag m) = length-put_le 4 r flags_at (set_bit (worth m) (le_at 4 r flags_at))
  length-leaves (WaitBell b e) = refl
  length-leaves (WakeBell b n) = refl

  pub word_kept : (w i : ℕ) → i + w ≤ header_bytes → (a : Access) → clear a i w ≡ true → le_at w (leaves_of r own a tag payload) i ≡ le_at w r i
  unfolding leaves_of slot_at
  word_kept w i h None t = refl
  word_kept w i h (LoadCounter side) t = refl
  word_kept w i h LoadFlags t = refl
  word_kept w i h (LoadBell b) t = refl
  word_kept w i h (WriteSlot n) t =
      le_at-ext w (slot_put r (place_of own n) tag payload) r i i (λ k l. slot_put-other r (place_of own n) tag payload (i + k) (inl (omega arith)))
  word_kept w i h (ReadSlot n) t = refl
  word_kept w i h (StoreCounter side n) t = le_at-put_le-other w 8 r i (counter_at side) n (apart-field i w 8 (counter_at side) t)
  word_kept w i h (RaiseBell b) t = le_at-put_le-other w 4 r i (bell_at b) (next 32 (le_at 4 r (bell_at b))) (apart-field i w 4 (bell_at b) t)
  word_kept w i h (SetFlag m) t = le_at-put_le-other w 4 r i flags_at (set_bit (worth m) (le_at 4 r flags_at)) (apart-field i w 4 flags_at t)
  word_kept w i h (WaitBell b e) t = refl
  word_kept w i h (WakeBell b n) t = refl

  -- what was stored is read
  pub counter-stored : header_bytes ≤ length r → (side : Side) (n : ℕ) → n < 2 ^ 64 → le_at 8 (leaves_of r own (StoreCounter side n) tag payload) (counter_at side) ≡ n
  unfolding leaves_of
  counter-stored long side n h = le_at-put_le 8 r (counter_at side) n (omega (arith, counter-in side)) h

  pub bell-raised : header_bytes ≤ length r → (b : Bell) → le_at 4 (leaves_of r own (RaiseBell b) tag payload) (bell_at b) ≡ next 32 (le_at 4 r (bell_at b))
  unfolding leaves_of
  bell-raised long b = le_at-put_le 4 r (bell_at b) (next 32 (le_at 4 r (bell_at b))) (omega (arith, bell-in b)) (plus-lt 32 (le_at 4 r (bell_at b)) 1)

  pub flag-set : header_bytes ≤ length r → (m : Mark) → set_bit (worth m) (le_at 4 r flags_at) < 2 ^ 32 → le_at 4 (leaves_of r own (SetFlag m) tag payload) flags_at ≡ set_bit (worth m) (le_at 4 r flags_at)
  unfolding leaves_of
  flag-set long m h = le_at-put_le 4 r flags_at (set_bit (worth m) (le_at 4 r flags_at)) (omega arith) h
