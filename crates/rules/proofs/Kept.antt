-- A turn keeps what is fixed, the words, the seats and the epochs: both of the party that moves and of the other.
use mathlib.Core.Path.{◌≡◌, refl, sym, ap, ◌∙◌}
use mathlib.Core.Bool.{Bool, true, false}
use mathlib.Core.List.{List, [], ◌∷◌, ◌++◌}
use Prim.Native.Nat.{ℕ, ◌+◌, ◌<◌, ◌≤◌}
use native.Mathlib.Omega.{arith}
use lib.ListN.{length, length-append}
use Rattle.words.specs.Le.{le_at}
use Rattle.words.specs.Wrap.{plus}
use Rattle.words.proofs.Wrapped.{plus-lt, plus-plus}
use Rattle.types.specs.Pick.{pick}
use Rattle.types.specs.declared.Side.{Side}
use Rattle.types.specs.declared.Side.TheVariants.{Sender, Recorder}
use Rattle.types.specs.declared.Bell.TheVariants.{NotEmpty, NotFull}
use Rattle.types.specs.declared.Mark.{Mark}
use Rattle.types.specs.declared.Mark.TheVariants.{SenderClosed, RecorderClosed, Shutdown}
use Rattle.types.specs.declared.Party.{Party}
use Rattle.types.specs.declared.Step.{Step}
use Rattle.types.specs.declared.Access.{Access}
use Rattle.types.specs.declared.Access.TheVariants.{None, LoadCounter, LoadFlags, LoadBell, WriteSlot, ReadSlot, StoreCounter, RaiseBell, SetFlag, WaitBell, WakeBell}
use Rattle.layout.specs.Limits.{header_bytes, total_bytes}
use Rattle.layout.specs.Flags.{worth, not_full_on, reserved_from, bit_on, set_bit, attach_mark, close_mark}
use Rattle.layout.specs.Header.{flags_at, counter_at}
use Rattle.layout.proofs.FlagLaws.{same_mark, mark_set, option-kept, flags-small}
use Rattle.rules.specs.Sides.{other}
use Rattle.rules.specs.Take.{stance_of, counter_after, closed_after}
use Rattle.rules.specs.Access.{leaves_of}
use Rattle.rules.specs.Run.{Trace, traced}
use Rattle.rules.proofs.After.{flags_by, power-after, slot-size-after, flags-after, counter-after}
use Rattle.rules.proofs.Frames.{length-leaves}
use Rattle.rules.proofs.Does.{Does, nothing, looks, flags, reads, writes, takes, stores, raises, closes, shuts, waits, wakes}
use Rattle.rules.proofs.Real.{count_of, Fixed}

-- the flags after an access: still without reserved bits, and the option as it was
flags_by-small : (a : Access) (f : ℕ) → f < reserved_from → flags_by a f < reserved_from
flags_by-small None f h = h
flags_by-small (LoadCounter s) f h = h
flags_by-small LoadFlags f h = h
flags_by-small (LoadBell b) f h = h
flags_by-small (WriteSlot n) f h = h
flags_by-small (ReadSlot n) f h = h
flags_by-small (StoreCounter s n) f h = h
flags_by-small (RaiseBell b) f h = h
flags_by-small (SetFlag m) f h = flags-small m f h
flags_by-small (WaitBell b e) f h = h
flags_by-small (WakeBell b n) f h = h

flags_by-option : (a : Access) (f : ℕ) → f < reserved_from → bit_on not_full_on (flags_by a f) ≡ bit_on not_full_on f
flags_by-option None f h = refl
flags_by-option (LoadCounter s) f h = refl
flags_by-option LoadFlags f h = refl
flags_by-option (LoadBell b) f h = refl
flags_by-option (WriteSlot n) f h = refl
flags_by-option (ReadSlot n) f h = refl
flags_by-option (StoreCounter s n) f h = refl
flags_by-option (RaiseBell b) f h = refl
flags_by-option (SetFlag m) f h = option-kept m f h
flags_by-option (WaitBell b e) f h = refl
flags_by-option (WakeBell b n) f h = refl

-- a flag that is up stays up
pub mark-up : (n : Mark) (f : ℕ) → f < reserved_from → (m : Mark) → bit_on (worth m) f ≡ true → bit_on (worth m) (set_bit (worth n) f) ≡ true
mark-up n f h m e = mark_set n f h m ∙ by (same_mark m n)
  where
    by : (b : Bool) → pick b true (bit_on (worth m) f) ≡ true
    by true = refl
    by false = e

pub flag_up : (a : Access) (f : ℕ) → f < reserved_from → (m : Mark) → bit_on (worth m) f ≡ true → bit_on (worth m) (flags_by a f) ≡ true
flag_up None f h m e = e
flag_up (LoadCounter s) f h m e = e
flag_up LoadFlags f h m e = e
flag_up (LoadBell b) f h m e = e
flag_up (WriteSlot n) f h m e = e
flag_up (ReadSlot n) f h m e = e
flag_up (StoreCounter s n) f h m e = e
flag_up (RaiseBell b) f h m e = e
flag_up (SetFlag n) f h m e = mark-up n f h m e
flag_up (WaitBell b n) f h m e = e
flag_up (WakeBell b n) f h m e = e

-- the attach bits never change in a turn; a close bit changes for the one that closes
pub attach-bit : (side mover : Side) (n : ℕ) (s : Step) (a : Access) (f : ℕ) → f < reserved_from → Does mover n s a → bit_on (worth (attach_mark side)) (flags_by a f) ≡ bit_on (worth (attach_mark side)) f
attach-bit side mover n s a f h (nothing q) = refl
attach-bit side mover n s a f h (looks q) = refl
attach-bit side mover n s a f h (flags q) = refl
attach-bit side mover n s a f h reads = refl
attach-bit side mover n s a f h (writes q) = refl
attach-bit side mover n s a f h (takes q) = refl
attach-bit side mover n s a f h stores = refl
attach-bit side mover n s a f h (raises q b) = refl
attach-bit Sender Sender n s a f h closes = mark_set SenderClosed f h (attach_mark Sender)
attach-bit Sender Recorder n s a f h closes = mark_set RecorderClosed f h (attach_mark Sender)
attach-bit Recorder Sender n s a f h closes = mark_set SenderClosed f h (attach_mark Recorder)
attach-bit Recorder Recorder n s a f h closes = mark_set RecorderClosed f h (attach_mark Recorder)
attach-bit Sender mover n s a f h shuts = mark_set Shutdown f h (attach_mark Sender)
attach-bit Recorder mover n s a f h shuts = mark_set Shutdown f h (attach_mark Recorder)
attach-bit side mover n s a f h waits = refl
attach-bit side mover n s a f h (wakes q b m) = refl

pub close-bit-own : (side : Side) (n : ℕ) (s : Step) (a : Access) (f : ℕ) → f < reserved_from → Does side n s a → bit_on (worth (close_mark side)) (flags_by a f) ≡ closed_after (stance_of s) (bit_on (worth (close_mark side)) f)
close-bit-own side n s a f h (nothing q) = sym (q.closed _)
close-bit-own side n s a f h (looks q) = sym (q.closed _)
close-bit-own side n s a f h (flags q) = sym (q.closed _)
close-bit-own side n s a f h reads = refl
close-bit-own side n s a f h (writes q) = refl
close-bit-own side n s a f h (takes q) = refl
close-bit-own side n s a f h stores = refl
close-bit-own side n s a f h (raises q b) = sym (q.closed _)
close-bit-own Sender n s a f h closes = mark_set SenderClosed f h SenderClosed
close-bit-own Recorder n s a f h closes = mark_set RecorderClosed f h RecorderClosed
close-bit-own Sender n s a f h shuts = mark_set Shutdown f h SenderClosed
close-bit-own Recorder n s a f h shuts = mark_set Shutdown f h RecorderClosed
close-bit-own side n s a f h waits = refl
close-bit-own side n s a f h (wakes q b m) = sym (q.closed _)

pub close-bit-other : (side : Side) (n : ℕ) (s : Step) (a : Access) (f : ℕ) → f < reserved_from → Does side n s a → bit_on (worth (close_mark (other side))) (flags_by a f) ≡ bit_on (worth (close_mark (other side))) f
close-bit-other side n s a f h (nothing q) = refl
close-bit-other side n s a f h (looks q) = refl
close-bit-other side n s a f h (flags q) = refl
close-bit-other side n s a f h reads = refl
close-bit-other side n s a f h (writes q) = refl
close-bit-other side n s a f h (takes q) = refl
close-bit-other side n s a f h stores = refl
close-bit-other side n s a f h (raises q b) = refl
close-bit-other Sender n s a f h closes = mark_set SenderClosed f h RecorderClosed
close-bit-other Recorder n s a f h closes = mark_set RecorderClosed f h SenderClosed
close-bit-other Sender n s a f h shuts = mark_set Shutdown f h RecorderClosed
close-bit-other Recorder n s a f h shuts = mark_set Shutdown f h SenderClosed
close-bit-other side n s a f h waits = refl
close-bit-other side n s a f h (wakes q b m) = refl

-- one note more in a list
pub length_more : {A : Type 0} (xs : List A) (x : A) → length (xs ++ (x ∷ [])) ≡ length xs + 1
length_more xs x = length-append xs (x ∷ [])

module _ (P S v : ℕ) (on : Bool) (r : List ℕ) (p : Party) (payload : List ℕ) (fixed : Fixed P S v on r) where
  abbrev left : Access → List ℕ
  left a = leaves_of r p.own a p.tag payload

  pub header-in : header_bytes ≤ length r
  unfolding total_bytes
  header-in = omega (arith, fixed.long)

  pub flags-are : (a : Access) → le_at 4 (left a) flags_at ≡ flags_by a (le_at 4 r flags_at)
  flags-are a = flags-after r p.own p.tag payload header-in fixed.small a

  pub fixed_kept : (a : Access) → Fixed P S v on (left a)
  fixed_kept a =
      record {
        long = length-leaves r p.own p.tag payload a ∙ fixed.long;
        small = rw (flags-are a) (flags_by-small a (le_at 4 r flags_at) fixed.small);
        power_at = power-after r p.own p.tag payload header-in a ∙ fixed.power_at;
        slot_at = slot-size-after r p.own p.tag payload header-in a ∙ fixed.slot_at;
        option = rw (flags-are a) (flags_by-option a (le_at 4 r flags_at) fixed.small ∙ fixed.option);
      }

  module _ (t : Trace) (buffer : List ℕ) where
    abbrev told : Access → Trace
    told a = traced a p payload buffer t

    -- the other's count stays
    pub counts-other : (side : Side) (s : Step) (a : Access) → Does side p.counter s a → count_of (other side) (told a) ≡ count_of (other side) t
    counts-other side s a (nothing q) = refl
    counts-other side s a (looks q) = refl
    counts-other side s a (flags q) = refl
    counts-other Sender s a reads = refl
    counts-other Recorder s a reads = refl
    counts-other Sender s a (writes q) = refl
    counts-other Recorder s a (writes q) = refl
    counts-other Sender s a (takes q) = refl
    counts-other Recorder s a (takes q) = refl
    counts-other Sender s a stores = refl
    counts-other Recorder s a stores = refl
    counts-other Sender s a (raises q NotEmpty) = refl
    counts-other Sender s a (raises q NotFull) = refl
    counts-other Recorder s a (raises q NotEmpty) = refl
    counts-other Recorder s a (raises q NotFull) = refl
    counts-other side s a closes = refl
    counts-other side s a shuts = refl
    counts-other side s a waits = refl
    counts-other side s a (wakes q b m) = refl

    -- the own count moves as the counter does
    pub counts-own : (side : Side) (s : Step) (a : Access) → Does side p.counter s a → counter_after (stance_of s) (plus 64 v (count_of side t)) ≡ plus 64 v (count_of side (told a))
    counts-own side s a (nothing q) = q.counter _
    counts-own side s a (looks q) = q.counter _
    counts-own side s a (flags q) = q.counter _
    counts-own Sender s a reads = refl
    counts-own Recorder s a reads = refl
    counts-own Sender s a (writes q) = refl
    counts-own Recorder s a (writes q) = refl
    counts-own Sender s a (takes q) = refl
    counts-own Recorder s a (takes q) = refl
    counts-own Sender s a stores = plus-plus 64 v (length t.sent) 1 ∙ ap (plus 64 v) (sym (length_more t.sent t.hand))
    counts-own Recorder s a stores = plus-plus 64 v (length t.delivered) 1 ∙ ap (plus 64 v) (sym (length_more t.delivered _))
    counts-own Sender s a (raises q NotEmpty) = q.counter _
    counts-own Sender s a (raises q NotFull) = q.counter _
    counts-own Recorder s a (raises q NotEmpty) = q.counter _
    counts-own Recorder s a (raises q NotFull) = q.counter _
    counts-own side s a closes = refl
    counts-own side s a shuts = refl
    counts-own side s a waits = refl
    counts-own side s a (wakes q b m) = q.counter _

    -- the shared counter of the mover holds what its record holds, and the other's what it held
    pub word-own : (side : Side) (s : Step) (a : Access) → Does side p.counter s a → p.counter ≡ plus 64 v (count_of side t) → le_at 8 r (counter_at side) ≡ plus 64 v (count_of side t)
        → le_at 8 (left a) (counter_at side) ≡ counter_after (stance_of s) p.counter
    word-own side s a (nothing q) c h = counter-after r p.own p.tag payload header-in side a tt ∙ h ∙ sym c ∙ sym (q.counter _)
    word-own side s a (looks q) c h = counter-after r p.own p.tag payload header-in side a tt ∙ h ∙ sym c ∙ sym (q.counter _)
    word-own side s a (flags q) c h = counter-after r p.own p.tag payload header-in side a tt ∙ h ∙ sym c ∙ sym (q.counter _)
    word-own side s a reads c h = counter-after r p.own p.tag payload header-in side a tt ∙ h ∙ sym c
    word-own side s a (writes q) c h = counter-after r p.own p.tag payload header-in side a tt ∙ h ∙ sym c
    word-own side s a (takes q) c h = counter-after r p.own p.tag payload header-in side a tt ∙ h ∙ sym c
    word-own Sender s a stores c h = counter-after r p.own p.tag payload header-in Sender a (plus-lt 64 p.counter 1)
    word-own Recorder s a stores c h = counter-after r p.own p.tag payload header-in Recorder a (plus-lt 64 p.counter 1)
    word-own side s a (raises q b) c h = counter-after r p.own p.tag payload header-in side a tt ∙ h ∙ sym c ∙ sym (q.counter _)
    word-own side s a closes c h = counter-after r p.own p.tag payload header-in side a tt ∙ h ∙ sym c
    word-own side s a shuts c h = counter-after r p.own p.tag payload header-in side a tt ∙ h ∙ sym c
    word-own side s a waits c h = counter-after r p.own p.tag payload header-in side a tt ∙ h ∙ sym c
    word-own side s a (wakes q b m) c h = counter-after r p.own p.tag payload header-in side a tt ∙ h ∙ sym c ∙ sym (q.counter _)

    pub word-other : (side : Side) (s : Step) (a : Access) → Does side p.counter s a → le_at 8 (left a) (counter_at (other side)) ≡ le_at 8 r (counter_at (other side))
    word-other side s a (nothing q) = counter-after r p.own p.tag payload header-in (other side) a tt
    word-other side s a (looks q) = counter-after r p.own p.tag payload header-in (other side) a tt
    word-other side s a (flags q) = counter-after r p.own p.tag payload header-in (other side) a tt
    word-other side s a reads = counter-after r p.own p.tag payload header-in (other side) a tt
    word-other side s a (writes q) = counter-after r p.own p.tag payload header-in (other side) a tt
    word-other side s a (takes q) = counter-after r p.own p.tag payload header-in (other side) a tt
    word-other Sender s a stores = counter-after r p.own p.tag payload header-in Recorder a (plus-lt 64 p.counter 1)
    word-other Recorder s a stores = counter-after r p.own p.tag payload header-in Sender a (plus-lt 64 p.counter 1)
    word-other side s a (raises q b) = counter-after r p.own p.tag payload header-in (other side) a tt
    word-other side s a closes = counter-after r p.own p.tag payload header-in (other side) a tt
    word-other side s a shuts = counter-after r p.own p.tag payload header-in (other side) a tt
    word-other side s a waits = counter-after r p.own p.tag payload header-in (other side) a tt
    word-other side s a (wakes q b m) = counter-after r p.own p.tag payload header-in (other side) a tt
