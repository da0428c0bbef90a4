-- What each answer leaves behind, by the rows of the table.
use Rattle.std.specs.Prelude.{None}
use mathlib.Core.Path.{◌≡◌, refl, ap, ◌∙◌}
use mathlib.Core.Bool.{Bool, true, false}
use mathlib.Core.List.{List}
use Prim.Native.Nat.{ℕ}
use native.Mathlib.Omega.{arith}
use Rattle.types.specs.declared.Side.{Side}
use Rattle.types.specs.declared.Side.TheVariants.{Recorder}
use Rattle.types.specs.declared.Party.{Party}
use Rattle.types.specs.declared.Turned.{Turned}
use Rattle.types.specs.Faults.{Fault}
use Rattle.types.specs.declared.Bell.TheVariants.{NotFull}
use Rattle.types.specs.declared.Fit.{Fit}
use Rattle.types.specs.declared.Fit.TheVariants.{Bad, Small}
use Rattle.types.specs.declared.Stance.{Stance}
use Rattle.types.specs.declared.Stance.TheVariants.{Resting, Sleeping}
use Rattle.types.specs.declared.Step.{Step}
use Rattle.types.specs.declared.Step.TheVariants.{Rest, Look, Copy, Wake, Gate, GateAgain, Wait, Asleep, LastLook, CloseWake, ShutWakeNf}
use Rattle.types.specs.declared.Move.{Move}
use Rattle.types.specs.declared.Move.TheVariants.{Still, To, End}
use Rattle.types.specs.declared.Answer.{Answer}
use Rattle.types.specs.declared.Answer.TheVariants.{Done, InvalidMagic, UnsupportedVersion, InvalidHeaderSize, InvalidLayout, InvalidCapacity, InvalidSlotSize, CorruptIndices, CorruptSlot, Full, Empty, Closed, Shutdown, Timeout, WouldBlock, OutputTooSmall, AlreadyAttached, Syscall, PayloadTooLong, NotFullOff, BadCall, Nothing, Begun, GoesOn}
use Rattle.types.specs.declared.Access.{Access}
use Rattle.types.specs.declared.Access.TheVariants.{None as NoAccess, LoadCounter, LoadFlags, ReadSlot, WaitBell, WakeBell}
use Rattle.layout.specs.Limits.{payload_capacity}
use Rattle.layout.specs.Slots.{head_word, head_of}
use Rattle.rules.specs.Sides.{other, ring_bell, sleep_bell}
use Rattle.rules.specs.Looks.{fit_of}
use Rattle.rules.specs.Take.{stance_of, answer_of, step_after, closed_after, counter_after, move_of, take_spec}
use Rattle.rules.specs.Next.{one, all, slot_access, next_at, next_spec}
use Rattle.rules.specs.Access.{slot_of, value_of, leaves_of, copied_out, buffer_of}
use Rattle.rules.specs.Turn.{error_of, taken, woke_of, act_spec, act_leaves, act_buffer, turn_spec, turn_leaves, turn_buffer}
use Rattle.rules.specs.Given.{EndsWith, published, checked, woke, closed-alone, closed, shut, corrupt, bad-slot, too_small, full, empty, left, left-again, none_left, down, down-again, timed-out, wake-failed, close-failed, wait-failed, shut-failed, shut-failed-last, resting, asleep, goes_on, turn}
use Rattle.rules.specs.Leaves.{LeavesKept}
use Rattle.rules.proofs.Answered.{ends-only}

-- a party after a turn, by its stance and its move alone
unfoldable pub made : Party → Stance → Move → Party
made p s m = record {
  own = p.own;
  closed = closed_after s p.closed;
  counter = counter_after s p.counter;
  blocking = p.blocking;
  tag = p.tag;
  length = p.length;
  step = step_after m p.step;
}

still-rests : (p : Party) → made p Resting Still ≡ p
unfolding made
still-rests p = refl

still-sleeps : (p : Party) → made p Sleeping Still ≡ p
unfolding made
still-sleeps p = refl

-- an answer that ends a call
abbrev pub settles : Answer → Bool
settles (Done l t) = true
settles InvalidMagic = true
settles UnsupportedVersion = true
settles InvalidHeaderSize = true
settles InvalidLayout = true
settles InvalidCapacity = true
settles InvalidSlotSize = true
settles CorruptIndices = true
settles CorruptSlot = true
settles Full = true
settles Empty = true
settles Closed = true
settles Shutdown = true
settles Timeout = true
settles WouldBlock = true
settles (OutputTooSmall n) = true
settles AlreadyAttached = true
settles (Syscall op e) = true
settles PayloadTooLong = true
settles NotFullOff = true
settles BadCall = true
settles Nothing = false
settles Begun = true
settles GoesOn = false

rests-by : (m : Move) (s : Step) (x : Answer) → answer_of m ≡ x → settles x ≡ true → step_after m s ≡ Rest
rests-by Still s x e t = absurd (let z : ◌≡◌ {A = ℕ} 0 1 = cc in omega arith)
rests-by (To n) s x e t = absurd (let z : ◌≡◌ {A = ℕ} 0 1 = cc in omega arith)
rests-by (End a) s x e t = refl

module _ (side : Side) (r : List ℕ) (p : Party) (i o : List ℕ) (f : Fault) (g : taken side r p i o f ≡ true) where
  abbrev value : ℕ
  value = value_of r p.own (next_spec p)

  pub turn_is : turn_spec side r p i o f ≡ act_spec r p (error_of f)
  unfolding turn_spec
  turn_is = rw g

  pub leaves-is : turn_leaves side r p i o f ≡ act_leaves r p i
  unfolding turn_leaves
  leaves-is = rw g

  pub buffer-is : turn_buffer side r p i o f ≡ act_buffer r p o
  unfolding turn_buffer
  buffer-is = rw g

  pub party-is : (turn_spec side r p i o f).party ≡ made p (stance_of p.step) (move_of p value (error_of f))
  unfolding made act_spec take_spec
  party-is = ap (λ (t : Turned). t.party) turn_is

  -- a settled turn leaves its party at rest
  pub turn-rests : {x : Answer} → EndsWith p value (error_of f) x → settles x ≡ true → (turn_spec side r p i o f).party.step ≡ Rest
  unfolding made
  turn-rests {x} row t = ap (λ (q : Party). q.step) party-is ∙ rests-by (move_of p value (error_of f)) p.step x (ends-only row) t

  -- a turn that only looks keeps every byte
  looks-kept : (a : Access) → next_spec p ≡ a → leaves_of r p.own a p.tag i ≡ r → buffer_of r p.own a p.length o ≡ o
      → (turn_leaves side r p i o f ≡ r) × (turn_buffer side r p i o f ≡ o)
  unfolding act_leaves act_buffer
  looks-kept a n l b = (leaves-is ∙ rw n l, buffer-is ∙ rw n b)

  pub next-is : (s : Step) → p.step ≡ s → next_spec p ≡ next_at s p.own.side p.counter
  unfolding next_spec
  next-is s e = ap (λ (t : Step). next_at t p.own.side p.counter) e

  -- the party as it was, at rest or asleep
  turn-still : (s : Stance) → stance_of p.step ≡ s → made p s Still ≡ p → move_of p value (error_of f) ≡ Still → (turn_spec side r p i o f).party ≡ p
  turn-still s e h m = party-is ∙ rw (e, m) h

  nobody : (a : Access) → next_spec p ≡ a → woke_of a (error_of f) ≡ None → (turn_spec side r p i o f).woke ≡ None
  unfolding act_spec
  nobody a n h = ap (λ (t : Turned). t.woke) turn_is ∙ rw n h

  -- a copy that does not fit
  copy-kept : p.step ≡ Copy → p.own.side ≡ Recorder → (t : Fit) → copied_out t o (slot_of r p.own p.counter) (head_of (head_word (slot_of r p.own p.counter))).length ≡ o
      → fit_of (head_of value) (payload_capacity p.own.slot) p.length ≡ t
      → (turn_leaves side r p i o f ≡ r) × (turn_buffer side r p i o f ≡ o)
  unfolding leaves_of buffer_of value_of
  copy-kept s q t c h =
      let n : next_spec p ≡ ReadSlot p.counter = next-is Copy s ∙ ap (λ (x : Side). slot_access x p.counter) q in
      let e : fit_of (head_of (head_word (slot_of r p.own p.counter))) (payload_capacity p.own.slot) p.length ≡ t = rw n at h in
      looks-kept (ReadSlot p.counter) n refl (rw e c)

  pub ends-leaves : {x : Answer} → EndsWith p value (error_of f) x → LeavesKept x (turn side r p i o f)
  unfolding leaves_of buffer_of move_of
  ends-leaves (published s q) = turn-rests (published s q) refl
  ends-leaves (checked s b) = turn-rests (checked s b) refl
  ends-leaves (woke s z) = turn-rests (woke s z) refl
  ends-leaves (closed-alone s q) = turn-rests (closed-alone s q) refl
  ends-leaves (closed s z) = turn-rests (closed s z) refl
  ends-leaves (shut s a z) = turn-rests (shut s a z) refl
  ends-leaves (corrupt {first} s) = (looks-kept (WakeBell NotFull all) (next-is (ShutWakeNf true first) s) refl refl, turn-rests (corrupt s) refl)
  ends-leaves (bad-slot s q h) = (copy-kept s q Bad refl h, turn-rests (bad-slot s q h) refl)
  ends-leaves (too_small s q h) = (copy-kept s q Small refl h, turn-rests (too_small s q h) refl)
  ends-leaves (full s q b h) = (looks-kept (LoadCounter (other p.own.side)) (next-is Look s) refl refl, turn-rests (full s q b h) refl)
  ends-leaves (empty s q b h) = (looks-kept (LoadCounter (other p.own.side)) (next-is Look s) refl refl, turn-rests (empty s q b h) refl)
  ends-leaves (left s q d) = (looks-kept LoadFlags (next-is Gate s) refl refl, turn-rests (left s q d) refl)
  ends-leaves (left-again {epoch} s q d) = (looks-kept LoadFlags (next-is (GateAgain epoch) s) refl refl, turn-rests (left-again s q d) refl)
  ends-leaves (none_left s r) = (looks-kept (LoadCounter (other p.own.side)) (next-is (LastLook false) s) refl refl, turn-rests (none_left s r) refl)
  ends-leaves (down s d) = (looks-kept LoadFlags (next-is Gate s) refl refl, turn-rests (down s d) refl)
  ends-leaves (down-again {epoch} s d) = (looks-kept LoadFlags (next-is (GateAgain epoch) s) refl refl, turn-rests (down-again s d) refl)
  ends-leaves (timed-out s r) = (looks-kept (LoadCounter (other p.own.side)) (next-is (LastLook true) s) refl refl, turn-rests (timed-out s r) refl)
  ends-leaves (wake-failed {l} {t} s z) = (looks-kept (WakeBell (ring_bell p.own.side) one) (next-is (Wake l t) s) refl refl, turn-rests (wake-failed s z) refl)
  ends-leaves (close-failed s z) = (looks-kept (WakeBell (ring_bell p.own.side) all) (next-is CloseWake s) refl refl, turn-rests (close-failed s z) refl)
  ends-leaves (wait-failed {epoch} s n) = (looks-kept (WaitBell (sleep_bell p.own.side) epoch) (next-is (Wait epoch) s) refl refl, turn-rests (wait-failed s n) refl)
  ends-leaves (shut-failed {first} s a) = (looks-kept (WakeBell NotFull all) (next-is (ShutWakeNf false first) s) refl refl, turn-rests (shut-failed s a) refl)
  ends-leaves (shut-failed-last {first} s a z) = (looks-kept (WakeBell NotFull all) (next-is (ShutWakeNf false first) s) refl refl, turn-rests (shut-failed-last s a z) refl)
  ends-leaves (resting s) =
      (looks-kept NoAccess (next-is Rest s) refl refl, (turn-still Resting (ap stance_of s) (still-rests p) (rw s), nobody NoAccess (next-is Rest s) refl))
  ends-leaves (asleep s) =
      (looks-kept NoAccess (next-is Asleep s) refl refl, (turn-still Sleeping (ap stance_of s) (still-sleeps p) (rw s), nobody NoAccess (next-is Asleep s) refl))
  ends-leaves (goes_on m) = tt
