-- T5: a turn's one access, by the step.
use mathlib.Core.Path.{◌≡◌, refl, sym, ap, ◌∙◌}
use mathlib.Core.Bool.{Bool, true, false}
use mathlib.Core.List.{List}
use mathlib.Core.Logic.{◌⊎◌}
use native.Mathlib.Omega.{arith}
use Prim.Native.Nat.{ℕ, ◌+◌, ◌<◌, ◌≤◌}
use lib.ListN.{length, get_or}
use Rattle.words.proofs.Sets.{Outside}
use Rattle.types.specs.Pick.{pick}
use Rattle.types.specs.declared.Side.{Side}
use Rattle.types.specs.declared.Side.TheVariants.{Sender, Recorder}
use Rattle.types.specs.declared.Own.{Own}
use Rattle.types.specs.declared.Party.{Party}
use Rattle.types.specs.Faults.{Fault}
use Rattle.types.specs.declared.Access.{Access}
use Rattle.types.specs.declared.Step.{Step}
use Rattle.types.specs.declared.Step.TheVariants.{Rest, Look, Copy, Publish, Check, Raise, Wake, Gate, Spin, Epoch, Again, GateAgain, Wait, Asleep, LastLook, CloseSet, CloseRaise, CloseWake, ShutSet, ShutRaiseNe, ShutWakeNe, ShutRaiseNf, ShutWakeNf}
use Rattle.layout.specs.Limits.{payload_capacity}
use Rattle.rules.specs.Next.{next_at, next_spec}
use Rattle.rules.specs.Access.{read_out, value_of, leaves_of, buffer_of}
use Rattle.rules.specs.Turn.{goes, act_spec, act_leaves, act_buffer, turn_spec, turn_leaves, turn_buffer}
use Rattle.rules.specs.Touch.{Touch, touch_of, touched_at, touched_bytes, seen_by, GivenBy, TouchesOne, TouchesNone, SeesOne, GivesOne}
use Rattle.rules.proofs.Does.{Does, does, nothing, looks, flags, reads as epoch, writes as fill, takes as read, stores as store, raises as ring, closes as close, shuts as shut, waits as wait, wakes as wake}
use Rattle.rules.proofs.OneAccess.{writes_at, writes, leaves-other, leaves_all}

-- the step's rows are the access's rows: how many bytes, and where
bytes-are : (n payload : ℕ) (side : Side) (s : Step) → writes (next_at s side n) payload ≡ touched_bytes (touch_of side s) payload
bytes-are n payload side Rest = refl
bytes-are n payload side Look = refl
bytes-are n payload Sender Copy = refl
bytes-are n payload Recorder Copy = refl
bytes-are n payload side (Publish l t) = refl
bytes-are n payload side (Check l t) = refl
bytes-are n payload side (Raise l t) = refl
bytes-are n payload side (Wake l t) = refl
bytes-are n payload side Gate = refl
bytes-are n payload side (Spin i) = refl
bytes-are n payload side Epoch = refl
bytes-are n payload side (Again e) = refl
bytes-are n payload side (GateAgain e) = refl
bytes-are n payload side (Wait e) = refl
bytes-are n payload side Asleep = refl
bytes-are n payload side (LastLook c) = refl
bytes-are n payload side CloseSet = refl
bytes-are n payload side CloseRaise = refl
bytes-are n payload side CloseWake = refl
bytes-are n payload side (ShutSet c) = refl
bytes-are n payload side (ShutRaiseNe c) = refl
bytes-are n payload side (ShutWakeNe c) = refl
bytes-are n payload side (ShutRaiseNf c e) = refl
bytes-are n payload side (ShutWakeNf c e) = refl

place_is : (own : Own) (p : Party) (side : Side) (s : Step) → p.own ≡ own → own.side ≡ side → writes_at own (next_at s side p.counter) ≡ touched_at (touch_of side s) p
place_is own p side Rest o q = refl
place_is own p side Look o q = refl
place_is own p Sender Copy o q = rw o
place_is own p Recorder Copy o q = refl
place_is own p side (Publish l t) o q = rw (o, q)
place_is own p side (Check l t) o q = refl
place_is own p side (Raise l t) o q = refl
place_is own p side (Wake l t) o q = refl
place_is own p side Gate o q = refl
place_is own p side (Spin i) o q = refl
place_is own p side Epoch o q = refl
place_is own p side (Again e) o q = refl
place_is own p side (GateAgain e) o q = refl
place_is own p side (Wait e) o q = refl
place_is own p side Asleep o q = refl
place_is own p side (LastLook c) o q = refl
place_is own p side CloseSet o q = refl
place_is own p side CloseRaise o q = refl
place_is own p side CloseWake o q = refl
place_is own p side (ShutSet c) o q = refl
place_is own p side (ShutRaiseNe c) o q = refl
place_is own p side (ShutWakeNe c) o q = refl
place_is own p side (ShutRaiseNf c e) o q = refl
place_is own p side (ShutWakeNf c e) o q = refl

-- a value seen
value-is : (r : List ℕ) (p : Party) (side : Side) (s : Step) → value_of r p.own (next_at s side p.counter) ≡ seen_by side s r p
unfolding value_of
value-is r p side Rest = refl
value-is r p side Look = refl
value-is r p Sender Copy = refl
value-is r p Recorder Copy = refl
value-is r p side (Publish l t) = refl
value-is r p side (Check l t) = refl
value-is r p side (Raise l t) = refl
value-is r p side (Wake l t) = refl
value-is r p side Gate = refl
value-is r p side (Spin i) = refl
value-is r p side Epoch = refl
value-is r p side (Again e) = refl
value-is r p side (GateAgain e) = refl
value-is r p side (Wait e) = refl
value-is r p side Asleep = refl
value-is r p side (LastLook c) = refl
value-is r p side CloseSet = refl
value-is r p side CloseRaise = refl
value-is r p side CloseWake = refl
value-is r p side (ShutSet c) = refl
value-is r p side (ShutRaiseNe c) = refl
value-is r p side (ShutWakeNe c) = refl
value-is r p side (ShutRaiseNf c e) = refl
value-is r p side (ShutWakeNf c e) = refl

given_is : (r s : List ℕ) (p : Party) (buffer : List ℕ) (side : Side) (u : Step) → GivenBy side u r s p → buffer_of r p.own (next_at u side p.counter) p.length buffer ≡ buffer_of s p.own (next_at u side p.counter) p.length buffer
unfolding buffer_of
given_is r s p buffer side u h = by side u (next_at u side p.counter) (does side p.counter u) h
  where
    by : (side : Side) (u : Step) (a : Access) → Does side p.counter u a → GivenBy side u r s p → buffer_of r p.own a p.length buffer ≡ buffer_of s p.own a p.length buffer
    by side u a (nothing l) h = refl
    by side u a (looks l) h = refl
    by side u a (flags l) h = refl
    by side u a epoch h = refl
    by side u a (fill q) h = refl
    by Sender u a (read q) h = absurd (let z : ◌≡◌ {A = ℕ} 0 1 = cc in omega arith)
    by Recorder u a (read q) h = ap (read_out p.length (payload_capacity p.own.slot) buffer) h
    by side u a store h = refl
    by side u a (ring l b) h = refl
    by side u a close h = refl
    by side u a shut h = refl
    by side u a wait h = refl
    by side u a (wake l b m) h = refl

module _ (side : Side) (p : Party) (payload buffer : List ℕ) (fault : Fault) where
  abbrev pick_goes : List ℕ → Bool
  pick_goes r = goes side p (length r) (length payload) (length buffer) fault

  outside : (k a n b m : ℕ) → a ≡ b → n ≡ m → (k < b) ⊎ (b + m ≤ k) → Outside k a n
  outside k a n b m e f o = rw (e, f) o

  pub touches-one : TouchesOne side p payload buffer fault
  unfolding turn_leaves act_leaves next_spec
  touches-one r k o = by (pick_goes r)
    where
      by : (b : Bool) → get_or (pick b (leaves_of r p.own (next_at p.step p.own.side p.counter) p.tag payload) r) k 0 ≡ get_or r k 0
      by false = refl
      by true =
          leaves-other r p.own p.tag payload (next_at p.step p.own.side p.counter) k
          (outside k _ _ _ _ (place_is p.own p p.own.side p.step refl refl) (bytes-are p.counter (length payload) p.own.side p.step) o)

  pub touches_none : TouchesNone side p payload buffer fault
  unfolding turn_leaves act_leaves next_spec
  touches_none e r = by (pick_goes r)
    where
      by : (b : Bool) → pick b (leaves_of r p.own (next_at p.step p.own.side p.counter) p.tag payload) r ≡ r
      by false = refl
      by true =
          leaves_all r p.own p.tag payload (next_at p.step p.own.side p.counter)
          (bytes-are p.counter (length payload) p.own.side p.step ∙ ap (λ (x : Touch). touched_bytes x (length payload)) e)

  pub sees-one : SeesOne side p payload buffer fault
  unfolding turn_spec act_spec next_spec
  sees-one r s l e =
      let a = next_at p.step p.own.side p.counter in
      let v : value_of r p.own a ≡ value_of s p.own a = value-is r p p.own.side p.step ∙ e ∙ sym (value-is s p p.own.side p.step) in
      rw (l, v)

  pub gives_one : GivesOne side p payload buffer fault
  unfolding turn_buffer act_buffer next_spec
  gives_one r s l h = rw (l, given_is r s p buffer p.own.side p.step h)
