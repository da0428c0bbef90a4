-- What a turn of one side does to the numbers that the two rely on, by the mover's step.
use mathlib.Core.Path.{◌≡◌, refl, sym, ◌∙◌}
use mathlib.Core.Bool.{Bool, true, false}
use mathlib.Core.List.{List, [], ◌∷◌, ◌++◌}
use Prim.Native.Nat.{ℕ, zero, suc, ◌+◌, ◌-◌}
use native.Mathlib.Omega.{arith}
use lib.ListN.{length, take}
use Rattle.types.specs.declared.Side.{Side}
use Rattle.types.specs.declared.Side.TheVariants.{Sender, Recorder}
use Rattle.types.specs.declared.Bell.TheVariants.{NotEmpty, NotFull}
use Rattle.types.specs.declared.Party.{Party}
use Rattle.types.specs.declared.Step.{Step}
use Rattle.types.specs.declared.Step.TheVariants.{Rest, Look, Copy, Publish, Check, Raise, Wake, Gate, Spin, Epoch, Again, GateAgain, Wait, Asleep, LastLook, CloseSet, CloseRaise, CloseWake, ShutSet, ShutRaiseNe, ShutWakeNe, ShutRaiseNf, ShutWakeNf}
use Rattle.types.specs.declared.Access.{Access}
use Rattle.rules.specs.Sides.{other}
use Rattle.rules.specs.Take.{stance_of}
use Rattle.rules.specs.Next.{next_at}
use Rattle.rules.specs.Run.{Note, Trace, carried, traced, rung_of}
use Rattle.rules.specs.Phase.{publishing, phase}
use Rattle.rules.proofs.After.{flags_by}
use Rattle.rules.proofs.Kept.{length_more}
use Rattle.rules.proofs.Heard.{rung_by, room_by, sets_no, sets_none}
use Rattle.rules.proofs.Own.{waits_on}
use Rattle.rules.proofs.Does.{less, Plain, Does, does, nothing, looks, flags, reads as epoch, writes, takes, stores as store, raises as ring, closes as close, shuts as shut, waits as wait, wakes as wake}
use Rattle.rules.proofs.Costs.{own_room}
use Rattle.rules.proofs.Real.{HasRoom, room_in, Queue}

module _ (p : Party) (payload buffer : List ℕ) (t : Trace) where
  abbrev after : Access → Trace
  after a = traced a p payload buffer t

  abbrev told : Step → Side → Trace
  told s side = after (next_at s side p.counter)

  -- raises of the other's bell
  pub rung-other : (side : Side) (s : Step) → rung_of (other side) (told s side) ≡ rung_by side s (rung_of (other side) t)
  rung-other side Rest = refl
  rung-other side Look = refl
  rung-other Sender Copy = refl
  rung-other Recorder Copy = refl
  rung-other Sender (Publish l g) = refl
  rung-other Recorder (Publish l g) = refl
  rung-other side (Check l g) = refl
  rung-other Sender (Raise l g) = refl
  rung-other Recorder (Raise l g) = refl
  rung-other side (Wake l g) = refl
  rung-other side Gate = refl
  rung-other side (Spin n) = refl
  rung-other Sender Epoch = refl
  rung-other Recorder Epoch = refl
  rung-other side (Again e) = refl
  rung-other side (GateAgain e) = refl
  rung-other side (Wait e) = refl
  rung-other side Asleep = refl
  rung-other side (LastLook c) = refl
  rung-other side CloseSet = refl
  rung-other Sender CloseRaise = refl
  rung-other Recorder CloseRaise = refl
  rung-other side CloseWake = refl
  rung-other side (ShutSet c) = refl
  rung-other Sender (ShutRaiseNe c) = refl
  rung-other Recorder (ShutRaiseNe c) = refl
  rung-other side (ShutWakeNe c) = refl
  rung-other Sender (ShutRaiseNf c f) = refl
  rung-other Recorder (ShutRaiseNf c f) = refl
  rung-other side (ShutWakeNf c f) = refl

  -- and of the own, at a step of the wait
  pub rung-own : (side : Side) (s : Step) → waits_on s ≡ true → rung_of side (told s side) ≡ rung_of side t
  rung-own side Rest h = absurd (let z : ◌≡◌ {A = ℕ} 0 1 = cc in omega arith)
  rung-own side Look h = absurd (let z : ◌≡◌ {A = ℕ} 0 1 = cc in omega arith)
  rung-own side Copy h = absurd (let z : ◌≡◌ {A = ℕ} 0 1 = cc in omega arith)
  rung-own side (Publish l g) h = absurd (let z : ◌≡◌ {A = ℕ} 0 1 = cc in omega arith)
  rung-own side (Check l g) h = absurd (let z : ◌≡◌ {A = ℕ} 0 1 = cc in omega arith)
  rung-own side (Raise l g) h = absurd (let z : ◌≡◌ {A = ℕ} 0 1 = cc in omega arith)
  rung-own side (Wake l g) h = absurd (let z : ◌≡◌ {A = ℕ} 0 1 = cc in omega arith)
  rung-own side Gate h = absurd (let z : ◌≡◌ {A = ℕ} 0 1 = cc in omega arith)
  rung-own side (Spin n) h = absurd (let z : ◌≡◌ {A = ℕ} 0 1 = cc in omega arith)
  rung-own side Epoch h = absurd (let z : ◌≡◌ {A = ℕ} 0 1 = cc in omega arith)
  rung-own side (Again e) h = refl
  rung-own side (GateAgain e) h = refl
  rung-own side (Wait e) h = refl
  rung-own side Asleep h = refl
  rung-own side (LastLook c) h = refl
  rung-own side CloseSet h = absurd (let z : ◌≡◌ {A = ℕ} 0 1 = cc in omega arith)
  rung-own side CloseRaise h = absurd (let z : ◌≡◌ {A = ℕ} 0 1 = cc in omega arith)
  rung-own side CloseWake h = absurd (let z : ◌≡◌ {A = ℕ} 0 1 = cc in omega arith)
  rung-own side (ShutSet c) h = absurd (let z : ◌≡◌ {A = ℕ} 0 1 = cc in omega arith)
  rung-own side (ShutRaiseNe c) h = absurd (let z : ◌≡◌ {A = ℕ} 0 1 = cc in omega arith)
  rung-own side (ShutWakeNe c) h = absurd (let z : ◌≡◌ {A = ℕ} 0 1 = cc in omega arith)
  rung-own side (ShutRaiseNf c f) h = absurd (let z : ◌≡◌ {A = ℕ} 0 1 = cc in omega arith)
  rung-own side (ShutWakeNf c f) h = absurd (let z : ◌≡◌ {A = ℕ} 0 1 = cc in omega arith)

  less-is : (k : ℕ) → less k ≡ k - 1
  less-is zero = omega arith
  less-is (suc k) = omega arith

  module _ (P S v : ℕ) (on : Bool) (r : List ℕ) (queue : Queue P S v on r t) where
    -- the rooms: a store takes one of the own and gives the other one
    sent-more : length (t.sent ++ (t.hand ∷ [])) ≡ length t.sent + 1
    sent-more = length_more t.sent t.hand

    delivered-more : (n : _) → length (t.delivered ++ (n ∷ [])) ≡ length t.delivered + 1
    delivered-more n = length_more t.delivered n

    -- both rooms; one that does not store keeps them
    abbrev Rooms : Side → Step → Access → Type 0
    Rooms side s a =
        (room_in P S v on side (after a) ≡ own_room s (room_in P S v on side t)) × (room_in P S v on (other side) (after a) ≡ room_by s (room_in P S v on (other side) t))

    kept : (side : Side) (s : Step) (a : Access) → Plain (stance_of s) → ((after a).sent ≡ t.sent) × ((after a).delivered ≡ t.delivered) → Rooms side s a
    kept Sender s a l e = (rw (e.0, e.1) (sym (l.own _)), rw (e.0, e.1) (sym (l.other-room _)))
    kept Recorder s a l e = (rw (e.0, e.1) (sym (l.own _)), rw (e.0, e.1) (sym (l.other-room _)))

    stored : (side : Side) (l g : ℕ) → HasRoom (publishing l g) (room_in P S v on side t) → Rooms side (Publish l g) (next_at (Publish l g) side p.counter)
    stored Sender l g h = (rw (sent-more, less-is) (omega (arith, queue.below)), rw sent-more (omega (arith, queue.below)))
    stored Recorder l g h =
        let n : Note = record { tag = (carried p.step).tag; body = take (carried p.step).length t.buffer } in
        (rw (delivered-more n, less-is) (omega arith), rw (delivered-more n) (omega (arith, queue.below, queue.above)))

    rooms : (side : Side) (s : Step) (a : Access) → Does side p.counter s a → HasRoom (phase s) (room_in P S v on side t) → Rooms side s a
    rooms side s a (nothing l) h = kept side s a l (refl, refl)
    rooms side s a (looks l) h = kept side s a l (refl, refl)
    rooms side s a (flags l) h = kept side s a l (refl, refl)
    rooms Sender s a epoch h = (refl, refl)
    rooms Recorder s a epoch h = (refl, refl)
    rooms Sender s a (writes q) h = (refl, refl)
    rooms Recorder s a (writes q) h = (refl, refl)
    rooms Sender s a (takes q) h = (refl, refl)
    rooms Recorder s a (takes q) h = (refl, refl)
    rooms side s a (store {l = l} {t = g}) h = stored side l g h
    rooms side s a (ring l NotEmpty) h = kept side s a l (refl, refl)
    rooms side s a (ring l NotFull) h = kept side s a l (refl, refl)
    rooms side s a close h = (refl, refl)
    rooms side s a shut h = (refl, refl)
    rooms side s a wait h = (refl, refl)
    rooms side s a (wake l b m) h = kept side s a l (refl, refl)

    pub room-own-is : (side : Side) (s : Step) → HasRoom (phase s) (room_in P S v on side t) → room_in P S v on side (told s side) ≡ own_room s (room_in P S v on side t)
    room-own-is side s h = (rooms side s (next_at s side p.counter) (does side p.counter s) h).0

    pub room-other-is : (side : Side) (s : Step) → HasRoom (phase s) (room_in P S v on side t) → room_in P S v on (other side) (told s side) ≡ room_by s (room_in P S v on (other side) t)
    room-other-is side s h = (rooms side s (next_at s side p.counter) (does side p.counter s) h).1

-- the flags, at a step that sets none
pub flags-still : (side : Side) (n f : ℕ) (s : Step) → sets_none s ≡ true → flags_by (next_at s side n) f ≡ f
flags-still side n f s h = by s (next_at s side n) (does side n s) h
  where
    by : (s : Step) (a : Access) → Does side n s a → sets_none s ≡ true → flags_by a f ≡ f
    by s a (nothing l) h = refl
    by s a (looks l) h = refl
    by s a (flags l) h = refl
    by s a epoch h = refl
    by s a (writes q) h = refl
    by s a (takes q) h = refl
    by s a store h = refl
    by s a (ring l b) h = refl
    by s a close h = absurd (let z : ◌≡◌ {A = ℕ} 0 1 = cc in omega arith)
    by s a shut h = absurd (let z : ◌≡◌ {A = ℕ} 0 1 = cc in omega arith)
    by s a wait h = refl
    by s a (wake l b m) h = refl

-- a step that is told by any test from the two that set one
pub sets-none : (F : Step → Bool) → F CloseSet ≡ false → ((c : Bool) → F (ShutSet c) ≡ false) → (s : Step) → F s ≡ true → sets_none s ≡ true
sets-none F x y s h = by s (next_at s Sender 0) (does Sender 0 s) h
  where
    by : (s : Step) (a : Access) → Does Sender 0 s a → F s ≡ true → sets_no a ≡ true
    by s a (nothing l) h = refl
    by s a (looks l) h = refl
    by s a (flags l) h = refl
    by s a epoch h = refl
    by s a (writes q) h = refl
    by s a (takes q) h = refl
    by s a store h = refl
    by s a (ring l b) h = refl
    by s a close h = absurd (let f = sym h ∙ x in let z : ◌≡◌ {A = ℕ} 0 1 = cc in omega arith)
    by s a (shut {c = c}) h = absurd (let f = sym h ∙ y c in let z : ◌≡◌ {A = ℕ} 0 1 = cc in omega arith)
    by s a wait h = refl
    by s a (wake l b m) h = refl

pub waits-still : (s : Step) → waits_on s ≡ true → sets_none s ≡ true
waits-still = sets-none waits_on refl (λ c. refl)
