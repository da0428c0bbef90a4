-- A taken turn keeps the invariant.
use mathlib.Core.Path.{◌≡◌, refl, sym, ap, ◌∙◌, subst}
use mathlib.Core.Bool.{Bool, true, false, ◌&&◌}
use mathlib.Core.List.{List}
use mathlib.Core.Logic.{◌⊎◌, inl, inr}
use Prim.Native.Nat.{ℕ, ◌+◌, ◌^◌, ◌<◌, ◌≤◌}
use native.Mathlib.Omega.{arith}
use borrow.Author.Tests.{leb-true, eqb-true}
use lib.Dec.{eqb}
use lib.ListN.{length}
use Rattle.words.specs.Le.{le_at}
use Rattle.words.specs.Wrap.{plus}
use Rattle.types.specs.Pick.{pick}
use Rattle.types.specs.declared.Side.{Side}
use Rattle.types.specs.declared.Side.TheVariants.{Sender, Recorder}
use Rattle.types.specs.declared.Own.{Own}
use Rattle.types.specs.declared.Party.{Party}
use Rattle.types.specs.Faults.{Fault}
use Rattle.types.specs.Faults.{Woke}
use Rattle.types.specs.declared.Step.{Step}
use Rattle.types.specs.declared.Step.TheVariants.{Rest, Look, Copy, Publish, Check, Raise, Wake, Gate, Spin, Epoch, Again, GateAgain, Wait, Asleep, LastLook, CloseSet, CloseRaise, CloseWake, ShutSet, ShutRaiseNe, ShutWakeNe, ShutRaiseNf, ShutWakeNf}
use Rattle.types.specs.declared.Move.{Move}
use Rattle.types.specs.declared.Access.{Access}
use Rattle.types.specs.declared.Access.TheVariants.{WriteSlot, ReadSlot}
use Rattle.layout.specs.Limits.{slot_head_bytes, power_ok, slot_ok, capacity, payload_capacity}
use Rattle.layout.specs.Header.{flags_at, counter_at, bell_at}
use Rattle.layout.specs.Slots.{head_of}
use Rattle.layout.proofs.SizeLaws.{capacity-room, slot-least}
use Rattle.rules.specs.Sides.{other, sleep_bell}
use Rattle.rules.specs.Looks.{room_of, was_blocked, door_of, fit_of}
use Rattle.rules.specs.Steps.{copy_move}
use Rattle.rules.specs.Take.{stance_of, counter_after, step_after, move_at, move_of}
use Rattle.rules.specs.Next.{slot_access, next_at, next_spec}
use Rattle.rules.specs.Access.{value_of, leaves_of, buffer_of}
use Rattle.rules.specs.Calls.{is_sleeping, at, length_ok}
use Rattle.rules.specs.Turn.{error_of, lent_to, lent_ok, woke_of}
use Rattle.rules.specs.Bench.{seat, hears, wakened}
use Rattle.rules.specs.Run.{Note, Trace, World, party_in, takes, traced, rung_of}
use Rattle.rules.specs.Phase.{copying, looking, phase}
use Rattle.rules.proofs.Views.{is-copy}
use Rattle.rules.proofs.Rooms.{as_room, sender-sees, recorder-sees, sender-checks, recorder-checks}
use Rattle.rules.proofs.Leads.{Sight, sight_of, Leads, Tells, leads}
use Rattle.rules.proofs.Does.{Does, does}
use Rattle.rules.proofs.After.{bell-after, bell-by-small}
use Rattle.rules.proofs.Kept.{header-in, fixed_kept, counts-own, counts-other, word-own, word-other}
use Rattle.rules.proofs.Seats.{moved, Roused, roused, roused-elim, seated-own, seated-other, since-own, since-other}
use Rattle.rules.proofs.Hands.{in-hand-none, queue-kept, room-own, room-other, hand-own, hand-other}
use Rattle.rules.proofs.FitLaws.{copy-by}
use Rattle.rules.proofs.Copies.{copy_written, copy_read}
use Rattle.rules.proofs.Taken.{turn_world, turn-refused, seat-own, seat-other, turn-taken, attached-here, length-ok, lent_ok_lem}
use Rattle.rules.proofs.Real.{count_of, HasRoom, Since, sizes, room_in, nth, InHand, Queue, SideGood, Real}

-- what holds of one side and of the other holds of both
pub both-sides : (side : Side) (F : Side → Type 0) → F side → F (other side) → (τ : Side) → F τ
both-sides Sender F x y Sender = x
both-sides Sender F x y Recorder = y
both-sides Recorder F x y Sender = y
both-sides Recorder F x y Recorder = x

-- what stands around a side's turn, in the region's bytes and in the trace
abbrev pub sight_at : (P S v : ℕ) (on : Bool) → Side → Own → List ℕ → Trace → (blocking : Bool) → Sight
sight_at P S v on side own r t blocking = sight_of own (room_in P S v on side t) (room_in P S v on (other side) t) (door_of side (le_at 4 r flags_at)) blocking (le_at 4 r (bell_at (sleep_bell side)))

module _ (P S v : ℕ) (on : Bool) (power-ok : power_ok P ≡ true) (slot-ok : slot_ok S ≡ true) where
  -- what the counters, the flags and the bell tell a side
  module _ (side : Side) (r : List ℕ) (t : Trace) (queue : Queue P S v on r t) (words : (side : Side) → le_at 8 r (counter_at side) ≡ plus 64 v (count_of side t)) where
    small : capacity P + 1 < 2 ^ 64
    small = omega (arith, capacity-room P)

    sees : (side : Side) → room_of side (capacity P) (plus 64 v (count_of side t)) (plus 64 v (count_of (other side) t)) ≡ as_room (room_in P S v on side t)
    sees Sender = sender-sees (capacity P) v (length t.sent) (length t.delivered) queue.below queue.above small
    sees Recorder = recorder-sees (capacity P) v (length t.sent) (length t.delivered) queue.below queue.above small

    checks : (side : Side) → was_blocked side (capacity P) (plus 64 v (count_of side t)) (plus 64 v (count_of (other side) t)) ≡ eqb (room_in P S v on (other side) t) 1
    checks Sender = sender-checks (capacity P) v (length t.sent) (length t.delivered) queue.below queue.above small
    checks Recorder = recorder-checks (capacity P) v (length t.sent) (length t.delivered) queue.below queue.above small

    pub tells_at : (own : Own) (c val : ℕ) → own ≡ sizes P S v on side own.spins → c ≡ plus 64 v (count_of side t) → (m : Bool) (s : Step) → val ≡ value_of r own (next_at s side c)
        → Tells own (sight_at P S v on side own r t m) c val s
    unfolding value_of
    tells_at own c val o h m Rest e = tt
    tells_at own c val o h m Look e = rw (o, h, e ∙ words (other side)) (sees side)
    tells_at own c val o h m Copy e = tt
    tells_at own c val o h m (Publish l g) e = tt
    tells_at own c val o h m (Check l g) e = rw (o, h, e ∙ words (other side)) (checks side)
    tells_at own c val o h m (Raise l g) e = tt
    tells_at own c val o h m (Wake l g) e = tt
    tells_at own c val o h m Gate e = rw (o, e)
    tells_at own c val o h m (Spin n) e = rw (o, h, e ∙ words (other side)) (sees side)
    tells_at own c val o h m Epoch e = e
    tells_at own c val o h m (Again n) e = rw (o, h, e ∙ words (other side)) (sees side)
    tells_at own c val o h m (GateAgain n) e = rw (o, e)
    tells_at own c val o h m (Wait n) e = e
    tells_at own c val o h m Asleep e = tt
    tells_at own c val o h m (LastLook q) e = rw (o, h, e ∙ words (other side)) (sees side)
    tells_at own c val o h m CloseSet e = tt
    tells_at own c val o h m CloseRaise e = tt
    tells_at own c val o h m CloseWake e = tt
    tells_at own c val o h m (ShutSet q) e = tt
    tells_at own c val o h m (ShutRaiseNe q) e = tt
    tells_at own c val o h m (ShutWakeNe q) e = tt
    tells_at own c val o h m (ShutRaiseNf q n) e = tt
    tells_at own c val o h m (ShutWakeNf q n) e = tt

  module _ (w : World) (real : Real P S v on w) (side : Side) (payload lent : List ℕ) (fault : Fault) (g : takes w side payload lent fault ≡ true) where
    abbrev r : List ℕ
    r = w.region

    abbrev t : Trace
    t = w.trace

    abbrev p : Party
    p = party_in w side

    abbrev mine : SideGood P S v on side r p t
    mine = real.sides side

    pub own_is : p.own ≡ sizes P S v on side p.own.spins
    own_is = (mine.seat.in_place (attached-here w side payload lent fault g)).0

    pub counter-is : p.counter ≡ plus 64 v (count_of side t)
    counter-is = (mine.seat.in_place (attached-here w side payload lent fault g)).1

    abbrev a : Access
    a = next_at p.step side p.counter

    pub access-is : next_spec p ≡ a
    unfolding next_spec
    access-is = ap (λ (o : Own). next_at p.step o.side p.counter) own_is

    abbrev value : ℕ
    value = value_of r p.own (next_spec p)

    abbrev pub next-step : Step
    next-step = step_after (move_of p value (error_of fault)) p.step

    words : (side : Side) → le_at 8 r (counter_at side) ≡ plus 64 v (count_of side t)
    words s = (real.sides s).word

    -- what its value tells
    pub tells-here : Tells p.own (sight_at P S v on side p.own r t p.blocking) p.counter value p.step
    tells-here = tells_at side r t real.queue words p.own p.counter value own_is counter-is p.blocking p.step (ap (value_of r p.own) access-is)

    -- where the turn leads
    abbrev pub sight : Sight
    sight = sight_at P S v on side (sizes P S v on side p.own.spins) r t p.blocking

    pub leads-here : Leads sight p.step next-step
    unfolding move_of
    leads-here =
        subst (λ (o : Own). Leads (sight_at P S v on side o r t p.blocking) p.step next-step)
        own_is
        (leads p.own (room_in P S v on side t) (room_in P S v on (other side) t) (door_of side (le_at 4 r flags_at)) (le_at 4 r (bell_at (sleep_bell side))) p.counter p.blocking p.length value (error_of fault) p.step tells-here)

    abbrev buffer : List ℕ
    buffer = buffer_of r p.own a p.length lent

    abbrev left : List ℕ
    left = leaves_of r p.own a p.tag payload

    abbrev told : Trace
    told = traced a p payload buffer t

    abbrev d : Does side p.counter p.step a
    d = does side p.counter p.step

    -- a push's copy is lent what it named, which fits its slot
    pushed : (σ : Side) (s : Step) (n : ℕ) → σ ≡ Sender → s ≡ Copy → length_ok σ p.length n ≡ true → lent_ok (stance_of s) (lent_to σ (length payload) (length lent)) p.length ≡ true → length payload ≤ payload_capacity n
    pushed σ s n e q k l =
        let m : length payload ≡ p.length = eqb-true (length payload) p.length (rw (e, q) at l) in
        let o : p.length ≤ payload_capacity n = leb-true p.length (payload_capacity n) (rw e at k) in
        omega arith

    payload-in : side ≡ Sender → p.step ≡ Copy → length payload ≤ payload_capacity S
    payload-in e q =
        rw own_is at (pushed side p.step p.own.slot e q (length-ok w side payload lent fault g) (lent_ok_lem w side payload lent fault g))

    fits : side ≡ Sender → p.step ≡ Copy → slot_head_bytes + length payload ≤ S
    unfolding payload_capacity
    fits e q = omega (arith, payload-in e q, slot-least S slot-ok)

    popped : (σ : Side) (s : Step) → σ ≡ Recorder → s ≡ Copy → lent_ok (stance_of s) (lent_to σ (length payload) (length lent)) p.length ≡ true → length lent ≡ p.length
    popped σ s e q l = eqb-true (length lent) p.length (rw (e, q) at l)

    queue-after : Queue P S v on left told
    queue-after =
        queue-kept P S v on power-ok slot-ok r p payload real.fixed t buffer real.queue side p.step a refl own_is counter-is d fits mine.room mine.hand

    -- the hand after a copy
    copy-hand : (σ : Side) (own : Own) (c val : ℕ) → own ≡ sizes P S v on σ own.spins → c ≡ plus 64 v (count_of σ t) → val ≡ value_of r own (slot_access σ c)
        → (σ ≡ Sender → length payload ≤ payload_capacity S) → (σ ≡ Recorder → length lent ≡ p.length) → HasRoom copying (room_in P S v on σ t) → (buffer : List ℕ) → buffer ≡ buffer_of r own (slot_access σ c) p.length lent
        → InHand P S v on σ (phase (step_after (copy_move own p.length val) Copy)) (leaves_of r own (slot_access σ c) p.tag payload) (traced (slot_access σ c) p payload buffer t)
    copy-hand Sender own c val o h e f l k b q =
        subst (λ (s : Step). InHand P S v on Sender (phase s) (leaves_of r own (WriteSlot c) p.tag payload) (traced (WriteSlot c) p payload b t))
        (sym (ap (λ (m : Move). step_after m Copy) (copy-by own p.length val Sender (ap (λ (x : Own). x.side) o))))
        (copy_written P S v on power-ok slot-ok r real.fixed t own c p.tag payload o h mine.tag_small (f refl))
    copy-hand Recorder own c val o h e f l k b q =
        let n : Note = nth t.sent (length t.delivered) in
        subst (λ (s : Step). InHand P S v on Recorder (phase s) (leaves_of r own (ReadSlot c) p.tag payload) (traced (ReadSlot c) p payload b t))
        (sym (ap (λ (m : Move). step_after m Copy) (copy-by own p.length val Recorder (ap (λ (x : Own). x.side) o))))
        (rw (e, q) (copy_read P S v on power-ok slot-ok r real.fixed t own c o h n (real.queue.ring (length t.delivered) (omega arith) (omega arith)) p.length lent (l refl)
        (fit_of (head_of (value_of r own (ReadSlot c))) (payload_capacity own.slot) p.length) refl refl (leaves_of r own (ReadSlot c) p.tag payload)))

    hand-after : InHand P S v on side (phase next-step) left told
    unfolding move_of
    hand-after = by (is-copy p.step)
      where
        by : (p.step ≡ Copy) ⊎ (p.step ≡ Copy → ⊥) → InHand P S v on side (phase next-step) left told
        by (inr n) =
            hand-own P S v on power-ok slot-ok r p payload real.fixed t buffer real.queue side sight p.step next-step refl n leads-here mine.hand
        by (inl q) =
            subst (λ (s : Step). InHand P S v on side (phase (step_after (move_at s p.own p.counter p.blocking p.length value (error_of fault)) s)) (leaves_of r p.own (next_at s side p.counter) p.tag payload)
            (traced (next_at s side p.counter) p payload (buffer_of r p.own (next_at s side p.counter) p.length lent) t))
            (sym q)
            (copy-hand side p.own p.counter value own_is counter-is (ap (value_of r p.own) (access-is ∙ ap (λ (s : Step). next_at s side p.counter) q)) (λ e. payload-in e q)
            (λ e. popped side p.step e q (lent_ok_lem w side payload lent fault g)) (subst (λ (s : Step). HasRoom (phase s) (room_in P S v on side t)) q mine.room) _ refl)

    -- a bell stays a number of 32 bits
    bell-left : (τ : Side) → le_at 4 r (bell_at (sleep_bell τ)) < 2 ^ 32 → le_at 4 left (bell_at (sleep_bell τ)) < 2 ^ 32
    bell-left τ h = rw (bell-after r p.own p.tag payload (header-in P S v on r p payload real.fixed) (sleep_bell τ) a) (bell-by-small a (sleep_bell τ) (le_at 4 r (bell_at (sleep_bell τ))) h)

    own-after : SideGood P S v on side left (moved p p.step next-step) told
    own-after =
        record {
          word =
              word-own P S v on r p payload real.fixed t buffer side p.step a d counter-is mine.word
              ∙ ap (counter_after (stance_of p.step)) counter-is
              ∙ counts-own P S v on r p payload real.fixed t buffer side p.step a d;
          seat = seated-own P S v on r p payload real.fixed t buffer side sight refl refl p.step next-step a refl (attached-here w side payload lent fault g) d leads-here mine.seat;
          since = since-own P S v on r p payload real.fixed t buffer side sight refl p.step next-step leads-here mine.since;
          room = room-own P S v on power-ok slot-ok r p payload real.fixed t buffer real.queue side sight refl p.step next-step leads-here mine.room;
          hand = hand-after;
          tag_small = mine.tag_small;
          bell-small = bell-left side mine.bell-small;
        }

    abbrev q : Party
    q = party_in w (other side)

    abbrev theirs : SideGood P S v on (other side) r q t
    theirs = real.sides (other side)

    other_after : (q' : Party) → Roused q q' → q'.tag ≡ q.tag → SideGood P S v on (other side) left q' told
    other_after q' o e =
        record {
          word = word-other P S v on r p payload real.fixed t buffer side p.step a d ∙ theirs.word ∙ ap (plus 64 v) (sym (counts-other P S v on r p payload real.fixed t buffer side p.step a d));
          seat = seated-other P S v on r p payload real.fixed t buffer side p.step a q q' o d theirs.seat;
          since = roused-elim o (λ s. Since (phase s) (le_at 4 left (bell_at (sleep_bell (other side)))) (rung_of (other side) told))
              (since-other P S v on r p payload real.fixed t buffer side p.step a (phase q.step) d theirs.since) (λ z. tt);
          room = roused-elim o (λ s. HasRoom (phase s) (room_in P S v on (other side) told))
              (room-other P S v on power-ok slot-ok r p payload real.fixed t buffer real.queue side p.step (phase q.step) mine.room theirs.room) (λ z. tt);
          hand = roused-elim o (λ s. InHand P S v on (other side) (phase s) left told)
              (hand-other P S v on power-ok slot-ok r p payload real.fixed t buffer real.queue side p.step a (phase q.step) d theirs.room theirs.hand)
              (λ z. in-hand-none P S v on (other side) looking left told tt);
          tag_small = rw e theirs.tag_small;
          bell-small = bell-left (other side) theirs.bell-small;
        }

    woken-tag : (q : Party) (x : Woke) → (wakened (other side) q x).tag ≡ q.tag
    unfolding wakened
    woken-tag q x = by (hears (other side) x && is_sleeping (stance_of q.step))
      where
        by : (b : Bool) → (pick b (at Look q) q).tag ≡ q.tag
        by true = refl
        by false = refl

    abbrev woken : Party
    woken = wakened (other side) q (woke_of (next_spec p) (error_of fault))

    unfoldable pub after_turn : World
    after_turn = record { region = left; bench = seat (seat w.bench side (moved p p.step next-step)) (other side) woken; trace = told }

    pub turn-is-after : turn_world w side payload lent fault ≡ after_turn
    unfolding after_turn
    turn-is-after =
        turn-taken w side payload lent fault g
        ∙ ap (λ (x : Access). record {
          region = leaves_of r p.own x p.tag payload;
          bench = seat (seat w.bench side (moved p p.step next-step)) (other side) woken;
          trace = traced x p payload (buffer_of r p.own x p.length lent) t;
        }) access-is

    pub real-after : Real P S v on after_turn
    unfolding after_turn
    real-after =
        record {
          fixed = fixed_kept P S v on r p payload real.fixed a;
          queue = queue-after;
          sides = both-sides side (λ τ. SideGood P S v on τ left (party_in after_turn τ) told)
              (subst (λ (x : Party). SideGood P S v on side left x told) (sym (seat-own side w.bench (moved p p.step next-step) woken)) own-after)
              (subst (λ (x : Party). SideGood P S v on (other side) left x told) (sym (seat-other side w.bench (moved p p.step next-step) woken))
              (other_after woken (roused (other side) q (woke_of (next_spec p) (error_of fault))) (woken-tag q (woke_of (next_spec p) (error_of fault)))));
        }

    real-turn : Real P S v on (turn_world w side payload lent fault)
    real-turn = subst (Real P S v on) (sym turn-is-after) real-after

  -- any turn, taken or refused
  pub real-turned : (w : World) → Real P S v on w → (side : Side) (payload lent : List ℕ) (fault : Fault) → Real P S v on (turn_world w side payload lent fault)
  real-turned w real side payload lent fault = by (takes w side payload lent fault) refl
    where
      by : (b : Bool) → takes w side payload lent fault ≡ b → Real P S v on (turn_world w side payload lent fault)
      by true e = real-turn w real side payload lent fault e
      by false e = subst (Real P S v on) (sym (turn-refused w side payload lent fault e)) real
