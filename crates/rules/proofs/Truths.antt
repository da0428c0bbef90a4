-- What is answered is so; and an answer tells whether its call published a note.
use mathlib.Core.Path.{◌≡◌, refl, sym, ap, ◌∙◌, subst}
use mathlib.Core.Bool.{Bool, true, false, ◌||◌}
use mathlib.Core.List.{List, ◌∷◌, ◌++◌}
use mathlib.Core.Logic.{◌⊎◌, inl, inr}
use Prim.Native.Nat.{ℕ, suc, ◌-◌, ◌<◌, ◌≤◌}
use native.Mathlib.Omega.{arith}
use borrow.Author.Tests.{eqb-false, ltb-true, ltb-false}
use lib.Dec.{eqb, ltb}
use lib.ListN.{length, drop}
use Rattle.words.specs.Le.{le_at}
use Rattle.words.specs.Wrap.{plus}
use Rattle.types.specs.Pick.{pick}
use Rattle.types.specs.Answers.{number}
use Rattle.types.specs.declared.Side.{Side}
use Rattle.types.specs.declared.Side.TheVariants.{Sender, Recorder}
use Rattle.types.specs.declared.Mark.TheVariants.{Shutdown as ShutMark}
use Rattle.types.specs.declared.Own.{Own}
use Rattle.types.specs.declared.Party.{Party}
use Rattle.types.specs.declared.SlotHead.{SlotHead}
use Rattle.types.specs.Faults.{Fault}
use Rattle.types.specs.declared.Door.TheVariants.{Shut, Left, Open}
use Rattle.types.specs.declared.Fit.TheVariants.{Bad, Small, Fits}
use Rattle.types.specs.declared.Nap.TheVariants.{Sleeps, Returns, TimedOut, Fails}
use Rattle.types.specs.declared.Room.TheVariants.{Blocked}
use Rattle.types.specs.declared.Step.{Step}
use Rattle.types.specs.declared.Step.TheVariants.{Look, Copy, Publish, Check, Wake, Gate, GateAgain, Wait, LastLook, CloseSet, CloseWake, ShutWakeNf}
use Rattle.types.specs.declared.Access.TheVariants.{ReadSlot}
use Rattle.types.specs.declared.Answer.{Answer}
use Rattle.types.specs.declared.Answer.TheVariants.{Done, Syscall}
use Rattle.layout.specs.Limits.{power_ok, slot_ok, capacity, payload_capacity}
use Rattle.layout.specs.Flags.{worth, bit_on, close_mark}
use Rattle.layout.specs.Header.{flags_at}
use Rattle.layout.specs.Slots.{head_of}
use Rattle.rules.specs.Sides.{other, sleep_bell, ring_bell, wait_op, wake_op}
use Rattle.rules.specs.Looks.{room_here, door_of, fit_of, nap_of, head_bad}
use Rattle.rules.specs.Next.{slot_access, next_at, next_spec}
use Rattle.rules.specs.Access.{value_of, buffer_of}
use Rattle.rules.specs.Turn.{error_of}
use Rattle.rules.specs.Given.{EndsWith, published, checked, woke, closed-alone, closed, shut, corrupt, bad-slot, too_small, full, empty, left, left-again, none_left, down, down-again, timed-out, wake-failed, close-failed, wait-failed, shut-failed, shut-failed-last, resting, asleep, goes_on, turn, Given, turn-bad, turn-taken}
use Rattle.rules.specs.Run.{Note, Trace, World, Happening, plays, party_in, takes, traced, happens}
use Rattle.rules.specs.Premises.{AllTyped}
use Rattle.rules.specs.Phase.{telling, leaving, phase}
use Rattle.rules.specs.Stretch.{notes_of}
use Rattle.rules.specs.Claims.{waiting, room, turn_of, Fresh, reached}
use Rattle.rules.specs.Asked.{Call}
use Rattle.rules.specs.Meaning.{Waits, Means, gave, Published, call_of, Truthful, OneOrNone, DoneBare}
use Rattle.rules.proofs.Answered.{given-first}
use Rattle.rules.proofs.FitLaws.{fit_small, fit_is}
use Rattle.rules.proofs.Rooms.{as_room}
use Rattle.rules.proofs.Leads.{Tells}
use Rattle.rules.proofs.Copies.{head-is}
use Rattle.rules.proofs.Fits.{first-waits}
use Rattle.rules.proofs.RealTurn.{sight_at, own_is, counter-is, access-is, tells-here, turn-is-after}
use Rattle.rules.proofs.RealRun.{power-fits, slot-fits, real-reached, in_order}
use Rattle.rules.proofs.Listening.{trace-is}
use Rattle.rules.proofs.OverNone.{none_seen}
use Rattle.rules.proofs.Causes.{room-is}
use Rattle.rules.proofs.Timed.{left-recorder}
use Rattle.rules.proofs.Honest.{spoilt, honest-reached}
use Rattle.rules.proofs.Meant.{Before, Given as Sent, Under, stored, meant-reached}
use Rattle.rules.proofs.Delivers.{turn-happens}
use Rattle.rules.proofs.Meaning.{row}
use Rattle.rules.proofs.Real.{count_of, sizes, room_in, nth, note_head, HoldsAt, HasRoom, Real}

-- what the flags said
door-shut : (side : Side) (f : ℕ) → door_of side f ≡ Shut → bit_on (worth ShutMark) f ≡ true
unfolding door_of
door-shut side f e = by (bit_on (worth ShutMark) f) (bit_on (worth (close_mark (other side))) f) e
  where
    by : (a c : Bool) → pick a Shut (pick c Left Open) ≡ Shut → a ≡ true
    by true c e = refl
    by false true e = absurd (let z : ◌≡◌ {A = ℕ} 0 1 = cc in omega arith)
    by false false e = absurd (let z : ◌≡◌ {A = ℕ} 0 1 = cc in omega arith)

door-left : (side : Side) (f : ℕ) → door_of side f ≡ Left → (bit_on (worth (close_mark (other side))) f ≡ true) × (bit_on (worth ShutMark) f ≡ false)
unfolding door_of
door-left side f e = by (bit_on (worth ShutMark) f) (bit_on (worth (close_mark (other side))) f) e
  where
    by : (a c : Bool) → pick a Shut (pick c Left Open) ≡ Left → (c ≡ true) × (a ≡ false)
    by true c e = absurd (let z : ◌≡◌ {A = ℕ} 0 1 = cc in omega arith)
    by false true e = (refl, refl)
    by false false e = absurd (let z : ◌≡◌ {A = ℕ} 0 1 = cc in omega arith)

-- which errors fail a wait
wait-errors : (e : ℕ) (same : Bool) → nap_of e same ≡ Fails → (0 < e) × ((e ≡ 4 → ⊥) × ((e ≡ 11 → ⊥) × (e ≡ 110 → ⊥)))
unfolding nap_of
wait-errors e same h = by (eqb e 0) refl same (eqb e 4) refl (eqb e 11) refl (eqb e 110) refl h
  where
    by : (z : Bool) → eqb e 0 ≡ z → (s : Bool) (a : Bool) → eqb e 4 ≡ a → (b : Bool) → eqb e 11 ≡ b → (c : Bool) → eqb e 110 ≡ c
        → pick z (pick s Sleeps Returns) (pick (a || b) Returns (pick c TimedOut Fails)) ≡ Fails → (0 < e) × ((e ≡ 4 → ⊥) × ((e ≡ 11 → ⊥) × (e ≡ 110 → ⊥)))
    by true z true a p b q c r h = absurd (let u : ◌≡◌ {A = ℕ} 0 1 = cc in omega arith)
    by true z false a p b q c r h = absurd (let u : ◌≡◌ {A = ℕ} 0 1 = cc in omega arith)
    by false z s true p b q c r h = absurd (let u : ◌≡◌ {A = ℕ} 0 1 = cc in omega arith)
    by false z s false p true q c r h = absurd (let u : ◌≡◌ {A = ℕ} 0 1 = cc in omega arith)
    by false z s false p false q true r h = absurd (let u : ◌≡◌ {A = ℕ} 0 1 = cc in omega arith)
    by false z s false p false q false r h = (omega (arith, eqb-false e 0 z), (eqb-false e 4 p, (eqb-false e 11 q, eqb-false e 110 r)))

-- a wake's operation is no wait's
wake-no-wait : (side : Side) → (wake_op (ring_bell side) ≡ 0) ⊎ (wake_op (ring_bell side) ≡ 2) → ⊥
wake-no-wait Sender (inl e) = omega arith
wake-no-wait Sender (inr e) = omega arith
wake-no-wait Recorder (inl e) = omega arith
wake-no-wait Recorder (inr e) = omega arith

small-means : (h : SlotHead) (most named : ℕ) → fit_of h most named ≡ Small → named < h.length
unfolding fit_of
small-means h most named e = by (head_bad h most) (ltb named h.length) refl e
  where
    by : (a b : Bool) → ltb named h.length ≡ b → pick a Bad (pick b Small Fits) ≡ Small → named < h.length
    by true b q e = absurd (let z : ◌≡◌ {A = ℕ} 0 1 = cc in omega arith)
    by false true q e = ltb-true named h.length q
    by false false q e = absurd (let z : ◌≡◌ {A = ℕ} 0 1 = cc in omega arith)

-- a note in its slot is never bad
never-bad : (n : Note) (most named : ℕ) → length n.body ≤ most → fit_of (note_head n) most named ≡ Bad → ⊥
never-bad n most named l e = by (ltb named (length n.body)) refl
  where
    by : (b : Bool) → ltb named (length n.body) ≡ b → ⊥
    by true q = let f = sym (fit_small (note_head n) most named l (omega arith) refl (ltb-true named (length n.body) q)) ∙ e in let z : ◌≡◌ {A = ℕ} 0 1 = cc in omega arith
    by false q = let f = sym (fit_is (note_head n) most named l (omega arith) refl (ltb-false named (length n.body) q)) ∙ e in let z : ◌≡◌ {A = ℕ} 0 1 = cc in omega arith

module _ (r : List ℕ) (P S : ℕ) (on : Bool) (v : ℕ) (fresh : Fresh r P S on v) where
  abbrev power-ok : power_ok P ≡ true
  power-ok = power-fits r P S on v fresh

  abbrev slot_ok_lem : slot_ok S ≡ true
  slot_ok_lem = slot-fits r P S on v fresh

  module _ (hs : List Happening) (t : AllTyped hs) (side : Side) (payload lent : List ℕ) (fault : Fault) where
    abbrev w : World
    w = reached r P S on v hs

    abbrev u : World
    u = happens (plays (turn_of side fault) payload lent) w

    abbrev p : Party
    p = party_in w side

    abbrev real : Real P S v on w
    real = real-reached r P S on v fresh hs t

    abbrev value : ℕ
    value = value_of w.region p.own (next_spec p)

    module _ (g : takes w side payload lent fault ≡ true) where
      side-is : p.own.side ≡ side
      side-is = ap (λ (o : Own). o.side) (own_is P S v on power-ok slot_ok_lem w real side payload lent fault g)

      told_at : (s : Step) → p.step ≡ s → Tells p.own (sight_at P S v on side p.own w.region w.trace p.blocking) p.counter value s
      told_at s e =
          subst (λ (x : Step). Tells p.own (sight_at P S v on side p.own w.region w.trace p.blocking) p.counter value x) e
          (tells-here P S v on power-ok slot_ok_lem w real side payload lent fault g)

      -- a look that found no room
      none-at : room_here p.own p.counter value ≡ as_room (room_in P S v on side w.trace) → room_here p.own p.counter value ≡ Blocked → room side (capacity P) w ≡ 0
      none-at seen blocked = room-is r P S on v fresh side hs t ∙ none_seen (room_in P S v on side w.trace) (sym seen ∙ blocked)

      -- at a pop's copy a note waits, and lies in its slot
      module _ (s : p.step ≡ Copy) (o : side ≡ Recorder) where
        pub some : 0 < room_in P S v on Recorder w.trace
        some = subst (λ (τ : Side). 0 < room_in P S v on τ w.trace) o (subst (λ (x : Step). HasRoom (phase x) (room_in P S v on side w.trace)) s (real.sides side).room)

        abbrev first : Note
        first = nth w.trace.sent (length w.trace.delivered)

        pub in-slot : HoldsAt P S v on w.region (length w.trace.delivered) first
        in-slot = real.queue.ring (length w.trace.delivered) (omega arith) (omega (arith, some))

        read_is : value ≡ value_of w.region p.own (ReadSlot p.counter)
        read_is = ap (value_of w.region p.own) (access-is P S v on power-ok slot_ok_lem w real side payload lent fault g ∙ ap (λ (x : Step). next_at x side p.counter) s ∙ ap (λ (τ : Side). slot_access τ p.counter) o)

        pub head-here : head_of value ≡ note_head first
        head-here =
            ap head_of read_is
            ∙ head-is P S v on power-ok slot_ok_lem w.region real.fixed w.trace p.own p.counter
            (subst (λ (τ : Side). p.own ≡ sizes P S v on τ p.own.spins) o (own_is P S v on power-ok slot_ok_lem w real side payload lent fault g))
            (subst (λ (τ : Side). p.counter ≡ plus 64 v (count_of τ w.trace)) o (counter-is P S v on power-ok slot_ok_lem w real side payload lent fault g))
            first in-slot

        slot_is : p.own.slot ≡ S
        slot_is = ap (λ (x : Own). x.slot) (own_is P S v on power-ok slot_ok_lem w real side payload lent fault g)

        waits-here : Waits (head_of value).length w
        waits-here = (first, (drop (suc (length w.trace.delivered)) w.trace.sent, (first-waits P S v on power-ok slot_ok_lem w real some, ap (λ (h : SlotHead). h.length) (sym head-here))))

        not-bad : fit_of (head_of value) (payload_capacity p.own.slot) p.length ≡ Bad → ⊥
        not-bad e = never-bad first (payload_capacity S) p.length in-slot.body-fits (rw (head-here, slot_is) at e)

      abbrev flags : ℕ
      flags = le_at 4 w.region flags_at

      abbrev buffer : List ℕ
      buffer = buffer_of w.region p.own (next_at p.step side p.counter) p.length lent

      trace-after : u.trace ≡ traced (next_at p.step side p.counter) p payload buffer w.trace
      trace-after = ap (λ (x : World). x.trace) (turn-happens side payload lent fault w ∙ turn-is-after P S v on power-ok slot_ok_lem w real side payload lent fault g) ∙ trace-is P S v on power-ok slot_ok_lem w real side payload lent fault g

      pub trace-at : (s : Step) → p.step ≡ s → u.trace ≡ traced (next_at s side p.counter) p payload buffer w.trace
      trace-at s e = trace-after ∙ ap (λ (x : Step). traced (next_at x side p.counter) p payload buffer w.trace) e

      -- a copy that ends its call takes no note away
      read-waits : (n : ℕ) (τ : Side) → u.trace ≡ traced (slot_access τ p.counter) p payload buffer w.trace → Waits n w → Waits n u
      read-waits n Sender e h = (h.0, (h.1.0, (ap (λ (x : Trace). x.sent) e ∙ h.1.1.0 ∙ ap (λ (x : Trace). x.delivered ++ (h.0 ∷ h.1.0)) (sym e), h.1.1.1)))
      read-waits n Recorder e h = (h.0, (h.1.0, (ap (λ (x : Trace). x.sent) e ∙ h.1.1.0 ∙ ap (λ (x : Trace). x.delivered ++ (h.0 ∷ h.1.0)) (sym e), h.1.1.1)))

      full-means : (τ : Side) → τ ≡ Sender → room τ (capacity P) w ≡ 0 → waiting w ≡ capacity P
      full-means τ o e = let h : capacity P - waiting w ≡ 0 = rw o at e in omega (arith, (in_order r P S on v fresh hs t).0)

      empty-means : (τ : Side) → τ ≡ Recorder → room τ (capacity P) w ≡ 0 → waiting w ≡ 0
      empty-means τ o e = rw o at e

      means : {x : Answer} → EndsWith p value (error_of fault) x → Means side (capacity P) w u x
      means (published s q) = tt
      means (checked s b) = tt
      means (woke s z) = tt
      means (closed-alone s q) = tt
      means (closed s z) = tt
      means (shut s a z) = tt
      means (corrupt s) = let f = sym (honest-reached r P S on v fresh hs t side) ∙ ap spoilt s in let z : ◌≡◌ {A = ℕ} 0 1 = cc in omega arith
      means (bad-slot s q h) = not-bad s (sym side-is ∙ q) h
      means (too_small s q h) =
          let o = sym side-is ∙ q in
          (o, (small-means (head_of value) (payload_capacity p.own.slot) p.length h, (waits-here s o, read-waits (head_of value).length side (trace-at Copy s) (waits-here s o))))
      means (full s q b h) = let o = sym side-is ∙ q in (o, full-means side o (none-at (told_at Look s) (rw q h)))
      means (empty s q b h) = let o = sym side-is ∙ q in (o, empty-means side o (none-at (told_at Look s) (rw q h)))
      means (left s q d) = let h = door-left side flags (sym (told_at Gate s) ∙ rw q d) in (h.0, λ o. h.1)
      means (left-again s q d) = let h = door-left side flags (sym (told_at (GateAgain _) s) ∙ rw q d) in (h.0, λ o. h.1)
      means (none_left s h) = ((real.sides side).seat.heard s, λ o. absurd (let f = sym o ∙ left-recorder r P S on v fresh side hs t s in let z : ◌≡◌ {A = ℕ} 0 1 = cc in omega arith))
      means (down s d) = door-shut side flags (sym (told_at Gate s) ∙ d)
      means (down-again s d) = door-shut side flags (sym (told_at (GateAgain _) s) ∙ d)
      means (timed-out s h) = none-at (told_at (LastLook true) s) h
      means (wake-failed s z) = (omega (arith, eqb-false (error_of fault) 0 z), λ o. absurd (wake-no-wait p.own.side o))
      means (close-failed s z) = (omega (arith, eqb-false (error_of fault) 0 z), λ o. absurd (wake-no-wait p.own.side o))
      means (wait-failed {epoch} s n) = let h = wait-errors (error_of fault) (eqb value epoch) n in (h.0, λ o. h.1)
      means (shut-failed {first} s a) = (omega (arith, eqb-false first 0 a), λ o. absurd (wake-no-wait Sender o))
      means (shut-failed-last s a z) = (omega (arith, eqb-false (error_of fault) 0 z), λ o. absurd (wake-no-wait Recorder o))
      means (resting s) = tt
      means (asleep s) = tt
      means (goes_on m) = tt

      -- what the call has published
      abbrev c : Call
      c = call_of r P S on v side hs

      under_at : (s : Step) → p.step ≡ s → Under side (phase s) c w.trace
      under_at s e = subst (λ (x : Step). Under side (phase x) c w.trace) e (meant-reached r P S on v fresh side hs t).under

      -- nothing yet, at a turn that sends nothing
      still : (s : Step) → p.step ≡ s → Before side c w.trace → notes_of side (traced (next_at s side p.counter) p payload buffer w.trace) ≡ notes_of side w.trace → Published false side c u
      still s e y n = ap (notes_of side) (trace-at s e) ∙ n ∙ y.same

      one : (l i : ℕ) (s : Step) → p.step ≡ s → u.trace ≡ w.trace → phase s ≡ telling l i → Published true side c u
      one l i s e same f =
          let y : Sent side l i c w.trace = rw f at (under_at s e) in
          (y.note, (ap (notes_of side) same ∙ y.more, y.as-named))

      first-sent : (l i : ℕ) → p.step ≡ Publish l i → Published true side c u
      first-sent l i e =
          let y = stored p payload buffer w.trace c side l i e (under_at (Publish l i) e) in
          (y.note, (ap (notes_of side) (trace-at (Publish l i) e) ∙ y.more, y.as-named))

      gave-wake : (τ : Side) (e : ℕ) → τ ≡ side → gave side (Syscall (wake_op (ring_bell τ)) e) ≡ true
      gave-wake τ e o = rw o (by side)
        where
          by : (side : Side) → gave side (Syscall (wake_op (ring_bell side)) e) ≡ true
          by Sender = refl
          by Recorder = refl

      gave-wait : (τ : Side) (e : ℕ) → τ ≡ side → gave side (Syscall (wait_op (sleep_bell τ)) e) ≡ false
      gave-wait τ e o = rw o (by side)
        where
          by : (side : Side) → gave side (Syscall (wait_op (sleep_bell side)) e) ≡ false
          by Sender = refl
          by Recorder = refl

      leaving-not : (s : Step) → p.step ≡ s → phase s ≡ leaving → c.last ≡ true → {A : Type 0} → A
      leaving-not s e f l = absurd (let y : c.last ≡ false = rw f at (under_at s e) in let h = sym y ∙ l in let z : ◌≡◌ {A = ℕ} 0 1 = cc in omega arith)

      slot-notes : (τ : Side) → notes_of τ (traced (slot_access τ p.counter) p payload buffer w.trace) ≡ notes_of τ w.trace
      slot-notes Sender = refl
      slot-notes Recorder = refl

      pub tells-one : {x : Answer} → EndsWith p value (error_of fault) x → c.last ≡ true → number x < 20 → Published (gave side x) side c u
      tells-one (published {l = l} {t = i} s q) k n = first-sent l i s
      tells-one (checked {l = l} {t = i} s b) k n = one l i (Check l i) s (trace-at (Check l i) s) refl
      tells-one (woke {l = l} {t = i} s z) k n = one l i (Wake l i) s (trace-at (Wake l i) s) refl
      tells-one (closed-alone s q) k n = leaving-not CloseSet s refl k
      tells-one (closed s z) k n = leaving-not CloseWake s refl k
      tells-one (shut {first} s a z) k n = leaving-not (ShutWakeNf false first) s refl k
      tells-one (corrupt {first} s) k n = leaving-not (ShutWakeNf true first) s refl k
      tells-one (bad-slot s q h) k n = still Copy s (under_at Copy s) (slot-notes side)
      tells-one (too_small s q h) k n = still Copy s (under_at Copy s) (slot-notes side)
      tells-one (full s q b h) k n = still Look s (under_at Look s) refl
      tells-one (empty s q b h) k n = still Look s (under_at Look s) refl
      tells-one (left s q d) k n = still Gate s (under_at Gate s) refl
      tells-one (left-again {epoch} s q d) k n = still (GateAgain epoch) s (under_at (GateAgain epoch) s) refl
      tells-one (none_left s h) k n = still (LastLook false) s (under_at (LastLook false) s) refl
      tells-one (down s d) k n = still Gate s (under_at Gate s) refl
      tells-one (down-again {epoch} s d) k n = still (GateAgain epoch) s (under_at (GateAgain epoch) s) refl
      tells-one (timed-out s h) k n = still (LastLook true) s (under_at (LastLook true) s) refl
      tells-one (wake-failed {l = l} {t = i} s z) k n = rw (gave-wake p.own.side (error_of fault) side-is) (one l i (Wake l i) s (trace-at (Wake l i) s) refl)
      tells-one (close-failed s z) k n = leaving-not CloseWake s refl k
      tells-one (wait-failed {epoch} s h) k n = rw (gave-wait p.own.side (error_of fault) side-is) (still (Wait epoch) s (under_at (Wait epoch) s) refl)
      tells-one (shut-failed {first} s a) k n = leaving-not (ShutWakeNf false first) s refl k
      tells-one (shut-failed-last {first} s a z) k n = leaving-not (ShutWakeNf false first) s refl k
      tells-one (resting s) k n = absurd (omega arith)
      tells-one (asleep s) k n = absurd (omega arith)
      tells-one (goes_on m) k n = absurd (omega arith)

      -- a pop's Done alone carries numbers
      bare-at : (τ : Side) (l i : ℕ) → (τ ≡ Sender → (l ≡ 0) × (i ≡ 0)) → (τ ≡ Recorder → c.last ≡ false) → c.last ≡ true → (l ≡ 0) × (i ≡ 0)
      bare-at Sender l i b f k = b refl
      bare-at Recorder l i b f k = absurd (let h = sym (f refl) ∙ k in let z : ◌≡◌ {A = ℕ} 0 1 = cc in omega arith)

      bare-row : {l i : ℕ} → EndsWith p value (error_of fault) (Done l i) → (side ≡ Recorder → c.last ≡ false) → (l ≡ 0) × (i ≡ 0)
      bare-row (published {l = l} {t = i} s q) f = let y = under_at (Publish l i) s in bare-at side l i y.bare f y.last
      bare-row (checked {l = l} {t = i} s b) f = let y = under_at (Check l i) s in bare-at side l i y.bare f y.last
      bare-row (woke {l = l} {t = i} s z) f = let y = under_at (Wake l i) s in bare-at side l i y.bare f y.last
      bare-row (closed-alone s q) f = (refl, refl)
      bare-row (closed s z) f = (refl, refl)
      bare-row (shut s a z) f = (refl, refl)

    means-given : {x : Answer} → Given (turn side w.region p payload lent fault) x → Means side (capacity P) w u x
    means-given (turn-bad h) = tt
    means-given (turn-taken g e) = means g e

    one-given : {x : Answer} → Given (turn side w.region p payload lent fault) x → (call_of r P S on v side hs).last ≡ true → number x < 20 → Published (gave side x) side (call_of r P S on v side hs) u
    one-given (turn-bad h) k n = absurd (omega arith)
    one-given (turn-taken g e) k n = tells-one g e k n

    bare-given : {l i : ℕ} → Given (turn side w.region p payload lent fault) (Done l i) → (side ≡ Recorder → (call_of r P S on v side hs).last ≡ false) → (l ≡ 0) × (i ≡ 0)
    bare-given (turn-taken g e) f = bare-row g e f

  pub truthful : (side : Side) → Truthful r P S on v side
  truthful side hs t payload lent fault = means-given hs t side payload lent fault (given-first (turn side (reached r P S on v hs).region (party_in (reached r P S on v hs) side) payload lent fault))

  pub one-or-none : (side : Side) → OneOrNone r P S on v side
  one-or-none side hs t payload lent fault k n = one-given hs t side payload lent fault (given-first (turn side (reached r P S on v hs).region (party_in (reached r P S on v hs) side) payload lent fault)) k n

  pub done-bare : (side : Side) → DoneBare r P S on v side
  done-bare side hs t payload lent fault l i f e = bare-given hs t side payload lent fault (row side (reached r P S on v hs) payload lent fault (Done l i) e) f
