-- T2: a willing party alone gets all that there is room for.
use Rattle.std.specs.Prelude.{None, Some}
use mathlib.Core.Path.{◌≡◌, refl, sym, ◌∙◌, subst}
use mathlib.Core.Bool.{Bool, true, false, not, ◌&&◌}
use mathlib.Core.List.{List, [], ◌∷◌, ◌++◌}
use mathlib.Core.Logic.{◌⊎◌, inl, inr}
use Prim.Native.Nat.{ℕ, zero, suc, ◌+◌, ◌*◌, ◌≤◌}
use native.Mathlib.Omega.{arith}
use lib.Dec.{leb}
use Rattle.words.specs.Le.{le_at}
use Rattle.types.specs.declared.Side.{Side}
use Rattle.types.specs.declared.Side.TheVariants.{Sender, Recorder}
use Rattle.types.specs.declared.Party.{Party}
use Rattle.types.specs.declared.Reply.{Reply}
use Rattle.types.specs.declared.Answer.TheVariants.{GoesOn}
use Rattle.types.specs.Faults.{Fault}
use Rattle.types.specs.declared.Event.TheVariants.{Turn, Failing, Spurious, TimeOut, Push, Pop, Close, Shutdown}
use Rattle.types.specs.declared.Step.{Step}
use Rattle.types.specs.declared.Step.TheVariants.{Rest, Look, Asleep, LastLook}
use Rattle.types.specs.declared.Stance.{Stance}
use Rattle.layout.specs.Limits.{power_ok, slot_ok, payload_capacity, capacity}
use Rattle.layout.specs.Header.{flags_at}
use Rattle.layout.specs.Create.{created}
use Rattle.rules.specs.Sides.{other, rings}
use Rattle.rules.specs.Take.{stance_of}
use Rattle.rules.specs.Calls.{is_sleeping, sound, ready, reply, at, named, begins, rouses, push_spec, pop_spec, spurious_spec, timeout_spec}
use Rattle.rules.specs.Bench.{settled, played, played_leaves}
use Rattle.rules.specs.Run.{Note, World, Happening, attaches, plays, party_in, happens, run, opened}
use Rattle.rules.specs.Premises.{Typed, AllTyped, AllFair, Quiet}
use Rattle.rules.specs.Stretch.{moves, calling, tick_by, ticks_by, Wills, Willing, in_call, notes_of, counts_by, Big, slack}
use Rattle.rules.specs.Claims.{room, Fresh, reached, Dead, Emptied, BoundedTicks, BoundedTicksDead, Bounded, BoundedBySlack}
use Rattle.rules.specs.Phase.{phase}
use Rattle.rules.proofs.Leads.{stop_at}
use Rattle.rules.proofs.Taken.{turn_world}
use Rattle.rules.proofs.RealCalls.{Changed, seat-one, seat-two, seated, begins-one, rouses-one, push-changes, pop-changes, spurious-changes, timeout-changes}
use Rattle.rules.proofs.RealRun.{power-fits, slot-fits, real-reached, real-happens}
use Rattle.rules.proofs.Costs.{cost, Calls, slack-most, cost-slack, cost-none}
use Rattle.rules.proofs.Fairly.{Ready, ready-happens, quiet-duty, dozes}
use Rattle.rules.proofs.Causes.{room-is, ready-reached}
use Rattle.rules.proofs.Heard.{none, duty, has-cause}
use Rattle.rules.proofs.Bound.{Count, by-moves, by-calling, Stint, Awake, going-turned}
use Rattle.rules.proofs.Real.{room_in, Real}

-- where a call of a willing party may leave it
pub data Asked (s : Step) : Step → Type 0 where
  stayed : Asked s s
  looks : Asked s Look
  glances : Asked s (LastLook true)

step_of : (p q : Party) (x : Party) (F : Type 0) → Asked p.step q.step → (x ≡ p) ⊎ ((x ≡ q) × F) → Asked p.step x.step
step_of p q x F a (inl e) = rw e stayed
step_of p q x F a (inr e) = rw e.0 a

begun-asks : (p : Party) (g c o n : Bool) (q : Party) → q.step ≡ Look → Asked p.step (begins p g c o n q).party.step
begun-asks p g c o n q e = step_of p q (begins p g c o n q).party ((g ≡ true) × ((c ≡ false) × (o ≡ false))) (rw e looks) (begins-one p g c o n q)

roused-asks : (p : Party) (g s : Bool) (q : Reply) → Asked p.step q.party.step → Asked p.step (rouses p g s q).party.step
roused-asks p g s q a = step_of p q.party (rouses p g s q).party ((g ≡ true) × (s ≡ true)) a (rouses-one p g s q)

pub push-asks : (p : Party) (b : Bool) (t l : ℕ) → Asked p.step (push_spec p b t l).party.step
unfolding push_spec
push-asks p b t l = begun-asks p (ready Sender p) p.closed (b && not p.own.notfull) (not (leb l (payload_capacity p.own.slot))) (named b t l p) refl

pub pop-asks : (p : Party) (b : Bool) (l : ℕ) → Asked p.step (pop_spec p b l).party.step
unfolding pop_spec
pop-asks p b l = begun-asks p (ready Recorder p) p.closed false false (named b 0 l p) refl

pub spurious-asks : (side : Side) (p : Party) → Asked p.step (spurious_spec side p).party.step
unfolding spurious_spec
spurious-asks side p = roused-asks p (sound side p) (is_sleeping (stance_of p.step)) (reply (at Look p) GoesOn) looks

pub timeout-asks : (side : Side) (p : Party) → Asked p.step (timeout_spec side p).party.step
unfolding timeout_spec
timeout-asks side p = roused-asks p (sound side p) (is_sleeping (stance_of p.step)) (reply (at (LastLook true) p) GoesOn) glances

pub asked-calls : (s u : Step) → Asked s u → Calls (phase s) → Calls (phase u)
asked-calls s u stayed c = c
asked-calls s u looks c = tt
asked-calls s u glances c = tt

-- between calls, or asleep, to ask costs nothing
pub asked-cost : (s u : Step) (k x : ℕ) → Asked s u → (s ≡ Rest) ⊎ (s ≡ Asleep) → cost u k x ≤ cost s k x
asked-cost s u zero x a f = omega arith
asked-cost s u (suc k) x stayed f = omega arith
asked-cost s u (suc k) x looks (inl e) = rw e (omega arith)
asked-cost s u (suc k) x looks (inr e) = rw e (omega arith)
asked-cost s u (suc k) x glances (inl e) = rw e (omega arith)
asked-cost s u (suc k) x glances (inr e) = rw e (omega arith)

pub in-call : (s : Step) → in_call s ≡ true → Calls (phase s)
in-call s e = rw e tt

module _ (P S v : ℕ) (on heed : Bool) where
  -- a call of one's own
  going-called : (w : World) (side : Side) (q : Party) → Changed side (party_in w side) q → Asked (party_in w side).step q.step → (notes : List Note) (n : ℕ)
      → Stint P S v on heed side notes n w → Stint P S v on heed side notes n (seated P S v on w side q)
  going-called w side q c a notes n go =
      record {
        quiet = λ h. rw (seat-two side w.bench q) (go.quiet h);
        calls = rw (seat-one side w.bench q) (asked-calls (party_in w side).step q.step a go.calls);
        left = rw (seat-one side w.bench q) (by c);
        same = go.same;
      }
    where
      by : Changed side (party_in w side) q → cost q.step (room_in P S v on side w.trace) (room_in P S v on (other side) w.trace) ≤ n
      by (inl e) = rw e go.left
      by (inr b) = omega (arith, asked-cost (party_in w side).step q.step (room_in P S v on side w.trace) (room_in P S v on (other side) w.trace) a b.from, go.left)

  module _ (power-ok : power_ok P ≡ true) (slot-ok : slot_ok S ≡ true) (counted : Stance → Bool) (count : Count counted) where
    turned : (w : World) → Real P S v on w → (side mover : Side) (payload lent : List ℕ) (fault : Fault) → mover ≡ side → Big side w → Awake P S v on counted side w
        → (notes : List Note) (n : ℕ) → Stint P S v on heed side notes (counts_by counted w mover payload lent fault + n) w → Stint P S v on heed side notes n (turn_world w mover payload lent fault)
    turned w real side mover payload lent fault e big awake notes n go =
        subst (λ (m : Side). Stint P S v on heed side notes (counts_by counted w m payload lent fault + n) w → Stint P S v on heed side notes n (turn_world w m payload lent fault))
        (sym e) (λ go. going-turned P S v on power-ok slot-ok w real side payload lent fault heed counted count notes n big awake go) go

    -- a begin is no turn
    no-tick : (notes : List Note) (n : ℕ) (side : Side) (w : World) → Stint P S v on heed side notes (0 + n) w → Stint P S v on heed side notes n w
    no-tick notes n side w go = let e : 0 + n ≡ n = omega arith in subst (λ (m : ℕ). Stint P S v on heed side notes m w) e go

    going-happens : (side : Side) (h : Happening) (w : World) → Typed h → Wills side h w → Real P S v on w → Awake P S v on counted side w → (notes : List Note) (n : ℕ)
        → Stint P S v on heed side notes (tick_by counted h w + n) w → Stint P S v on heed side notes n (happens h w)
    unfolding happens played played_leaves settled
    going-happens side (attaches other spins) w t m real y notes n go = absurd m
    going-happens side (plays (Turn mover) i o) w t m real y notes n go = turned w real side mover i o None m.0 m.1 y notes n go
    going-happens side (plays (Failing mover e) i o) w t m real y notes n go = turned w real side mover i o (Some e) m.0 m.1 y notes n go
    going-happens side (plays (Spurious mover) i o) w t m real y notes n go =
        rw m (going-called w side (spurious_spec side (party_in w side)).party (spurious-changes side (party_in w side)) (spurious-asks side (party_in w side)) notes n (no-tick notes n side w go))
    going-happens side (plays (TimeOut mover) i o) w t m real y notes n go =
        rw m (going-called w side (timeout_spec side (party_in w side)).party (timeout-changes side (party_in w side)) (timeout-asks side (party_in w side)) notes n (no-tick notes n side w go))
    going-happens side (plays (Push b g l) i o) w t m real y notes n go =
        rw m (going-called w Sender (push_spec (party_in w Sender) b g l).party (push-changes (party_in w Sender) b g l t) (push-asks (party_in w Sender) b g l) notes n (rw m at (no-tick notes n side w go)))
    going-happens side (plays (Pop b l) i o) w t m real y notes n go =
        rw m (going-called w Recorder (pop_spec (party_in w Recorder) b l).party (pop-changes (party_in w Recorder) b l) (pop-asks (party_in w Recorder) b l) notes n (rw m at (no-tick notes n side w go)))
    going-happens side (plays (Close mover) i o) w t m real y notes n go = absurd m
    going-happens side (plays (Shutdown mover) i o) w t m real y notes n go = absurd m

    -- along a stretch: `Keeps` is whatever keeps the party awake, where its sleep would count
    module _ (side : Side) (Keeps : List Happening → World → Type 0)
        (on-it-goes : (h : Happening) (hs : List Happening) (w : World) → Typed h → Real P S v on w → Keeps (h ∷ hs) w → Keeps hs (happens h w))
        (awake : (hs : List Happening) (w : World) → Keeps hs w → (heed ≡ true → duty (other side) (party_in w (other side)).step ≡ none) → Awake P S v on counted side w) where
      pub going-run : (hs : List Happening) (w : World) → AllTyped hs → Willing side hs w → Real P S v on w → Keeps hs w → (notes : List Note) (n : ℕ)
          → Stint P S v on heed side notes (ticks_by counted hs w + n) w → Stint P S v on heed side notes n (run hs w)
      unfolding run
      going-run [] w t m real y notes n go = no-tick notes n side w go
      going-run (h ∷ hs) w t m real y notes n go =
          let e : tick_by counted h w + ticks_by counted hs (happens h w) + n ≡ tick_by counted h w + (ticks_by counted hs (happens h w) + n) = omega arith in
          going-run hs (happens h w) t.1 m.1 (real-happens P S v on power-ok slot-ok h w t.0 real) (on-it-goes h hs w t.0 real y) notes n
          (going-happens side h w t.0 m.0 real (awake (h ∷ hs) w y go.quiet) notes (ticks_by counted hs (happens h w) + n) (subst (λ (u : ℕ). Stint P S v on heed side notes u w) e go))

-- a run in two parts
pub run-parts : (hs ms : List Happening) (w : World) → run (hs ++ ms) w ≡ run ms (run hs w)
unfolding run
run-parts [] ms w = refl
run-parts (h ∷ hs) ms w = run-parts hs ms (happens h w)

pub typed-parts : (hs ms : List Happening) → AllTyped (hs ++ ms) → AllTyped hs × AllTyped ms
typed-parts [] ms t = (tt, t)
typed-parts (h ∷ hs) ms t = let u = typed-parts hs ms t.1 in ((t.0, u.0), u.1)

pub fair-parts : (side : Side) (hs ms : List Happening) (w : World) → AllFair side (hs ++ ms) w → AllFair side hs w × AllFair side ms (run hs w)
unfolding run
fair-parts side [] ms w f = (tt, f)
fair-parts side (h ∷ hs) ms w f = let u = fair-parts side hs ms (happens h w) f.1 in ((f.0, u.0), u.1)

-- and the parts make it
pub typed-both : (hs ms : List Happening) → AllTyped hs → AllTyped ms → AllTyped (hs ++ ms)
typed-both [] ms t u = u
typed-both (h ∷ hs) ms t u = (t.0, typed-both hs ms t.1 u)

pub fair-both : (side : Side) (hs ms : List Happening) (w : World) → AllFair side hs w → AllFair side ms (run hs w) → AllFair side (hs ++ ms) w
unfolding run
fair-both side [] ms w f g = g
fair-both side (h ∷ hs) ms w f g = (f.0, fair-both side hs ms (happens h w) f.1 g)

module _ (r : List ℕ) (P S : ℕ) (on : Bool) (v : ℕ) (fresh : Fresh r P S on v) where
  -- by any count, and whatever keeps the party awake
  bounded-by : (heed : Bool) (counted : Stance → Bool) → Count counted → (side : Side) (Keeps : List Happening → World → Type 0)
      → ((h : Happening) (hs : List Happening) (w : World) → Typed h → Real P S v on w → Keeps (h ∷ hs) w → Keeps hs (happens h w))
      → ((hs : List Happening) (w : World) → Keeps hs w → (heed ≡ true → duty (other side) (party_in w (other side)).step ≡ none) → Awake P S v on counted side w)
      → (hs ms : List Happening) → Dead r P S on v side hs ms → (heed ≡ true → Quiet (other side) (reached r P S on v hs)) → Keeps ms (reached r P S on v hs) → 4 * room side (capacity P) (reached r P S on v hs) + slack (room (other side) (capacity P) (reached r P S on v hs)) ≤ ticks_by counted ms (reached r P S on v hs) → Emptied r P S on v side hs ms
  bounded-by heed counted count side Keeps goes awake hs ms a still y long =
      let w = reached r P S on v hs in
      let typed = typed-parts hs ms a.0 in
      let notes = notes_of (other side) w.trace in
      let k = room_in P S v on side w.trace in
      let x = room_in P S v on (other side) w.trace in
      let enough : cost (party_in w side).step k x ≤ ticks_by counted ms w + 0 = omega (arith, subst (λ (y : ℕ). 4 * room side (capacity P) w + slack y ≤ ticks_by counted ms w) (room-is r P S on v fresh (other side) hs typed.0) long, cost-slack (party_in w side).step k x, room-is r P S on v fresh side hs typed.0) in
      let start : Stint P S v on heed side notes (ticks_by counted ms w + 0) w = record { quiet = λ h. quiet-duty (other side) (party_in w (other side)).step (still h); calls = in-call (party_in w side).step a.1.0; left = enough; same = refl } in
      let end = going-run P S v on heed (power-fits r P S on v fresh) (slot-fits r P S on v fresh) counted count side Keeps goes awake ms w typed.1 a.1.1 (real-reached r P S on v fresh hs typed.0) y notes 0 start in
      let last = subst (Stint P S v on heed side notes 0) (sym (run-parts hs ms (opened (created r P S on v)))) end in
      (room-is r P S on v fresh side (hs ++ ms) a.0 ∙ cost-none _ _ _ last.left, last.same)

  -- document 01's turns: nothing is asked of wakes and bells
  pub bounded-ticks-dead : (side : Side) → BoundedTicksDead r P S on v side
  bounded-ticks-dead side hs ms a long = bounded-by false moves by-moves side (λ ms w. Unit) (λ h hs w t real y. tt) (λ hs w y q e. absurd (let z : ◌≡◌ {A = ℕ} 0 1 = cc in omega arith)) hs ms a (λ h. absurd (let z : ◌≡◌ {A = ℕ} 0 1 = cc in omega arith)) tt long

  pub bounded-ticks : (side : Side) → BoundedTicks r P S on v side
  bounded-ticks side hs ms a long =
      bounded-ticks-dead side hs ms (a.0, a.1.1) (omega (arith, long, slack-most (room (other side) (capacity P) (reached r P S on v hs))))

  -- and those asleep with them
  pub bounded-by-slack : (side : Side) → BoundedBySlack r P S on v side
  bounded-by-slack side hs ms a =
      let typed = typed-parts hs ms a.0.0.0 in
      let fair = fair-parts side hs ms (opened (created r P S on v)) a.0.1 in
      bounded-by true calling by-calling side (λ ms w. AllFair side ms w × Ready P S v on side w)
      (λ h hs w t real y. (y.0.1, ready-happens P S v on (power-fits r P S on v fresh) (slot-fits r P S on v fresh) side h w t y.0.0 real y.1))
      (λ hs w y q e l z. dozes P S v on (rings (other side) on) side (other side) w (q refl) z y.1 (has-cause (room_in P S v on side w.trace) (stop_at side (le_at 4 w.region flags_at)) (inl l)))
      hs ms (a.0.0.0, a.0.0.1.1) (λ h. a.0.0.1.0) (fair.1, ready-reached r P S on v fresh side hs typed.0 fair.0) a.1

  pub bounded : (side : Side) → Bounded r P S on v side
  bounded side hs ms a =
      bounded-by-slack side hs ms (a.0, omega (arith, a.1, slack-most (room (other side) (capacity P) (reached r P S on v hs))))
