-- 13 comes of a time-out that came to the call; and the look after the other's close is a recorder's.
use Rattle.std.proofs.lemmas.Bool.{or_right}
use Rattle.std.specs.Prelude.{None, Some}
use mathlib.Core.Path.{◌≡◌, refl, sym, subst}
use mathlib.Core.Bool.{Bool, true, false, not, ◌&&◌, ◌||◌}
use mathlib.Core.List.{List, [], ◌∷◌}
use Prim.Native.Nat.{ℕ}
use native.Mathlib.Omega.{arith}
use lib.Dec.{eqb, leb}
use Rattle.types.specs.Pick.{pick}
use Rattle.types.specs.Answers.{number}
use Rattle.types.specs.declared.Side.{Side}
use Rattle.types.specs.declared.Side.TheVariants.{Sender, Recorder}
use Rattle.types.specs.declared.Party.{Party}
use Rattle.types.specs.declared.Reply.{Reply}
use Rattle.types.specs.declared.Door.{Door}
use Rattle.types.specs.declared.Nap.{Nap}
use Rattle.types.specs.declared.Nap.TheVariants.{Sleeps, Returns, TimedOut, Fails}
use Rattle.types.specs.Faults.{Fault}
use Rattle.types.specs.declared.Event.TheVariants.{Turn, Failing, Spurious, TimeOut, Push, Pop, Close, Shutdown}
use Rattle.types.specs.declared.Answer.TheVariants.{GoesOn, Timeout}
use Rattle.types.specs.declared.Step.{Step}
use Rattle.types.specs.declared.Step.TheVariants.{Rest, Look, Copy, Publish, Check, Raise, Wake, Gate, Spin, Epoch, Again, GateAgain, Wait, Asleep, LastLook, CloseSet, CloseRaise, CloseWake, ShutSet, ShutRaiseNe, ShutWakeNe, ShutRaiseNf, ShutWakeNf}
use Rattle.layout.specs.Limits.{power_ok, slot_ok, payload_capacity}
use Rattle.layout.specs.Attach.{attach_answer, attach_reply, attached}
use Rattle.layout.specs.Create.{created}
use Rattle.rules.specs.Sides.{other, same_side}
use Rattle.rules.specs.Looks.{nap_of}
use Rattle.rules.specs.Steps.{nap_move, wait_move}
use Rattle.rules.specs.Take.{stance_of, step_after, move_at, move_of}
use Rattle.rules.specs.Next.{next_spec}
use Rattle.rules.specs.Access.{value_of}
use Rattle.rules.specs.Calls.{is_sleeping, sound, ready, reply, at, named, begins, rouses, push_spec, pop_spec, close_spec, shut_spec, spurious_spec, timeout_spec}
use Rattle.rules.specs.Turn.{error_of, woke_of}
use Rattle.rules.specs.Bench.{party_of, seat, settled, played, played_leaves}
use Rattle.rules.specs.Given.{timed-out, turn, Given, turn-taken}
use Rattle.rules.specs.Run.{World, Happening, attaches, plays, party_in, takes, happens, run, opened}
use Rattle.rules.specs.Phase.{phase}
use Rattle.rules.specs.Premises.{AllTyped}
use Rattle.rules.specs.Claims.{Fresh, reached}
use Rattle.rules.specs.Asked.{begun, at_wait, timed_after, timed_by}
use Rattle.rules.specs.Meaning.{TimedByCall}
use Rattle.rules.proofs.Leads.{last_at, Sight, Onward, straight, around, Leads, idles, finds, blocks, gives_up, copies, spills, tells, stores, owes, passes, raises, wakes, enters, stops, finds-spin, spins, reads, finds-again, stays, enters-again, stops-again, sleeps as falls-asleep, returns, ends, dreams, glances, glances-again, times-out, finds-last, finds-none, closes, closes-alone, close-raises, close-wakes, shuts, shut-raises, shut-wakes, shut-raises-again, shut-wakes-again}
use Rattle.rules.proofs.Seats.{roused, roused-elim}
use Rattle.rules.proofs.Taken.{turn_world, turn-refused, same_true}
use Rattle.rules.proofs.RealTurn.{next-step, leads-here, after_turn, turn-is-after}
use Rattle.rules.proofs.RealRun.{power-fits, slot-fits, real-start, real-happens}
use Rattle.rules.proofs.Listening.{mover-is, waiter-is}
use Rattle.rules.proofs.Meaning.{row}
use Rattle.rules.proofs.Real.{Real}

-- b: a time-out has come to the call
abbrev Glance : Side → Bool → Step → Type 0
Glance side b Rest = Unit
Glance side b Look = Unit
Glance side b Copy = Unit
Glance side b (Publish l t) = Unit
Glance side b (Check l t) = Unit
Glance side b (Raise l t) = Unit
Glance side b (Wake l t) = Unit
Glance side b Gate = Unit
Glance side b (Spin n) = Unit
Glance side b Epoch = Unit
Glance side b (Again e) = Unit
Glance side b (GateAgain e) = Unit
Glance side b (Wait e) = Unit
Glance side b Asleep = Unit
Glance side b CloseSet = Unit
Glance side b CloseRaise = Unit
Glance side b CloseWake = Unit
Glance side b (ShutSet c) = Unit
Glance side b (ShutRaiseNe c) = Unit
Glance side b (ShutWakeNe c) = Unit
Glance side b (ShutRaiseNf c e) = Unit
Glance side b (ShutWakeNf c e) = Unit
Glance side b (LastLook true) = b ≡ true
Glance side b (LastLook false) = side ≡ Recorder

glance-more : (side : Side) (b d : Bool) (s : Step) → (b ≡ true → d ≡ true) → Glance side b s → Glance side d s
glance-more side b d Rest h y = tt
glance-more side b d Look h y = tt
glance-more side b d Copy h y = tt
glance-more side b d (Publish l t) h y = tt
glance-more side b d (Check l t) h y = tt
glance-more side b d (Raise l t) h y = tt
glance-more side b d (Wake l t) h y = tt
glance-more side b d Gate h y = tt
glance-more side b d (Spin n) h y = tt
glance-more side b d Epoch h y = tt
glance-more side b d (Again e) h y = tt
glance-more side b d (GateAgain e) h y = tt
glance-more side b d (Wait e) h y = tt
glance-more side b d Asleep h y = tt
glance-more side b d CloseSet h y = tt
glance-more side b d CloseRaise h y = tt
glance-more side b d CloseWake h y = tt
glance-more side b d (ShutSet c) h y = tt
glance-more side b d (ShutRaiseNe c) h y = tt
glance-more side b d (ShutWakeNe c) h y = tt
glance-more side b d (ShutRaiseNf c e) h y = tt
glance-more side b d (ShutWakeNf c e) h y = tt
glance-more side b d (LastLook true) h y = h y
glance-more side b d (LastLook false) h y = y

onward-glance : (side : Side) (b : Bool) (n : ℕ) (t : Step) → Onward n t → Glance side b t
onward-glance side b n t straight = tt
onward-glance side b n t (around i) = tt

looks-left : (τ : Side) (d : Door) (side : Side) → τ ≡ side → last_at τ d ≡ 1 → side ≡ Recorder
looks-left Sender d side e h = absurd (omega arith)
looks-left Recorder d side e h = sym e

glance-on : (side : Side) (g : Sight) → g.side ≡ side → (b : Bool) (s n : Step) → ((e : ℕ) → s ≡ Wait e → n ≡ LastLook true → b ≡ true) → Leads g s n → Glance side b n
glance-on side g m b s n t idles = tt
glance-on side g m b s n t (finds h) = tt
glance-on side g m b s n t (blocks h q) = tt
glance-on side g m b s n t (gives_up h q) = tt
glance-on side g m b s n t copies = tt
glance-on side g m b s n t spills = tt
glance-on side g m b s n t (tells h) = tt
glance-on side g m b s n t (stores h) = tt
glance-on side g m b s n t (owes h) = tt
glance-on side g m b s n t (passes h) = tt
glance-on side g m b s n t raises = tt
glance-on side g m b s n t wakes = tt
glance-on side g m b s n t (enters h o) = onward-glance side b _ _ o
glance-on side g m b s n t (stops h i) = tt
glance-on side g m b s n t (finds-spin h) = tt
glance-on side g m b s n t (spins h o) = onward-glance side b _ _ o
glance-on side g m b s n t reads = tt
glance-on side g m b s n t (finds-again h) = tt
glance-on side g m b s n t (stays h) = tt
glance-on side g m b s n t (enters-again h) = tt
glance-on side g m b s n t (stops-again h i) = tt
glance-on side g m b s n t (falls-asleep h) = tt
glance-on side g m b s n t returns = tt
glance-on side g m b s n t ends = tt
glance-on side g m b s n t dreams = tt
glance-on side g m b s n t (glances h i) = looks-left g.side g.door side m i
glance-on side g m b s n t (glances-again h i) = looks-left g.side g.door side m i
glance-on side g m b s n t times-out = t _ refl refl
glance-on side g m b s n t (finds-last h) = tt
glance-on side g m b s n t (finds-none h) = tt
glance-on side g m b s n t (closes h) = tt
glance-on side g m b s n t (closes-alone h) = tt
glance-on side g m b s n t close-raises = tt
glance-on side g m b s n t close-wakes = tt
glance-on side g m b s n t shuts = tt
glance-on side g m b s n t shut-raises = tt
glance-on side g m b s n t shut-wakes = tt
glance-on side g m b s n t shut-raises-again = tt
glance-on side g m b s n t shut-wakes-again = tt

-- a wait leads to the last look by error 110 alone
nap-timed : (n : Nap) (op f e : ℕ) → step_after (nap_move n op f) (Wait e) ≡ LastLook true → n ≡ TimedOut
nap-timed Sleeps op f e h = absurd (let z : ◌≡◌ {A = ℕ} 0 1 = cc in omega arith)
nap-timed Returns op f e h = absurd (let z : ◌≡◌ {A = ℕ} 0 1 = cc in omega arith)
nap-timed TimedOut op f e h = refl
nap-timed Fails op f e h = absurd (let z : ◌≡◌ {A = ℕ} 0 1 = cc in omega arith)

timed-error : (f : ℕ) (same : Bool) → nap_of f same ≡ TimedOut → eqb f 110 ≡ true
unfolding nap_of
timed-error f same e = by (eqb f 0) same (eqb f 4 || eqb f 11) (eqb f 110) e
  where
    by : (a s c d : Bool) → pick a (pick s Sleeps Returns) (pick c Returns (pick d TimedOut Fails)) ≡ TimedOut → d ≡ true
    by true true c d e = absurd (let q : ◌≡◌ {A = ℕ} 0 1 = cc in omega arith)
    by true false c d e = absurd (let q : ◌≡◌ {A = ℕ} 0 1 = cc in omega arith)
    by false s true d e = absurd (let q : ◌≡◌ {A = ℕ} 0 1 = cc in omega arith)
    by false s false true e = refl
    by false s false false e = absurd (let q : ◌≡◌ {A = ℕ} 0 1 = cc in omega arith)

abbrev In : Side → Bool → World → Type 0
In side b w = Glance side b (party_in w side).step

begun-glance : (side : Side) (p : Party) (g k o n : Bool) (q : Party) (b : Bool) → Glance side b p.step → Glance side false q.step
    → Glance side (pick (begun (begins p g k o n q).answer) false b) (begins p g k o n q).party.step
begun-glance side p false k o n q b h f = h
begun-glance side p true true o n q b h f = h
begun-glance side p true false true n q b h f = h
begun-glance side p true false false true q b h f = h
begun-glance side p true false false false q b h f = f

begins-glance : (F : Step → Type 0) (p : Party) (g k o n : Bool) (q : Party) → F p.step → F q.step → F (begins p g k o n q).party.step
begins-glance F p false k o n q h f = h
begins-glance F p true true o n q h f = h
begins-glance F p true false true n q h f = h
begins-glance F p true false false true q h f = h
begins-glance F p true false false false q h f = f

rouses-glance : (F : Step → Type 0) (p : Party) (g a : Bool) (q : Reply) → F p.step → (a ≡ true → F q.party.step) → F (rouses p g a q).party.step
rouses-glance F p false a q h f = h
rouses-glance F p true false q h f = h
rouses-glance F p true true q h f = f refl

module _ (P S v : ℕ) (on : Bool) (power-ok : power_ok P ≡ true) (slot-ok : slot_ok S ≡ true) where
  mine-after : (w : World) (real : Real P S v on w) (side : Side) (payload lent : List ℕ) (fault : Fault) (g : takes w side payload lent fault ≡ true) (b : Bool)
      → ((e : ℕ) → (party_in w side).step ≡ Wait e → eqb (error_of fault) 110 ≡ true → b ≡ true) → In side b (after_turn P S v on power-ok slot-ok w real side payload lent fault g)
  unfolding move_of wait_move
  mine-after w real side payload lent fault g b h =
      let p = party_in w side in
      let value = value_of w.region p.own (next_spec p) in
      rw (mover-is P S v on power-ok slot-ok w real side payload lent fault g)
      (glance-on side _ refl b p.step (next-step P S v on power-ok slot-ok w real side payload lent fault g)
      (λ e s n. h e s (timed-error (error_of fault) (eqb value e) (nap-timed _ _ (error_of fault) e (subst (λ (u : Step). step_after (move_at u p.own p.counter p.blocking p.length value (error_of fault)) u ≡ LastLook true) s n))))
      (leads-here P S v on power-ok slot-ok w real side payload lent fault g))

  theirs-after : (w : World) (real : Real P S v on w) (side : Side) (payload lent : List ℕ) (fault : Fault) (g : takes w side payload lent fault ≡ true) (b : Bool)
      → In (other side) b w → In (other side) b (after_turn P S v on power-ok slot-ok w real side payload lent fault g)
  theirs-after w real side payload lent fault g b y =
      rw (waiter-is P S v on power-ok slot-ok w real side payload lent fault g)
      (roused-elim (roused (other side) (party_in w (other side)) (woke_of (next_spec (party_in w side)) (error_of fault))) (Glance (other side) b) y (λ e. tt))

  glance-turn : (σ side : Side) (w : World) → Real P S v on w → (payload lent : List ℕ) (fault : Fault) (b d : Bool) → (b ≡ true → d ≡ true)
      → (σ ≡ side → takes w side payload lent fault ≡ true → (e : ℕ) → (party_in w side).step ≡ Wait e → eqb (error_of fault) 110 ≡ true → d ≡ true)
      → In σ b w → In σ d (turn_world w side payload lent fault)
  glance-turn σ side w real payload lent fault b d m h y = by (takes w side payload lent fault) refl
    where
      taken : (σ side : Side) (g : takes w side payload lent fault ≡ true) → (σ ≡ side → takes w side payload lent fault ≡ true → (e : ℕ) → (party_in w side).step ≡ Wait e → eqb (error_of fault) 110 ≡ true → d ≡ true)
          → In σ b w → In σ d (after_turn P S v on power-ok slot-ok w real side payload lent fault g)
      taken Sender Sender g h y = mine-after w real Sender payload lent fault g d (h refl g)
      taken Recorder Recorder g h y = mine-after w real Recorder payload lent fault g d (h refl g)
      taken Sender Recorder g h y = glance-more Sender b d (party_in (after_turn P S v on power-ok slot-ok w real Recorder payload lent fault g) Sender).step m (theirs-after w real Recorder payload lent fault g b y)
      taken Recorder Sender g h y = glance-more Recorder b d (party_in (after_turn P S v on power-ok slot-ok w real Sender payload lent fault g) Recorder).step m (theirs-after w real Sender payload lent fault g b y)

      by : (x : Bool) → takes w side payload lent fault ≡ x → In σ d (turn_world w side payload lent fault)
      by true g = subst (In σ d) (sym (turn-is-after P S v on power-ok slot-ok w real side payload lent fault g)) (taken σ side g h y)
      by false g = subst (In σ d) (sym (turn-refused w side payload lent fault g)) (glance-more σ b d (party_in w σ).step m y)

  glance-attach : (σ side : Side) (n : ℕ) (w : World) (b : Bool) → In σ b w → In σ b (happens (attaches side n) w)
  unfolding happens attach_reply
  glance-attach σ side n w b y = by (eqb (number (attach_answer w.region side n)) 0) refl
    where
      seats : (σ side : Side) → In σ b w → Glance σ b (party_of (seat w.bench side (attached w.region side n)) σ).step
      seats Sender Sender y = tt
      seats Sender Recorder y = y
      seats Recorder Sender y = y
      seats Recorder Recorder y = tt

      by : (x : Bool) → eqb (number (attach_answer w.region side n)) 0 ≡ x → In σ b (happens (attaches side n) w)
      by true e = rw e (seats σ side y)
      by false e = rw e y

  glance-happens : (σ : Side) (h : Happening) (w : World) → Real P S v on w → (b : Bool) → In σ b w → In σ (timed_after σ h w b) (happens h w)
  unfolding happens played played_leaves settled push_spec pop_spec close_spec shut_spec spurious_spec timeout_spec
  glance-happens σ (attaches side n) w real b y = glance-attach σ side n w b y
  glance-happens σ (plays (Turn side) i o) w real b y = glance-turn σ side w real i o None b b (λ e. e) (λ s g e q f. absurd (let z : ◌≡◌ {A = ℕ} 0 1 = cc in omega arith)) y
  glance-happens σ (plays (Failing side n) i o) w real b y =
      let x = same_side σ side && (takes w side i o (Some n) && (at_wait (phase (party_in w side).step) && eqb n 110)) in
      glance-turn σ side w real i o (Some n) b (x || b) (or_right x b) (λ s g e q f. rw (s, same_true side, g, q, f)) y
  glance-happens Sender (plays (Spurious Sender) i o) w real b y =
      let p = w.bench.sender in rouses-glance (Glance Sender b) p (sound Sender p) (is_sleeping (stance_of p.step)) (reply (at Look p) GoesOn) y (λ e. tt)
  glance-happens Recorder (plays (Spurious Recorder) i o) w real b y =
      let p = w.bench.recorder in rouses-glance (Glance Recorder b) p (sound Recorder p) (is_sleeping (stance_of p.step)) (reply (at Look p) GoesOn) y (λ e. tt)
  glance-happens Sender (plays (Spurious Recorder) i o) w real b y = y
  glance-happens Recorder (plays (Spurious Sender) i o) w real b y = y
  glance-happens Sender (plays (TimeOut Sender) i o) w real b y =
      let p = w.bench.sender in
      let x = is_sleeping (stance_of p.step) in
      rouses-glance (Glance Sender (x || b)) p (sound Sender p) x (reply (at (LastLook true) p) GoesOn) (glance-more Sender b (x || b) p.step (or_right x b) y) (λ e. rw e)
  glance-happens Recorder (plays (TimeOut Recorder) i o) w real b y =
      let p = w.bench.recorder in
      let x = is_sleeping (stance_of p.step) in
      rouses-glance (Glance Recorder (x || b)) p (sound Recorder p) x (reply (at (LastLook true) p) GoesOn) (glance-more Recorder b (x || b) p.step (or_right x b) y) (λ e. rw e)
  glance-happens Sender (plays (TimeOut Recorder) i o) w real b y = y
  glance-happens Recorder (plays (TimeOut Sender) i o) w real b y = y
  glance-happens Sender (plays (Push k n l) i o) w real b y =
      let p = w.bench.sender in
      begun-glance Sender p (ready Sender p) p.closed (k && not p.own.notfull) (not (leb l (payload_capacity p.own.slot))) (named k n l p) b y tt
  glance-happens Recorder (plays (Push k n l) i o) w real b y = y
  glance-happens Recorder (plays (Pop k l) i o) w real b y =
      let p = w.bench.recorder in begun-glance Recorder p (ready Recorder p) p.closed false false (named k 0 l p) b y tt
  glance-happens Sender (plays (Pop k l) i o) w real b y = y
  glance-happens Sender (plays (Close Sender) i o) w real b y = let p = w.bench.sender in begins-glance (Glance Sender b) p (ready Sender p) p.closed false false (at CloseSet p) y tt
  glance-happens Recorder (plays (Close Recorder) i o) w real b y = let p = w.bench.recorder in begins-glance (Glance Recorder b) p (ready Recorder p) p.closed false false (at CloseSet p) y tt
  glance-happens Sender (plays (Close Recorder) i o) w real b y = y
  glance-happens Recorder (plays (Close Sender) i o) w real b y = y
  glance-happens Sender (plays (Shutdown Sender) i o) w real b y = let p = w.bench.sender in begins-glance (Glance Sender b) p (ready Sender p) false false false (at (ShutSet false) p) y tt
  glance-happens Recorder (plays (Shutdown Recorder) i o) w real b y = let p = w.bench.recorder in begins-glance (Glance Recorder b) p (ready Recorder p) false false false (at (ShutSet false) p) y tt
  glance-happens Sender (plays (Shutdown Recorder) i o) w real b y = y
  glance-happens Recorder (plays (Shutdown Sender) i o) w real b y = y

  glance-run : (σ : Side) (hs : List Happening) (w : World) → AllTyped hs → Real P S v on w → (b : Bool) → In σ b w → In σ (timed_by σ hs w b) (run hs w)
  unfolding run
  glance-run σ [] w t real b y = y
  glance-run σ (h ∷ hs) w t real b y = glance-run σ hs (happens h w) t.1 (real-happens P S v on power-ok slot-ok h w t.0 real) (timed_after σ h w b) (glance-happens σ h w real b y)

module _ (r : List ℕ) (P S : ℕ) (on : Bool) (v : ℕ) (fresh : Fresh r P S on v) where
  start : (σ : Side) → In σ false (opened (created r P S on v))
  start Sender = tt
  start Recorder = tt

  glanced : (σ : Side) (hs : List Happening) → AllTyped hs → In σ (timed_by σ hs (opened (created r P S on v)) false) (reached r P S on v hs)
  glanced σ hs t = glance-run P S v on (power-fits r P S on v fresh) (slot-fits r P S on v fresh) σ hs (opened (created r P S on v)) t (real-start r P S on v fresh) false (start σ)

  -- a sender never looks once more on a close
  pub left-recorder : (σ : Side) (hs : List Happening) → AllTyped hs → (party_in (reached r P S on v hs) σ).step ≡ LastLook false → σ ≡ Recorder
  left-recorder σ hs t e = subst (Glance σ (timed_by σ hs (opened (created r P S on v)) false)) e (glanced σ hs t)

  pub timed-by-call : (side : Side) → TimedByCall r P S on v side
  timed-by-call side hs t payload lent fault e = by (row side (reached r P S on v hs) payload lent fault Timeout e)
    where
      by : Given (turn side (reached r P S on v hs).region (party_in (reached r P S on v hs) side) payload lent fault) Timeout → timed_by side hs (opened (created r P S on v)) false ≡ true
      by (turn-taken g (timed-out s h)) = subst (Glance side (timed_by side hs (opened (created r P S on v)) false)) s (glanced side hs t)
