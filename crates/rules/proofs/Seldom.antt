-- Along every run a bell is seldom raised between a look at it and a wait; so of the premises only the wakes' is left.
use Rattle.std.specs.Prelude.{None, Some}
use mathlib.Core.Path.{◌≡◌, refl, sym, ap, ◌∙◌, subst}
use mathlib.Core.Bool.{Bool, true, false, ◌&&◌, not}
use mathlib.Core.List.{List, [], ◌∷◌}
use mathlib.Core.Logic.{◌⊎◌, inl, inr}
use Prim.Native.Nat.{ℕ, ◌+◌, ◌^◌, ◌<◌, ◌≤◌}
use native.Mathlib.Omega.{arith}
use lib.Dec.{eqb, leb}
use Rattle.types.specs.Pick.{pick}
use Rattle.types.specs.Answers.{number}
use Rattle.types.specs.declared.Side.{Side}
use Rattle.types.specs.declared.Side.TheVariants.{Sender, Recorder}
use Rattle.types.specs.declared.Party.{Party}
use Rattle.types.specs.declared.Bench.{Bench}
use Rattle.types.specs.Faults.{Fault}
use Rattle.types.specs.declared.Event.TheVariants.{Turn, Failing, Spurious, TimeOut, Push, Pop, Close, Shutdown}
use Rattle.types.specs.declared.Step.{Step}
use Rattle.types.specs.declared.Step.TheVariants.{Rest, Look, Wait, Asleep, LastLook, CloseSet, ShutSet}
use Rattle.types.specs.declared.Answer.TheVariants.{GoesOn}
use Rattle.layout.specs.Limits.{power_ok, slot_ok, payload_capacity}
use Rattle.layout.specs.Create.{created}
use Rattle.layout.specs.Attach.{attach_answer, attach_reply, attach_leaves, attached}
use Rattle.rules.specs.Sides.{other, same_side}
use Rattle.rules.specs.Take.{stance_of}
use Rattle.rules.specs.Calls.{at, named, reply, ready, sound, is_sleeping, push_spec, pop_spec, close_spec, shut_spec, spurious_spec, timeout_spec}
use Rattle.rules.specs.Bench.{settled, played, played_leaves}
use Rattle.rules.specs.Run.{World, Happening, attaches, plays, party_in, takes, happens, run, opened, rung_of}
use Rattle.rules.specs.Premises.{Typed, AllTyped, Timely, FairTurnBy, FairBy, AllFair, AllLand, parting, partings}
use Rattle.rules.specs.Stretch.{holds_epoch}
use Rattle.rules.specs.Claims.{Fresh, SeldomRung, WakesAlone}
use Rattle.rules.proofs.Views.{sleeping-step}
use Rattle.rules.proofs.Refusals.{ready-rests}
use Rattle.rules.proofs.Taken.{turn_world, turn-refused}
use Rattle.rules.proofs.RealTurn.{turn-is-after}
use Rattle.rules.proofs.RealAttach.{attach_world, was-at-rest}
use Rattle.rules.proofs.RealCalls.{Idle, rests, looks, glances, closes, shuts, Changed, begins-one, rouses-one, seat-same, seat-one, seat-two, seated, push-changes, pop-changes, close-changes, shut-changes, spurious-changes, timeout-changes}
use Rattle.rules.proofs.RealRun.{power-fits, slot-fits, real-start, real-happens}
use Rattle.rules.proofs.Rings.{owing}
use Rattle.rules.proofs.Listening.{RungAt, rung-mine, rung-theirs}
use Rattle.rules.proofs.Real.{room_in, Real}

idle-holds : (s : Step) → Idle s → holds_epoch s ≡ true → ⊥
idle-holds s rests h = let z : ◌≡◌ {A = ℕ} 0 1 = cc in omega arith
idle-holds s looks h = let z : ◌≡◌ {A = ℕ} 0 1 = cc in omega arith
idle-holds s glances h = let z : ◌≡◌ {A = ℕ} 0 1 = cc in omega arith
idle-holds s closes h = let z : ◌≡◌ {A = ℕ} 0 1 = cc in omega arith
idle-holds s shuts h = let z : ◌≡◌ {A = ℕ} 0 1 = cc in omega arith

-- what a call adds to what its side owes: a close and a shutdown one raise, anything else none
abbrev Adds : Side → (p q : Party) → (more : ℕ) → Type 0
Adds side p q more = (k : ℕ) → owing side q.step k ≤ owing side p.step k + more

adds : (side : Side) (p q x : Party) (more : ℕ) (F : Type 0) → (F → Adds side p q more) → (x ≡ p) ⊎ ((x ≡ q) × F) → Adds side p x more
adds side p q x more F f (inl e) k = rw e (omega arith)
adds side p q x more F f (inr e) k = rw e.0 (f e.1 k)

from : (side : Side) (p q : Party) (more : ℕ) (s : Step) → p.step ≡ s → ((k : ℕ) → owing side q.step k ≤ owing side s k + more) → Adds side p q more
from side p q more s e f k = rw e (f k)

push-adds : (p : Party) (b : Bool) (t l : ℕ) → Adds Sender p (push_spec p b t l).party 0
unfolding push_spec
push-adds p b t l =
    adds Sender p (named b t l p) (push_spec p b t l).party 0 ((ready Sender p ≡ true) × ((p.closed ≡ false) × ((b && not p.own.notfull) ≡ false)))
    (λ e. from Sender p (named b t l p) 0 Rest (ready-rests Sender p e.0) (λ k. omega arith))
    (begins-one p (ready Sender p) p.closed (b && not p.own.notfull) (not (leb l (payload_capacity p.own.slot))) (named b t l p))

pop-adds : (p : Party) (b : Bool) (l : ℕ) → Adds Recorder p (pop_spec p b l).party 0
unfolding pop_spec
pop-adds p b l =
    adds Recorder p (named b 0 l p) (pop_spec p b l).party 0 ((ready Recorder p ≡ true) × ((p.closed ≡ false) × (◌≡◌ {A = Bool} false false)))
    (λ e. from Recorder p (named b 0 l p) 0 Rest (ready-rests Recorder p e.0) (λ k. omega arith))
    (begins-one p (ready Recorder p) p.closed false false (named b 0 l p))

close-adds : (side : Side) (p : Party) → Adds side p (close_spec side p).party 1
unfolding close_spec
close-adds side p =
    adds side p (at CloseSet p) (close_spec side p).party 1 ((ready side p ≡ true) × ((p.closed ≡ false) × (◌≡◌ {A = Bool} false false)))
    (λ e. from side p (at CloseSet p) 1 Rest (ready-rests side p e.0) (λ k. omega arith))
    (begins-one p (ready side p) p.closed false false (at CloseSet p))

shut-adds : (side : Side) (p : Party) → Adds side p (shut_spec side p).party 1
unfolding shut_spec
shut-adds side p =
    adds side p (at (ShutSet false) p) (shut_spec side p).party 1 ((ready side p ≡ true) × ((◌≡◌ {A = Bool} false false) × (◌≡◌ {A = Bool} false false)))
    (λ e. from side p (at (ShutSet false) p) 1 Rest (ready-rests side p e.0) (λ k. omega arith))
    (begins-one p (ready side p) false false false (at (ShutSet false) p))

spurious-adds : (side : Side) (p : Party) → Adds side p (spurious_spec side p).party 0
unfolding spurious_spec
spurious-adds side p =
    adds side p (at Look p) (spurious_spec side p).party 0 ((sound side p ≡ true) × (is_sleeping (stance_of p.step) ≡ true))
    (λ e. from side p (at Look p) 0 Asleep (sleeping-step p.step e.1) (λ k. omega arith))
    (rouses-one p (sound side p) (is_sleeping (stance_of p.step)) (reply (at Look p) GoesOn))

timeout-adds : (side : Side) (p : Party) → Adds side p (timeout_spec side p).party 0
unfolding timeout_spec
timeout-adds side p =
    adds side p (at (LastLook true) p) (timeout_spec side p).party 0 ((sound side p ≡ true) × (is_sleeping (stance_of p.step) ≡ true))
    (λ e. from side p (at (LastLook true) p) 0 Asleep (sleeping-step p.step e.1) (λ k. omega arith))
    (rouses-one p (sound side p) (is_sleeping (stance_of p.step)) (reply (at (LastLook true) p) GoesOn))

module _ (P S v : ℕ) (on : Bool) where
  -- a call of the waiter's leaves it with no epoch; one of the other's adds what it owes
  called-mine : (w : World) (side : Side) (q : Party) → Changed side (party_in w side) q → (more : ℕ)
      → RungAt P S v on more side (other side) w → RungAt P S v on more side (other side) (seated P S v on w side q)
  called-mine w side q (inl e) more y =
      subst (RungAt P S v on more side (other side)) (sym (ap (seated P S v on w side) e ∙ ap (λ (b : Bench). record { region = w.region; bench = b; trace = w.trace }) (seat-same side w.bench))) y
  called-mine w side q (inr b) more y = rw (seat-one side w.bench q) (λ h. absurd (idle-holds q.step b.idle h))

  called-theirs : (w : World) (side : Side) (q : Party) (d : ℕ) → Adds side (party_in w side) q d → (more : ℕ)
      → RungAt P S v on more (other side) side w → RungAt P S v on (more + d) (other side) side (seated P S v on w side q)
  called-theirs w side q d a more y =
      rw (seat-one side w.bench q, seat-two side w.bench q) (λ h. omega (arith, y h, a (room_in P S v on (other side) w.trace)))

  module _ (power-ok : power_ok P ≡ true) (slot-ok : slot_ok S ≡ true) (w : World) (real : Real P S v on w) where
    module _ (side : Side) (spins : ℕ) where
      abbrev joined : World
      joined = attach_world P S v on power-ok slot-ok w real side spins

      attached-mine : (more : ℕ) → RungAt P S v on more side (other side) w → RungAt P S v on more side (other side) joined
      unfolding attach_leaves attach_reply
      attached-mine more y = by (eqb (number (attach_answer w.region side spins)) 0) refl
        where
          by : (b : Bool) → eqb (number (attach_answer w.region side spins)) 0 ≡ b → RungAt P S v on more side (other side) joined
          by false e = rw e y
          by true e = rw (e, seat-one side w.bench (attached w.region side spins)) (λ h. absurd (let z : ◌≡◌ {A = ℕ} 0 1 = cc in omega arith))

      attached-theirs : (more : ℕ) → RungAt P S v on more (other side) side w → RungAt P S v on more (other side) side joined
      unfolding attach_leaves attach_reply
      attached-theirs more y = by (eqb (number (attach_answer w.region side spins)) 0) refl
        where
          by : (b : Bool) → eqb (number (attach_answer w.region side spins)) 0 ≡ b → RungAt P S v on more (other side) side joined
          by false e = rw e y
          by true e = rw (e, seat-one side w.bench (attached w.region side spins), seat-two side w.bench (attached w.region side spins)) (rw (was-at-rest P S v on power-ok slot-ok w real side spins e) at y)

    module _ (side : Side) where
      turned-mine : (payload lent : List ℕ) (fault : Fault) (more : ℕ) → RungAt P S v on more side (other side) w → RungAt P S v on more side (other side) (turn_world w side payload lent fault)
      turned-mine payload lent fault more y = by (takes w side payload lent fault) refl
        where
          by : (b : Bool) → takes w side payload lent fault ≡ b → RungAt P S v on more side (other side) (turn_world w side payload lent fault)
          by true g = subst (RungAt P S v on more side (other side)) (sym (turn-is-after P S v on power-ok slot-ok w real side payload lent fault g)) (rung-mine P S v on power-ok slot-ok w real side payload lent fault g more y)
          by false g = subst (RungAt P S v on more side (other side)) (sym (turn-refused w side payload lent fault g)) y

      turned-theirs : (payload lent : List ℕ) (fault : Fault) (more : ℕ) → RungAt P S v on more (other side) side w → RungAt P S v on more (other side) side (turn_world w side payload lent fault)
      turned-theirs payload lent fault more y = by (takes w side payload lent fault) refl
        where
          by : (b : Bool) → takes w side payload lent fault ≡ b → RungAt P S v on more (other side) side (turn_world w side payload lent fault)
          by true g = subst (RungAt P S v on more (other side) side) (sym (turn-is-after P S v on power-ok slot-ok w real side payload lent fault g)) (rung-theirs P S v on power-ok slot-ok w real side payload lent fault g more y)
          by false g = subst (RungAt P S v on more (other side) side) (sym (turn-refused w side payload lent fault g)) y

  -- whoever waits, and whoever moves
  abbrev Rung : (more : ℕ) → Side → World → Type 0
  Rung more σ w = RungAt P S v on more σ (other σ) w

  no_more : (more : ℕ) (σ : Side) (w : World) → Rung more σ w → Rung (more + 0) σ w
  no_more more σ w y o = omega (arith, y o)

  module _ (power-ok : power_ok P ≡ true) (slot-ok : slot_ok S ≡ true) (more : ℕ) where
    called : (w : World) (σ side : Side) (q : Party) (d : ℕ) → Changed side (party_in w side) q → Adds side (party_in w side) q d → Rung more σ w
        → Rung (more + pick (same_side (other σ) side) d 0) σ (seated P S v on w side q)
    called w Sender Sender q d c a y = no_more more Sender (seated P S v on w Sender q) (called-mine w Sender q c more y)
    called w Sender Recorder q d c a y = called-theirs w Recorder q d a more y
    called w Recorder Sender q d c a y = called-theirs w Sender q d a more y
    called w Recorder Recorder q d c a y = no_more more Recorder (seated P S v on w Recorder q) (called-mine w Recorder q c more y)

    -- a call that adds nothing
    called-idly : (w : World) (σ side : Side) (q : Party) → Changed side (party_in w side) q → Adds side (party_in w side) q 0 → Rung more σ w → Rung (more + 0) σ (seated P S v on w side q)
    called-idly w Sender Sender q c a y = no_more more Sender (seated P S v on w Sender q) (called-mine w Sender q c more y)
    called-idly w Sender Recorder q c a y = called-theirs w Recorder q 0 a more y
    called-idly w Recorder Sender q c a y = called-theirs w Sender q 0 a more y
    called-idly w Recorder Recorder q c a y = no_more more Recorder (seated P S v on w Recorder q) (called-mine w Recorder q c more y)

    turned : (w : World) → Real P S v on w → (σ side : Side) (payload lent : List ℕ) (fault : Fault) → Rung more σ w → Rung more σ (turn_world w side payload lent fault)
    turned w real Sender Sender payload lent fault y = turned-mine power-ok slot-ok w real Sender payload lent fault more y
    turned w real Sender Recorder payload lent fault y = turned-theirs power-ok slot-ok w real Recorder payload lent fault more y
    turned w real Recorder Sender payload lent fault y = turned-theirs power-ok slot-ok w real Sender payload lent fault more y
    turned w real Recorder Recorder payload lent fault y = turned-mine power-ok slot-ok w real Recorder payload lent fault more y

    joins : (w : World) (real : Real P S v on w) (σ side : Side) (spins : ℕ) → Rung more σ w → Rung more σ (attach_world P S v on power-ok slot-ok w real side spins)
    joins w real Sender Sender spins y = attached-mine power-ok slot-ok w real Sender spins more y
    joins w real Sender Recorder spins y = attached-theirs power-ok slot-ok w real Recorder spins more y
    joins w real Recorder Sender spins y = attached-theirs power-ok slot-ok w real Sender spins more y
    joins w real Recorder Recorder spins y = attached-mine power-ok slot-ok w real Recorder spins more y

    rung-happens : (σ : Side) (h : Happening) (w : World) → Typed h → Real P S v on w → Rung more σ w → Rung (more + parting (other σ) h) σ (happens h w)
    unfolding happens played played_leaves settled
    rung-happens σ (attaches side spins) w t real y = no_more more σ (attach_world P S v on power-ok slot-ok w real side spins) (joins w real σ side spins y)
    rung-happens σ (plays (Turn side) i o) w t real y = no_more more σ (turn_world w side i o None) (turned w real σ side i o None y)
    rung-happens σ (plays (Failing side e) i o) w t real y = no_more more σ (turn_world w side i o (Some e)) (turned w real σ side i o (Some e) y)
    rung-happens σ (plays (Spurious side) i o) w t real y = called-idly w σ side (spurious_spec side (party_in w side)).party (spurious-changes side (party_in w side)) (spurious-adds side (party_in w side)) y
    rung-happens σ (plays (TimeOut side) i o) w t real y = called-idly w σ side (timeout_spec side (party_in w side)).party (timeout-changes side (party_in w side)) (timeout-adds side (party_in w side)) y
    rung-happens σ (plays (Push b g l) i o) w t real y = called-idly w σ Sender (push_spec (party_in w Sender) b g l).party (push-changes (party_in w Sender) b g l t) (push-adds (party_in w Sender) b g l) y
    rung-happens σ (plays (Pop b l) i o) w t real y = called-idly w σ Recorder (pop_spec (party_in w Recorder) b l).party (pop-changes (party_in w Recorder) b l) (pop-adds (party_in w Recorder) b l) y
    rung-happens σ (plays (Close side) i o) w t real y = called w σ side (close_spec side (party_in w side)).party 1 (close-changes side (party_in w side)) (close-adds side (party_in w side)) y
    rung-happens σ (plays (Shutdown side) i o) w t real y = called w σ side (shut_spec side (party_in w side)).party 1 (shut-changes side (party_in w side)) (shut-adds side (party_in w side)) y

  module _ (power-ok : power_ok P ≡ true) (slot-ok : slot_ok S ≡ true) (σ : Side) where
    pub rung-run : (hs : List Happening) (w : World) (more : ℕ) → AllTyped hs → Real P S v on w → Rung more σ w → Rung (more + partings (other σ) hs) σ (run hs w)
    unfolding run
    rung-run [] w more t real y = no_more more σ w y
    rung-run (h ∷ hs) w more t real y = λ o.
        omega (arith, rung-run hs (happens h w) (more + parting (other σ) h) t.1 (real-happens P S v on power-ok slot-ok h w t.0 real) (rung-happens power-ok slot-ok more σ h w t.0 real y) o)

    -- the waiter's own turns are asked nothing that does not hold
    timely : (w : World) (more : ℕ) → Rung more σ w → 2 + more < 2 ^ 32 → (e : ℕ) → (party_in w σ).step ≡ Wait e → rung_of σ w.trace < 2 ^ 32
    timely w more y few e at = omega (arith, y (ap holds_epoch at))

  fair-turn : (σ side : Side) (fault : Fault) (w : World) → ((e : ℕ) → (party_in w σ).step ≡ Wait e → rung_of σ w.trace < 2 ^ 32)
      → FairTurnBy (λ s u. Unit) σ side fault w → FairTurnBy Timely σ side fault w
  fair-turn Sender Sender fault w f l = f
  fair-turn Sender Recorder fault w f l = l
  fair-turn Recorder Sender fault w f l = l
  fair-turn Recorder Recorder fault w f l = f

  fair-one : (σ : Side) (h : Happening) (w : World) → ((e : ℕ) → (party_in w σ).step ≡ Wait e → rung_of σ w.trace < 2 ^ 32)
      → FairBy (λ s u. Unit) σ h w → FairBy Timely σ h w
  fair-one σ (attaches side spins) w f l = tt
  fair-one σ (plays (Turn side) i o) w f l = λ g. fair-turn σ side None w f (l g)
  fair-one σ (plays (Failing side e) i o) w f l = λ g. fair-turn σ side (Some e) w f (l g)
  fair-one σ (plays (Spurious side) i o) w f l = tt
  fair-one σ (plays (TimeOut side) i o) w f l = tt
  fair-one σ (plays (Push b g n) i o) w f l = tt
  fair-one σ (plays (Pop b n) i o) w f l = tt
  fair-one σ (plays (Close side) i o) w f l = tt
  fair-one σ (plays (Shutdown side) i o) w f l = tt

  pub fair-run : (power-ok : power_ok P ≡ true) (slot-ok : slot_ok S ≡ true) (σ : Side) (hs : List Happening) (w : World) (more : ℕ) → AllTyped hs → Real P S v on w → Rung more σ w
      → 2 + (more + partings (other σ) hs) < 2 ^ 32 → AllLand σ hs w → AllFair σ hs w
  fair-run power-ok slot-ok σ [] w more t real y few l = tt
  fair-run power-ok slot-ok σ (h ∷ hs) w more t real y few l = (
    fair-one σ h w (timely power-ok slot-ok σ w more y (omega arith)) l.0,
    fair-run power-ok slot-ok σ hs (happens h w) (more + parting (other σ) h) t.1 (real-happens P S v on power-ok slot-ok h w t.0 real) (rung-happens power-ok slot-ok more σ h w t.0 real y) (omega arith) l.1,
  )

module _ (r : List ℕ) (P S : ℕ) (on : Bool) (v : ℕ) (fresh : Fresh r P S on v) where
  abbrev region : List ℕ
  region = created r P S on v

  rung-start : (σ : Side) → Rung P S v on 0 σ (opened region)
  rung-start Sender h = absurd (let z : ◌≡◌ {A = ℕ} 0 1 = cc in omega arith)
  rung-start Recorder h = absurd (let z : ◌≡◌ {A = ℕ} 0 1 = cc in omega arith)

  pub seldom : (side : Side) → SeldomRung r P S on v side
  seldom side hs y h =
      omega (arith, rung-run P S v on (power-fits r P S on v fresh) (slot-fits r P S on v fresh) side hs (opened region) 0 y (real-start r P S on v fresh) (rung-start side) h)

  pub wakes-alone : (side : Side) → WakesAlone r P S on v side
  wakes-alone side hs y few l =
      fair-run P S v on (power-fits r P S on v fresh) (slot-fits r P S on v fresh) side hs (opened region) 0 y (real-start r P S on v fresh) (rung-start side) (omega arith) l
