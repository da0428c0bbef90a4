-- T10: 11 ends a pop, and 13 any call, over nothing alone.
use Rattle.std.specs.Prelude.{None, Some}
use mathlib.Core.Path.{◌≡◌, refl, sym, ap, ◌∙◌, subst}
use mathlib.Core.Bool.{Bool, true, false}
use mathlib.Core.List.{List}
use Prim.Native.Nat.{ℕ, zero, suc}
use native.Mathlib.Omega.{arith}
use Rattle.types.specs.declared.Side.{Side}
use Rattle.types.specs.declared.Side.TheVariants.{Sender, Recorder}
use Rattle.types.specs.declared.Own.{Own}
use Rattle.types.specs.declared.Party.{Party}
use Rattle.types.specs.Faults.{Fault}
use Rattle.types.specs.declared.Room.TheVariants.{Blocked}
use Rattle.types.specs.declared.Step.{Step}
use Rattle.types.specs.declared.Step.TheVariants.{LastLook}
use Rattle.types.specs.declared.Event.TheVariants.{Turn, Failing, Spurious, TimeOut, Push, Pop, Close, Shutdown}
use Rattle.types.specs.declared.Answer.TheVariants.{Closed, Timeout}
use Rattle.layout.specs.Limits.{power_ok, slot_ok, capacity}
use Rattle.layout.specs.Create.{created}
use Rattle.rules.specs.Looks.{room_here}
use Rattle.rules.specs.Next.{next_spec}
use Rattle.rules.specs.Access.{value_of}
use Rattle.rules.specs.Turn.{turn_spec}
use Rattle.rules.specs.Bench.{settled, turned, played}
use Rattle.rules.specs.Given.{left, left-again, none_left, timed-out, Ask, push, pop, close, shutdown, spurious, timeout, turn, Given, turn-taken, answered}
use Rattle.rules.specs.Run.{World, Happening, party_in, takes, opened}
use Rattle.rules.specs.Premises.{AllTyped}
use Rattle.rules.specs.Claims.{room, Fresh, reached, ClosedOverNone, TimeoutOverNone}
use Rattle.rules.proofs.Answered.{given-first}
use Rattle.rules.proofs.Rooms.{as_room}
use Rattle.rules.proofs.Leads.{Tells}
use Rattle.rules.proofs.RealTurn.{sight_at, own_is, tells-here}
use Rattle.rules.proofs.RealRun.{power-fits, slot-fits, real-reached}
use Rattle.rules.proofs.Causes.{room-is}
use Rattle.rules.proofs.Asks.{run-parts, typed-parts}
use Rattle.rules.proofs.Delivers.{all-delivered}
use Rattle.rules.proofs.Sealed.{sealed-run}
use Rattle.rules.proofs.Real.{room_in}

-- a turn at its last look that found no room
module _ (side : Side) (w : World) (payload lent : List ℕ) (fault : Fault) where
  abbrev p : Party
  p = party_in w side

  pub record BlockedAt (timed : Bool) : Type 0 where
    pub taken : takes w side payload lent fault ≡ true
    pub last : p.step ≡ LastLook timed
    pub blocked : room_here p.own p.counter (value_of w.region p.own (next_spec p)) ≡ Blocked

  timed-turn : Given (turn side w.region p payload lent fault) Timeout → BlockedAt true
  timed-turn (turn-taken g (timed-out s r)) = record { taken = g; last = s; blocked = r }

  closed-turn : (takes w side payload lent fault ≡ true → p.own.side ≡ Recorder) → Given (turn side w.region p payload lent fault) Closed → BlockedAt false
  closed-turn o (turn-taken g (left s q d)) = absurd (let e = sym q ∙ o g in let z : ◌≡◌ {A = ℕ} 0 1 = cc in omega arith)
  closed-turn o (turn-taken g (left-again s q d)) = absurd (let e = sym q ∙ o g in let z : ◌≡◌ {A = ℕ} 0 1 = cc in omega arith)
  closed-turn o (turn-taken g (none_left s r)) = record { taken = g; last = s; blocked = r }

pub none_seen : (k : ℕ) → as_room k ≡ Blocked → k ≡ 0
none_seen zero e = refl
none_seen (suc k) e = absurd (let z : ◌≡◌ {A = ℕ} 0 1 = cc in omega arith)

-- neither a begin nor what comes to a sleeper is given 13
abbrev Untimed : Ask → Type 0
Untimed a = answered a ≡ Timeout → ⊥

by_row : (a : Ask) → (Given a Timeout → ⊥) → Untimed a
by_row a none e = none (rw e at (given-first a))

untimed-push : (p : Party) (b : Bool) (t l : ℕ) → Untimed (push p b t l)
untimed-push p b t l = by_row (push p b t l) (elim [ ])

untimed-pop : (p : Party) (b : Bool) (l : ℕ) → Untimed (pop p b l)
untimed-pop p b l = by_row (pop p b l) (elim [ ])

untimed-close : (side : Side) (p : Party) → Untimed (close side p)
untimed-close side p = by_row (close side p) (elim [ ])

untimed-shutdown : (side : Side) (p : Party) → Untimed (shutdown side p)
untimed-shutdown side p = by_row (shutdown side p) (elim [ ])

untimed-spurious : (side : Side) (p : Party) → Untimed (spurious side p)
untimed-spurious side p = by_row (spurious side p) (elim [ ])

untimed-timeout : (side : Side) (p : Party) → Untimed (timeout side p)
untimed-timeout side p = by_row (timeout side p) (elim [ ])

module _ (r : List ℕ) (P S : ℕ) (on : Bool) (v : ℕ) (fresh : Fresh r P S on v) where
  abbrev power-ok : power_ok P ≡ true
  power-ok = power-fits r P S on v fresh

  abbrev slot_ok_lem : slot_ok S ≡ true
  slot_ok_lem = slot-fits r P S on v fresh

  -- such a look tells the room in the bytes
  none-there : (side : Side) (hs : List Happening) → AllTyped hs → (payload lent : List ℕ) (fault : Fault) (timed : Bool) → BlockedAt side (reached r P S on v hs) payload lent fault timed
      → room side (capacity P) (reached r P S on v hs) ≡ 0
  none-there side hs t payload lent fault timed h =
      let w = reached r P S on v hs in
      let p = party_in w side in
      let k = room_in P S v on side w.trace in
      let seen : room_here p.own p.counter (value_of w.region p.own (next_spec p)) ≡ as_room k =
      subst (λ (s : Step). Tells p.own (sight_at P S v on side p.own w.region w.trace p.blocking) p.counter (value_of w.region p.own (next_spec p)) s) h.last
      (tells-here P S v on power-ok slot_ok_lem w (real-reached r P S on v fresh hs t) side payload lent fault h.taken) in
      room-is r P S on v fresh side hs t ∙ none_seen k (sym seen ∙ h.blocked)

  turn-none : (side mover : Side) → mover ≡ side → (hs : List Happening) → AllTyped hs → (payload lent : List ℕ) (fault : Fault)
      → (turn_spec mover (reached r P S on v hs).region (party_in (reached r P S on v hs) mover) payload lent fault).answer ≡ Timeout → room side (capacity P) (reached r P S on v hs) ≡ 0
  turn-none side mover m hs t payload lent fault e =
      let w = reached r P S on v hs in
      rw (← m) (none-there mover hs t payload lent fault true
      (timed-turn mover w payload lent fault (rw e at (given-first (turn mover w.region (party_in w mover) payload lent fault)))))

  pub timeout-over-none : (side : Side) → TimeoutOverNone r P S on v side
  unfolding played turned settled
  timeout-over-none side hs t (Turn mover) i o m e = turn-none side mover m hs t i o None e
  timeout-over-none side hs t (Failing mover n) i o m e = turn-none side mover m hs t i o (Some n) e
  timeout-over-none side hs t (Spurious mover) i o m e = absurd (untimed-spurious mover (party_in (reached r P S on v hs) mover) e)
  timeout-over-none side hs t (TimeOut mover) i o m e = absurd (untimed-timeout mover (party_in (reached r P S on v hs) mover) e)
  timeout-over-none side hs t (Push b g l) i o m e = absurd (untimed-push (party_in (reached r P S on v hs) Sender) b g l e)
  timeout-over-none side hs t (Pop b l) i o m e = absurd (untimed-pop (party_in (reached r P S on v hs) Recorder) b l e)
  timeout-over-none side hs t (Close mover) i o m e = absurd (untimed-close mover (party_in (reached r P S on v hs) mover) e)
  timeout-over-none side hs t (Shutdown mover) i o m e = absurd (untimed-shutdown mover (party_in (reached r P S on v hs) mover) e)

  pub closed-over-none : ClosedOverNone r P S on v
  closed-over-none hs ms t payload lent fault e =
      let w = reached r P S on v hs in
      let p = party_in w Recorder in
      let typed = typed-parts hs ms t in
      let real = real-reached r P S on v fresh hs typed.0 in
      let given : Given (turn Recorder w.region p payload lent fault) Closed = rw e at (given-first (turn Recorder w.region p payload lent fault)) in
      let at = closed-turn Recorder w payload lent fault (λ g. ap (λ (o : Own). o.side) (own_is P S v on power-ok slot_ok_lem w real Recorder payload lent fault g)) given in
      let all = all-delivered r P S on v fresh hs typed.0 (none-there Recorder hs typed.0 payload lent fault false at) in
      let left : (party_in w Sender).closed ≡ true = sym (real.sides Sender).seat.closed-bit ∙ (real.sides Recorder).seat.heard at.last in
      let sealed = sealed-run P S v on w.trace.delivered power-ok slot_ok_lem ms w typed.1 real (record { closed = left; same = all }) in
      ap (λ (u : World). u.trace.sent) (run-parts hs ms (opened (created r P S on v))) ∙ sealed.same
