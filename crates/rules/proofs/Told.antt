-- T10: and it is told, at the third turn of a blocking pop that finds nothing.
use Rattle.std.specs.Prelude.{None}
use mathlib.Core.Path.{◌≡◌, refl, sym, ap, ◌∙◌, subst}
use mathlib.Core.Bool.{Bool, true, false}
use mathlib.Core.List.{List}
use Prim.Native.Nat.{ℕ, zero, suc, ◌+◌, ◌≤◌}
use native.Mathlib.Omega.{arith}
use Rattle.words.specs.Le.{le_at}
use Rattle.types.specs.declared.Side.TheVariants.{Recorder}
use Rattle.types.specs.declared.Own.{Own}
use Rattle.types.specs.declared.Party.{Party}
use Rattle.types.specs.declared.Room.TheVariants.{Blocked}
use Rattle.types.specs.declared.Door.TheVariants.{Left}
use Rattle.types.specs.declared.Step.{Step}
use Rattle.types.specs.declared.Step.TheVariants.{Look, Gate, LastLook}
use Rattle.types.specs.declared.Answer.TheVariants.{Closed}
use Rattle.layout.specs.Limits.{power_ok, slot_ok}
use Rattle.layout.specs.Header.{flags_at}
use Rattle.layout.specs.Create.{created}
use Rattle.rules.specs.Looks.{room_here, door_of}
use Rattle.rules.specs.Steps.{look_move, left_move, gate_move}
use Rattle.rules.specs.Take.{stance_of, step_after, move_at, move_of}
use Rattle.rules.specs.Next.{next_spec}
use Rattle.rules.specs.Access.{value_of}
use Rattle.rules.specs.Turn.{turn_spec}
use Rattle.rules.specs.Run.{World, party_in, takes, run, opened}
use Rattle.rules.specs.Stretch.{moves, ticks}
use Rattle.rules.specs.Given.{none_left, turn-taken}
use Rattle.rules.specs.Claims.{Fresh, reached, ToldClosed}
use Rattle.rules.proofs.Answered.{given-only}
use Rattle.rules.proofs.Rooms.{as_room}
use Rattle.rules.proofs.Leads.{Tells}
use Rattle.rules.proofs.Taken.{turn_world}
use Rattle.rules.proofs.RealTurn.{sight_at, own_is, next-step, tells-here, after_turn, turn-is-after, real-after}
use Rattle.rules.proofs.RealRun.{power-fits, slot-fits, real-reached, waiting-is}
use Rattle.rules.proofs.Heard.{sets_none}
use Rattle.rules.proofs.Listening.{mover-is, flags-same}
use Rattle.rules.proofs.Bound.{none_after}
use Rattle.rules.proofs.Exactly.{counted-off}
use Rattle.rules.proofs.Asks.{run-parts}
use Rattle.rules.proofs.Real.{room_in, Real}

-- where such a pop stands so many turns before its last look
abbrev stage : ℕ → Step
stage zero = LastLook false
stage (suc zero) = Gate
stage (suc (suc n)) = Look

stage-sets-none : (n : ℕ) → sets_none (stage n) ≡ true
stage-sets-none zero = refl
stage-sets-none (suc zero) = refl
stage-sets-none (suc (suc n)) = refl

stage-moves : (n : ℕ) → moves (stance_of (stage n)) ≡ true
stage-moves zero = refl
stage-moves (suc zero) = refl
stage-moves (suc (suc n)) = refl

module _ (P S v : ℕ) (on : Bool) (power-ok : power_ok P ≡ true) (slot-ok : slot_ok S ≡ true) where
  record Stage (n : ℕ) (w : World) : Type 0 where
    real : Real P S v on w
    none : room_in P S v on Recorder w.trace ≡ 0
    left : door_of Recorder (le_at 4 w.region flags_at) ≡ Left
    blocking : (party_in w Recorder).blocking ≡ true
    at : (party_in w Recorder).step ≡ stage n
    few : n ≤ 2

  module _ (w : World) (n : ℕ) (d : Stage n w) (payload lent : List ℕ) (g : takes w Recorder payload lent None ≡ true) where
    abbrev p : Party
    p = party_in w Recorder

    abbrev s : Step
    s = p.step

    abbrev value : ℕ
    value = value_of w.region p.own (next_spec p)

    abbrev next : Step
    next = next-step P S v on power-ok slot-ok w d.real Recorder payload lent None g

    abbrev after : World
    after = after_turn P S v on power-ok slot-ok w d.real Recorder payload lent None g

    told_at : (u : Step) → s ≡ u
        → Tells p.own (sight_at P S v on Recorder p.own w.region w.trace p.blocking) p.counter value u
    told_at u e =
        subst (λ (x : Step). Tells p.own (sight_at P S v on Recorder p.own w.region w.trace p.blocking) p.counter value x) e
        (tells-here P S v on power-ok slot-ok w d.real Recorder payload lent None g)

    step-at : (u : Step) → s ≡ u → next ≡ step_after (move_at u p.own p.counter p.blocking p.length value 0) u
    unfolding move_of
    step-at u e = ap (λ (x : Step). step_after (move_at x p.own p.counter p.blocking p.length value 0) x) e

    leads-on : (m : ℕ) → s ≡ stage (suc m) → m ≤ 1 → next ≡ stage m
    unfolding look_move gate_move
    leads-on zero e h =
        let seen : door_of p.own.side value ≡ Left = told_at Gate e ∙ d.left in
        step-at Gate e ∙ rw seen (ap (λ (o : Own). step_after (left_move o.side) Gate) (own_is P S v on power-ok slot-ok w d.real Recorder payload lent None g))
    leads-on (suc zero) e h =
        let seen : room_here p.own p.counter value ≡ Blocked = told_at Look e ∙ ap as_room d.none in
        step-at Look e ∙ rw (seen, d.blocking) refl
    leads-on (suc (suc m)) e h = absurd (omega arith)

  moving : (n : ℕ) (w : World) → Stage n w → moves (stance_of (party_in w Recorder).step) ≡ true
  moving n w d = ap (λ (x : Step). moves (stance_of x)) d.at ∙ stage-moves n

  turn : (n : ℕ) (w : World) → Stage (suc n) w → (payload lent : List ℕ) → takes w Recorder payload lent None ≡ true → Stage n (turn_world w Recorder payload lent None)
  turn n w d payload lent g =
      let me = mover-is P S v on power-ok slot-ok w d.real Recorder payload lent None g in
      let still = flags-same P S v on power-ok slot-ok w d.real Recorder payload lent None g (ap sets_none d.at ∙ stage-sets-none (suc n)) in
      subst (Stage n) (sym (turn-is-after P S v on power-ok slot-ok w d.real Recorder payload lent None g))
      (record {
        real = real-after P S v on power-ok slot-ok w d.real Recorder payload lent None g;
        none = none_after P S v on power-ok slot-ok w d.real Recorder payload lent None g d.none;
        left = ap (door_of Recorder) still ∙ d.left;
        blocking = ap (λ (q : Party). q.blocking) me ∙ d.blocking;
        at = ap (λ (q : Party). q.step) me ∙ leads-on w (suc n) d payload lent g n d.at (omega (arith, d.few));
        few = omega (arith, d.few);
      })

  told-last : (w : World) → Stage 0 w → (payload lent : List ℕ) → takes w Recorder payload lent None ≡ true → (turn_spec Recorder w.region (party_in w Recorder) payload lent None).answer ≡ Closed
  told-last w d payload lent g = given-only (turn-taken g (none_left d.at (told_at w 0 d payload lent g (LastLook false) d.at ∙ ap as_room d.none)))

module _ (r : List ℕ) (P S : ℕ) (on : Bool) (v : ℕ) (fresh : Fresh r P S on v) where
  pub told-closed : ToldClosed r P S on v
  unfolding door_of
  told-closed hs ms t none down closed look blocking turns two payload lent =
      let w = reached r P S on v hs in
      let power-ok = power-fits r P S on v fresh in
      let slot-ok = slot-fits r P S on v fresh in
      let start : Stage P S v on power-ok slot-ok 2 w = record { real = real-reached r P S on v fresh hs t; none = sym (waiting-is r P S on v fresh hs t) ∙ none; left = rw (down, closed) refl; blocking = blocking; at = look; few = omega arith } in
      let e : 2 ≡ ticks ms w + 0 = omega (arith, two) in
      let last = counted-off Recorder (Stage P S v on power-ok slot-ok) (λ n. moving P S v on power-ok slot-ok (suc n)) (turn P S v on power-ok slot-ok) (moving P S v on power-ok slot-ok 0) ms w turns 0 (subst (λ (k : ℕ). Stage P S v on power-ok slot-ok k w) e start) in
      subst (λ (u : World). takes u Recorder payload lent None ≡ true → (turn_spec Recorder u.region (party_in u Recorder) payload lent None).answer ≡ Closed) (sym (run-parts hs ms (opened (created r P S on v))))
      (told-last P S v on power-ok slot-ok (run ms w) last payload lent)
