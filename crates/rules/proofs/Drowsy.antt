-- T9: sleepers sleep.
use Rattle.std.specs.Prelude.{None}
use mathlib.Core.Path.{◌≡◌, refl, sym, ap, ◌∙◌, subst}
use mathlib.Core.Bool.{Bool, true, false, ◌||◌}
use mathlib.Core.List.{List}
use Prim.Native.Nat.{ℕ, suc, ◌+◌}
use native.Mathlib.Omega.{arith}
use borrow.Author.Tests.{ne_eqb}
use lib.Dec.{eqb}
use Rattle.words.specs.Le.{le_at}
use Rattle.types.specs.Pick.{pick}
use Rattle.types.specs.declared.Side.{Side}
use Rattle.types.specs.declared.Party.{Party}
use Rattle.types.specs.declared.Access.{Access}
use Rattle.types.specs.declared.Step.{Step}
use Rattle.types.specs.declared.Step.TheVariants.{Look, Again, Wait, Asleep}
use Rattle.layout.specs.Limits.{power_ok, slot_ok}
use Rattle.layout.specs.Header.{flags_at, bell_at}
use Rattle.layout.specs.Create.{created}
use Rattle.rules.specs.Sides.{sleep_bell}
use Rattle.rules.specs.Take.{stance_of, step_after, move_at, move_of}
use Rattle.rules.specs.Next.{next_at, next_spec}
use Rattle.rules.specs.Access.{value_of}
use Rattle.rules.specs.Run.{World, party_in, takes, run, opened}
use Rattle.rules.specs.Stretch.{moves, in_wait}
use Rattle.rules.specs.Claims.{Fresh, reached, FallsAsleep}
use Rattle.rules.proofs.Views.{moves-else}
use Rattle.rules.proofs.After.{bell-after}
use Rattle.rules.proofs.Kept.{header-in}
use Rattle.rules.proofs.Leads.{stop_at, stop-barred, open-door}
use Rattle.rules.proofs.Taken.{turn_world}
use Rattle.rules.proofs.Seats.{moved}
use Rattle.rules.proofs.RealTurn.{access-is, next-step, leads-here, after_turn, turn-is-after, real-after}
use Rattle.rules.proofs.RealRun.{power-fits, slot-fits, real-reached}
use Rattle.rules.proofs.Does.{less}
use Rattle.rules.proofs.Listening.{mover-is, flags-same}
use Rattle.rules.proofs.Causes.{room-is}
use Rattle.rules.proofs.Bound.{none_after}
use Rattle.rules.proofs.Asks.{run-parts}
use Rattle.rules.proofs.Real.{room_in, Real}
use Rattle.rules.proofs.Exactly.{exactly}
use Rattle.rules.proofs.UntilSleep.{drowse, nap-step, near-sleep, to_sleep, wait-bell, wait-stores-none}

module _ (P S v : ℕ) (on : Bool) (power-ok : power_ok P ≡ true) (slot-ok : slot_ok S ≡ true) where
  abbrev bell : Side → World → ℕ
  bell side w = le_at 4 w.region (bell_at (sleep_bell side))

  record Drowsy (side : Side) (n : ℕ) (w : World) : Type 0 where
    real : Real P S v on w
    room : room_in P S v on side w.trace ≡ 0
    clear : stop_at side (le_at 4 w.region flags_at) ≡ false
    blocking : (party_in w side).blocking ≡ true
    waits : in_wait (party_in w side).step ≡ true
    left : to_sleep (bell side w) (party_in w side).own.spins (party_in w side).step ≡ n

  module _ (side : Side) (w : World) (n : ℕ) (d : Drowsy side n w) (payload lent : List ℕ) (g : takes w side payload lent None ≡ true) where
    abbrev p : Party
    p = party_in w side

    abbrev s : Step
    s = p.step

    abbrev next : Step
    next = next-step P S v on power-ok slot-ok w d.real side payload lent None g

    abbrev after : World
    after = after_turn P S v on power-ok slot-ok w d.real side payload lent None g

    abbrev a : Access
    a = next_at s side p.counter

    me : party_in after side ≡ moved p s next
    me = mover-is P S v on power-ok slot-ok w d.real side payload lent None g

    naps-here : (e : ℕ) → s ≡ Wait e → next ≡ pick (eqb (bell side w) e) Asleep Look
    unfolding move_of value_of
    naps-here e q =
        let value = value_of w.region p.own (next_spec p) in
        let at : value ≡ bell side w = ap (value_of w.region p.own) (access-is P S v on power-ok slot-ok w d.real side payload lent None g ∙ ap (λ (u : Step). next_at u side p.counter) q) in
        ap (λ (u : Step). step_after (move_at u p.own p.counter p.blocking p.length value 0) u) q ∙ nap-step p.own value e ∙ ap (λ (u : ℕ). pick (eqb u e) Asleep Look) at

    drowses : (in_wait next ≡ true) × (to_sleep (bell side w) p.own.spins next ≡ less (to_sleep (bell side w) p.own.spins s))
    drowses = drowse _ d.room (d.real.sides side).bell-small (open-door _ (stop-barred side (le_at 4 w.region flags_at) ∙ d.clear)) d.blocking s next (leads-here P S v on power-ok slot-ok w d.real side payload lent None g) d.waits naps-here

    bell-same : bell side after ≡ bell side w
    unfolding after_turn
    bell-same =
        bell-after w.region p.own p.tag payload (header-in P S v on w.region p payload d.real.fixed) (sleep_bell side) a ∙ wait-bell side p.counter (sleep_bell side) (bell side w) s d.waits

    drowsy-after : Drowsy side (less n) after
    drowsy-after =
        record {
          real = real-after P S v on power-ok slot-ok w d.real side payload lent None g;
          room = none_after P S v on power-ok slot-ok w d.real side payload lent None g d.room;
          clear = ap (stop_at side) (flags-same P S v on power-ok slot-ok w d.real side payload lent None g (wait-stores-none s d.waits)) ∙ d.clear;
          blocking = ap (λ (q : Party). q.blocking) me ∙ d.blocking;
          waits = rw me drowses.0;
          left = rw (me, bell-same) (drowses.1 ∙ ap less d.left);
        }

  -- one with turns left is neither at rest nor asleep
  moving : (side : Side) (n : ℕ) (w : World) → Drowsy side (suc n) w → moves (stance_of (party_in w side).step) ≡ true
  moving side n w d =
      moves-else (party_in w side).step
      (λ e. let u : true ≡ false = sym d.waits ∙ ap in_wait e in let z : ◌≡◌ {A = ℕ} 0 1 = cc in omega arith)
      (λ e. let u : 0 ≡ suc n = sym (ap (to_sleep (bell side w) (party_in w side).own.spins) e) ∙ d.left in omega arith)

  turn : (side : Side) (n : ℕ) (w : World) → Drowsy side (suc n) w → (payload lent : List ℕ) → takes w side payload lent None ≡ true → Drowsy side n (turn_world w side payload lent None)
  turn side n w d payload lent g = subst (Drowsy side n) (sym (turn-is-after P S v on power-ok slot-ok w d.real side payload lent None g)) (drowsy-after side w (suc n) d payload lent g)

  slept : (side : Side) (w : World) → Drowsy side 0 w → (party_in w side).step ≡ Asleep
  slept side w d = (near-sleep (bell side w) (party_in w side).own.spins (party_in w side).step).slept d.waits (omega (arith, d.left))

-- from its look, and with an epoch that the bell no longer reads
from-look : (b a : ℕ) (s : Step) → s ≡ Look → to_sleep b a s ≡ 6 + a
from-look b a s e = ap (to_sleep b a) e

from-stale : (b a e : ℕ) (s : Step) → s ≡ Again e → (b ≡ e → ⊥) → to_sleep b a s ≡ 9 + a
from-stale b a e s q h = ap (to_sleep b a) q ∙ ap (λ (t : Bool). pick t 3 (9 + a)) (ne_eqb b e h)

clear-flags : (a b : Bool) → a ≡ false → b ≡ false → (a || b) ≡ false
clear-flags a b h g = rw (h, g)

module _ (r : List ℕ) (P S : ℕ) (on : Bool) (v : ℕ) (fresh : Fresh r P S on v) where
  pub sleeps : (side : Side) → FallsAsleep r P S on v side
  sleeps side hs t none up other-up mode waits =
      let w = reached r P S on v hs in
      let b = le_at 4 w.region (bell_at (sleep_bell side)) in
      let power-ok = power-fits r P S on v fresh in
      let slot-ok = slot-fits r P S on v fresh in
      let s = (party_in w side).step in
      let a = (party_in w side).own.spins in
      let real = real-reached r P S on v fresh hs t in
      let start : Drowsy P S v on power-ok slot-ok side (to_sleep b a s) w =
      record { real = real; room = sym (room-is r P S on v fresh side hs t) ∙ none; clear = clear-flags _ _ up other-up; blocking = mode; waits = waits; left = refl } in (
        to_sleep b a s,
        (
          (near-sleep b a s).nine (real.sides side).seat.spun,
          (
            from-look b a s,
            (
              λ e. from-stale b a e s,
              λ ms turns long.
                  let done = exactly side (Drowsy P S v on power-ok slot-ok side) (moving P S v on power-ok slot-ok side) (turn P S v on power-ok slot-ok side) ms w turns (to_sleep b a s) start long in
                  (done.0, (done.1.0, (done.1.1.0, (done.1.1.1.0, subst (λ (u : World). (party_in u side).step ≡ Asleep) (sym (run-parts hs done.0 (opened (created r P S on v)))) (slept P S v on power-ok slot-ok side (run done.0 w) done.1.1.1.1))))),
            ),
          ),
        ),
      )
