-- T4, and no fewer: the turns that a stopped call takes from a spin, counted.
use Rattle.std.specs.Prelude.{None}
use mathlib.Core.Path.{◌≡◌, refl, sym, ap, ◌∙◌, subst}
use mathlib.Core.Bool.{Bool, true, false, ◌||◌}
use mathlib.Core.List.{List}
use Prim.Native.Nat.{ℕ, suc, ◌+◌}
use native.Mathlib.Omega.{arith}
use Rattle.words.specs.Le.{le_at}
use Rattle.types.specs.Pick.{pick}
use Rattle.types.specs.declared.Side.{Side}
use Rattle.types.specs.declared.Side.TheVariants.{Sender, Recorder}
use Rattle.types.specs.declared.Mark.TheVariants.{Shutdown as ShutMark}
use Rattle.types.specs.declared.Door.{Door}
use Rattle.types.specs.declared.Door.TheVariants.{Shut, Left, Open}
use Rattle.types.specs.declared.Step.{Step}
use Rattle.types.specs.declared.Step.TheVariants.{Rest}
use Rattle.layout.specs.Limits.{power_ok, slot_ok}
use Rattle.layout.specs.Flags.{worth, bit_on, close_mark}
use Rattle.layout.specs.Header.{flags_at}
use Rattle.layout.specs.Create.{created}
use Rattle.rules.specs.Sides.{other}
use Rattle.rules.specs.Looks.{door_of}
use Rattle.rules.specs.Take.{stance_of}
use Rattle.rules.specs.Run.{World, party_in, takes, run, opened}
use Rattle.rules.specs.Stretch.{moves}
use Rattle.rules.specs.Claims.{last_looks, Fresh, reached, StopsAfter}
use Rattle.rules.proofs.Views.{moves-else}
use Rattle.rules.proofs.Leads.{barred, stop-barred, last_at}
use Rattle.rules.proofs.Taken.{turn_world}
use Rattle.rules.proofs.RealTurn.{next-step, leads-here, after_turn, turn-is-after, real-after}
use Rattle.rules.proofs.RealRun.{power-fits, slot-fits, real-reached}
use Rattle.rules.proofs.Effects.{sets-none}
use Rattle.rules.proofs.Does.{less}
use Rattle.rules.proofs.Listening.{mover-is, flags-same}
use Rattle.rules.proofs.Causes.{room-is}
use Rattle.rules.proofs.Bound.{none_after}
use Rattle.rules.proofs.Asks.{run-parts}
use Rattle.rules.proofs.Nearer.{to_rest, near, stopping, nears}
use Rattle.rules.proofs.Ending.{one_more, looks-most}
use Rattle.rules.proofs.Exactly.{exactly}
use Rattle.rules.proofs.Real.{room_in, Real}

-- a shutdown spares the last look
pub last-is : (side : Side) (flags : ℕ) → (bit_on (worth ShutMark) flags || bit_on (worth (close_mark (other side))) flags) ≡ true
    → last_at side (door_of side flags) ≡ pick (bit_on (worth ShutMark) flags) 0 (last_looks side)
unfolding door_of
last-is side flags e = by side (bit_on (worth ShutMark) flags) (bit_on (worth (close_mark (other side))) flags) e
  where
    by : (side : Side) (a c : Bool) → (a || c) ≡ true → last_at side (pick a Shut (pick c Left Open)) ≡ pick a 0 (last_looks side)
    by Sender true c e = refl
    by Recorder true c e = refl
    by Sender false true e = refl
    by Recorder false true e = refl
    by side false false e = absurd (let z : ◌≡◌ {A = ℕ} 0 1 = cc in omega arith)

module _ (P S v : ℕ) (on : Bool) (power-ok : power_ok P ≡ true) (slot-ok : slot_ok S ≡ true) where
  -- no room, a flag up, between a spin and the end, so many turns left
  record Stopping (side : Side) (door : Door) (n : ℕ) (w : World) : Type 0 where
    real : Real P S v on w
    room : room_in P S v on side w.trace ≡ 0
    seen : door_of side (le_at 4 w.region flags_at) ≡ door
    at : stopping (party_in w side).step ≡ true
    left : to_rest (last_at side door) (party_in w side).step 0 ≡ n

  module _ (side : Side) (door : Door) (up : barred door ≡ true) where
    rested : (w : World) → Stopping side door 0 w → (party_in w side).step ≡ Rest
    rested w d = (near (last_at side door) (omega (arith, looks-most side door, one_more side)) (party_in w side).step 0).rested (omega (arith, d.left))

    moving : (n : ℕ) (w : World) → Stopping side door (suc n) w → moves (stance_of (party_in w side).step) ≡ true
    moving n w d =
        moves-else (party_in w side).step
        (λ e. let u : 0 ≡ suc n = sym (ap (λ (x : Step). to_rest (last_at side door) x 0) e) ∙ d.left in omega arith)
        (λ e. let u : true ≡ false = sym d.at ∙ ap stopping e in let z : ◌≡◌ {A = ℕ} 0 1 = cc in omega arith)

    module _ (n : ℕ) (w : World) (d : Stopping side door (suc n) w) (payload lent : List ℕ) (g : takes w side payload lent None ≡ true) where
      abbrev next : Step
      next = next-step P S v on power-ok slot-ok w d.real side payload lent None g

      abbrev after : World
      after = after_turn P S v on power-ok slot-ok w d.real side payload lent None g

      nearer-here : (stopping next ≡ true) × (to_rest (last_at side door) next 0 ≡ less (to_rest (last_at side door) (party_in w side).step 0))
      nearer-here =
          subst (λ (z : Door). (stopping next ≡ true) × (to_rest (last_at side z) next 0 ≡ less (to_rest (last_at side z) (party_in w side).step 0))) d.seen
          (nears _ d.room (ap barred d.seen ∙ up) (party_in w side).step next (leads-here P S v on power-ok slot-ok w d.real side payload lent None g) d.at)

      stopping-after : Stopping side door n after
      stopping-after =
          let me = mover-is P S v on power-ok slot-ok w d.real side payload lent None g in
          record {
            real = real-after P S v on power-ok slot-ok w d.real side payload lent None g;
            room = none_after P S v on power-ok slot-ok w d.real side payload lent None g d.room;
            seen = ap (door_of side) (flags-same P S v on power-ok slot-ok w d.real side payload lent None g (sets-none stopping refl (λ c. refl) (party_in w side).step d.at)) ∙ d.seen;
            at = rw me nearer-here.0;
            left = rw me (nearer-here.1 ∙ ap less d.left);
          }

      turn : Stopping side door n (turn_world w side payload lent None)
      turn = subst (Stopping side door n) (sym (turn-is-after P S v on power-ok slot-ok w d.real side payload lent None g)) stopping-after

module _ (r : List ℕ) (P S : ℕ) (on : Bool) (v : ℕ) (fresh : Fresh r P S on v) where
  pub stops-after : (side : Side) → StopsAfter r P S on v side
  stops-after side hs ms n t up none at turns long =
      let w = reached r P S on v hs in
      let flags = le_at 4 w.region flags_at in
      let power-ok = power-fits r P S on v fresh in
      let slot-ok = slot-fits r P S on v fresh in
      let door = door_of side flags in
      let last = last-is side flags up in
      let start : Stopping P S v on power-ok slot-ok side door (n + 4 + pick (bit_on (worth ShutMark) flags) 0 (last_looks side)) w =
      record { real = real-reached r P S on v fresh hs t; room = sym (room-is r P S on v fresh side hs t) ∙ none; seen = refl; at = ap stopping at; left = ap (λ (s : Step). to_rest (last_at side door) s 0) at ∙ ap (λ (l : ℕ). n + 4 + l) last } in
      let barred-here = stop-barred side flags ∙ up in
      let done = exactly side (Stopping P S v on power-ok slot-ok side door) (moving P S v on power-ok slot-ok side door barred-here) (turn P S v on power-ok slot-ok side door barred-here) ms w turns _ start long in
      (done.0, (done.1.0, (done.1.1.0, (done.1.1.1.0, subst (λ (u : World). (party_in u side).step ≡ Rest) (sym (run-parts hs done.0 (opened (created r P S on v)))) (rested P S v on power-ok slot-ok side door barred-here (run done.0 w) done.1.1.1.1)))))
