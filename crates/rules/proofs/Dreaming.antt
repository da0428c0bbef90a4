-- T9: a sleeper's turn changes nothing.
use Rattle.std.specs.Prelude.{None, Some}
use mathlib.Core.Path.{◌≡◌, refl, sym, ap, ◌∙◌}
use mathlib.Core.Bool.{Bool, true, false}
use mathlib.Core.List.{List}
use Prim.Native.Nat.{ℕ}
use Rattle.types.specs.declared.Side.{Side}
use Rattle.types.specs.declared.Party.{Party}
use Rattle.types.specs.declared.Bench.{Bench}
use Rattle.types.specs.declared.Turned.{Turned}
use Rattle.types.specs.Faults.{Fault}
use Rattle.types.specs.declared.Answer.TheVariants.{Nothing}
use Rattle.types.specs.declared.Access.{Access}
use Rattle.types.specs.declared.Access.TheVariants.{None as NoAccess}
use Rattle.types.specs.declared.Step.{Step}
use Rattle.types.specs.declared.Step.TheVariants.{Asleep}
use Rattle.rules.specs.Sides.{other}
use Rattle.rules.specs.Take.{stance_of, step_after, counter_after, closed_after, move_at, move_of, answer_of, take_spec}
use Rattle.rules.specs.Next.{next_at, next_spec}
use Rattle.rules.specs.Access.{value_of, leaves_of, buffer_of}
use Rattle.rules.specs.Turn.{error_of, woke_of, act_spec, turn_spec}
use Rattle.rules.specs.Bench.{seat, wakened, settled, played, played_leaves}
use Rattle.rules.specs.Run.{World, plays, party_in, takes, traced, happens}
use Rattle.rules.specs.Claims.{turn_of, reached, Dreams}
use Rattle.rules.proofs.Leaving.{turn_is}
use Rattle.rules.proofs.Taken.{turn_world, reseated, turn-refused, turn-taken}
use Rattle.rules.proofs.Seats.{moved}

-- a turn of a sleeper is no access and no change
module _ (w : World) (side : Side) (payload lent : List ℕ) (fault : Fault) (e : (party_in w side).step ≡ Asleep) where
  abbrev sleeper : Party
  sleeper = party_in w side

  none_is : next_spec sleeper ≡ NoAccess
  unfolding next_spec
  none_is = ap (λ (u : Step). next_at u sleeper.own.side sleeper.counter) e

  same-closed : closed_after (stance_of sleeper.step) sleeper.closed ≡ sleeper.closed
  same-closed = ap (λ (u : Step). closed_after (stance_of u) sleeper.closed) e

  same-counter : counter_after (stance_of sleeper.step) sleeper.counter ≡ sleeper.counter
  same-counter = ap (λ (u : Step). counter_after (stance_of u) sleeper.counter) e

  same_step : (value error : ℕ) → step_after (move_of sleeper value error) sleeper.step ≡ sleeper.step
  unfolding move_of
  same_step value error =
      ap (λ (u : Step). step_after (move_at u sleeper.own sleeper.counter sleeper.blocking sleeper.length value error) u) e ∙ sym e

  same-party : (value error : ℕ) → moved sleeper sleeper.step (step_after (move_of sleeper value error) sleeper.step) ≡ sleeper
  same-party value error = λ i. record {
    own = sleeper.own;
    closed = same-closed i;
    counter = same-counter i;
    blocking = sleeper.blocking;
    tag = sleeper.tag;
    length = sleeper.length;
    step = same_step value error i;
  }

  taken-still : takes w side payload lent fault ≡ true → turn_world w side payload lent fault ≡ w
  unfolding leaves_of
  taken-still g =
      turn-taken w side payload lent fault g
      ∙ ap (λ (x : Access). record {
        region = leaves_of w.region sleeper.own x sleeper.tag payload;
        bench = seat (seat w.bench side (moved sleeper sleeper.step (step_after (move_of sleeper (value_of w.region sleeper.own (next_spec sleeper)) (error_of fault)) sleeper.step))) (other side)
            (wakened (other side) (party_in w (other side)) (woke_of x (error_of fault)));
        trace = traced x sleeper payload (buffer_of w.region sleeper.own x sleeper.length lent) w.trace;
      }) none_is
      ∙ ap (λ (q : Party). record {
        region = w.region;
        bench = seat (seat w.bench side q) (other side) (wakened (other side) (party_in w (other side)) None);
        trace = w.trace;
      }) (same-party (value_of w.region sleeper.own (next_spec sleeper)) (error_of fault))
      ∙ ap (λ (b : Bench). record { region = w.region; bench = b; trace = w.trace }) (reseated side w.bench)

  asleep-still : turn_world w side payload lent fault ≡ w
  asleep-still = by (takes w side payload lent fault) refl
    where
      by : (b : Bool) → takes w side payload lent fault ≡ b → turn_world w side payload lent fault ≡ w
      by false g = turn-refused w side payload lent fault g
      by true g = taken-still g

  turn-happens : (f : Fault) → f ≡ fault → happens (plays (turn_of side f) payload lent) w ≡ turn_world w side payload lent f
  unfolding happens played played_leaves settled
  turn-happens None q = refl
  turn-happens (Some n) q = refl

  answers-nothing : takes w side payload lent fault ≡ true → (turn_spec side w.region sleeper payload lent fault).answer ≡ Nothing
  unfolding act_spec take_spec move_of
  answers-nothing g =
      ap (λ (x : Turned). x.answer) (turn_is side w.region sleeper payload lent fault g)
      ∙ ap (λ (u : Step). answer_of (move_at u sleeper.own sleeper.counter sleeper.blocking sleeper.length (value_of w.region sleeper.own (next_spec sleeper)) (error_of fault))) e

pub dreams-on : (r : List ℕ) (P S : ℕ) (on : Bool) (v : ℕ) (side : Side) → Dreams r P S on v side
dreams-on r P S on v side hs payload lent fault e =
    let w = reached r P S on v hs in
    (turn-happens w side payload lent fault e fault refl ∙ asleep-still w side payload lent fault e, answers-nothing w side payload lent fault e)
