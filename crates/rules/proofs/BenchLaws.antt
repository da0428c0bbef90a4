-- What an event makes of both parties of a bench.
use Rattle.std.specs.Prelude.{None, Some}
use mathlib.Core.Path.{◌≡◌, refl}
use mathlib.Core.Bool.{Bool, true, false}
use Prim.Native.Nat.{ℕ}
use native.Mathlib.Omega.{arith}
use Rattle.types.specs.declared.Side.{Side}
use Rattle.types.specs.declared.Side.TheVariants.{Sender, Recorder}
use Rattle.types.specs.declared.Bell.TheVariants.{NotEmpty, NotFull}
use Rattle.types.specs.declared.Bench.{Bench}
use Rattle.types.specs.declared.Party.{Party}
use Rattle.types.specs.declared.Turned.{Turned}
use Rattle.types.specs.declared.Reply.{Reply}
use Rattle.types.specs.declared.Step.TheVariants.{Asleep}
use Rattle.types.specs.Faults.{Woke}
use Rattle.types.specs.declared.Event.TheVariants.{Turn, Failing, Spurious, TimeOut, Push, Pop, Close, Shutdown as Shut}
use Rattle.rules.specs.Sides.{other, sleep_bell}
use Rattle.rules.specs.Take.{stance_of}
use Rattle.rules.specs.Calls.{is_sleeping}
use Rattle.rules.specs.Bench.{party_of, wakened, settled, turned, played}
use Rattle.rules.specs.Leaves.{Hears, BenchSeats, BenchWakes}
use Rattle.rules.proofs.Views.{sleeping-step}

settled-seat : (b : Bench) (side : Side) (r : Reply) → party_of (settled b side r).bench side ≡ r.party
unfolding settled
settled-seat b Sender r = refl
settled-seat b Recorder r = refl

turned-seat : (b : Bench) (side : Side) (t : Turned) → party_of (turned b side t).bench side ≡ t.party
unfolding turned
turned-seat b Sender t = refl
turned-seat b Recorder t = refl

pub bench-seats : BenchSeats
unfolding played
bench-seats r b i o (Turn side) = turned-seat b side _
bench-seats r b i o (Failing side e) = turned-seat b side _
bench-seats r b i o (Spurious side) = settled-seat b side _
bench-seats r b i o (TimeOut side) = settled-seat b side _
bench-seats r b i o (Push k t l) = settled-seat b Sender _
bench-seats r b i o (Pop k l) = settled-seat b Recorder _
bench-seats r b i o (Close side) = settled-seat b side _
bench-seats r b i o (Shut side) = settled-seat b side _

-- a sleeper on that bell, or not
heard : (σ : Side) (p : Party) (w : Woke) → Hears σ w p (wakened σ p w)
unfolding wakened
heard σ p None = (λ e. absurd (let z : ◌≡◌ {A = ℕ} 0 1 = cc in omega arith), λ h. refl)
heard Sender p (Some NotEmpty) = (λ e. absurd (let z : ◌≡◌ {A = ℕ} 0 1 = cc in omega arith), λ h. refl)
heard Recorder p (Some NotFull) = (λ e. absurd (let z : ◌≡◌ {A = ℕ} 0 1 = cc in omega arith), λ h. refl)
heard Sender p (Some NotFull) = (λ e q. rw q, λ h. by (is_sleeping (stance_of p.step)) refl h)
  where
    by : (x : Bool) → is_sleeping (stance_of p.step) ≡ x → (Some NotFull ≡ Some (sleep_bell Sender) → p.step ≡ Asleep → ⊥) → wakened Sender p (Some NotFull) ≡ p
    by true e h = absurd (h refl (sleeping-step p.step e))
    by false e h = rw e
heard Recorder p (Some NotEmpty) = (λ e q. rw q, λ h. by (is_sleeping (stance_of p.step)) refl h)
  where
    by : (x : Bool) → is_sleeping (stance_of p.step) ≡ x → (Some NotEmpty ≡ Some (sleep_bell Recorder) → p.step ≡ Asleep → ⊥) → wakened Recorder p (Some NotEmpty) ≡ p
    by true e h = absurd (h refl (sleeping-step p.step e))
    by false e h = rw e

-- a call, or what comes to a sleeper, wakes nobody
settled-other : (b : Bench) (side : Side) (r : Reply) → Hears (other side) None (party_of b (other side)) (party_of (settled b side r).bench (other side))
unfolding settled
settled-other b Sender r = (λ e. absurd (let z : ◌≡◌ {A = ℕ} 0 1 = cc in omega arith), λ h. refl)
settled-other b Recorder r = (λ e. absurd (let z : ◌≡◌ {A = ℕ} 0 1 = cc in omega arith), λ h. refl)

turned-other : (b : Bench) (side : Side) (t : Turned) → Hears (other side) t.woke (party_of b (other side)) (party_of (turned b side t).bench (other side))
unfolding turned
turned-other b Sender t = heard Recorder b.recorder t.woke
turned-other b Recorder t = heard Sender b.sender t.woke

pub bench-wakes : BenchWakes
unfolding played
bench-wakes r b i o (Turn side) = turned-other b side _
bench-wakes r b i o (Failing side e) = turned-other b side _
bench-wakes r b i o (Spurious side) = settled-other b side _
bench-wakes r b i o (TimeOut side) = settled-other b side _
bench-wakes r b i o (Push k t l) = settled-other b Sender _
bench-wakes r b i o (Pop k l) = settled-other b Recorder _
bench-wakes r b i o (Close side) = settled-other b side _
bench-wakes r b i o (Shut side) = settled-other b side _
