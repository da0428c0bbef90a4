-- Whom a turn wakes, and what a wake makes of a sleeper.
use mathlib.Core.Path.{◌≡◌, refl, sym, ap}
use mathlib.Core.Bool.{Bool, true, false, not, ◌&&◌, and-true, and-false}
use Prim.Native.Nat.{ℕ}
use native.Mathlib.Omega.{arith}
use lib.Dec.{ltb}
use Rattle.types.specs.Pick.{pick}
use Rattle.types.specs.declared.Side.{Side}
use Rattle.types.specs.declared.Side.TheVariants.{Sender, Recorder}
use Rattle.types.specs.declared.Bell.{Bell}
use Rattle.types.specs.declared.Bell.TheVariants.{NotEmpty, NotFull}
use Rattle.types.specs.declared.Party.{Party}
use Rattle.types.specs.declared.Step.{Step}
use Rattle.types.specs.declared.Step.TheVariants.{Rest, Look, Copy, Publish, Check, Raise, Wake, Gate, Spin, Epoch, Again, GateAgain, Wait, Asleep, LastLook, CloseSet, CloseRaise, CloseWake, ShutSet, ShutRaiseNe, ShutWakeNe, ShutRaiseNf, ShutWakeNf}
use Rattle.rules.specs.Sides.{other, sleep_bell}
use Rattle.rules.specs.Take.{stance_of}
use Rattle.rules.specs.Next.{next_at}
use Rattle.rules.specs.Calls.{is_sleeping, at}
use Rattle.rules.specs.Turn.{woke_with, woke_of}
use Rattle.rules.specs.Bench.{same_bell, hears, wakened}
use Rattle.rules.specs.Phase.{Phase, resting, looking, copying, publishing, telling, asking, armed, poised, waits, sleeps, glancing, leaving, phase}
use Rattle.rules.proofs.Views.{awake, View, at_rest, at_copy, asleep, elsewhere, view, acting-awake}
use Rattle.rules.proofs.Heard.{risen, wakes_at}

-- a wake is heard at its own bell, unless it fails
unless : (b : Bell) (side : Side) (failed : Bool) → hears side (woke_with failed b) ≡ (same_bell b (sleep_bell side) && not failed)
unless b side true = sym (and-false (same_bell b (sleep_bell side)))
unless b side false = sym (and-true (same_bell b (sleep_bell side)))

-- whom the mover wakes, where no failure is announced
pub heard-by : (side : Side) (n error : ℕ) (s : Step) → hears (other side) (woke_of (next_at s side n) error) ≡ (wakes_at side s && not (ltb 0 error))
heard-by side n error Rest = refl
heard-by side n error Look = refl
heard-by Sender n error Copy = refl
heard-by Recorder n error Copy = refl
heard-by side n error (Publish l g) = refl
heard-by side n error (Check l g) = refl
heard-by side n error (Raise l g) = refl
heard-by Sender n error (Wake l g) = unless NotEmpty Recorder (ltb 0 error)
heard-by Recorder n error (Wake l g) = unless NotFull Sender (ltb 0 error)
heard-by side n error Gate = refl
heard-by side n error (Spin i) = refl
heard-by side n error Epoch = refl
heard-by side n error (Again e) = refl
heard-by side n error (GateAgain e) = refl
heard-by side n error (Wait e) = refl
heard-by side n error Asleep = refl
heard-by side n error (LastLook c) = refl
heard-by side n error CloseSet = refl
heard-by side n error CloseRaise = refl
heard-by Sender n error CloseWake = unless NotEmpty Recorder (ltb 0 error)
heard-by Recorder n error CloseWake = unless NotFull Sender (ltb 0 error)
heard-by side n error (ShutSet c) = refl
heard-by side n error (ShutRaiseNe c) = refl
heard-by Sender n error (ShutWakeNe c) = unless NotEmpty Recorder (ltb 0 error)
heard-by Recorder n error (ShutWakeNe c) = unless NotEmpty Sender (ltb 0 error)
heard-by side n error (ShutRaiseNf c f) = refl
heard-by Sender n error (ShutWakeNf c f) = unless NotFull Recorder (ltb 0 error)
heard-by Recorder n error (ShutWakeNf c f) = unless NotFull Sender (ltb 0 error)

risen-awake : (ph : Phase) → awake ph ≡ true → risen true ph ≡ ph
risen-awake resting e = refl
risen-awake looking e = refl
risen-awake copying e = refl
risen-awake (publishing l t) e = refl
risen-awake (telling l t) e = refl
risen-awake asking e = refl
risen-awake (armed n) e = refl
risen-awake (poised n) e = refl
risen-awake (waits n) e = refl
risen-awake sleeps e = absurd (let z : ◌≡◌ {A = ℕ} 0 1 = cc in omega arith)
risen-awake glancing e = refl
risen-awake leaving e = refl

risen-phase : (b : Bool) (q : Party) (s : Step) → q.step ≡ s → View s → phase (pick (b && is_sleeping (stance_of s)) (at Look q) q).step ≡ risen b (phase s)
risen-phase false q s e v = ap phase e
risen-phase true q s e at_rest = ap phase e
risen-phase true q s e at_copy = ap phase e
risen-phase true q s e asleep = refl
risen-phase true q s e (elsewhere a w) = rw (acting-awake (stance_of s) a, risen-awake (phase s) w) (ap phase e)

pub woken-phase : (side : Side) (q : Party) (n error : ℕ) (s : Step) → phase (wakened (other side) q (woke_of (next_at s side n) error)).step ≡ risen (wakes_at side s && not (ltb 0 error)) (phase q.step)
unfolding wakened
woken-phase side q n error s = rw (heard-by side n error s) (risen-phase (wakes_at side s && not (ltb 0 error)) q q.step refl (view q.step))
