-- The turns that are left until sleep.
use mathlib.Core.Path.{◌≡◌, refl, sym, ap}
use mathlib.Core.Bool.{Bool, true, false}
use Prim.Native.Nat.{ℕ, suc, ◌+◌, ◌%◌, ◌^◌, ◌<◌, ◌≤◌}
use native.Mathlib.Nat.{mod-eq_of_lt}
use native.Mathlib.Omega.{arith}
use borrow.Author.Tests.{eq-eqb}
use lib.Dec.{eqb}
use Rattle.types.specs.Pick.{pick}
use Rattle.types.specs.declared.Side.{Side}
use Rattle.types.specs.declared.Bell.{Bell}
use Rattle.types.specs.declared.Own.{Own}
use Rattle.types.specs.declared.Nap.TheVariants.{Sleeps as SleepsNow, Returns}
use Rattle.types.specs.declared.Door.TheVariants.{Open}
use Rattle.types.specs.declared.Step.{Step}
use Rattle.types.specs.declared.Step.TheVariants.{Rest, Look, Copy, Publish, Check, Raise, Wake, Gate, Spin, Epoch, Again, GateAgain, Wait, Asleep, LastLook, CloseSet, CloseRaise, CloseWake, ShutSet, ShutRaiseNe, ShutWakeNe, ShutRaiseNf, ShutWakeNf}
use Rattle.rules.specs.Sides.{sleep_bell, wait_op}
use Rattle.rules.specs.Looks.{nap_of}
use Rattle.rules.specs.Steps.{nap_move, wait_move}
use Rattle.rules.specs.Take.{step_after}
use Rattle.rules.specs.Next.{next_at}
use Rattle.rules.specs.Stretch.{in_wait_at, in_wait}
use Rattle.rules.proofs.After.{bell_by}
use Rattle.rules.proofs.Leads.{Sight, Onward, straight, around, asks, Leads, idles, finds, blocks, gives_up, copies, spills, tells, stores, owes, passes, raises, wakes, enters, stops, finds-spin, spins, reads, finds-again, stays, enters-again, stops-again, returns, ends, dreams, glances, glances-again, times-out, finds-last, finds-none, closes, closes-alone, close-raises, close-wakes, shuts, shut-raises, shut-wakes, shut-raises-again, shut-wakes-again, sleeps as falls-asleep}
use Rattle.rules.proofs.Does.{less, less_one}
use Rattle.rules.proofs.Heard.{sets_none}
use Rattle.rules.proofs.Effects.{sets-none}

-- the turns that are left until sleep, by whether the bell still reads the epoch
abbrev pub to_sleep : (bell spins : ℕ) → Step → ℕ
to_sleep b a Rest = 0
to_sleep b a Look = 6 + a
to_sleep b a Copy = 0
to_sleep b a (Publish l t) = 0
to_sleep b a (Check l t) = 0
to_sleep b a (Raise l t) = 0
to_sleep b a (Wake l t) = 0
to_sleep b a Gate = 5 + a
to_sleep b a (Spin n) = 5 + n
to_sleep b a Epoch = 4
to_sleep b a (Again e) = pick (eqb b e) 3 (9 + a)
to_sleep b a (GateAgain e) = pick (eqb b e) 2 (8 + a)
to_sleep b a (Wait e) = pick (eqb b e) 1 (7 + a)
to_sleep b a Asleep = 0
to_sleep b a (LastLook c) = 0
to_sleep b a CloseSet = 0
to_sleep b a CloseRaise = 0
to_sleep b a CloseWake = 0
to_sleep b a (ShutSet c) = 0
to_sleep b a (ShutRaiseNe c) = 0
to_sleep b a (ShutWakeNe c) = 0
to_sleep b a (ShutRaiseNf c e) = 0
to_sleep b a (ShutWakeNf c e) = 0

at_most : (t : Bool) (x y most : ℕ) → x ≤ most → y ≤ most → pick t x y ≤ most
at_most true x y most h g = h
at_most false x y most h g = g

not_none : (t : Bool) (x y : ℕ) → 0 < x → 0 < y → pick t x y ≤ 0 → ⊥
not_none true x y h g l = omega arith
not_none false x y h g l = omega arith

-- at most nine and the spins are left, and none at the end alone: asleep
pub record NearSleep (b a : ℕ) (s : Step) : Type 0 where
  pub nine : ((n : ℕ) → s ≡ Spin n → n < a) → to_sleep b a s ≤ 9 + a
  pub slept : in_wait s ≡ true → to_sleep b a s ≤ 0 → s ≡ Asleep

pub near-sleep : (b a : ℕ) (s : Step) → NearSleep b a s
near-sleep b a Rest = record { nine = λ f. omega arith; slept = λ w h. absurd (let u : ◌≡◌ {A = ℕ} 0 1 = cc in omega arith) }
near-sleep b a Look = record { nine = λ f. omega arith; slept = λ w h. absurd (omega arith) }
near-sleep b a Copy = record { nine = λ f. omega arith; slept = λ w h. absurd (let u : ◌≡◌ {A = ℕ} 0 1 = cc in omega arith) }
near-sleep b a (Publish l t) = record { nine = λ f. omega arith; slept = λ w h. absurd (let u : ◌≡◌ {A = ℕ} 0 1 = cc in omega arith) }
near-sleep b a (Check l t) = record { nine = λ f. omega arith; slept = λ w h. absurd (let u : ◌≡◌ {A = ℕ} 0 1 = cc in omega arith) }
near-sleep b a (Raise l t) = record { nine = λ f. omega arith; slept = λ w h. absurd (let u : ◌≡◌ {A = ℕ} 0 1 = cc in omega arith) }
near-sleep b a (Wake l t) = record { nine = λ f. omega arith; slept = λ w h. absurd (let u : ◌≡◌ {A = ℕ} 0 1 = cc in omega arith) }
near-sleep b a Gate = record { nine = λ f. omega arith; slept = λ w h. absurd (omega arith) }
near-sleep b a (Spin n) = record { nine = λ f. omega (arith, f n refl); slept = λ w h. absurd (omega arith) }
near-sleep b a Epoch = record { nine = λ f. omega arith; slept = λ w h. absurd (omega arith) }
near-sleep b a (Again e) = record { nine = λ f. at_most (eqb b e) 3 (9 + a) (9 + a) (omega arith) (omega arith); slept = λ w h. absurd (not_none (eqb b e) 3 (9 + a) (omega arith) (omega arith) h) }
near-sleep b a (GateAgain e) = record { nine = λ f. at_most (eqb b e) 2 (8 + a) (9 + a) (omega arith) (omega arith); slept = λ w h. absurd (not_none (eqb b e) 2 (8 + a) (omega arith) (omega arith) h) }
near-sleep b a (Wait e) = record { nine = λ f. at_most (eqb b e) 1 (7 + a) (9 + a) (omega arith) (omega arith); slept = λ w h. absurd (not_none (eqb b e) 1 (7 + a) (omega arith) (omega arith) h) }
near-sleep b a Asleep = record { nine = λ f. omega arith; slept = λ w h. refl }
near-sleep b a (LastLook c) = record { nine = λ f. omega arith; slept = λ w h. absurd (let u : ◌≡◌ {A = ℕ} 0 1 = cc in omega arith) }
near-sleep b a CloseSet = record { nine = λ f. omega arith; slept = λ w h. absurd (let u : ◌≡◌ {A = ℕ} 0 1 = cc in omega arith) }
near-sleep b a CloseRaise = record { nine = λ f. omega arith; slept = λ w h. absurd (let u : ◌≡◌ {A = ℕ} 0 1 = cc in omega arith) }
near-sleep b a CloseWake = record { nine = λ f. omega arith; slept = λ w h. absurd (let u : ◌≡◌ {A = ℕ} 0 1 = cc in omega arith) }
near-sleep b a (ShutSet c) = record { nine = λ f. omega arith; slept = λ w h. absurd (let u : ◌≡◌ {A = ℕ} 0 1 = cc in omega arith) }
near-sleep b a (ShutRaiseNe c) = record { nine = λ f. omega arith; slept = λ w h. absurd (let u : ◌≡◌ {A = ℕ} 0 1 = cc in omega arith) }
near-sleep b a (ShutWakeNe c) = record { nine = λ f. omega arith; slept = λ w h. absurd (let u : ◌≡◌ {A = ℕ} 0 1 = cc in omega arith) }
near-sleep b a (ShutRaiseNf c e) = record { nine = λ f. omega arith; slept = λ w h. absurd (let u : ◌≡◌ {A = ℕ} 0 1 = cc in omega arith) }
near-sleep b a (ShutWakeNf c e) = record { nine = λ f. omega arith; slept = λ w h. absurd (let u : ◌≡◌ {A = ℕ} 0 1 = cc in omega arith) }

-- nothing that a waiter does stores anything
pub wait-stores-none : (s : Step) → in_wait s ≡ true → sets_none s ≡ true
wait-stores-none = sets-none in_wait refl (λ c. refl)

pub wait-bell : (side : Side) (n : ℕ) (b : Bell) (c : ℕ) (s : Step) → in_wait s ≡ true → bell_by (next_at s side n) b c ≡ c
wait-bell side n b c Rest w = absurd (let u : ◌≡◌ {A = ℕ} 0 1 = cc in omega arith)
wait-bell side n b c Look w = refl
wait-bell side n b c Copy w = absurd (let u : ◌≡◌ {A = ℕ} 0 1 = cc in omega arith)
wait-bell side n b c (Publish l t) w = absurd (let u : ◌≡◌ {A = ℕ} 0 1 = cc in omega arith)
wait-bell side n b c (Check l t) w = absurd (let u : ◌≡◌ {A = ℕ} 0 1 = cc in omega arith)
wait-bell side n b c (Raise l t) w = absurd (let u : ◌≡◌ {A = ℕ} 0 1 = cc in omega arith)
wait-bell side n b c (Wake l t) w = absurd (let u : ◌≡◌ {A = ℕ} 0 1 = cc in omega arith)
wait-bell side n b c Gate w = refl
wait-bell side n b c (Spin i) w = refl
wait-bell side n b c Epoch w = refl
wait-bell side n b c (Again e) w = refl
wait-bell side n b c (GateAgain e) w = refl
wait-bell side n b c (Wait e) w = refl
wait-bell side n b c Asleep w = refl
wait-bell side n b c (LastLook d) w = absurd (let u : ◌≡◌ {A = ℕ} 0 1 = cc in omega arith)
wait-bell side n b c CloseSet w = absurd (let u : ◌≡◌ {A = ℕ} 0 1 = cc in omega arith)
wait-bell side n b c CloseRaise w = absurd (let u : ◌≡◌ {A = ℕ} 0 1 = cc in omega arith)
wait-bell side n b c CloseWake w = absurd (let u : ◌≡◌ {A = ℕ} 0 1 = cc in omega arith)
wait-bell side n b c (ShutSet d) w = absurd (let u : ◌≡◌ {A = ℕ} 0 1 = cc in omega arith)
wait-bell side n b c (ShutRaiseNe d) w = absurd (let u : ◌≡◌ {A = ℕ} 0 1 = cc in omega arith)
wait-bell side n b c (ShutWakeNe d) w = absurd (let u : ◌≡◌ {A = ℕ} 0 1 = cc in omega arith)
wait-bell side n b c (ShutRaiseNf d e) w = absurd (let u : ◌≡◌ {A = ℕ} 0 1 = cc in omega arith)
wait-bell side n b c (ShutWakeNf d e) w = absurd (let u : ◌≡◌ {A = ℕ} 0 1 = cc in omega arith)

below : (t : Bool) (x y u v : ℕ) → suc x ≡ u → suc y ≡ v → pick t x y ≡ less (pick t u v)
below true x y u v h g = less_one x u h
below false x y u v h g = less_one y v g

read-fresh : (b stale : ℕ) → b < 2 ^ 32 → pick (eqb b (b % 2 ^ 32)) 3 stale ≡ 3
read-fresh b stale h =
    let e : eqb b (b % 2 ^ 32) ≡ true = eq-eqb b (b % 2 ^ 32) (sym (mod-eq_of_lt h)) in
    rw e refl

-- a wait that is not failing sleeps where the bell reads the epoch, and looks again where it does not
returned : (b a e : ℕ) → Look ≡ pick (eqb b e) Asleep Look → 6 + a ≡ less (pick (eqb b e) 1 (7 + a))
returned b a e q = by (eqb b e) q
  where
    by : (t : Bool) → Look ≡ pick t Asleep Look → 6 + a ≡ less (pick t 1 (7 + a))
    by true q = absurd (let u : ◌≡◌ {A = ℕ} 0 1 = cc in omega arith)
    by false q = less_one (6 + a) (7 + a) (omega arith)

-- it leads nowhere else
not-naps : (s : Step) → (s ≡ Asleep → ⊥) → (s ≡ Look → ⊥) → (t : Bool) → s ≡ pick t Asleep Look → ⊥
not-naps s a l true q = a q
not-naps s a l false q = l q

-- a spin, or the look at the bell
spun : (b a n : ℕ) (t : Step) → Onward n t → to_sleep b a t ≡ less (5 + n)
spun b a n t straight = refl
spun b a n t (around m) = less_one (5 + m) (5 + suc m) (omega arith)

pub drowse : (g : Sight) → g.room ≡ 0 → g.bell < 2 ^ 32 → g.door ≡ Open → g.blocking ≡ true → (s next : Step) → Leads g s next → in_wait s ≡ true → ((e : ℕ) → s ≡ Wait e → next ≡ pick (eqb g.bell e) Asleep Look)
    → (in_wait next ≡ true) × (to_sleep g.bell g.spins next ≡ less (to_sleep g.bell g.spins s))
drowse g none l o m s next idles w f = absurd (let u : ◌≡◌ {A = ℕ} 0 1 = cc in omega arith)
drowse g none l o m s next (finds h) w f = absurd (omega arith)
drowse g none l o m s next (blocks h q) w f = (refl, less_one (5 + g.spins) (6 + g.spins) (omega arith))
drowse g none l o m s next (gives_up h q) w f = absurd (let u : ◌≡◌ {A = ℕ} 0 1 = cc in omega arith)
drowse g none l o m s next copies w f = absurd (let u : ◌≡◌ {A = ℕ} 0 1 = cc in omega arith)
drowse g none l o m s next spills w f = absurd (let u : ◌≡◌ {A = ℕ} 0 1 = cc in omega arith)
drowse g none l o m s next (tells h) w f = absurd (let u : ◌≡◌ {A = ℕ} 0 1 = cc in omega arith)
drowse g none l o m s next (stores h) w f = absurd (let u : ◌≡◌ {A = ℕ} 0 1 = cc in omega arith)
drowse g none l o m s next (owes h) w f = absurd (let u : ◌≡◌ {A = ℕ} 0 1 = cc in omega arith)
drowse g none l o m s next (passes h) w f = absurd (let u : ◌≡◌ {A = ℕ} 0 1 = cc in omega arith)
drowse g none l o m s next raises w f = absurd (let u : ◌≡◌ {A = ℕ} 0 1 = cc in omega arith)
drowse g none l o m s next wakes w f = absurd (let u : ◌≡◌ {A = ℕ} 0 1 = cc in omega arith)
drowse g none l o m s next (enters h u) w f = (ap in_wait_at (asks _ _ u), spun g.bell g.spins _ next u)
drowse g none l o m s next (finds-spin h) w f = absurd (omega arith)
drowse g none l o m s next (spins h u) w f = (ap in_wait_at (asks _ _ u), spun g.bell g.spins _ next u)
drowse g none l o m s next (stops h u) w f = absurd (let u : ◌≡◌ {A = ℕ} 0 1 = cc in omega arith)
drowse g none l o m s next reads w f = (refl, read-fresh g.bell (9 + g.spins) l)
drowse g none l o m s next (finds-again h) w f = absurd (omega arith)
drowse g none l o m s next (stays {e = e} h) w f = (refl, below (eqb g.bell e) 2 (8 + g.spins) 3 (9 + g.spins) (omega arith) (omega arith))
drowse g none l o m s next (enters-again {e = e} h) w f = (refl, below (eqb g.bell e) 1 (7 + g.spins) 2 (8 + g.spins) (omega arith) (omega arith))
drowse g none l o m s next (stops-again h u) w f = absurd (let u : ◌≡◌ {A = ℕ} 0 1 = cc in omega arith)
drowse g none l o m s next (falls-asleep {e = e} h) w f = (refl, rw (eq-eqb g.bell e h) refl)
drowse g none l o m s next (returns {e = e}) w f = (refl, returned g.bell g.spins e (f e refl))
drowse g none l o m s next (ends {e = e}) w f = absurd (not-naps next (λ q. let u : ◌≡◌ {A = ℕ} 0 1 = cc in omega arith) (λ q. let u : ◌≡◌ {A = ℕ} 0 1 = cc in omega arith) (eqb g.bell e) (f e refl))
drowse g none l o m s next dreams w f = (refl, refl)
drowse g none l o m s next (glances h u) w f = absurd (let u : ◌≡◌ {A = ℕ} 0 1 = cc in omega arith)
drowse g none l o m s next (glances-again h u) w f = absurd (let u : ◌≡◌ {A = ℕ} 0 1 = cc in omega arith)
drowse g none l o m s next (times-out {e = e}) w f = absurd (not-naps next (λ q. let u : ◌≡◌ {A = ℕ} 0 1 = cc in omega arith) (λ q. let u : ◌≡◌ {A = ℕ} 0 1 = cc in omega arith) (eqb g.bell e) (f e refl))
drowse g none l o m s next (finds-last h) w f = absurd (omega arith)
drowse g none l o m s next (finds-none h) w f = absurd (let u : ◌≡◌ {A = ℕ} 0 1 = cc in omega arith)
drowse g none l o m s next (closes h) w f = absurd (let u : ◌≡◌ {A = ℕ} 0 1 = cc in omega arith)
drowse g none l o m s next (closes-alone h) w f = absurd (let u : ◌≡◌ {A = ℕ} 0 1 = cc in omega arith)
drowse g none l o m s next close-raises w f = absurd (let u : ◌≡◌ {A = ℕ} 0 1 = cc in omega arith)
drowse g none l o m s next close-wakes w f = absurd (let u : ◌≡◌ {A = ℕ} 0 1 = cc in omega arith)
drowse g none l o m s next shuts w f = absurd (let u : ◌≡◌ {A = ℕ} 0 1 = cc in omega arith)
drowse g none l o m s next shut-raises w f = absurd (let u : ◌≡◌ {A = ℕ} 0 1 = cc in omega arith)
drowse g none l o m s next shut-wakes w f = absurd (let u : ◌≡◌ {A = ℕ} 0 1 = cc in omega arith)
drowse g none l o m s next shut-raises-again w f = absurd (let u : ◌≡◌ {A = ℕ} 0 1 = cc in omega arith)
drowse g none l o m s next shut-wakes-again w f = absurd (let u : ◌≡◌ {A = ℕ} 0 1 = cc in omega arith)

-- where a wait that does not fail leads
pub nap-step : (own : Own) (value e : ℕ) → step_after (wait_move own value 0 e) (Wait e) ≡ pick (eqb value e) Asleep Look
unfolding wait_move nap_of
nap-step own value e = by (eqb value e)
  where
    by : (t : Bool) → step_after (nap_move (pick t SleepsNow Returns) (wait_op (sleep_bell own.side)) 0) (Wait e) ≡ pick t Asleep Look
    by true = refl
    by false = refl
