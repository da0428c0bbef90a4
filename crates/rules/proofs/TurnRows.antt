-- Where a turn runs on, it stands where a row of 255 says.
use mathlib.Core.Path.{◌≡◌, refl, subst}
use mathlib.Core.Bool.{Bool, true, false}
use Prim.Native.Nat.{ℕ, zero, suc, ◌-◌}
use native.Mathlib.Omega.{arith}
use borrow.Author.Tests.{ne_eqb}
use lib.Dec.{eqb}
use Rattle.types.specs.Pick.{pick}
use Rattle.types.specs.declared.Side.{Side}
use Rattle.types.specs.declared.Side.TheVariants.{Sender, Recorder}
use Rattle.types.specs.declared.Party.{Party}
use Rattle.types.specs.declared.Room.{Room}
use Rattle.types.specs.declared.Room.TheVariants.{Corrupt, Blocked, Free}
use Rattle.types.specs.declared.Door.{Door}
use Rattle.types.specs.declared.Door.TheVariants.{Shut, Left, Open}
use Rattle.types.specs.declared.Fit.{Fit}
use Rattle.types.specs.declared.Fit.TheVariants.{Bad, Small, Fits}
use Rattle.types.specs.declared.Nap.{Nap}
use Rattle.types.specs.declared.Nap.TheVariants.{Sleeps, Returns, TimedOut, Fails}
use Rattle.types.specs.declared.Step.{Step}
use Rattle.types.specs.declared.Step.TheVariants.{Rest, Look, Copy, Publish, Check, Raise, Wake, Gate, Spin, Epoch, Again, GateAgain, Wait, Asleep, LastLook, CloseSet, CloseRaise, CloseWake, ShutSet, ShutRaiseNe, ShutWakeNe, ShutRaiseNf, ShutWakeNf}
use Rattle.types.specs.declared.Move.{Move}
use Rattle.types.specs.declared.Move.TheVariants.{Still, To, End}
use Rattle.types.specs.declared.Answer.TheVariants.{Done}
use Rattle.layout.specs.Limits.{capacity, payload_capacity}
use Rattle.layout.specs.Slots.{head_of}
use Rattle.rules.specs.Sides.{rings, wait_op, sleep_bell}
use Rattle.rules.specs.Looks.{room_here, was_blocked, door_of, fit_of, nap_of}
use Rattle.rules.specs.Steps.{room_move, blocked_move, look_move, fit_move, copy_with, copy_move, publish_move, check_move, wake_move, door_move, gate_move, to_spin, spin_move, again_move, nap_move, wait_move, last_move, close_move, shut_move}
use Rattle.rules.specs.Take.{move_at, move_of}
use Rattle.rules.specs.Rows.{Looking, looks, looks_on, looks-again, looks-last, RunsOn, free, too_many, no_room, spun, spun-last, none-again, written, read, stored, was-blocked, raised, open-door, to-spins, sender-left, bell-read, open-again, sender-left-again, falls-asleep, returned, time-over, close-set, close-raised, shut-set, shut-raised-ne, shut-woke-ne, shut-raised-nf, RunsExactly}

more-spins : (n : ℕ) → to_spin (suc n) ≡ Spin n
unfolding to_spin
more-spins n =
    let e : suc n - 1 ≡ n = omega arith in
    rw (ne_eqb (suc n) 0 (λ q. omega arith), e)

-- where a call runs on, it stands at the step of its row
module _ (p : Party) (v e : ℕ) where
  look-free : (s : Step) → p.step ≡ s → Looking s → room_here p.own p.counter v ≡ Free → move_of p v e ≡ To Copy
  unfolding move_of look_move spin_move again_move last_move
  look-free Look q looks h = rw (q, h)
  look-free (Spin n) q looks_on h = rw (q, h)
  look-free (Again n) q looks-again h = rw (q, h)
  look-free (LastLook b) q looks-last h = rw (q, h)
  look-free s q l h = elim l [ ]

  look-corrupt : (s : Step) → p.step ≡ s → Looking s → room_here p.own p.counter v ≡ Corrupt → move_of p v e ≡ To (ShutSet true)
  unfolding move_of look_move spin_move again_move last_move
  look-corrupt Look q looks h = rw (q, h)
  look-corrupt (Spin n) q looks_on h = rw (q, h)
  look-corrupt (Again n) q looks-again h = rw (q, h)
  look-corrupt (LastLook b) q looks-last h = rw (q, h)
  look-corrupt s q l h = elim l [ ]

  pub runs_to : {s : Step} → RunsOn p v e s → move_of p v e ≡ To s
  unfolding move_of look_move copy_move publish_move check_move gate_move spin_move again_move wait_move close_move to_spin
  runs_to (free l h) = look-free p.step refl l h
  runs_to (too_many l h) = look-corrupt p.step refl l h
  runs_to (no_room s b h) = rw (s, b, h)
  runs_to (spun {left = k} s h) = rw (s, h, more-spins k)
  runs_to (spun-last s h) = rw (s, h)
  runs_to (none-again s h) = rw (s, h)
  runs_to (written s o) = rw (s, o)
  runs_to (read s o h) = rw (s, o, h)
  runs_to (stored s h) = rw (s, h)
  runs_to (was-blocked s h) = rw (s, h)
  runs_to (raised s) = rw s
  runs_to (open-door s n h) = rw (s, n, h)
  runs_to (to-spins {left = k} s n h) = rw (s, n, h, more-spins k)
  runs_to (sender-left s o h) = rw (s, o, h)
  runs_to (bell-read s) = rw s
  runs_to (open-again s h) = rw (s, h)
  runs_to (sender-left-again s o h) = rw (s, o, h)
  runs_to (falls-asleep s h) = rw (s, h)
  runs_to (returned s h) = rw (s, h)
  runs_to (time-over s h) = rw (s, h)
  runs_to (close-set s h) = rw (s, h)
  runs_to (close-raised s) = rw s
  runs_to (shut-set s) = rw s
  runs_to (shut-raised-ne s) = rw s
  runs_to (shut-woke-ne s) = rw s
  runs_to (shut-raised-nf s) = rw s

-- and where it runs on, it is by a row
module _ (p : Party) (v e : ℕ) where
  abbrev Runs : Move → Type 0
  Runs Still = Unit
  Runs (To s) = RunsOn p v e s
  Runs (End a) = Unit

  abbrev room-here : Room
  room-here = room_here p.own p.counter v

  -- a look, with what is done where there is no room
  look-runs : (m : Move) → Looking p.step → (room-here ≡ Blocked → Runs m) → (r : Room) → room-here ≡ r → Runs (room_move r m)
  look-runs m l n Corrupt h = too_many l h
  look-runs m l n Blocked h = n h
  look-runs m l n Free h = free l h

  blocked-runs : p.step ≡ Look → (q : Side) (b : Bool) → p.blocking ≡ b → room-here ≡ Blocked → Runs (blocked_move b q)
  blocked-runs s q true k h = no_room s k h
  blocked-runs s q false k h = tt

  copy-runs : p.step ≡ Copy → (q : Side) → p.own.side ≡ q → (f : Fit) → fit_of (head_of v) (payload_capacity p.own.slot) p.length ≡ f
      → Runs (copy_with q (fit_move f (head_of v).length (head_of v).tag))
  copy-runs s Sender o f h = written s o
  copy-runs s Recorder o Bad h = tt
  copy-runs s Recorder o Small h = tt
  copy-runs s Recorder o Fits h = read s o h

  publish-runs : (l t : ℕ) → p.step ≡ Publish l t → (b : Bool) → rings p.own.side p.own.notfull ≡ b → Runs (pick b (To (Check l t)) (End (Done l t)))
  publish-runs l t s true h = stored s h
  publish-runs l t s false h = tt

  check-runs : (l t : ℕ) → p.step ≡ Check l t → (b : Bool) → was_blocked p.own.side (capacity p.own.power) p.counter v ≡ b → Runs (pick b (To (Raise l t)) (End (Done l t)))
  check-runs l t s true h = was-blocked s h
  check-runs l t s false h = tt

  -- the flags, with what an open door leads to
  door-runs : (t : Step) → (door_of p.own.side v ≡ Open → RunsOn p v e t) → (p.own.side ≡ Recorder → door_of Recorder v ≡ Left → RunsOn p v e (LastLook false))
      → (q : Side) → p.own.side ≡ q → (d : Door) → door_of q v ≡ d → Runs (door_move d q t)
  door-runs t n l q o Shut h = tt
  door-runs t n l Sender o Left h = tt
  door-runs t n l Recorder o Left h = l o h
  door-runs t n l q o Open h = n (rw o h)

  spins-runs : p.step ≡ Gate → door_of p.own.side v ≡ Open → (n : ℕ) → p.own.spins ≡ n → RunsOn p v e (to_spin n)
  unfolding to_spin
  spins-runs s h zero n = open-door s n h
  spins-runs s h (suc k) n = rw (more-spins k) (to-spins s n h)

  spin-runs : (n : ℕ) → p.step ≡ Spin n → room-here ≡ Blocked → RunsOn p v e (to_spin n)
  unfolding to_spin
  spin-runs zero s h = spun-last s h
  spin-runs (suc k) s h = rw (more-spins k) (spun s h)

  wait-runs : (n : ℕ) → p.step ≡ Wait n → (k : Nap) → nap_of e (eqb v n) ≡ k → Runs (nap_move k (wait_op (sleep_bell p.own.side)) e)
  wait-runs n s Sleeps h = falls-asleep s h
  wait-runs n s Returns h = returned s h
  wait-runs n s TimedOut h = time-over s h
  wait-runs n s Fails h = tt

  close-runs : p.step ≡ CloseSet → (b : Bool) → rings p.own.side p.own.notfull ≡ b → Runs (pick b (To CloseRaise) (End (Done 0 0)))
  close-runs s true h = close-set s h
  close-runs s false h = tt

  step-runs : (s : Step) → p.step ≡ s → Runs (move_at s p.own p.counter p.blocking p.length v e)
  unfolding look_move copy_move publish_move check_move wake_move gate_move spin_move again_move wait_move last_move close_move shut_move
  step-runs Rest s = tt
  step-runs Look s = look-runs (blocked_move p.blocking p.own.side) (rw s looks) (blocked-runs s p.own.side p.blocking refl) room-here refl
  step-runs Copy s = copy-runs s p.own.side refl (fit_of (head_of v) (payload_capacity p.own.slot) p.length) refl
  step-runs (Publish l t) s = publish-runs l t s (rings p.own.side p.own.notfull) refl
  step-runs (Check l t) s = check-runs l t s (was_blocked p.own.side (capacity p.own.power) p.counter v) refl
  step-runs (Raise l t) s = raised s
  step-runs (Wake l t) s = tt
  step-runs Gate s = door-runs (to_spin p.own.spins) (λ h. spins-runs s h p.own.spins refl) (λ o h. sender-left s o h) p.own.side refl (door_of p.own.side v) refl
  step-runs (Spin n) s = look-runs (To (to_spin n)) (rw s looks_on) (spin-runs n s) room-here refl
  step-runs Epoch s = bell-read s
  step-runs (Again n) s = look-runs (To (GateAgain n)) (rw s looks-again) (λ h. none-again s h) room-here refl
  step-runs (GateAgain n) s = door-runs (Wait n) (λ h. open-again s h) (λ o h. sender-left-again s o h) p.own.side refl (door_of p.own.side v) refl
  step-runs (Wait n) s = wait-runs n s (nap_of e (eqb v n)) refl
  step-runs Asleep s = tt
  step-runs (LastLook c) s = look-runs (End _) (rw s looks-last) (λ h. tt) room-here refl
  step-runs CloseSet s = close-runs s (rings p.own.side p.own.notfull) refl
  step-runs CloseRaise s = close-raised s
  step-runs CloseWake s = tt
  step-runs (ShutSet c) s = shut-set s
  step-runs (ShutRaiseNe c) s = shut-raised-ne s
  step-runs (ShutWakeNe c) s = shut-woke-ne s
  step-runs (ShutRaiseNf c n) s = shut-raised-nf s
  step-runs (ShutWakeNf c n) s = tt

  pub runs-first : {s : Step} → move_of p v e ≡ To s → RunsOn p v e s
  unfolding move_of
  runs-first q = subst Runs q (step-runs p.step refl)

pub runs-exactly : RunsExactly
runs-exactly p v e s = (runs_to p v e, runs-first p v e)
