-- The rows of 255: where a call runs on, and the step that it then stands at.
use Rattle.std.specs.Prelude.{◌≡◌, Bool, true, false, List, ℕ, suc, ◌%◌, ◌^◌, eqb}
use Rattle.types.specs.declared.Side.{Side}
use Rattle.types.specs.declared.Side.TheVariants.{Sender, Recorder}
use Rattle.types.specs.declared.Party.{Party}
use Rattle.types.specs.Faults.{Fault}
use Rattle.types.specs.declared.Room.TheVariants.{Corrupt, Blocked, Free}
use Rattle.types.specs.declared.Door.TheVariants.{Left, Open}
use Rattle.types.specs.declared.Fit.TheVariants.{Fits}
use Rattle.types.specs.declared.Nap.TheVariants.{Sleeps, Returns, TimedOut}
use Rattle.types.specs.declared.Step.{Step}
use Rattle.types.specs.declared.Step.TheVariants.{Look, Copy, Publish, Check, Raise, Wake, Gate, Spin, Epoch, Again, GateAgain, Wait, Asleep, LastLook, CloseSet, CloseRaise, CloseWake, ShutSet, ShutRaiseNe, ShutWakeNe, ShutRaiseNf, ShutWakeNf}
use Rattle.types.specs.declared.Move.TheVariants.{To}
use Rattle.layout.specs.Limits.{capacity, payload_capacity}
use Rattle.layout.specs.Slots.{head_of}
use Rattle.rules.specs.Sides.{rings}
use Rattle.rules.specs.Looks.{room_here, was_blocked, door_of, fit_of, nap_of}
use Rattle.rules.specs.Take.{move_of}
use Rattle.rules.specs.Next.{next_spec}
use Rattle.rules.specs.Access.{value_of}
use Rattle.rules.specs.Turn.{error_of, taken, turn_spec}

-- a look at the other side's counter: P1, C1, a spin, B3, W3, B6, W6; the phase `looking` is the first two alone
pub data Looking : Step → Type 0 where
  looks : Looking Look
  looks_on : {left : ℕ} → Looking (Spin left)
  looks-again : {epoch : ℕ} → Looking (Again epoch)
  looks-last : {timed : Bool} → Looking (LastLook timed)

-- where a call runs on, and the step that it then stands at; v is what its access gives back, e the announced error (0: none)
pub data RunsOn (p : Party) (v e : ℕ) : Step → Type 0 where
  free : Looking p.step → room_here p.own p.counter v ≡ Free → RunsOn p v e Copy
  -- 7 begins here alone: more used than there are slots
  too_many : Looking p.step → room_here p.own p.counter v ≡ Corrupt → RunsOn p v e (ShutSet true)
  no_room : p.step ≡ Look → p.blocking ≡ true → room_here p.own p.counter v ≡ Blocked → RunsOn p v e Gate
  spun : {left : ℕ} → p.step ≡ Spin (suc left) → room_here p.own p.counter v ≡ Blocked → RunsOn p v e (Spin left)
  spun-last : p.step ≡ Spin 0 → room_here p.own p.counter v ≡ Blocked → RunsOn p v e Epoch
  none-again : {epoch : ℕ} → p.step ≡ Again epoch → room_here p.own p.counter v ≡ Blocked → RunsOn p v e (GateAgain epoch)
  written : p.step ≡ Copy → p.own.side ≡ Sender → RunsOn p v e (Publish 0 0)
  read : p.step ≡ Copy → p.own.side ≡ Recorder → fit_of (head_of v) (payload_capacity p.own.slot) p.length ≡ Fits → RunsOn p v e (Publish (head_of v).length (head_of v).tag)
  stored : {l t : ℕ} → p.step ≡ Publish l t → rings p.own.side p.own.notfull ≡ true → RunsOn p v e (Check l t)
  was-blocked : {l t : ℕ} → p.step ≡ Check l t → was_blocked p.own.side (capacity p.own.power) p.counter v ≡ true → RunsOn p v e (Raise l t)
  raised : {l t : ℕ} → p.step ≡ Raise l t → RunsOn p v e (Wake l t)
  open-door : p.step ≡ Gate → p.own.spins ≡ 0 → door_of p.own.side v ≡ Open → RunsOn p v e Epoch
  to-spins : {left : ℕ} → p.step ≡ Gate → p.own.spins ≡ suc left → door_of p.own.side v ≡ Open → RunsOn p v e (Spin left)
  sender-left : p.step ≡ Gate → p.own.side ≡ Recorder → door_of Recorder v ≡ Left → RunsOn p v e (LastLook false)
  bell-read : p.step ≡ Epoch → RunsOn p v e (Again (v % 2 ^ 32))
  open-again : {epoch : ℕ} → p.step ≡ GateAgain epoch → door_of p.own.side v ≡ Open → RunsOn p v e (Wait epoch)
  sender-left-again : {epoch : ℕ} → p.step ≡ GateAgain epoch → p.own.side ≡ Recorder → door_of Recorder v ≡ Left → RunsOn p v e (LastLook false)
  falls-asleep : {epoch : ℕ} → p.step ≡ Wait epoch → nap_of e (eqb v epoch) ≡ Sleeps → RunsOn p v e Asleep
  returned : {epoch : ℕ} → p.step ≡ Wait epoch → nap_of e (eqb v epoch) ≡ Returns → RunsOn p v e Look
  time-over : {epoch : ℕ} → p.step ≡ Wait epoch → nap_of e (eqb v epoch) ≡ TimedOut → RunsOn p v e (LastLook true)
  close-set : p.step ≡ CloseSet → rings p.own.side p.own.notfull ≡ true → RunsOn p v e CloseRaise
  close-raised : p.step ≡ CloseRaise → RunsOn p v e CloseWake
  shut-set : {c : Bool} → p.step ≡ ShutSet c → RunsOn p v e (ShutRaiseNe c)
  shut-raised-ne : {c : Bool} → p.step ≡ ShutRaiseNe c → RunsOn p v e (ShutWakeNe c)
  shut-woke-ne : {c : Bool} → p.step ≡ ShutWakeNe c → RunsOn p v e (ShutRaiseNf c e)
  shut-raised-nf : {c : Bool} {first : ℕ} → p.step ≡ ShutRaiseNf c first → RunsOn p v e (ShutWakeNf c first)

-- stronger than `goes_on` of `Given`: a turn that is refused by nothing runs on by one of these rows, and by each of them it does
abbrev pub RunsExactly : Type 0
RunsExactly = (p : Party) (v e : ℕ) (s : Step) → (RunsOn p v e s → move_of p v e ≡ To s) × (move_of p v e ≡ To s → RunsOn p v e s)

-- and where a turn runs on, its party stands at the step of its row
abbrev pub StandsThere : Type 0
StandsThere = (side : Side) (r : List ℕ) (p : Party) (payload buffer : List ℕ) (fault : Fault) (s : Step) → taken side r p payload buffer fault ≡ true
    → RunsOn p (value_of r p.own (next_spec p)) (error_of fault) s → (turn_spec side r p payload buffer fault).party.step ≡ s
