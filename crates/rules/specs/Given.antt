-- Document 01's table of answers, read as a relation: which answer is given where. The proofs show that each call and turn
-- is given the answer of its row and no other.
use Rattle.std.specs.Prelude.{◌≡◌, Bool, true, false, not, ◌&&◌, List, [], ◌∷◌, ℕ, eqb, leb, length}
use Rattle.types.specs.Answers.{Test, test}
use Rattle.types.specs.declared.Side.{Side}
use Rattle.types.specs.declared.Side.TheVariants.{Sender, Recorder}
use Rattle.types.specs.declared.Bell.TheVariants.{NotEmpty, NotFull}
use Rattle.types.specs.declared.Party.{Party}
use Rattle.types.specs.Faults.{Fault}
use Rattle.types.specs.declared.Room.TheVariants.{Blocked}
use Rattle.types.specs.declared.Door.TheVariants.{Shut, Left}
use Rattle.types.specs.declared.Fit.TheVariants.{Bad, Small}
use Rattle.types.specs.declared.Nap.TheVariants.{Fails}
use Rattle.types.specs.declared.Step.{Step}
use Rattle.types.specs.declared.Step.TheVariants.{Rest, Look, Copy, Publish, Check, Wake, Gate, GateAgain, Wait, Asleep, LastLook, CloseSet, CloseWake, ShutWakeNf}
use Rattle.types.specs.declared.Move.TheVariants.{To}
use Rattle.types.specs.declared.Answer.{Answer}
use Rattle.types.specs.declared.Answer.TheVariants.{Done, CorruptIndices, CorruptSlot, Full, Empty, Closed, Shutdown, Timeout, OutputTooSmall, Syscall, PayloadTooLong, NotFullOff, BadCall, Nothing, Begun, GoesOn}
use Rattle.layout.specs.Limits.{capacity, payload_capacity}
use Rattle.layout.specs.Create.{create_checks, create_answer}
use Rattle.layout.specs.Attach.{attach_checks, attach_reply}
use Rattle.layout.specs.Slots.{head_of}
use Rattle.rules.specs.Sides.{ring_bell, sleep_bell, rings, wait_op, wake_op}
use Rattle.rules.specs.Looks.{room_of, room_here, was_blocked, door_of, fit_of, nap_of}
use Rattle.rules.specs.Take.{stance_of, move_of}
use Rattle.rules.specs.Next.{next_spec}
use Rattle.rules.specs.Access.{value_of}
use Rattle.rules.specs.Calls.{is_sleeping, sound, ready, push_spec, pop_spec, close_spec, shut_spec, spurious_spec, timeout_spec}
use Rattle.rules.specs.Turn.{error_of, taken, turn_spec}

-- the answer of a list of checks: the first that fails refuses, and where none fails it is done
pub data Checked : List Test → Answer → Type 0 where
  passed : Checked [] (Done 0 0)
  fails : {b : Bool} {a : Answer} {cs : List Test} → b ≡ false → Checked (test b a ∷ cs) a
  holds : {b : Bool} {a x : Answer} {cs : List Test} → b ≡ true → Checked cs x → Checked (test b a ∷ cs) x

-- the turn of a party that is refused by nothing; v is what its access gives back, e the announced error (0: none)
pub data EndsWith (p : Party) (v e : ℕ) : Answer → Type 0 where
  -- 0
  published : {l t : ℕ} → p.step ≡ Publish l t → rings p.own.side p.own.notfull ≡ false → EndsWith p v e (Done l t)
  checked : {l t : ℕ} → p.step ≡ Check l t → was_blocked p.own.side (capacity p.own.power) p.counter v ≡ false → EndsWith p v e (Done l t)
  woke : {l t : ℕ} → p.step ≡ Wake l t → eqb e 0 ≡ true → EndsWith p v e (Done l t)
  closed-alone : p.step ≡ CloseSet → rings p.own.side p.own.notfull ≡ false → EndsWith p v e (Done 0 0)
  closed : p.step ≡ CloseWake → eqb e 0 ≡ true → EndsWith p v e (Done 0 0)
  shut : {first : ℕ} → p.step ≡ ShutWakeNf false first → eqb first 0 ≡ true → eqb e 0 ≡ true → EndsWith p v e (Done 0 0)
  -- 7
  corrupt : {first : ℕ} → p.step ≡ ShutWakeNf true first → EndsWith p v e CorruptIndices
  -- 8, 15
  bad-slot : p.step ≡ Copy → p.own.side ≡ Recorder → fit_of (head_of v) (payload_capacity p.own.slot) p.length ≡ Bad → EndsWith p v e CorruptSlot
  too_small : p.step ≡ Copy → p.own.side ≡ Recorder → fit_of (head_of v) (payload_capacity p.own.slot) p.length ≡ Small → EndsWith p v e (OutputTooSmall (head_of v).length)
  -- 9, 10
  full : p.step ≡ Look → p.own.side ≡ Sender → p.blocking ≡ false → room_of Sender (capacity p.own.power) p.counter v ≡ Blocked → EndsWith p v e Full
  empty : p.step ≡ Look → p.own.side ≡ Recorder → p.blocking ≡ false → room_of Recorder (capacity p.own.power) p.counter v ≡ Blocked → EndsWith p v e Empty
  -- 11, 12
  left : p.step ≡ Gate → p.own.side ≡ Sender → door_of Sender v ≡ Left → EndsWith p v e Closed
  left-again : {epoch : ℕ} → p.step ≡ GateAgain epoch → p.own.side ≡ Sender → door_of Sender v ≡ Left → EndsWith p v e Closed
  none_left : p.step ≡ LastLook false → room_here p.own p.counter v ≡ Blocked → EndsWith p v e Closed
  down : p.step ≡ Gate → door_of p.own.side v ≡ Shut → EndsWith p v e Shutdown
  down-again : {epoch : ℕ} → p.step ≡ GateAgain epoch → door_of p.own.side v ≡ Shut → EndsWith p v e Shutdown
  -- 13
  timed-out : p.step ≡ LastLook true → room_here p.own p.counter v ≡ Blocked → EndsWith p v e Timeout
  -- 17: its operation and its error
  wake-failed : {l t : ℕ} → p.step ≡ Wake l t → eqb e 0 ≡ false → EndsWith p v e (Syscall (wake_op (ring_bell p.own.side)) e)
  close-failed : p.step ≡ CloseWake → eqb e 0 ≡ false → EndsWith p v e (Syscall (wake_op (ring_bell p.own.side)) e)
  wait-failed : {epoch : ℕ} → p.step ≡ Wait epoch → nap_of e (eqb v epoch) ≡ Fails → EndsWith p v e (Syscall (wait_op (sleep_bell p.own.side)) e)
  shut-failed : {first : ℕ} → p.step ≡ ShutWakeNf false first → eqb first 0 ≡ false → EndsWith p v e (Syscall (wake_op NotEmpty) first)
  shut-failed-last : {first : ℕ} → p.step ≡ ShutWakeNf false first → eqb first 0 ≡ true → eqb e 0 ≡ false → EndsWith p v e (Syscall (wake_op NotFull) e)
  -- 253
  resting : p.step ≡ Rest → EndsWith p v e Nothing
  asleep : p.step ≡ Asleep → EndsWith p v e Nothing
  -- 255: the call runs on
  goes_on : {s : Step} → move_of p v e ≡ To s → EndsWith p v e GoesOn

-- whatever gives an answer, with all that it is given
pub data Ask : Type 0 where
  create : (region : List ℕ) (power slot : ℕ) (notfull : Bool) (start : ℕ) → Ask
  attach : (region : List ℕ) → Side → (spins : ℕ) → Ask
  push : Party → (blocking : Bool) (tag length : ℕ) → Ask
  pop : Party → (blocking : Bool) (length : ℕ) → Ask
  close shutdown spurious timeout : Side → Party → Ask
  turn : Side → (region : List ℕ) → Party → (payload buffer : List ℕ) → Fault → Ask

pub data Given : Ask → Answer → Type 0 where
  -- 0, 4, 5, 6; and 0 to 6, 14, 16, 20
  created : {r : List ℕ} {power slot : ℕ} {notfull : Bool} {start : ℕ} {x : Answer} → Checked (create_checks (length r) power slot) x → Given (create r power slot notfull start) x
  attached : {r : List ℕ} {side : Side} {spins : ℕ} {x : Answer} → Checked (attach_checks r side spins) x → Given (attach r side spins) x
  -- 20, first of all
  push-bad : {p : Party} {b : Bool} {t l : ℕ} → ready Sender p ≡ false → Given (push p b t l) BadCall
  pop-bad : {p : Party} {b : Bool} {l : ℕ} → ready Recorder p ≡ false → Given (pop p b l) BadCall
  close-bad : {side : Side} {p : Party} → ready side p ≡ false → Given (close side p) BadCall
  shutdown-bad : {side : Side} {p : Party} → ready side p ≡ false → Given (shutdown side p) BadCall
  spurious-bad : {side : Side} {p : Party} → sound side p ≡ false → Given (spurious side p) BadCall
  timeout-bad : {side : Side} {p : Party} → sound side p ≡ false → Given (timeout side p) BadCall
  turn-bad : {side : Side} {r : List ℕ} {p : Party} {i o : List ℕ} {f : Fault} → taken side r p i o f ≡ false → Given (turn side r p i o f) BadCall
  -- 11 after one's own close, then 19, then 18
  push-closed : {p : Party} {b : Bool} {t l : ℕ} → ready Sender p ≡ true → p.closed ≡ true → Given (push p b t l) Closed
  pop-closed : {p : Party} {b : Bool} {l : ℕ} → ready Recorder p ≡ true → p.closed ≡ true → Given (pop p b l) Closed
  close-closed : {side : Side} {p : Party} → ready side p ≡ true → p.closed ≡ true → Given (close side p) Closed
  push-off : {p : Party} {b : Bool} {t l : ℕ} → ready Sender p ≡ true → p.closed ≡ false → (b && not p.own.notfull) ≡ true → Given (push p b t l) NotFullOff
  push-long : {p : Party} {b : Bool} {t l : ℕ} → ready Sender p ≡ true → p.closed ≡ false → (b && not p.own.notfull) ≡ false → leb l (payload_capacity p.own.slot) ≡ false → Given (push p b t l) PayloadTooLong
  -- 254
  push_begun : {p : Party} {b : Bool} {t l : ℕ} → ready Sender p ≡ true → p.closed ≡ false → (b && not p.own.notfull) ≡ false → leb l (payload_capacity p.own.slot) ≡ true → Given (push p b t l) Begun
  pop-begun : {p : Party} {b : Bool} {l : ℕ} → ready Recorder p ≡ true → p.closed ≡ false → Given (pop p b l) Begun
  close-begun : {side : Side} {p : Party} → ready side p ≡ true → p.closed ≡ false → Given (close side p) Begun
  shutdown-begun : {side : Side} {p : Party} → ready side p ≡ true → Given (shutdown side p) Begun
  -- 253, or the sleeper's 255
  spurious-idle : {side : Side} {p : Party} → sound side p ≡ true → is_sleeping (stance_of p.step) ≡ false → Given (spurious side p) Nothing
  timeout-idle : {side : Side} {p : Party} → sound side p ≡ true → is_sleeping (stance_of p.step) ≡ false → Given (timeout side p) Nothing
  spurious-taken : {side : Side} {p : Party} → sound side p ≡ true → is_sleeping (stance_of p.step) ≡ true → Given (spurious side p) GoesOn
  timeout-taken : {side : Side} {p : Party} → sound side p ≡ true → is_sleeping (stance_of p.step) ≡ true → Given (timeout side p) GoesOn
  -- the rest, by the step
  turn-taken : {side : Side} {r : List ℕ} {p : Party} {i o : List ℕ} {f : Fault} {x : Answer}
      → taken side r p i o f ≡ true → EndsWith p (value_of r p.own (next_spec p)) (error_of f) x → Given (turn side r p i o f) x

-- what is answered
abbrev pub answered : Ask → Answer
answered (create r power slot notfull start) = create_answer (length r) power slot
answered (attach r side spins) = (attach_reply r side spins).answer
answered (push p blocking tag length) = (push_spec p blocking tag length).answer
answered (pop p blocking length) = (pop_spec p blocking length).answer
answered (close side p) = (close_spec side p).answer
answered (shutdown side p) = (shut_spec side p).answer
answered (spurious side p) = (spurious_spec side p).answer
answered (timeout side p) = (timeout_spec side p).answer
answered (turn side r p payload buffer fault) = (turn_spec side r p payload buffer fault).answer
