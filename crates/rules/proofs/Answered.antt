-- Each call and turn is given the answer of its row of the table, and no other.
use mathlib.Core.Path.{◌≡◌, refl, sym, ◌∙◌, subst}
use mathlib.Core.Bool.{Bool, true, false, not, ◌&&◌}
use mathlib.Core.List.{List, [], ◌∷◌}
use Prim.Native.Nat.{ℕ, ◌%◌, ◌^◌}
use lib.Dec.{eqb, leb}
use lib.ListN.{length}
use Rattle.types.specs.Pick.{pick}
use Rattle.types.specs.Answers.{number, Test, test, first_of}
use Rattle.types.specs.declared.Side.{Side}
use Rattle.types.specs.declared.Side.TheVariants.{Sender, Recorder}
use Rattle.types.specs.declared.Bell.TheVariants.{NotEmpty, NotFull}
use Rattle.types.specs.declared.Party.{Party}
use Rattle.types.specs.Faults.{Fault}
use Rattle.types.specs.declared.Room.{Room}
use Rattle.types.specs.declared.Room.TheVariants.{Corrupt, Blocked, Free}
use Rattle.types.specs.declared.Door.{Door}
use Rattle.types.specs.declared.Door.TheVariants.{Shut, Left, Open}
use Rattle.types.specs.declared.Fit.{Fit}
use Rattle.types.specs.declared.Fit.TheVariants.{Bad, Small, Fits}
use Rattle.types.specs.declared.Nap.{Nap}
use Rattle.types.specs.declared.Nap.TheVariants.{Sleeps, Returns, TimedOut, Fails}
use Rattle.types.specs.declared.Step.{Step}
use Rattle.types.specs.declared.Step.TheVariants.{Rest, Look, Copy, Publish, Check, Raise, Wake, Gate, Spin, Epoch, Again, GateAgain, Wait, Asleep, LastLook, CloseSet, CloseRaise, CloseWake, ShutSet, ShutRaiseNe, ShutWakeNe, ShutRaiseNf, ShutWakeNf}
use Rattle.types.specs.declared.Move.TheVariants.{To, End}
use Rattle.types.specs.declared.Answer.{Answer}
use Rattle.types.specs.declared.Answer.TheVariants.{Done, CorruptIndices, Closed, Timeout, Syscall}
use Rattle.layout.specs.Limits.{capacity, payload_capacity}
use Rattle.layout.specs.Create.{create_checks, create_answer}
use Rattle.layout.specs.Attach.{attach_checks, attach_answer, attach_reply}
use Rattle.layout.specs.Slots.{head_of}
use Rattle.rules.specs.Sides.{ring_bell, sleep_bell, rings, wait_op, wake_op}
use Rattle.rules.specs.Looks.{room_here, was_blocked, door_of, fit_of, nap_of}
use Rattle.rules.specs.Steps.{room_move, blocked_move, look_move, fit_move, copy_with, copy_move, publish_move, check_move, wake_move, door_move, gate_move, to_spin, spin_move, again_move, nap_move, wait_move, last_move, close_move, shut_move}
use Rattle.rules.specs.Take.{stance_of, move_at, answer_of, move_of, take_spec}
use Rattle.rules.specs.Next.{next_spec}
use Rattle.rules.specs.Access.{value_of}
use Rattle.rules.specs.Calls.{is_sleeping, sound, ready, push_spec, pop_spec, close_spec, shut_spec, spurious_spec, timeout_spec}
use Rattle.rules.specs.Turn.{error_of, taken, act_spec, turn_spec}
use Rattle.rules.specs.Given.{Checked, passed, fails, holds, EndsWith, published, checked, woke, closed-alone, closed, shut, corrupt, bad-slot, too_small, full, empty, left, left-again, none_left, down, down-again, timed-out, wake-failed, close-failed, wait-failed, shut-failed, shut-failed-last, resting, asleep, goes_on, Ask, create, attach, push, pop, close, shutdown, spurious, timeout, turn, Given, created, attached, push-bad, pop-bad, close-bad, shutdown-bad, spurious-bad, timeout-bad, turn-bad, push-closed, pop-closed, close-closed, push-off, push-long, push_begun, pop-begun, close-begun, shutdown-begun, spurious-idle, timeout-idle, spurious-taken, timeout-taken, turn-taken, answered}

-- a list of checks
pub checked-first : (cs : List Test) → Checked cs (first_of cs)
checked-first [] = passed
checked-first (test true a ∷ cs) = holds refl (checked-first cs)
checked-first (test false a ∷ cs) = fails refl

pub checked-only : {cs : List Test} {x : Answer} → Checked cs x → first_of cs ≡ x
checked-only passed = refl
checked-only (fails e) = rw e
checked-only (holds e c) = rw e (checked-only c)

-- a turn, by its step: no other answer than its row's
pub ends-only : {p : Party} {v e : ℕ} {x : Answer} → EndsWith p v e x → answer_of (move_of p v e) ≡ x
unfolding move_of look_move copy_move publish_move check_move wake_move gate_move wait_move last_move close_move shut_move
ends-only (published s r) = rw (s, r)
ends-only (checked s b) = rw (s, b)
ends-only (woke s z) = rw (s, z)
ends-only (closed-alone s r) = rw (s, r)
ends-only (closed s z) = rw (s, z)
ends-only (shut s f z) = rw (s, f, z)
ends-only (corrupt s) = rw s
ends-only (bad-slot s q f) = rw (s, q, f)
ends-only (too_small s q f) = rw (s, q, f)
ends-only (full s q b r) = rw (s, q, b, r)
ends-only (empty s q b r) = rw (s, q, b, r)
ends-only (left s q d) = rw (s, q, d)
ends-only (left-again s q d) = rw (s, q, d)
ends-only (none_left s r) = rw (s, r)
ends-only (down s d) = rw (s, d)
ends-only (down-again s d) = rw (s, d)
ends-only (timed-out s r) = rw (s, r)
ends-only (wake-failed s z) = rw (s, z)
ends-only (close-failed s z) = rw (s, z)
ends-only (wait-failed s n) = rw (s, n)
ends-only (shut-failed s f) = rw (s, f)
ends-only (shut-failed-last s f z) = rw (s, f, z)
ends-only (resting s) = rw s
ends-only (asleep s) = rw s
ends-only (goes_on m) = rw m

-- and its row's it is, at every step
module _ (p : Party) (v e : ℕ) where
  abbrev room-here : Room
  room-here = room_here p.own p.counter v

  abbrev fit-here : Fit
  fit-here = fit_of (head_of v) (payload_capacity p.own.slot) p.length

  look-ends : p.step ≡ Look → (r : Room) → room-here ≡ r → (b : Bool) → p.blocking ≡ b → (q : Side) → p.own.side ≡ q
      → EndsWith p v e (answer_of (room_move r (blocked_move b q)))
  unfolding move_of look_move
  look-ends s Corrupt r b k q o = goes_on {s = ShutSet true} (rw (s, r))
  look-ends s Free r b k q o = goes_on {s = Copy} (rw (s, r))
  look-ends s Blocked r true k q o = goes_on {s = Gate} (rw (s, r, k))
  look-ends s Blocked r false k Sender o = full s o k (rw o at r)
  look-ends s Blocked r false k Recorder o = empty s o k (rw o at r)

  copy-ends : p.step ≡ Copy → (q : Side) → p.own.side ≡ q → (f : Fit) → fit-here ≡ f
      → EndsWith p v e (answer_of (copy_with q (fit_move f (head_of v).length (head_of v).tag)))
  unfolding move_of copy_move
  copy-ends s Sender o f h = goes_on {s = Publish 0 0} (rw (s, o))
  copy-ends s Recorder o Bad h = bad-slot s o h
  copy-ends s Recorder o Small h = too_small s o h
  copy-ends s Recorder o Fits h = goes_on {s = Publish (head_of v).length (head_of v).tag} (rw (s, o, h))

  publish-ends : (l t : ℕ) → p.step ≡ Publish l t → (b : Bool) → rings p.own.side p.own.notfull ≡ b
      → EndsWith p v e (answer_of (pick b (To (Check l t)) (End (Done l t))))
  unfolding move_of publish_move
  publish-ends l t s true h = goes_on {s = Check l t} (rw (s, h))
  publish-ends l t s false h = published s h

  check-ends : (l t : ℕ) → p.step ≡ Check l t → (b : Bool) → was_blocked p.own.side (capacity p.own.power) p.counter v ≡ b
      → EndsWith p v e (answer_of (pick b (To (Raise l t)) (End (Done l t))))
  unfolding move_of check_move
  check-ends l t s true h = goes_on {s = Raise l t} (rw (s, h))
  check-ends l t s false h = checked s h

  wake-ends : (l t : ℕ) → p.step ≡ Wake l t → (b : Bool) → eqb e 0 ≡ b → EndsWith p v e (pick b (Done l t) (Syscall (wake_op (ring_bell p.own.side)) e))
  wake-ends l t s true h = woke s h
  wake-ends l t s false h = wake-failed s h

  gate-ends : p.step ≡ Gate → (side : Side) → p.own.side ≡ side → (d : Door) → door_of side v ≡ d → EndsWith p v e (answer_of (door_move d side (to_spin p.own.spins)))
  unfolding move_of gate_move
  gate-ends s side o Shut h = down s (rw o h)
  gate-ends s Sender o Left h = left s o h
  gate-ends s Recorder o Left h = goes_on {s = LastLook false} (rw (s, o, h))
  gate-ends s side o Open h = goes_on {s = to_spin p.own.spins} (rw (s, o, h))

  gate-again-ends : (n : ℕ) → p.step ≡ GateAgain n → (side : Side) → p.own.side ≡ side → (d : Door) → door_of side v ≡ d → EndsWith p v e (answer_of (door_move d side (Wait n)))
  unfolding move_of gate_move
  gate-again-ends n s side o Shut h = down-again s (rw o h)
  gate-again-ends n s Sender o Left h = left-again s o h
  gate-again-ends n s Recorder o Left h = goes_on {s = LastLook false} (rw (s, o, h))
  gate-again-ends n s side o Open h = goes_on {s = Wait n} (rw (s, o, h))

  -- a look that goes on where there is no room: a spin, B3, W3
  looks_on : (t : Step) → move_of p v e ≡ room_move room-here (To t) → (r : Room) → room-here ≡ r → EndsWith p v e (answer_of (room_move r (To t)))
  looks_on t m Corrupt h = goes_on {s = ShutSet true} (m ∙ rw h)
  looks_on t m Blocked h = goes_on {s = t} (m ∙ rw h)
  looks_on t m Free h = goes_on {s = Copy} (m ∙ rw h)

  wait-ends : (n : ℕ) → p.step ≡ Wait n → (k : Nap) → nap_of e (eqb v n) ≡ k → EndsWith p v e (answer_of (nap_move k (wait_op (sleep_bell p.own.side)) e))
  unfolding move_of wait_move
  wait-ends n s Sleeps h = goes_on {s = Asleep} (rw (s, h))
  wait-ends n s Returns h = goes_on {s = Look} (rw (s, h))
  wait-ends n s TimedOut h = goes_on {s = LastLook true} (rw (s, h))
  wait-ends n s Fails h = wait-failed s h

  last-ends : (timed : Bool) → p.step ≡ LastLook timed → (r : Room) → room-here ≡ r → EndsWith p v e (answer_of (room_move r (End (pick timed Timeout Closed))))
  unfolding move_of last_move
  last-ends timed s Corrupt h = goes_on {s = ShutSet true} (rw (s, h))
  last-ends true s Blocked h = timed-out s h
  last-ends false s Blocked h = none_left s h
  last-ends timed s Free h = goes_on {s = Copy} (rw (s, h))

  close-set-ends : p.step ≡ CloseSet → (b : Bool) → rings p.own.side p.own.notfull ≡ b → EndsWith p v e (answer_of (pick b (To CloseRaise) (End (Done 0 0))))
  unfolding move_of close_move
  close-set-ends s true h = goes_on {s = CloseRaise} (rw (s, h))
  close-set-ends s false h = closed-alone s h

  close-wake-ends : p.step ≡ CloseWake → (b : Bool) → eqb e 0 ≡ b → EndsWith p v e (pick b (Done 0 0) (Syscall (wake_op (ring_bell p.own.side)) e))
  close-wake-ends s true h = closed s h
  close-wake-ends s false h = close-failed s h

  shut-ends : (c : Bool) (n : ℕ) → p.step ≡ ShutWakeNf c n → (a : Bool) → eqb n 0 ≡ a → (b : Bool) → eqb e 0 ≡ b
      → EndsWith p v e (pick c CorruptIndices (pick a (pick b (Done 0 0) (Syscall (wake_op NotFull) e)) (Syscall (wake_op NotEmpty) n)))
  shut-ends true n s a h b k = corrupt s
  shut-ends false n s false h b k = shut-failed s h
  shut-ends false n s true h true k = shut s h k
  shut-ends false n s true h false k = shut-failed-last s h k

  step-ends : (s : Step) → p.step ≡ s → EndsWith p v e (answer_of (move_at s p.own p.counter p.blocking p.length v e))
  unfolding move_of look_move copy_move publish_move check_move wake_move gate_move spin_move again_move wait_move last_move close_move shut_move
  step-ends Rest s = resting s
  step-ends Look s = look-ends s room-here refl p.blocking refl p.own.side refl
  step-ends Copy s = copy-ends s p.own.side refl fit-here refl
  step-ends (Publish l t) s = publish-ends l t s (rings p.own.side p.own.notfull) refl
  step-ends (Check l t) s = check-ends l t s (was_blocked p.own.side (capacity p.own.power) p.counter v) refl
  step-ends (Raise l t) s = goes_on {s = Wake l t} (rw s)
  step-ends (Wake l t) s = wake-ends l t s (eqb e 0) refl
  step-ends Gate s = gate-ends s p.own.side refl (door_of p.own.side v) refl
  step-ends (Spin n) s = looks_on (to_spin n) (rw s) room-here refl
  step-ends Epoch s = goes_on {s = Again (v % 2 ^ 32)} (rw s)
  step-ends (Again n) s = looks_on (GateAgain n) (rw s) room-here refl
  step-ends (GateAgain n) s = gate-again-ends n s p.own.side refl (door_of p.own.side v) refl
  step-ends (Wait n) s = wait-ends n s (nap_of e (eqb v n)) refl
  step-ends Asleep s = asleep s
  step-ends (LastLook c) s = last-ends c s room-here refl
  step-ends CloseSet s = close-set-ends s (rings p.own.side p.own.notfull) refl
  step-ends CloseRaise s = goes_on {s = CloseWake} (rw s)
  step-ends CloseWake s = close-wake-ends s (eqb e 0) refl
  step-ends (ShutSet c) s = goes_on {s = ShutRaiseNe c} (rw s)
  step-ends (ShutRaiseNe c) s = goes_on {s = ShutWakeNe c} (rw s)
  step-ends (ShutWakeNe c) s = goes_on {s = ShutRaiseNf c e} (rw s)
  step-ends (ShutRaiseNf c n) s = goes_on {s = ShutWakeNf c n} (rw s)
  step-ends (ShutWakeNf c n) s = shut-ends c n s (eqb n 0) refl (eqb e 0) refl

  pub ends-first : EndsWith p v e (answer_of (move_of p v e))
  unfolding move_of
  ends-first = step-ends p.step refl

-- every call and turn
pub given-only : {a : Ask} {x : Answer} → Given a x → answered a ≡ x
unfolding create_answer attach_answer attach_reply push_spec pop_spec close_spec shut_spec spurious_spec timeout_spec turn_spec act_spec take_spec
given-only (created c) = checked-only c
given-only (attached c) = checked-only c
given-only (push-bad h) = rw (h, answered)
given-only (pop-bad h) = rw (h, answered)
given-only (close-bad h) = rw (h, answered)
given-only (shutdown-bad h) = rw (h, answered)
given-only (spurious-bad h) = rw (h, answered)
given-only (timeout-bad h) = rw (h, answered)
given-only (turn-bad h) = rw (h, answered)
given-only (push-closed h c) = rw (h, c, answered)
given-only (pop-closed h c) = rw (h, c, answered)
given-only (close-closed h c) = rw (h, c, answered)
given-only (push-off h c o) = rw (h, c, o, answered)
given-only (push-long h c o l) = rw (h, c, o, l, answered)
given-only (push_begun h c o l) = rw (h, c, o, l, answered)
given-only (pop-begun h c) = rw (h, c, answered)
given-only (close-begun h c) = rw (h, c, answered)
given-only (shutdown-begun h) = rw (h, answered)
given-only (spurious-idle h s) = rw (h, s, answered)
given-only (timeout-idle h s) = rw (h, s, answered)
given-only (spurious-taken h s) = rw (h, s, answered)
given-only (timeout-taken h s) = rw (h, s, answered)
given-only (turn-taken h t) = rw (h, answered) (ends-only t)

-- a row that fits is the row of the answer
land : {a : Ask} {x : Answer} → Given a x → Given a (answered a)
land {a} g = subst (λ (x : Answer). Given a x) (sym (given-only g)) g

push-first : (p : Party) (b : Bool) (t l : ℕ) (g : Bool) → ready Sender p ≡ g → (c : Bool) → p.closed ≡ c → (o : Bool) → (b && not p.own.notfull) ≡ o → (n : Bool) → leb l (payload_capacity p.own.slot) ≡ n
    → Given (push p b t l) (answered (push p b t l))
push-first p b t l false g c k o h n j = land (push-bad g)
push-first p b t l true g true k o h n j = land (push-closed g k)
push-first p b t l true g false k true h n j = land (push-off g k h)
push-first p b t l true g false k false h false j = land (push-long g k h j)
push-first p b t l true g false k false h true j = land (push_begun g k h j)

pop-first : (p : Party) (b : Bool) (l : ℕ) (g : Bool) → ready Recorder p ≡ g → (c : Bool) → p.closed ≡ c → Given (pop p b l) (answered (pop p b l))
pop-first p b l false g c k = land (pop-bad g)
pop-first p b l true g true k = land (pop-closed g k)
pop-first p b l true g false k = land (pop-begun g k)

close-first : (side : Side) (p : Party) (g : Bool) → ready side p ≡ g → (c : Bool) → p.closed ≡ c → Given (close side p) (answered (close side p))
close-first side p false g c k = land (close-bad g)
close-first side p true g true k = land (close-closed g k)
close-first side p true g false k = land (close-begun g k)

shutdown-first : (side : Side) (p : Party) (g : Bool) → ready side p ≡ g → Given (shutdown side p) (answered (shutdown side p))
shutdown-first side p false g = land (shutdown-bad g)
shutdown-first side p true g = land (shutdown-begun g)

spurious-first : (side : Side) (p : Party) (g : Bool) → sound side p ≡ g → (s : Bool) → is_sleeping (stance_of p.step) ≡ s → Given (spurious side p) (answered (spurious side p))
spurious-first side p false g s k = land (spurious-bad g)
spurious-first side p true g false k = land (spurious-idle g k)
spurious-first side p true g true k = land (spurious-taken g k)

timeout-first : (side : Side) (p : Party) (g : Bool) → sound side p ≡ g → (s : Bool) → is_sleeping (stance_of p.step) ≡ s → Given (timeout side p) (answered (timeout side p))
timeout-first side p false g s k = land (timeout-bad g)
timeout-first side p true g false k = land (timeout-idle g k)
timeout-first side p true g true k = land (timeout-taken g k)

turn-first : (side : Side) (r : List ℕ) (p : Party) (i o : List ℕ) (f : Fault) (g : Bool) → taken side r p i o f ≡ g → Given (turn side r p i o f) (answered (turn side r p i o f))
turn-first side r p i o f false g = land (turn-bad g)
turn-first side r p i o f true g = land (turn-taken g (ends-first p (value_of r p.own (next_spec p)) (error_of f)))

pub given-first : (a : Ask) → Given a (answered a)
unfolding create_answer attach_answer attach_reply
given-first (create r power slot notfull start) = created (checked-first (create_checks (length r) power slot))
given-first (attach r side spins) = attached (checked-first (attach_checks r side spins))
given-first (push p b t l) = push-first p b t l (ready Sender p) refl p.closed refl (b && not p.own.notfull) refl (leb l (payload_capacity p.own.slot)) refl
given-first (pop p b l) = pop-first p b l (ready Recorder p) refl p.closed refl
given-first (close side p) = close-first side p (ready side p) refl p.closed refl
given-first (shutdown side p) = shutdown-first side p (ready side p) refl
given-first (spurious side p) = spurious-first side p (sound side p) refl (is_sleeping (stance_of p.step)) refl
given-first (timeout side p) = timeout-first side p (sound side p) refl (is_sleeping (stance_of p.step)) refl
given-first (turn side r p i o f) = turn-first side r p i o f (taken side r p i o f) refl

-- an answer is given exactly where its row is
pub given-exactly : (a : Ask) (x : Answer) → (Given a x → answered a ≡ x) × (answered a ≡ x → Given a x)
given-exactly a x = (given-only, λ e. rw e at (given-first a))

-- and so is its number
pub numbered-exactly : (a : Ask) (n : ℕ) → (number (answered a) ≡ n → (x : Answer) × Given a x × (number x ≡ n)) × ((x : Answer) → Given a x → number x ≡ n → number (answered a) ≡ n)
numbered-exactly a n = (λ e. (answered a, given-first a, e), λ x g e. rw (given-only g) e)
