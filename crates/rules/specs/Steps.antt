-- Where a turn leads, a definition a step. A party's own copy of sizes and options is `own`.
use Rattle.std.specs.Prelude.{Bool, true, false, ℕ, ◌-◌, eqb}
use Rattle.types.specs.Pick.{pick}
use Rattle.types.specs.declared.Side.{Side}
use Rattle.types.specs.declared.Side.TheVariants.{Sender, Recorder}
use Rattle.types.specs.declared.Bell.TheVariants.{NotEmpty, NotFull}
use Rattle.types.specs.declared.Own.{Own}
use Rattle.types.specs.declared.Room.{Room}
use Rattle.types.specs.declared.Room.TheVariants.{Corrupt, Blocked, Free}
use Rattle.types.specs.declared.Door.{Door}
use Rattle.types.specs.declared.Door.TheVariants.{Shut, Left, Open}
use Rattle.types.specs.declared.Fit.{Fit}
use Rattle.types.specs.declared.Fit.TheVariants.{Bad, Small, Fits}
use Rattle.types.specs.declared.Nap.{Nap}
use Rattle.types.specs.declared.Nap.TheVariants.{Sleeps, Returns, TimedOut, Fails}
use Rattle.types.specs.declared.Step.{Step}
use Rattle.types.specs.declared.Step.TheVariants.{Look, Copy, Publish, Check, Raise, Gate, Spin, Epoch, GateAgain, Asleep, LastLook, CloseRaise, ShutSet}
use Rattle.types.specs.declared.Answer.{Answer}
use Rattle.types.specs.declared.Answer.TheVariants.{Done, CorruptIndices, CorruptSlot, Closed, Shutdown, Timeout, OutputTooSmall, Syscall}
use Rattle.types.specs.declared.Move.{Move}
use Rattle.types.specs.declared.Move.TheVariants.{To, End}
use Rattle.layout.specs.Limits.{capacity, payload_capacity}
use Rattle.layout.specs.Slots.{head_of}
use Rattle.rules.specs.Sides.{blocked_answer, ring_bell, sleep_bell, rings, wait_op, wake_op}
use Rattle.rules.specs.Looks.{room_here, was_blocked, door_of, fit_of, nap_of}

-- a look at the other side's counter: corruption begins a shutdown, a blocked party does what `blocked` says, else it copies
abbrev pub room_move : Room → (blocked : Move) → Move
room_move Corrupt blocked = To (ShutSet true)
room_move Blocked blocked = blocked
room_move Free blocked = To Copy

-- P1, C1: full or empty ends a try form
abbrev pub blocked_move : (blocking : Bool) → Side → Move
blocked_move blocking side = pick blocking (To Gate) (End (blocked_answer side))

unfoldable pub look_move : Own → (counter : ℕ) → (blocking : Bool) → (their : ℕ) → Move
look_move own counter blocking their = room_move (room_here own counter their) (blocked_move blocking own.side)

-- P2; C2: 8, then 15
abbrev pub fit_move : Fit → (length tag : ℕ) → Move
fit_move Bad length tag = End CorruptSlot
fit_move Small length tag = End (OutputTooSmall length)
fit_move Fits length tag = To (Publish length tag)

abbrev pub copy_with : Side → (read : Move) → Move
copy_with Sender read = To (Publish 0 0)
copy_with Recorder read = read

unfoldable pub copy_move : Own → (buffer word : ℕ) → Move
copy_move own buffer word =
    copy_with own.side (fit_move (fit_of (head_of word) (payload_capacity own.slot) buffer) (head_of word).length (head_of word).tag)

-- P3, C3
unfoldable pub publish_move : Own → (length tag : ℕ) → Move
publish_move own length tag = pick (rings own.side own.notfull) (To (Check length tag)) (End (Done length tag))

-- P4, C4
unfoldable pub check_move : Own → (counter their length tag : ℕ) → Move
check_move own counter their length tag =
    pick (was_blocked own.side (capacity own.power) counter their) (To (Raise length tag)) (End (Done length tag))

-- a futex call that failed answers 17
abbrev pub unless_failed : (error operation : ℕ) → Answer → Answer
unless_failed error operation answer = pick (eqb error 0) answer (Syscall operation error)

-- P6, C6, and a close's last turn
unfoldable pub wake_move : Own → (error length tag : ℕ) → Move
wake_move own error length tag = End (unless_failed error (wake_op (ring_bell own.side)) (Done length tag))

-- the other has closed: a recorder looks once more, since the last note may have come before the close
abbrev pub left_move : Side → Move
left_move Sender = End Closed
left_move Recorder = To (LastLook false)

-- B1, W1 and B4, W4: `onward` where the door is open
abbrev pub door_move : Door → Side → (onward : Step) → Move
door_move Shut side onward = End Shutdown
door_move Left side onward = left_move side
door_move Open side onward = To onward

unfoldable pub gate_move : Own → (flags : ℕ) → (onward : Step) → Move
gate_move own flags onward = door_move (door_of own.side flags) own.side onward

-- from B1, W1 and from a spin: so many spins are left, then B2, W2. A spin carries how many follow it
unfoldable pub to_spin : (spins : ℕ) → Step
to_spin spins = pick (eqb spins 0) Epoch (Spin (spins - 1))

-- a spin looks as P1, C1 do
unfoldable pub spin_move : Own → (counter their spins : ℕ) → Move
spin_move own counter their spins = room_move (room_here own counter their) (To (to_spin spins))

-- B3, W3
unfoldable pub again_move : Own → (counter their epoch : ℕ) → Move
again_move own counter their epoch = room_move (room_here own counter their) (To (GateAgain epoch))

-- B5, W5
abbrev pub nap_move : Nap → (operation error : ℕ) → Move
nap_move Sleeps operation error = To Asleep
nap_move Returns operation error = To Look
nap_move TimedOut operation error = To (LastLook true)
nap_move Fails operation error = End (Syscall operation error)

unfoldable pub wait_move : Own → (word error epoch : ℕ) → Move
wait_move own word error epoch = nap_move (nap_of error (eqb word epoch)) (wait_op (sleep_bell own.side)) error

-- B6, W6: a time-out is answered, or the other's close, over no room alone
unfoldable pub last_move : Own → (counter their : ℕ) → (timed : Bool) → Move
last_move own counter their timed = room_move (room_here own counter their) (End (pick timed Timeout Closed))

-- a close's first turn
unfoldable pub close_move : Own → Move
close_move own = pick (rings own.side own.notfull) (To CloseRaise) (End (Done 0 0))

-- a shutdown's last turn: the first failure of its two wakes; corruption ignores both and answers 7
unfoldable pub shut_move : (corrupt : Bool) → (first error : ℕ) → Move
shut_move corrupt first error =
    End (pick corrupt CorruptIndices (unless_failed first (wake_op NotEmpty) (unless_failed error (wake_op NotFull) (Done 0 0))))
