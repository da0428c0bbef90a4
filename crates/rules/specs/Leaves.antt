-- What each answer leaves behind: document 01's paragraph under its table of answers.
use Rattle.std.specs.Prelude.{◌≡◌, List, ℕ, None, Some}
use Rattle.types.specs.declared.Bench.{Bench}
use Rattle.types.specs.declared.Party.{Party}
use Rattle.types.specs.declared.Side.{Side}
use Rattle.types.specs.declared.Side.TheVariants.{Sender, Recorder}
use Rattle.types.specs.declared.Event.{Event}
use Rattle.types.specs.declared.Event.TheVariants.{Turn, Failing, Spurious, TimeOut, Push, Pop, Close, Shutdown as Shut}
use Rattle.types.specs.declared.Step.TheVariants.{Rest, Look, Asleep}
use Rattle.types.specs.Faults.{Woke}
use Rattle.types.specs.declared.Answer.{Answer}
use Rattle.types.specs.declared.Answer.TheVariants.{Done, InvalidMagic, UnsupportedVersion, InvalidHeaderSize, InvalidLayout, InvalidCapacity, InvalidSlotSize, CorruptIndices, CorruptSlot, Full, Empty, Closed, Shutdown, Timeout, WouldBlock, OutputTooSmall, AlreadyAttached, Syscall, PayloadTooLong, NotFullOff, BadCall, Nothing, Begun, GoesOn}
use Rattle.layout.specs.Create.{create_leaves}
use Rattle.layout.specs.Attach.{unattached, attach_reply, attach_leaves}
use Rattle.rules.specs.Sides.{other, sleep_bell}
use Rattle.rules.specs.Calls.{at, push_spec, pop_spec, close_spec, shut_spec, spurious_spec, timeout_spec}
use Rattle.rules.specs.Turn.{turn_spec, turn_leaves, turn_buffer}
use Rattle.rules.specs.Bench.{party_of, played, played_leaves, played_buffer}
use Rattle.rules.specs.Given.{Ask, create, attach, push, pop, close, shutdown, spurious, timeout, turn, answered}

-- no byte of the region or of a buffer changes; most calls are lent none
abbrev pub BytesKept : Ask → Type 0
BytesKept (create r power slot notfull start) = create_leaves r power slot notfull start ≡ r
BytesKept (attach r side spins) = attach_leaves r side spins ≡ r
BytesKept (push p blocking tag length) = Unit
BytesKept (pop p blocking length) = Unit
BytesKept (close side p) = Unit
BytesKept (shutdown side p) = Unit
BytesKept (spurious side p) = Unit
BytesKept (timeout side p) = Unit
BytesKept (turn side r p i o f) = (turn_leaves side r p i o f ≡ r) × (turn_buffer side r p i o f ≡ o)

-- the record is the one handed in, and a turn woke nobody; a refused attach gives back that of a party not attached
abbrev pub RecordKept : Ask → Type 0
RecordKept (create r power slot notfull start) = Unit
RecordKept (attach r side spins) = (attach_reply r side spins).party ≡ unattached side
RecordKept (push p blocking tag length) = (push_spec p blocking tag length).party ≡ p
RecordKept (pop p blocking length) = (pop_spec p blocking length).party ≡ p
RecordKept (close side p) = (close_spec side p).party ≡ p
RecordKept (shutdown side p) = (shut_spec side p).party ≡ p
RecordKept (spurious side p) = (spurious_spec side p).party ≡ p
RecordKept (timeout side p) = (timeout_spec side p).party ≡ p
RecordKept (turn side r p i o f) = ((turn_spec side r p i o f).party ≡ p) × ((turn_spec side r p i o f).woke ≡ None)

-- nothing changes anywhere
abbrev pub Unchanged : Ask → Type 0
Unchanged a = BytesKept a × RecordKept a

abbrev pub AtRest : Ask → Type 0
AtRest (create r power slot notfull start) = Unit
AtRest (attach r side spins) = (attach_reply r side spins).party.step ≡ Rest
AtRest (push p blocking tag length) = (push_spec p blocking tag length).party.step ≡ Rest
AtRest (pop p blocking length) = (pop_spec p blocking length).party.step ≡ Rest
AtRest (close side p) = (close_spec side p).party.step ≡ Rest
AtRest (shutdown side p) = (shut_spec side p).party.step ≡ Rest
AtRest (spurious side p) = (spurious_spec side p).party.step ≡ Rest
AtRest (timeout side p) = (timeout_spec side p).party.step ≡ Rest
AtRest (turn side r p i o f) = (turn_spec side r p i o f).party.step ≡ Rest

abbrev pub Leaves : Answer → Ask → Type 0
Leaves (Done l t) a = AtRest a
Leaves InvalidMagic a = Unchanged a
Leaves UnsupportedVersion a = Unchanged a
Leaves InvalidHeaderSize a = Unchanged a
Leaves InvalidLayout a = Unchanged a
Leaves InvalidCapacity a = Unchanged a
Leaves InvalidSlotSize a = Unchanged a
Leaves CorruptIndices a = AtRest a
Leaves CorruptSlot a = BytesKept a × AtRest a
Leaves Full a = BytesKept a × AtRest a
Leaves Empty a = BytesKept a × AtRest a
Leaves Closed a = BytesKept a × AtRest a
Leaves Shutdown a = BytesKept a × AtRest a
Leaves Timeout a = BytesKept a × AtRest a
Leaves WouldBlock a = Unchanged a
Leaves (OutputTooSmall n) a = BytesKept a × AtRest a
Leaves AlreadyAttached a = Unchanged a
Leaves (Syscall op e) a = AtRest a
Leaves PayloadTooLong a = Unchanged a
Leaves NotFullOff a = Unchanged a
Leaves BadCall a = Unchanged a
Leaves Nothing a = Unchanged a
Leaves Begun a = BytesKept a
Leaves GoesOn a = Unit

-- the law of refusals
abbrev pub LeavesAll : Type 0
LeavesAll = (a : Ask) → Leaves (answered a) a

-- stronger than `Leaves` at 7 and 17: no byte changes there either
abbrev pub LeavesKept : Answer → Ask → Type 0
LeavesKept CorruptIndices a = BytesKept a × AtRest a
LeavesKept (Syscall op e) a = BytesKept a × AtRest a
LeavesKept x a = Leaves x a

abbrev pub LeavesAllKept : Type 0
LeavesAllKept = (a : Ask) → LeavesKept (answered a) a

-- what an event asks of a bench
abbrev pub ask_of : (region : List ℕ) → Bench → (payload buffer : List ℕ) → Event → Ask
ask_of r b i o (Turn side) = turn side r (party_of b side) i o None
ask_of r b i o (Failing side error) = turn side r (party_of b side) i o (Some error)
ask_of r b i o (Spurious side) = spurious side (party_of b side)
ask_of r b i o (TimeOut side) = timeout side (party_of b side)
ask_of r b i o (Push blocking tag length) = push b.sender blocking tag length
ask_of r b i o (Pop blocking length) = pop b.recorder blocking length
ask_of r b i o (Close side) = close side (party_of b side)
ask_of r b i o (Shut side) = shutdown side (party_of b side)

-- what that leaves of the region and of the buffer: a turn alone changes any byte
abbrev pub AsAsk : (region buffer : List ℕ) → (leaves given : List ℕ) → Ask → Type 0
AsAsk r o leaves given (create r' power slot notfull start) = ⊥
AsAsk r o leaves given (attach r' side spins) = ⊥
AsAsk r o leaves given (push p blocking tag length) = (leaves ≡ r) × (given ≡ o)
AsAsk r o leaves given (pop p blocking length) = (leaves ≡ r) × (given ≡ o)
AsAsk r o leaves given (close side p) = (leaves ≡ r) × (given ≡ o)
AsAsk r o leaves given (shutdown side p) = (leaves ≡ r) × (given ≡ o)
AsAsk r o leaves given (spurious side p) = (leaves ≡ r) × (given ≡ o)
AsAsk r o leaves given (timeout side p) = (leaves ≡ r) × (given ≡ o)
AsAsk r o leaves given (turn side s p i b f) = (leaves ≡ turn_leaves side s p i b f) × (given ≡ turn_buffer side s p i b f)

-- so the table and this law hold of what a bench plays
abbrev pub BenchAsks : Type 0
BenchAsks = (r : List ℕ) (b : Bench) (payload buffer : List ℕ) (e : Event)
    → ((played r b payload buffer e).answer ≡ answered (ask_of r b payload buffer e))
    × AsAsk r buffer (played_leaves r b payload buffer e) (played_buffer r b payload buffer e) (ask_of r b payload buffer e)

-- and of both parties: whose an event is, the record that it leaves that side, and whom it woke
abbrev pub whose : Event → Side
whose (Turn side) = side
whose (Failing side error) = side
whose (Spurious side) = side
whose (TimeOut side) = side
whose (Push blocking tag length) = Sender
whose (Pop blocking length) = Recorder
whose (Close side) = side
whose (Shut side) = side

abbrev pub record_after : (region : List ℕ) → Bench → (payload buffer : List ℕ) → Event → Party
record_after r b i o (Turn side) = (turn_spec side r (party_of b side) i o None).party
record_after r b i o (Failing side error) = (turn_spec side r (party_of b side) i o (Some error)).party
record_after r b i o (Spurious side) = (spurious_spec side (party_of b side)).party
record_after r b i o (TimeOut side) = (timeout_spec side (party_of b side)).party
record_after r b i o (Push blocking tag length) = (push_spec b.sender blocking tag length).party
record_after r b i o (Pop blocking length) = (pop_spec b.recorder blocking length).party
record_after r b i o (Close side) = (close_spec side (party_of b side)).party
record_after r b i o (Shut side) = (shut_spec side (party_of b side)).party

abbrev pub woke_after : (region : List ℕ) → Bench → (payload buffer : List ℕ) → Event → Woke
woke_after r b i o (Turn side) = (turn_spec side r (party_of b side) i o None).woke
woke_after r b i o (Failing side error) = (turn_spec side r (party_of b side) i o (Some error)).woke
woke_after r b i o (Spurious side) = None
woke_after r b i o (TimeOut side) = None
woke_after r b i o (Push blocking tag length) = None
woke_after r b i o (Pop blocking length) = None
woke_after r b i o (Close side) = None
woke_after r b i o (Shut side) = None

abbrev pub BenchSeats : Type 0
BenchSeats = (r : List ℕ) (b : Bench) (payload buffer : List ℕ) (e : Event) → party_of (played r b payload buffer e).bench (whose e) ≡ record_after r b payload buffer e

-- one that sleeps rises to its look where somebody on its own bell was woken; nothing else of the other's record ever changes
abbrev pub Hears : Side → Woke → (before after : Party) → Type 0
Hears side w p q = (w ≡ Some (sleep_bell side) → p.step ≡ Asleep → q ≡ at Look p) × ((w ≡ Some (sleep_bell side) → p.step ≡ Asleep → ⊥) → q ≡ p)

abbrev pub BenchWakes : Type 0
BenchWakes = (r : List ℕ) (b : Bench) (payload buffer : List ℕ) (e : Event)
    → Hears (other (whose e)) (woke_after r b payload buffer e) (party_of b (other (whose e))) (party_of (played r b payload buffer e).bench (other (whose e)))
