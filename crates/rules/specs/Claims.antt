-- What is claimed of every run: demand 3 in document 01's words. The proofs are in proofs/.
use Rattle.std.specs.Prelude.{◌≡◌, Bool, true, false, not, ◌&&◌, ◌||◌, List, [], ◌∷◌, ◌++◌, ℕ, ◌+◌, ◌-◌, ◌*◌, ◌^◌, ◌<◌, ◌≤◌, leb, length, take, None, Some}
use Rattle.words.specs.Le.{le_at}
use Rattle.words.specs.Wrap.{minus}
use Rattle.types.specs.Pick.{pick}
use Rattle.types.specs.declared.Side.{Side}
use Rattle.types.specs.declared.Side.TheVariants.{Sender, Recorder}
use Rattle.types.specs.Faults.{Fault}
use Rattle.types.specs.declared.Step.{Step}
use Rattle.types.specs.declared.Step.TheVariants.{Rest, Look, Spin, Again, Publish, Check, Wake, Asleep, CloseSet, ShutSet}
use Rattle.types.specs.declared.Stance.{Stance}
use Rattle.types.specs.declared.Event.{Event}
use Rattle.types.specs.declared.Event.TheVariants.{Turn, Failing}
use Rattle.types.specs.declared.Answer.TheVariants.{Done, Closed, Timeout, Begun, Nothing}
use Rattle.layout.specs.Limits.{capacity, payload_capacity}
use Rattle.layout.specs.Flags.{worth, bit_on, attach_mark}
use Rattle.layout.specs.Header.{flags_at, counter_at, bell_at}
use Rattle.layout.specs.Create.{create_answer, created}
use Rattle.layout.specs.Attach.{attach_answer}
use Rattle.rules.specs.Sides.{other, sleep_bell}
use Rattle.types.specs.declared.Party.{Party}
use Rattle.rules.specs.Calls.{sound, at, named, push_spec, pop_spec, close_spec, shut_spec}
use Rattle.rules.specs.Turn.{turn_spec}
use Rattle.rules.specs.Bench.{played}
use Rattle.rules.specs.Run.{Note, Trace, World, Happening, attaches, plays, party_in, takes, happens, run, opened}
use Rattle.rules.specs.Premises.{AllTyped, AllFair, AllLand, rung, partings, Quiet, down, closed_bit}
use Rattle.rules.specs.Stretch.{moves, calling, ticks_by, ticks, beats, OwnDoing, AllOwn, Willing, in_call, notes_of, holds_epoch, Underway, in_wait, Turns, slack}

-- how many notes wait: head − tail, in the region's bytes
abbrev pub waiting : World → ℕ
waiting w = minus 64 (le_at 8 w.region (counter_at Sender)) (le_at 8 w.region (counter_at Recorder))

-- a side's room: free slots for the sender, waiting notes for the recorder
abbrev pub room : Side → (capacity : ℕ) → World → ℕ
room Sender capacity w = capacity - waiting w
room Recorder capacity w = waiting w

-- a turn of a side, its failure announced or not
abbrev pub turn_of : Side → Fault → Event
turn_of side None = Turn side
turn_of side (Some e) = Failing side e

-- a pop that delivers its note in this turn, or has delivered it
pub data Delivering : Step → Type 0 where
  publishes : {l t : ℕ} → Delivering (Publish l t)
  checks : {l t : ℕ} → Delivering (Check l t)
  wakes : {l t : ℕ} → Delivering (Wake l t)

-- the last note delivered has that length and tag, and the buffer begins with its bytes
abbrev pub Carries : (length tag : ℕ) → Trace → Type 0
Carries l t trace =
    (before : List Note) × ((n : Note) × ((trace.delivered ≡ before ++ (n ∷ [])) × ((n.tag ≡ t) × ((length n.body ≡ l) × (take l trace.buffer ≡ n.body)))))

-- at a spin no more than n follow it
abbrev pub Follow : Side → (n : ℕ) → World → Type 0
Follow side n w = (m : ℕ) → (party_in w side).step ≡ Spin m → m ≤ n

-- once the other has closed, a recorder looks once more
abbrev pub last_looks : Side → ℕ
last_looks Sender = 0
last_looks Recorder = 1

-- T4's number: 7; or, at a spin that n may follow, these n and 4 turns and the last look, if that is more
abbrev pub stop_turns : Side → (n : ℕ) → ℕ
stop_turns side n = pick (leb (n + 4 + last_looks side) 7) 7 (n + 4 + last_looks side)

-- T8: asking is taken. A party at rest, with a sound record (attached, of that side, its sizes, spin count and length within the
-- limits), is begun: a push that is not closed, not 19 and not 18; a pop and a close that are not closed; a shutdown always
abbrev pub PushBegins : Party → Type 0
PushBegins p = sound Sender p ≡ true → p.step ≡ Rest → p.closed ≡ false → (blocking : Bool) (tag length : ℕ)
    → (blocking && not p.own.notfull) ≡ false → length ≤ payload_capacity p.own.slot
    → push_spec p blocking tag length ≡ record { party = named blocking tag length p; answer = Begun }

abbrev pub PopBegins : Party → Type 0
PopBegins p = sound Recorder p ≡ true → p.step ≡ Rest → p.closed ≡ false → (blocking : Bool) (length : ℕ)
    → pop_spec p blocking length ≡ record { party = named blocking 0 length p; answer = Begun }

abbrev pub CloseBegins : Side → Party → Type 0
CloseBegins side p = sound side p ≡ true → p.step ≡ Rest → p.closed ≡ false → close_spec side p ≡ record { party = at CloseSet p; answer = Begun }

abbrev pub ShutBegins : Side → Party → Type 0
ShutBegins side p = sound side p ≡ true → p.step ≡ Rest → shut_spec side p ≡ record { party = at (ShutSet false) p; answer = Begun }

-- stronger than these four: the record that it then is, field by field, and not by `named` and `at`
abbrev pub PushBeginsAs : Party → Type 0
PushBeginsAs p = sound Sender p ≡ true → p.step ≡ Rest → p.closed ≡ false → (blocking : Bool) (tag length : ℕ)
    → (blocking && not p.own.notfull) ≡ false → length ≤ payload_capacity p.own.slot
    → push_spec p blocking tag length ≡ record { party = record { own = p.own; closed = p.closed; counter = p.counter; blocking = blocking; tag = tag; length = length; step = Look }; answer = Begun }

abbrev pub PopBeginsAs : Party → Type 0
PopBeginsAs p = sound Recorder p ≡ true → p.step ≡ Rest → p.closed ≡ false → (blocking : Bool) (length : ℕ)
    → pop_spec p blocking length ≡ record { party = record { own = p.own; closed = p.closed; counter = p.counter; blocking = blocking; tag = 0; length = length; step = Look }; answer = Begun }

abbrev pub CloseBeginsAs : Side → Party → Type 0
CloseBeginsAs side p = sound side p ≡ true → p.step ≡ Rest → p.closed ≡ false → close_spec side p ≡ record { party = record { own = p.own; closed = p.closed; counter = p.counter; blocking = p.blocking; tag = p.tag; length = p.length; step = CloseSet }; answer = Begun }

abbrev pub ShutBeginsAs : Side → Party → Type 0
ShutBeginsAs side p = sound side p ≡ true → p.step ≡ Rest → shut_spec side p ≡ record { party = record { own = p.own; closed = p.closed; counter = p.counter; blocking = p.blocking; tag = p.tag; length = p.length; step = ShutSet false }; answer = Begun }

-- the claims, for a ring of any sizes that create accepts, either option, any start value, over any region
module _ (region : List ℕ) (power slot : ℕ) (notfull : Bool) (start : ℕ) where
  abbrev pub Fresh : Type 0
  Fresh = (create_answer (length region) power slot ≡ Done 0 0) × (start < 2 ^ 64)

  abbrev pub reached : List Happening → World
  reached hs = run hs (opened (created region power slot notfull start))

  -- T1: the notes delivered are the first ones sent, the rest waits, and never more wait than there are slots
  abbrev pub InOrder : Type 0
  InOrder = (hs : List Happening) → AllTyped hs
      → (waiting (reached hs) ≤ capacity power)
      × ((rest : List Note) × ((reached hs).trace.sent ≡ (reached hs).trace.delivered ++ rest) × (length rest ≡ waiting (reached hs)))

  -- and the Done that ends a pop carries the length and the tag of the note that it delivered, with the buffer still
  -- beginning with its bytes
  abbrev pub DoneCarries : Type 0
  DoneCarries = (hs : List Happening) → AllTyped hs → (payload lent : List ℕ) (fault : Fault) (l t : ℕ)
      → takes (reached hs) Recorder payload lent fault ≡ true
      → Delivering (party_in (reached hs) Recorder).step
      → (turn_spec Recorder (reached hs).region (party_in (reached hs) Recorder) payload lent fault).answer ≡ Done l t
      → Carries l t (happens (plays (turn_of Recorder fault) payload lent) (reached hs)).trace

  -- T3: a party asleep while the other is between calls or asleep has no room, nobody has shut down, and the other has not
  -- closed; so the two are never asleep together
  abbrev pub WithCause : Side → Type 0
  WithCause side = (hs : List Happening) → AllTyped hs → AllFair side hs (opened (created region power slot notfull start))
      → (party_in (reached hs) side).step ≡ Asleep → Quiet (other side) (reached hs)
      → (room side (capacity power) (reached hs) ≡ 0) × ((down (reached hs) ≡ false) × (closed_bit (other side) (reached hs) ≡ false))

  abbrev pub NotBoth : Type 0
  NotBoth = (hs : List Happening) → AllTyped hs → ((side : Side) → AllFair side hs (opened (created region power slot notfull start)))
      → (party_in (reached hs) Sender).step ≡ Asleep → (party_in (reached hs) Recorder).step ≡ Asleep → ⊥

  -- the bell's premise: between its look at its bell and its wait a side's bell is raised at most twice, and once more for each
  -- close and shutdown that the other asks for. So where there are fewer than 2^32 − 2 of these, only the wakes are left to ask
  abbrev pub SeldomRung : Side → Type 0
  SeldomRung side = (hs : List Happening) → AllTyped hs → holds_epoch (party_in (reached hs) side).step ≡ true
      → rung side (reached hs) ≤ 2 + partings (other side) hs

  abbrev pub WakesAlone : Side → Type 0
  WakesAlone side = (hs : List Happening) → AllTyped hs → 2 + partings (other side) hs < 2 ^ 32
      → AllLand side hs (opened (created region power slot notfull start)) → AllFair side hs (opened (created region power slot notfull start))

  -- T2: the other between calls or asleep and not moving, the party in a push or a pop or between calls, and willing ..
  abbrev pub Willed : Side → (hs ms : List Happening) → Type 0
  Willed side hs ms = AllTyped (hs ++ ms) × (Quiet (other side) (reached hs) × ((in_call (party_in (reached hs) side).step ≡ true) × Willing side ms (reached hs)))

  -- .. in the end no room is left, and not because the other did anything
  abbrev pub Emptied : Side → (hs ms : List Happening) → Type 0
  Emptied side hs ms =
      (room side (capacity power) (reached (hs ++ ms)) ≡ 0) × (notes_of (other side) (reached (hs ++ ms)).trace ≡ notes_of (other side) (reached hs).trace)

  -- after at least 4 times its room, and 3, of document 01's turns, whatever wakes and bells do ..
  abbrev pub BoundedTicks : Side → Type 0
  BoundedTicks side = (hs ms : List Happening) → Willed side hs ms → 4 * room side (capacity power) (reached hs) + 3 ≤ ticks ms (reached hs) → Emptied side hs ms

  -- stronger than `BoundedTicks`: the other stands anywhere, and does not move (it may have died there); and `slack`, by its room, for the 3
  abbrev pub Dead : Side → (hs ms : List Happening) → Type 0
  Dead side hs ms = AllTyped (hs ++ ms) × ((in_call (party_in (reached hs) side).step ≡ true) × Willing side ms (reached hs))

  abbrev pub BoundedTicksDead : Side → Type 0
  BoundedTicksDead side = (hs ms : List Happening) → Dead side hs ms → 4 * room side (capacity power) (reached hs) + slack (room (other side) (capacity power) (reached hs)) ≤ ticks ms (reached hs) → Emptied side hs ms

  -- .. and, on a run that is fair to it, of its turns in a call, those it sleeps through counted too: it does not sleep over room
  abbrev pub Going : Side → (hs ms : List Happening) → Type 0
  Going side hs ms = Willed side hs ms × AllFair side (hs ++ ms) (opened (created region power slot notfull start))

  abbrev pub Alone : Side → (hs ms : List Happening) → Type 0
  Alone side hs ms = Going side hs ms × (4 * room side (capacity power) (reached hs) + 3 ≤ beats ms (reached hs))

  abbrev pub Bounded : Side → Type 0
  Bounded side = (hs ms : List Happening) → Alone side hs ms → Emptied side hs ms

  -- stronger than `Bounded`, since fewer turns are asked: `slack`, by the room of the other, for the 3
  abbrev pub AloneBySlack : Side → (hs ms : List Happening) → Type 0
  AloneBySlack side hs ms = Going side hs ms × (4 * room side (capacity power) (reached hs) + slack (room (other side) (capacity power) (reached hs)) ≤ beats ms (reached hs))

  abbrev pub BoundedBySlack : Side → Type 0
  BoundedBySlack side = (hs ms : List Happening) → AloneBySlack side hs ms → Emptied side hs ms

  -- either way every note that was sent has then been delivered
  abbrev pub GetsAll : Type 0
  GetsAll = (hs ms : List Happening) → AllTyped (hs ++ ms) → Emptied Recorder hs ms → (reached (hs ++ ms)).trace.delivered ≡ (reached hs).trace.sent

  -- willing stretches of every length exist from every state of the premises: the party attached and not closed
  abbrev pub Lasts : Side → Type 0
  Lasts side = (hs : List Happening) → AllTyped hs → AllFair side hs (opened (created region power slot notfull start))
      → Quiet (other side) (reached hs) → in_call (party_in (reached hs) side).step ≡ true → (party_in (reached hs) side).own.attached ≡ true → (party_in (reached hs) side).closed ≡ false → Underway side (reached hs)
      → (n : ℕ) → (ms : List Happening) × (Going side hs ms × (n ≤ ticks ms (reached hs)))

  -- and the bound is reached: one turn fewer, and a note is left
  abbrev pub Tight : Type 0
  Tight =
      (hs : List Happening) × ((ms : List Happening) × (Going Recorder hs ms
      × ((4 * room Recorder (capacity power) (reached hs) + 2 ≡ beats ms (reached hs)) × (room Recorder (capacity power) (reached (hs ++ ms)) ≡ 1))))

  -- T4: once the other has closed or anyone has shut down, and the other is between calls or asleep and not moving ..
  abbrev pub Stopped : Side → (hs : List Happening) → Type 0
  Stopped side hs = Quiet (other side) (reached hs) × ((down (reached hs) || closed_bit (other side) (reached hs)) ≡ true)

  -- .. a call under way has answered after a first part of at most so many turns of its own, whatever its waits do and whatever it asks meanwhile
  abbrev pub AtRest : (counted : Stance → Bool) → Side → (n : ℕ) → (hs ms : List Happening) → Type 0
  AtRest counted side n hs ms =
      (first : List Happening) × ((rest : List Happening) × ((ms ≡ first ++ rest) × ((ticks_by counted first (reached hs) ≤ stop_turns side n) × ((party_in (reached (hs ++ first)) side).step ≡ Rest))))

  -- by document 01's turns, whatever wakes and bells do; and, on a run that is fair to it, with those it sleeps through
  abbrev pub EndsTicks : Side → Type 0
  EndsTicks side = (hs ms : List Happening) (n : ℕ) → AllTyped (hs ++ ms) → Stopped side hs → Follow side n (reached hs) → AllOwn side ms → stop_turns side n ≤ ticks ms (reached hs) → AtRest moves side n hs ms

  -- stronger than `EndsTicks`: wherever the other stands; it may have died there
  abbrev pub EndsTicksDead : Side → Type 0
  EndsTicksDead side = (hs ms : List Happening) (n : ℕ) → AllTyped (hs ++ ms) → (down (reached hs) || closed_bit (other side) (reached hs)) ≡ true → Follow side n (reached hs) → AllOwn side ms → stop_turns side n ≤ ticks ms (reached hs) → AtRest moves side n hs ms

  abbrev pub Ends : Side → Type 0
  Ends side = (hs ms : List Happening) (n : ℕ) → AllTyped (hs ++ ms) → AllFair side (hs ++ ms) (opened (created region power slot notfull start))
      → Stopped side hs → Follow side n (reached hs) → AllOwn side ms → stop_turns side n ≤ beats ms (reached hs) → AtRest calling side n hs ms

  -- and no fewer: with no room, and where none of its turns fails, one at a spin that n follow has answered when it has taken these,
  -- 4 more, and the last look, which a shutdown spares a recorder
  abbrev pub StopsAfter : Side → Type 0
  StopsAfter side = (hs ms : List Happening) (n : ℕ) → AllTyped hs → (down (reached hs) || closed_bit (other side) (reached hs)) ≡ true
      → room side (capacity power) (reached hs) ≡ 0 → (party_in (reached hs) side).step ≡ Spin n → Turns side ms
      → n + 4 + pick (down (reached hs)) 0 (last_looks side) ≤ beats ms (reached hs)
      → (first : List Happening) × ((rest : List Happening) × ((ms ≡ first ++ rest)
      × ((ticks first (reached hs) ≡ n + 4 + pick (down (reached hs)) 0 (last_looks side)) × ((party_in (reached (hs ++ first)) side).step ≡ Rest))))

  -- at a spin fewer follow than the record's count. So for a count c T4's number is c + 3, for a recorder c + 4, or 7
  abbrev pub SpinsWithin : Side → Type 0
  SpinsWithin side = (hs : List Happening) (n : ℕ) → AllTyped hs → (party_in (reached hs) side).step ≡ Spin n → n < (party_in (reached hs) side).own.spins

  -- T9: a party alone in a blocking call with no room, nobody closed or shut down, no wait failing, falls asleep: it has taken so
  -- many turns of its own when it sleeps ..
  abbrev pub AsleepAfter : Side → (n : ℕ) → (hs ms : List Happening) → Type 0
  AsleepAfter side n hs ms =
      (first : List Happening) × ((rest : List Happening) × ((ms ≡ first ++ rest) × ((ticks first (reached hs) ≡ n) × ((party_in (reached (hs ++ first)) side).step ≡ Asleep))))

  -- .. which are at most 9 and its spin count: 6 and the count from its look, 9 and the count where its bell was raised after it
  -- read the epoch
  abbrev pub FallsAsleep : Side → Type 0
  FallsAsleep side = (hs : List Happening) → AllTyped hs
      → room side (capacity power) (reached hs) ≡ 0 → down (reached hs) ≡ false → closed_bit (other side) (reached hs) ≡ false
      → (party_in (reached hs) side).blocking ≡ true → in_wait (party_in (reached hs) side).step ≡ true
      → (n : ℕ) × ((n ≤ 9 + (party_in (reached hs) side).own.spins)
      × (((party_in (reached hs) side).step ≡ Look → n ≡ 6 + (party_in (reached hs) side).own.spins)
      × (((e : ℕ) → (party_in (reached hs) side).step ≡ Again e → (le_at 4 (reached hs).region (bell_at (sleep_bell side)) ≡ e → ⊥) → n ≡ 9 + (party_in (reached hs) side).own.spins)
      × ((ms : List Happening) → Turns side ms → n ≤ beats ms (reached hs) → AsleepAfter side n hs ms))))

  -- .. and asleep, its turns change nothing, and answer 253 where they are not refused
  abbrev pub Dreams : Side → Type 0
  Dreams side = (hs : List Happening) (payload lent : List ℕ) (fault : Fault) → (party_in (reached hs) side).step ≡ Asleep
      → (happens (plays (turn_of side fault) payload lent) (reached hs) ≡ reached hs)
      × (takes (reached hs) side payload lent fault ≡ true → (turn_spec side (reached hs).region (party_in (reached hs) side) payload lent fault).answer ≡ Nothing)

  -- T10: where a pop under way answers 11, everything ever sent has been delivered: whatever happens then, no note is sent
  abbrev pub ClosedOverNone : Type 0
  ClosedOverNone = (hs ms : List Happening) → AllTyped (hs ++ ms) → (payload lent : List ℕ) (fault : Fault)
      → (turn_spec Recorder (reached hs).region (party_in (reached hs) Recorder) payload lent fault).answer ≡ Closed
      → (reached (hs ++ ms)).trace.sent ≡ (reached hs).trace.delivered

  -- it is told so: a blocking pop at its look, with nothing waiting, the sender closed and nobody shut down, answers 11 at its third
  -- turn, where none of its turns fails
  abbrev pub ToldClosed : Type 0
  ToldClosed = (hs ms : List Happening) → AllTyped hs
      → waiting (reached hs) ≡ 0 → down (reached hs) ≡ false → closed_bit Sender (reached hs) ≡ true
      → (party_in (reached hs) Recorder).step ≡ Look → (party_in (reached hs) Recorder).blocking ≡ true → Turns Recorder ms → ticks ms (reached hs) ≡ 2
      → (payload lent : List ℕ) → takes (reached (hs ++ ms)) Recorder payload lent None ≡ true
      → (turn_spec Recorder (reached (hs ++ ms)).region (party_in (reached (hs ++ ms)) Recorder) payload lent None).answer ≡ Closed

  -- and whatever is answered 13 is answered so over no room: no note for the recorder, no free slot for the sender
  abbrev pub TimeoutOverNone : Side → Type 0
  TimeoutOverNone side = (hs : List Happening) → AllTyped hs → (e : Event) (payload lent : List ℕ) → OwnDoing side (plays e payload lent)
      → (played (reached hs).region (reached hs).bench payload lent e).answer ≡ Timeout → room side (capacity power) (reached hs) ≡ 0

  -- T8, on a run: whoever is attached has a sound record
  abbrev pub Sound : Side → Type 0
  Sound side = (hs : List Happening) → AllTyped hs → (party_in (reached hs) side).own.attached ≡ true → sound side (party_in (reached hs) side) ≡ true

  -- and has the sizes and the option that the region was created with, and its own counter as it stands there; it is attached and closed as its
  -- bits say: one's own close counts from the turn that sets its bit
  abbrev pub OwnCopy : Side → Type 0
  OwnCopy side = (hs : List Happening) → AllTyped hs
      → ((party_in (reached hs) side).own.attached ≡ bit_on (worth (attach_mark side)) (le_at 4 (reached hs).region flags_at))
      × (((party_in (reached hs) side).closed ≡ closed_bit side (reached hs))
      × ((party_in (reached hs) side).own.attached ≡ true
      → ((party_in (reached hs) side).own ≡ record { side = side; attached = true; power = power; slot = slot; notfull = notfull; spins = (party_in (reached hs) side).own.spins })
      × ((party_in (reached hs) side).counter ≡ le_at 8 (reached hs).region (counter_at side))))

  -- and its spin count is the one that its attach named, for good
  abbrev pub SpinsNamed : Side → Type 0
  SpinsNamed side = (hs : List Happening) (spins : ℕ) → AllTyped hs → attach_answer (reached hs).region side spins ≡ Done 0 0
      → (ms : List Happening) → AllTyped ms → (party_in (reached (hs ++ (attaches side spins ∷ ms))) side).own.spins ≡ spins
