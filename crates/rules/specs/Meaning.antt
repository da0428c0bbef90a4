-- What a call does of what it was asked, and what its answers mean: T14 to T16, of every run; and T17's `WaitsAsRead`.
-- A world here is one that a run leads to: `reached`, of `Claims`.
use Rattle.std.specs.Prelude.{◌≡◌, Bool, true, false, ◌&&◌, ◌||◌, List, [], ◌∷◌, ◌++◌, ◌⊎◌, ℕ, ◌+◌, ◌%◌, ◌^◌, ◌<◌, ◌≤◌, eqb, length, take, drop, None, Some}
use Rattle.words.specs.Le.{le_at}
use Rattle.words.specs.Wrap.{plus}
use Rattle.types.specs.Pick.{pick}
use Rattle.types.specs.Answers.{number, told_of}
use Rattle.types.specs.declared.Side.{Side}
use Rattle.types.specs.declared.Side.TheVariants.{Sender, Recorder}
use Rattle.types.specs.declared.Bell.{Bell}
use Rattle.types.specs.declared.Mark.TheVariants.{Shutdown as ShutMark}
use Rattle.types.specs.declared.Access.TheVariants.{WaitBell}
use Rattle.types.specs.Faults.{Fault}
use Rattle.types.specs.declared.Step.TheVariants.{Rest, Look, Copy, Wait, Asleep}
use Rattle.types.specs.declared.Event.TheVariants.{Turn, Failing, Spurious, TimeOut, Push, Pop, Close, Shutdown as Shut}
use Rattle.types.specs.declared.Answer.{Answer}
use Rattle.types.specs.declared.Answer.TheVariants.{Done, InvalidMagic, UnsupportedVersion, InvalidHeaderSize, InvalidLayout, InvalidCapacity, InvalidSlotSize, CorruptIndices, CorruptSlot, Full, Empty, Closed, Shutdown, Timeout, WouldBlock, OutputTooSmall, AlreadyAttached, Syscall, PayloadTooLong, NotFullOff, BadCall, Nothing, Begun, GoesOn}
use Rattle.layout.specs.Limits.{capacity}
use Rattle.layout.specs.Flags.{close_mark}
use Rattle.layout.specs.Header.{bell_at}
use Rattle.layout.specs.Create.{created}
use Rattle.rules.specs.Sides.{other, sleep_bell}
use Rattle.rules.specs.Next.{next_spec}
use Rattle.rules.specs.Calls.{push_spec, pop_spec}
use Rattle.rules.specs.Turn.{turn_buffer}
use Rattle.rules.specs.Run.{Note, World, Happening, attaches, plays, party_in, takes, happens, opened}
use Rattle.rules.specs.Premises.{AllTyped, rung, down, closed_bit}
use Rattle.rules.specs.Stretch.{notes_of}
use Rattle.rules.specs.Claims.{waiting, room, turn_of, reached}
use Rattle.rules.specs.Asked.{Call, no_call, lent_of, call_after, call_by, AsNamed, ever_asks, timed_by}
use Rattle.rules.specs.Anywhere.{told, wake_no, Lent, after_turns, AllTaken}

-- the first note that waits is of that length
abbrev pub Waits : (n : ℕ) → World → Type 0
Waits n w = (first : Note) × ((rest : List Note) × ((w.trace.sent ≡ w.trace.delivered ++ (first ∷ rest)) × (length first.body ≡ n)))

-- what the answer of a side's turn says of the world w that it finds and the world u that it leaves, by the region's bytes and by the
-- notes; a turn is answered by no other number
abbrev pub Means : Side → (capacity : ℕ) → (w u : World) → Answer → Type 0
Means side k w u (Done l t) = Unit
Means side k w u InvalidMagic = ⊥
Means side k w u UnsupportedVersion = ⊥
Means side k w u InvalidHeaderSize = ⊥
Means side k w u InvalidLayout = ⊥
Means side k w u InvalidCapacity = ⊥
Means side k w u InvalidSlotSize = ⊥
Means side k w u CorruptIndices = ⊥
Means side k w u CorruptSlot = ⊥
Means side k w u Full = (side ≡ Sender) × (waiting w ≡ k)
Means side k w u Empty = (side ≡ Recorder) × (waiting w ≡ 0)
Means side k w u Closed = (closed_bit (other side) w ≡ true) × (side ≡ Sender → down w ≡ false)
Means side k w u Shutdown = down w ≡ true
Means side k w u Timeout = room side k w ≡ 0
Means side k w u WouldBlock = ⊥
Means side k w u (OutputTooSmall n) = (side ≡ Recorder) × (((party_in w side).length < n) × (Waits n w × Waits n u))
Means side k w u AlreadyAttached = ⊥
Means side k w u (Syscall operation error) = (0 < error) × ((operation ≡ 0) ⊎ (operation ≡ 2) → (error ≡ 4 → ⊥) × ((error ≡ 11 → ⊥) × (error ≡ 110 → ⊥)))
Means side k w u PayloadTooLong = ⊥
Means side k w u NotFullOff = ⊥
Means side k w u BadCall = Unit
Means side k w u Nothing = Unit
Means side k w u Begun = ⊥
Means side k w u GoesOn = Unit

-- 0 tells that a note was sent, or delivered, and so does 17 of the wake that follows it
abbrev pub gave : Side → Answer → Bool
gave side a = eqb (number a) 0 || (eqb (number a) 17 && eqb (told_of a).tag (wake_no side))

-- what a side has published since its call began: one note, as it was asked, or none
abbrev pub Published : (one : Bool) → Side → Call → World → Type 0
Published true side c w = (n : Note) × ((notes_of side w.trace ≡ c.before ++ (n ∷ [])) × AsNamed side c n)
Published false side c w = notes_of side w.trace ≡ c.before

-- the notes that the pushes of a run told of: for each that answered 0, or 17 for its wake, the tag that it named and the bytes that
-- its copy was lent. By the entries, the answers, and which turn was the copy
abbrev pub first_lent : List (List ℕ) → List ℕ
first_lent [] = []
first_lent (b ∷ bs) = b

abbrev pub tells_note : World → (payload lent : List ℕ) → Fault → Call → List Note → List Note
tells_note w payload lent fault c ns = pick (c.last && gave Sender (told Sender w payload lent fault)) (ns ++ (record { tag = c.tag; body = first_lent c.copied } ∷ [])) ns

abbrev pub told_after : Happening → World → Call → List Note → List Note
told_after (attaches mover spins) w c ns = ns
told_after (plays (Turn Sender) payload lent) w c ns = tells_note w payload lent None c ns
told_after (plays (Turn Recorder) payload lent) w c ns = ns
told_after (plays (Failing Sender error) payload lent) w c ns = tells_note w payload lent (Some error) c ns
told_after (plays (Failing Recorder error) payload lent) w c ns = ns
told_after (plays (Spurious mover) payload lent) w c ns = ns
told_after (plays (TimeOut mover) payload lent) w c ns = ns
told_after (plays (Push blocking tag length) payload lent) w c ns = ns
told_after (plays (Pop blocking length) payload lent) w c ns = ns
told_after (plays (Close mover) payload lent) w c ns = ns
told_after (plays (Shut mover) payload lent) w c ns = ns

abbrev pub told_by : List Happening → World → Call → List Note → List Note
told_by [] w c ns = ns
told_by (h ∷ hs) w c ns = told_by hs (happens h w) (call_after Sender h w c) (told_after h w c ns)

-- a time-out: of a sleeper, or as error 110 of a wait
pub data TimesOut (side : Side) (w : World) : Happening → Type 0 where
  asleep : {payload lent : List ℕ} → (party_in w side).step ≡ Asleep → TimesOut side w (plays (TimeOut side) payload lent)
  failing : {epoch : ℕ} {payload lent : List ℕ} → (party_in w side).step ≡ Wait epoch → takes w side payload lent (Some 110) ≡ true → TimesOut side w (plays (Failing side 110) payload lent)

module _ (region : List ℕ) (power slot : ℕ) (notfull : Bool) (start : ℕ) where
  abbrev pub world : List Happening → World
  world hs = reached region power slot notfull start hs

  abbrev pub call_of : Side → List Happening → Call
  call_of side hs = call_by side hs (opened (created region power slot notfull start)) no_call

  -- T14, as asked: a party goes by what the entry of its call named
  abbrev pub AsAsked : Side → Type 0
  AsAsked side = (hs : List Happening) → AllTyped hs
      → ((party_in (world hs) side).blocking ≡ (call_of side hs).blocking) × (((party_in (world hs) side).tag ≡ (call_of side hs).tag) × ((party_in (world hs) side).length ≡ (call_of side hs).length))

  -- so the note that a push's copy makes has the tag that its entry named
  abbrev pub NoteAsAsked : Type 0
  NoteAsAsked = (hs : List Happening) → AllTyped hs → (payload lent : List ℕ) (fault : Fault)
      → takes (world hs) Sender payload lent fault ≡ true → (party_in (world hs) Sender).step ≡ Copy
      → (happens (plays (turn_of Sender fault) payload lent) (world hs)).trace.hand ≡ record { tag = (call_of Sender hs).tag; body = payload }

  -- a blocking call never answers 9 or 10; a try call with no room answers so at its first turn
  abbrev pub BlockingWaits : Side → Type 0
  BlockingWaits side = (hs : List Happening) → AllTyped hs → (call_of side hs).blocking ≡ true → (payload lent : List ℕ) (fault : Fault)
      → (told side (world hs) payload lent fault ≡ Full) ⊎ (told side (world hs) payload lent fault ≡ Empty) → ⊥

  abbrev pub TryAnswers : Side → Answer → Type 0
  TryAnswers side answer = (hs : List Happening) → AllTyped hs → (call_of side hs).blocking ≡ false → (party_in (world hs) side).step ≡ Look → room side (capacity power) (world hs) ≡ 0
      → (payload lent : List ℕ) (fault : Fault) → takes (world hs) side payload lent fault ≡ true → told side (world hs) payload lent fault ≡ answer

  -- from its entry on: begun over no room, and nothing between
  abbrev pub TryPush : Type 0
  TryPush = (hs : List Happening) → AllTyped hs → (tag length : ℕ) (i o : List ℕ) → tag < 2 ^ 16 → (push_spec (party_in (world hs) Sender) false tag length).answer ≡ Begun
      → room Sender (capacity power) (world hs) ≡ 0 → (payload lent : List ℕ) (fault : Fault)
      → takes (happens (plays (Push false tag length) i o) (world hs)) Sender payload lent fault ≡ true → told Sender (happens (plays (Push false tag length) i o) (world hs)) payload lent fault ≡ Full

  abbrev pub TryPop : Type 0
  TryPop = (hs : List Happening) → AllTyped hs → (length : ℕ) (i o : List ℕ) → (pop_spec (party_in (world hs) Recorder) false length).answer ≡ Begun
      → room Recorder (capacity power) (world hs) ≡ 0 → (payload lent : List ℕ) (fault : Fault)
      → takes (happens (plays (Pop false length) i o) (world hs)) Recorder payload lent fault ≡ true → told Recorder (happens (plays (Pop false length) i o) (world hs)) payload lent fault ≡ Empty

  -- the turn of whoever is attached is taken, where a copy is lent the length that its call named and no failure is announced as 0
  abbrev pub TurnsTaken : Side → Type 0
  TurnsTaken side = (hs : List Happening) → AllTyped hs → (party_in (world hs) side).own.attached ≡ true → (payload lent : List ℕ) (fault : Fault)
      → ((party_in (world hs) side).step ≡ Copy → length (lent_of side payload lent) ≡ (call_of side hs).length) → (fault ≡ Some 0 → ⊥)
      → takes (world hs) side payload lent fault ≡ true

  -- T15, true answers: what is answered is so
  abbrev pub Truthful : Side → Type 0
  Truthful side = (hs : List Happening) → AllTyped hs → (payload lent : List ℕ) (fault : Fault)
      → Means side (capacity power) (world hs) (happens (plays (turn_of side fault) payload lent) (world hs)) (told side (world hs) payload lent fault)

  -- and the bits that 11 and 12 go by are set by a close of that side, and by a shutdown, that were begun
  abbrev pub ClosedByCall : Side → Type 0
  ClosedByCall side = (hs : List Happening) → AllTyped hs → closed_bit side (world hs) ≡ true → ever_asks (close_mark side) hs (opened (created region power slot notfull start)) ≡ true

  abbrev pub DownByCall : Type 0
  DownByCall = (hs : List Happening) → AllTyped hs → down (world hs) ≡ true → ever_asks ShutMark hs (opened (created region power slot notfull start)) ≡ true

  -- and 13 by a time-out that came to that call
  abbrev pub TimedByCall : Side → Type 0
  TimedByCall side = (hs : List Happening) → AllTyped hs → (payload lent : List ℕ) (fault : Fault) → told side (world hs) payload lent fault ≡ Timeout
      → timed_by side hs (opened (created region power slot notfull start)) false ≡ true

  -- T16, one note or none: from its begin to its answer a push sends one note, of the tag that it named and the bytes that its copy was lent, or none;
  -- so a pop delivers one or none. Which of the two, its answer tells
  abbrev pub OneOrNone : Side → Type 0
  OneOrNone side = (hs : List Happening) → AllTyped hs → (payload lent : List ℕ) (fault : Fault) → (call_of side hs).last ≡ true → number (told side (world hs) payload lent fault) < 20
      → Published (gave side (told side (world hs) payload lent fault)) side (call_of side hs) (happens (plays (turn_of side fault) payload lent) (world hs))

  -- and while it runs it has published no more than that
  abbrev pub NeverTwo : Side → Type 0
  NeverTwo side = (hs : List Happening) → AllTyped hs → (call_of side hs).last ≡ true → ((party_in (world hs) side).step ≡ Rest → ⊥)
      → Published false side (call_of side hs) (world hs) ⊎ Published true side (call_of side hs) (world hs)

  -- so whenever no call of the sender's runs, what was sent is what its answers told
  abbrev pub SentAsTold : Type 0
  SentAsTold = (hs : List Happening) → AllTyped hs → (party_in (world hs) Sender).step ≡ Rest → (world hs).trace.sent ≡ told_by hs (opened (created region power slot notfull start)) no_call []

  -- only a pop's 0 carries numbers
  abbrev pub DoneBare : Side → Type 0
  DoneBare side = (hs : List Happening) → AllTyped hs → (payload lent : List ℕ) (fault : Fault) (l t : ℕ) → (side ≡ Recorder → (call_of side hs).last ≡ false)
      → told side (world hs) payload lent fault ≡ Done l t → (l ≡ 0) × (t ≡ 0)

  -- T15: a time-out with no room is answered 13 at the next turn; with room the call goes on, and its third turn publishes a note. A
  -- pop's buffer is as long as that note
  abbrev pub TimeoutTold : Side → Type 0
  TimeoutTold side = (hs : List Happening) (h : Happening) → AllTyped hs → TimesOut side (world hs) h → room side (capacity power) (world hs) ≡ 0
      → (payload lent : List ℕ) (fault : Fault) → takes (happens h (world hs)) side payload lent fault ≡ true → told side (happens h (world hs)) payload lent fault ≡ Timeout

  abbrev pub LongEnough : Side → List Happening → Type 0
  LongEnough Sender hs = Unit
  LongEnough Recorder hs = (n : Note) (rest : List Note) → (world hs).trace.sent ≡ (world hs).trace.delivered ++ (n ∷ rest) → length n.body ≤ (call_of Recorder hs).length

  abbrev pub TimeoutLosesNone : Side → Type 0
  TimeoutLosesNone side = (hs : List Happening) (h : Happening) → AllTyped hs → TimesOut side (world hs) h → 0 < room side (capacity power) (world hs) → LongEnough side hs
      → (ls : List Lent) → length ls ≡ 3 → AllTaken side ls (happens h (world hs))
      → length (notes_of side (after_turns side ls (happens h (world hs))).trace) ≡ length (notes_of side (world hs).trace) + 1

  -- T14: a spurious return leads a sleeper to its look, and a turn of the other's leads it there or leaves it asleep
  abbrev pub RisesToLook : Side → Type 0
  RisesToLook side = (hs : List Happening) → AllTyped hs → (party_in (world hs) side).step ≡ Asleep → (payload lent : List ℕ) (fault : Fault)
      → ((party_in (happens (plays (Spurious side) payload lent) (world hs)) side).step ≡ Look)
      × (((party_in (happens (plays (turn_of (other side) fault) payload lent) (world hs)) side).step ≡ Look) ⊎ ((party_in (happens (plays (turn_of (other side) fault) payload lent) (world hs)) side).step ≡ Asleep))

  -- T17, on a run: the epoch that a wait names is what its bell read at B2 or W2, since the bell reads that and the raises since
  abbrev pub WaitsAsRead : Side → Type 0
  WaitsAsRead side = (hs : List Happening) → AllTyped hs → (b : Bell) (epoch : ℕ) → next_spec (party_in (world hs) side) ≡ WaitBell b epoch
      → (b ≡ sleep_bell side) × (le_at 4 (world hs).region (bell_at b) % 2 ^ 32 ≡ plus 32 epoch (rung side (world hs)))

  -- T16: a pop's copy that goes on has put the first waiting note at the start of the buffer that it was lent, and the rest of it stays; no
  -- other turn changes a buffer
  abbrev pub FillsStart : Type 0
  FillsStart = (hs : List Happening) → AllTyped hs → (payload lent : List ℕ) (fault : Fault) → (party_in (world hs) Recorder).step ≡ Copy → told Recorder (world hs) payload lent fault ≡ GoesOn
      → (n : Note) × ((rest : List Note) × (((world hs).trace.sent ≡ (world hs).trace.delivered ++ (n ∷ rest))
      × (turn_buffer Recorder (world hs).region (party_in (world hs) Recorder) payload lent fault ≡ n.body ++ drop (length n.body) lent)))

  abbrev pub KeepsBuffer : Side → Type 0
  KeepsBuffer side = (hs : List Happening) → AllTyped hs → (payload lent : List ℕ) (fault : Fault) → (side ≡ Recorder → (party_in (world hs) side).step ≡ Copy → ⊥)
      → turn_buffer side (world hs).region (party_in (world hs) side) payload lent fault ≡ lent

  -- so the Done that ends a pop finds its note at the start of the buffer that is lent to that turn, if it is the one that the copy left
  abbrev pub DoneHolds : Type 0
  DoneHolds = (hs : List Happening) → AllTyped hs → (payload lent : List ℕ) (fault : Fault) (l t : ℕ) → (call_of Recorder hs).last ≡ true → lent ≡ (world hs).trace.buffer
      → told Recorder (world hs) payload lent fault ≡ Done l t
      → (n : Note) × (((happens (plays (turn_of Recorder fault) payload lent) (world hs)).trace.delivered ≡ (call_of Recorder hs).before ++ (n ∷ []))
      × ((n.tag ≡ t) × ((length n.body ≡ l) × (take l (turn_buffer Recorder (world hs).region (party_in (world hs) Recorder) payload lent fault) ≡ n.body))))
