-- What is claimed where both sides move: every call ends, wait-free, never still, and a whole night.
-- A world here is one that a run leads to: `reached`, of `Claims`.
use Rattle.std.specs.Prelude.{◌≡◌, Bool, true, false, ◌||◌, List, [], ◌∷◌, ◌++◌, ◌⊎◌, ℕ, ◌+◌, ◌*◌, ◌<◌, ◌≤◌, leb, length}
use Rattle.types.specs.Pick.{pick}
use Rattle.types.specs.declared.Side.{Side}
use Rattle.types.specs.declared.Side.TheVariants.{Sender, Recorder}
use Rattle.types.specs.declared.Step.{Step}
use Rattle.types.specs.declared.Step.TheVariants.{Rest, Spin, Check, Raise, Wake, Asleep, CloseRaise, CloseWake, ShutRaiseNe, ShutWakeNe, ShutRaiseNf, ShutWakeNf}
use Rattle.types.specs.declared.Stance.{Stance}
use Rattle.types.specs.declared.Event.TheVariants.{Turn, Failing, Spurious, TimeOut, Push, Pop, Close, Shutdown}
use Rattle.layout.specs.Limits.{capacity}
use Rattle.layout.specs.Create.{created}
use Rattle.rules.specs.Sides.{other, same_side}
use Rattle.rules.specs.Run.{World, Happening, attaches, plays, party_in, happens, run, opened}
use Rattle.rules.specs.Premises.{AllTyped, AllFair, down, closed_bit}
use Rattle.rules.specs.Stretch.{moves, calling, tick_by, Wills, in_call, notes_of}
use Rattle.rules.specs.Claims.{waiting, room, last_looks, reached}

-- whose doing a happening is
abbrev pub done_by : Happening → Side
done_by (attaches side spins) = side
done_by (plays (Turn mover) payload lent) = mover
done_by (plays (Failing mover error) payload lent) = mover
done_by (plays (Spurious mover) payload lent) = mover
done_by (plays (TimeOut mover) payload lent) = mover
done_by (plays (Push blocking tag length) payload lent) = Sender
done_by (plays (Pop blocking length) payload lent) = Recorder
done_by (plays (Close mover) payload lent) = mover
done_by (plays (Shutdown mover) payload lent) = mover

-- where both move: the turns of one side ..
abbrev pub turns_by : (counted : Stance → Bool) → Side → List Happening → World → ℕ
turns_by counted side [] w = 0
turns_by counted side (h ∷ hs) w = pick (same_side side (done_by h)) (tick_by counted h w) 0 + turns_by counted side hs (happens h w)

-- .. which is willing, whatever the other does
abbrev pub WillingAmid : Side → List Happening → World → Type 0
WillingAmid side [] w = Unit
WillingAmid side (h ∷ hs) w = (done_by h ≡ side → Wills side h w) × WillingAmid side hs (happens h w)

-- a round: a stretch, fair to both, in which each is willing and takes a turn in a call, asleep or not, or is between calls and has published so many
abbrev pub TakesPart : (goal : ℕ) → Side → List Happening → World → Type 0
TakesPart goal side ms w = (1 ≤ turns_by calling side ms w) ⊎ (((party_in w side).step ≡ Rest) × (goal ≤ length (notes_of side w.trace)))

abbrev pub Round : (goal : ℕ) → List Happening → World → Type 0
Round goal ms w = AllTyped ms × ((side : Side) → AllFair side ms w × (WillingAmid side ms w × TakesPart goal side ms w))

abbrev pub Rounds : (goal : ℕ) → List (List Happening) → World → Type 0
Rounds goal [] w = Unit
Rounds goal (ms ∷ rounds) w = Round goal ms w × Rounds goal rounds (run ms w)

-- where they lead
abbrev pub played_out : List (List Happening) → World → World
played_out [] w = w
played_out (ms ∷ rounds) w = played_out rounds (run ms w)

-- a party of that side that will have woken the other, which has room k, in so many turns: it checks, raises or wakes; of a shutdown, by which bell
pub data Ringing (k : ℕ) : Side → Step → (turns : ℕ) → Type 0 where
  checking : {s : Side} {l t : ℕ} → k ≡ 1 → Ringing k s (Check l t) 3
  raising : {s : Side} {l t : ℕ} → Ringing k s (Raise l t) 2
  waking : {s : Side} {l t : ℕ} → Ringing k s (Wake l t) 1
  close-raising : {s : Side} → Ringing k s CloseRaise 2
  close-waking : {s : Side} → Ringing k s CloseWake 1
  shut-raising : {c : Bool} → Ringing k Sender (ShutRaiseNe c) 2
  shut-waking : {c : Bool} → Ringing k Sender (ShutWakeNe c) 1
  shut-raising-ne : {c : Bool} → Ringing k Recorder (ShutRaiseNe c) 4
  shut-waking-ne : {c : Bool} → Ringing k Recorder (ShutWakeNe c) 3
  shut-raising-nf : {c : Bool} {f : ℕ} → Ringing k Recorder (ShutRaiseNf c f) 2
  shut-waking-nf : {c : Bool} {f : ℕ} → Ringing k Recorder (ShutWakeNf c f) 1

-- T4's number where the other moves too: 7; at a spin that m follow, these and 8, for what comes after the last of them is
-- taken, and its wake made. From one that has closed nothing comes: these, 4 and the last look, or 6 if that is more
abbrev pub spin_turns : (closed : Bool) → (looks m : ℕ) → ℕ
spin_turns false looks m = m + 8
spin_turns true looks m = pick (leb (m + 4 + looks) 6) 6 (m + 4 + looks)

pub data EndTurns (closed : Bool) (looks : ℕ) : Step → (turns : ℕ) → Type 0 where
  spinning : {m : ℕ} → EndTurns closed looks (Spin m) (spin_turns closed looks m)
  elsewhere : {s : Step} → ((m : ℕ) → s ≡ Spin m → ⊥) → EndTurns closed looks s 7

-- the claims, for a ring of any sizes that create accepts, either option, any start value, over any region
module _ (region : List ℕ) (power slot : ℕ) (notfull : Bool) (start : ℕ) where
  abbrev world : List Happening → World
  world hs = reached region power slot notfull start hs

  -- and whoever sleeps over room or a stop is being rung: the other stands where it will have woken it in so many turns of its own ..
  abbrev pub Oversleeps : Side → (hs : List Happening) → Type 0
  Oversleeps side hs = AllTyped hs × (AllFair side hs (opened (created region power slot notfull start)) × (((party_in (world hs) side).step ≡ Asleep)
      × ((0 < room side (capacity power) (world hs)) ⊎ ((down (world hs) || closed_bit (other side) (world hs)) ≡ true))))

  abbrev pub BeingRung : Side → Type 0
  BeingRung side = (hs : List Happening) → Oversleeps side hs → (n : ℕ) × Ringing (room side (capacity power) (world hs)) (other side) (party_in (world hs) (other side)).step n

  -- .. and when it has taken these the sleep is over, whatever else happens
  abbrev pub Rousing : Side → Type 0
  Rousing side = (hs ms : List Happening) (n : ℕ) → Oversleeps side hs → AllTyped ms → AllFair side ms (world hs)
      → Ringing (room side (capacity power) (world hs)) (other side) (party_in (world hs) (other side)).step n → n ≤ turns_by moves (other side) ms (world hs)
      → (first : List Happening) × ((rest : List Happening) × ((ms ≡ first ++ rest)
      × ((turns_by moves (other side) first (world hs) ≤ n) × ((party_in (world (hs ++ first)) side).step ≡ Asleep → ⊥))))

  -- T4, the other moving: once it has closed or anyone has shut down, a call under way has answered after a first part with
  -- at most so many turns of its own, whatever the other does, whatever wakes and bells do, and whatever it asks meanwhile
  abbrev pub EndsAmid : Side → Type 0
  EndsAmid side = (hs ms : List Happening) (n : ℕ) → AllTyped (hs ++ ms) → (down (world hs) || closed_bit (other side) (world hs)) ≡ true
      → EndTurns (closed_bit (other side) (world hs)) (pick (down (world hs)) 0 (last_looks side)) (party_in (world hs) side).step n → n ≤ turns_by moves side ms (world hs)
      → (first : List Happening) × ((rest : List Happening) × ((ms ≡ first ++ rest)
      × ((turns_by moves side first (world hs) ≤ n) × ((party_in (world (hs ++ first)) side).step ≡ Rest))))

  -- T11: wait-free. Of the notes that it has room for a willing party publishes k in 6k turns of its own, whatever the other does meanwhile
  abbrev pub WaitFree : Side → Type 0
  WaitFree side = (hs ms : List Happening) → AllTyped (hs ++ ms) → in_call (party_in (world hs) side).step ≡ true → WillingAmid side ms (world hs)
      → (k : ℕ) → k ≤ room side (capacity power) (world hs) → 6 * k ≤ turns_by moves side ms (world hs)
      → length (notes_of side (world hs).trace) + k ≤ length (notes_of side (world (hs ++ ms)).trace)

  -- .. in 6k − 1 where the other has no room, so that the ring is all its own: no check before its first store leads to a ring
  abbrev pub WaitFreeWhole : Side → Type 0
  WaitFreeWhole side = (hs ms : List Happening) → AllTyped (hs ++ ms) → in_call (party_in (world hs) side).step ≡ true → WillingAmid side ms (world hs)
      → room (other side) (capacity power) (world hs) ≡ 0 → (k : ℕ) → k ≤ room side (capacity power) (world hs) → 6 * k ≤ turns_by moves side ms (world hs) + 1
      → length (notes_of side (world hs).trace) + k ≤ length (notes_of side (world (hs ++ ms)).trace)

  -- .. and in 3k + 2 by a recorder with not-full off, which never rings
  abbrev pub WaitFreeMute : Type 0
  WaitFreeMute = (hs ms : List Happening) → AllTyped (hs ++ ms) → in_call (party_in (world hs) Recorder).step ≡ true → WillingAmid Recorder ms (world hs)
      → notfull ≡ false → (k : ℕ) → k ≤ waiting (world hs) → 3 * k + 2 ≤ turns_by moves Recorder ms (world hs)
      → length (world hs).trace.delivered + k ≤ length (world (hs ++ ms)).trace.delivered

  -- and 6k are reached: one turn fewer, and it has not published k
  abbrev pub WaitFreeTight : Side → (k : ℕ) → Type 0
  WaitFreeTight side k =
      (hs : List Happening) × ((ms : List Happening) × (AllTyped (hs ++ ms) × ((in_call (party_in (world hs) side).step ≡ true) × (WillingAmid side ms (world hs)
      × ((k ≤ room side (capacity power) (world hs)) × ((6 * k ≡ turns_by moves side ms (world hs) + 1)
      × (length (notes_of side (world (hs ++ ms)).trace) < length (notes_of side (world hs).trace) + k)))))))

  -- T12: never still. A party that presses on needs nobody: it has published once it has taken 6 turns of its own in a call, slept-through ones
  -- counted, whatever the other does ..
  abbrev pub Presses : Side → (hs : List Happening) → Type 0
  Presses side hs = (ms : List Happening) → AllTyped ms → AllFair side ms (world hs) → WillingAmid side ms (world hs)
      → 6 ≤ turns_by calling side ms (world hs) → length (notes_of side (world hs).trace) < length (notes_of side (world (hs ++ ms)).trace)

  -- .. and of two in pushes and pops, or between them, one has room and does
  abbrev pub NeverStill : Type 0
  NeverStill = (hs : List Happening) → AllTyped hs → ((side : Side) → AllFair side hs (opened (created region power slot notfull start)))
      → ((side : Side) → in_call (party_in (world hs) side).step ≡ true) → (side : Side) × ((0 < room side (capacity power) (world hs)) × Presses side hs)

  -- so where both are willing, somebody has published once each has taken 6
  abbrev pub Stirs : Type 0
  Stirs = (hs ms : List Happening) → AllTyped hs → AllTyped ms → ((side : Side) → AllFair side hs (opened (created region power slot notfull start)) × AllFair side ms (world hs))
      → ((side : Side) → (in_call (party_in (world hs) side).step ≡ true) × (WillingAmid side ms (world hs) × (6 ≤ turns_by calling side ms (world hs))))
      → length (world hs).trace.sent + length (world hs).trace.delivered < length (world (hs ++ ms)).trace.sent + length (world (hs ++ ms)).trace.delivered

  -- T13: a whole night. Where the sender has n more notes to send and k wait, after 6n + 4k + 3 rounds, and 6n + 6, all are sent and
  -- delivered, whatever the schedule
  abbrev pub WholeNight : Type 0
  WholeNight = (hs : List Happening) → AllTyped hs → ((side : Side) → AllFair side hs (opened (created region power slot notfull start)))
      → ((side : Side) → in_call (party_in (world hs) side).step ≡ true)
      → (n : ℕ) (rounds : List (List Happening)) → Rounds (length (world hs).trace.sent + n) rounds (world hs)
      → length (played_out rounds (world hs)).trace.sent ≤ length (world hs).trace.sent + n
      → 6 * n + 6 ≤ length rounds → 6 * n + 4 * waiting (world hs) + 3 ≤ length rounds
      → (length (played_out rounds (world hs)).trace.sent ≡ length (world hs).trace.sent + n)
      × ((played_out rounds (world hs)).trace.delivered ≡ (played_out rounds (world hs)).trace.sent)

  -- and that is reached: with none to send, one round fewer, and a note is left
  abbrev pub NightTight : Type 0
  NightTight =
      (hs : List Happening) × ((rounds : List (List Happening)) × ((AllTyped hs × (((side : Side) → AllFair side hs (opened (created region power slot notfull start))) × ((side : Side) → in_call (party_in (world hs) side).step ≡ true)))
      × (Rounds (length (world hs).trace.sent) rounds (world hs)
      × ((4 * waiting (world hs) + 2 ≡ length rounds) × (waiting (played_out rounds (world hs)) ≡ 1)))))
