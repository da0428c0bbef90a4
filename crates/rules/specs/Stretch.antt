-- A stretch of one party's own doings: its turns counted, its will, and what it has published.
use Rattle.std.specs.Prelude.{◌≡◌, Bool, true, false, ◌&&◌, List, [], ◌∷◌, ◌++◌, ℕ, zero, suc, ◌+◌, ◌^◌, ◌<◌, ◌≤◌, length, None, Some}
use Rattle.types.specs.Pick.{pick}
use Rattle.types.specs.declared.Side.{Side}
use Rattle.types.specs.declared.Side.TheVariants.{Sender, Recorder}
use Rattle.types.specs.Faults.{Fault}
use Rattle.types.specs.declared.Step.{Step}
use Rattle.types.specs.declared.Step.TheVariants.{Copy}
use Rattle.types.specs.declared.Stance.{Stance}
use Rattle.types.specs.declared.Stance.TheVariants.{Resting, Sleeping, Copying, Publishing, Closing, Moving}
use Rattle.types.specs.declared.Event.TheVariants.{Turn, Failing, Spurious, TimeOut, Push, Pop, Close, Shutdown}
use Rattle.rules.specs.Sides.{other}
use Rattle.rules.specs.Phase.{Phase, resting, looking, copying, publishing, telling, asking, armed, poised, waits, sleeps, glancing, leaving, phase}
use Rattle.rules.specs.Take.{stance_of}
use Rattle.rules.specs.Premises.{rung}
use Rattle.rules.specs.Run.{Note, Trace, World, Happening, attaches, plays, party_in, takes, happens}

-- Document 01 counts a turn where it answers neither 20 nor 253; a begin is no turn
abbrev pub moves : Stance → Bool
moves Resting = false
moves Sleeping = false
moves Copying = true
moves Publishing = true
moves Closing = true
moves Moving = true

-- and a sleeper's turns with them, which answer 253: a party that sleeps over its room must not pass for one that gets it
abbrev pub calling : Stance → Bool
calling Resting = false
calling Sleeping = true
calling Copying = true
calling Publishing = true
calling Closing = true
calling Moving = true

module _ (counted : Stance → Bool) where
  abbrev pub counts_by : World → Side → (payload lent : List ℕ) → Fault → ℕ
  counts_by w side payload lent fault = pick (takes w side payload lent fault && counted (stance_of (party_in w side).step)) 1 0

  abbrev pub tick_by : Happening → World → ℕ
  tick_by (attaches other spins) w = 0
  tick_by (plays (Turn mover) payload lent) w = counts_by w mover payload lent None
  tick_by (plays (Failing mover error) payload lent) w = counts_by w mover payload lent (Some error)
  tick_by (plays (Spurious mover) payload lent) w = 0
  tick_by (plays (TimeOut mover) payload lent) w = 0
  tick_by (plays (Push blocking tag length) payload lent) w = 0
  tick_by (plays (Pop blocking length) payload lent) w = 0
  tick_by (plays (Close mover) payload lent) w = 0
  tick_by (plays (Shutdown mover) payload lent) w = 0

  abbrev pub ticks_by : List Happening → World → ℕ
  ticks_by [] w = 0
  ticks_by (h ∷ hs) w = tick_by h w + ticks_by hs (happens h w)

-- document 01's turns
abbrev pub ticks : List Happening → World → ℕ
ticks = ticks_by moves

-- a party's turns in a call, asleep or not
abbrev pub beats : List Happening → World → ℕ
beats = ticks_by calling

-- what a party does itself
abbrev pub OwnDoing : Side → Happening → Type 0
OwnDoing side (attaches other spins) = ⊥
OwnDoing side (plays (Turn mover) payload lent) = mover ≡ side
OwnDoing side (plays (Failing mover error) payload lent) = mover ≡ side
OwnDoing side (plays (Spurious mover) payload lent) = mover ≡ side
OwnDoing side (plays (TimeOut mover) payload lent) = mover ≡ side
OwnDoing side (plays (Push blocking tag length) payload lent) = side ≡ Sender
OwnDoing side (plays (Pop blocking length) payload lent) = side ≡ Recorder
OwnDoing side (plays (Close mover) payload lent) = mover ≡ side
OwnDoing side (plays (Shutdown mover) payload lent) = mover ≡ side

abbrev pub AllOwn : Side → List Happening → Type 0
AllOwn side [] = Unit
AllOwn side (h ∷ hs) = OwnDoing side h × AllOwn side hs

-- big enough: a pop's copy is named a buffer at least as long as the note that it comes to
abbrev pub Big : Side → World → Type 0
Big Sender w = Unit
Big Recorder w =
    (party_in w Recorder).step ≡ Copy → (n : Note) (rest : List Note) → w.trace.sent ≡ w.trace.delivered ++ (n ∷ rest) → length n.body ≤ (party_in w Recorder).length

-- the party neither closes nor shuts down, and each pop's buffer is big enough; it may try or block, its waits may fail, and
-- what answers 20 or 253 may fall in between
abbrev pub Wills : Side → Happening → World → Type 0
Wills side (attaches other spins) w = ⊥
Wills side (plays (Turn mover) payload lent) w = (mover ≡ side) × Big side w
Wills side (plays (Failing mover error) payload lent) w = (mover ≡ side) × Big side w
Wills side (plays (Spurious mover) payload lent) w = mover ≡ side
Wills side (plays (TimeOut mover) payload lent) w = mover ≡ side
Wills side (plays (Push blocking tag length) payload lent) w = side ≡ Sender
Wills side (plays (Pop blocking length) payload lent) w = side ≡ Recorder
Wills side (plays (Close mover) payload lent) w = ⊥
Wills side (plays (Shutdown mover) payload lent) w = ⊥

abbrev pub Willing : Side → List Happening → World → Type 0
Willing side [] w = Unit
Willing side (h ∷ hs) w = Wills side h w × Willing side hs (happens h w)

-- a party in a push or a pop, or between calls
abbrev pub in_call_at : Phase → Bool
in_call_at resting = true
in_call_at looking = true
in_call_at copying = true
in_call_at (publishing l t) = true
in_call_at (telling l t) = true
in_call_at asking = true
in_call_at (armed e) = true
in_call_at (poised e) = true
in_call_at (waits e) = true
in_call_at sleeps = true
in_call_at glancing = true
in_call_at leaving = false

abbrev pub in_call : Step → Bool
in_call s = in_call_at (phase s)

-- the notes that a side has published
abbrev pub notes_of : Side → Trace → List Note
notes_of Sender t = t.sent
notes_of Recorder t = t.delivered

-- a pop that has yet to copy, and a party that holds an epoch
abbrev pub before_copy_at : Phase → Bool
before_copy_at resting = false
before_copy_at looking = true
before_copy_at copying = true
before_copy_at (publishing l t) = false
before_copy_at (telling l t) = false
before_copy_at asking = true
before_copy_at (armed e) = true
before_copy_at (poised e) = true
before_copy_at (waits e) = true
before_copy_at sleeps = true
before_copy_at glancing = true
before_copy_at leaving = false

abbrev pub before_copy : Step → Bool
before_copy s = before_copy_at (phase s)

abbrev pub holds_epoch_at : Phase → Bool
holds_epoch_at resting = false
holds_epoch_at looking = false
holds_epoch_at copying = false
holds_epoch_at (publishing l t) = false
holds_epoch_at (telling l t) = false
holds_epoch_at asking = false
holds_epoch_at (armed e) = true
holds_epoch_at (poised e) = true
holds_epoch_at (waits e) = true
holds_epoch_at sleeps = false
holds_epoch_at glancing = false
holds_epoch_at leaving = false

abbrev pub holds_epoch : Step → Bool
holds_epoch s = holds_epoch_at (phase s)

-- the call under way meets the premises: its buffer is big enough for the note that it will come to, and its bell has not
-- come round
abbrev pub Underway : Side → World → Type 0
Underway Sender w = holds_epoch (party_in w Sender).step ≡ true → rung Sender w < 2 ^ 32
Underway Recorder w =
    (holds_epoch (party_in w Recorder).step ≡ true → rung Recorder w < 2 ^ 32)
    × (before_copy (party_in w Recorder).step ≡ true → (n : Note) (rest : List Note) → w.trace.sent ≡ w.trace.delivered ++ (n ∷ rest) → length n.body ≤ (party_in w Recorder).length)

-- a step of a blocking call that finds no room, short of its last look
abbrev pub in_wait_at : Phase → Bool
in_wait_at resting = false
in_wait_at looking = true
in_wait_at copying = false
in_wait_at (publishing l t) = false
in_wait_at (telling l t) = false
in_wait_at asking = true
in_wait_at (armed e) = true
in_wait_at (poised e) = true
in_wait_at (waits e) = true
in_wait_at sleeps = true
in_wait_at glancing = false
in_wait_at leaving = false

abbrev pub in_wait : Step → Bool
in_wait s = in_wait_at (phase s)

-- turns of its own, none of which fails
abbrev pub Turns : Side → List Happening → Type 0
Turns side [] = Unit
Turns side (attaches other spins ∷ hs) = ⊥
Turns side (plays (Turn mover) payload lent ∷ hs) = (mover ≡ side) × Turns side hs
Turns side (plays (Failing mover error) payload lent ∷ hs) = ⊥
Turns side (plays (Spurious mover) payload lent ∷ hs) = ⊥
Turns side (plays (TimeOut mover) payload lent ∷ hs) = ⊥
Turns side (plays (Push blocking tag length) payload lent ∷ hs) = ⊥
Turns side (plays (Pop blocking length) payload lent ∷ hs) = ⊥
Turns side (plays (Close mover) payload lent ∷ hs) = ⊥
Turns side (plays (Shutdown mover) payload lent ∷ hs) = ⊥

-- beyond 4 turns a note: by the other's room. 3 where it has none, 2 where it has one, else 1
abbrev pub slack : (theirs : ℕ) → ℕ
slack zero = 3
slack (suc zero) = 2
slack (suc (suc x)) = 1
