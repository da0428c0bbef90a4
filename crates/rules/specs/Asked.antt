-- What a side's call was asked for, by the entries of the run: kept for the statements of `Meaning`. `Grounds` takes `lent_of` alone.
use Rattle.std.specs.Prelude.{◌≡◌, Bool, true, false, ◌&&◌, ◌||◌, List, [], ◌∷◌, ◌++◌, ℕ, eqb, None, Some}
use Rattle.types.specs.Pick.{pick}
use Rattle.types.specs.Answers.{number}
use Rattle.types.specs.declared.Side.{Side}
use Rattle.types.specs.declared.Side.TheVariants.{Sender, Recorder}
use Rattle.types.specs.declared.Mark.{Mark}
use Rattle.types.specs.declared.Mark.TheVariants.{Shutdown as ShutMark}
use Rattle.types.specs.declared.Stance.{Stance}
use Rattle.types.specs.declared.Stance.TheVariants.{Resting, Sleeping, Copying, Publishing, Closing, Moving}
use Rattle.types.specs.declared.Answer.{Answer}
use Rattle.types.specs.Faults.{Fault}
use Rattle.types.specs.declared.Event.TheVariants.{Turn, Failing, Spurious, TimeOut, Push, Pop, Close, Shutdown}
use Rattle.layout.specs.Flags.{worth, close_mark}
use Rattle.rules.specs.Sides.{same_side}
use Rattle.rules.specs.Take.{stance_of}
use Rattle.rules.specs.Phase.{Phase, resting, looking, copying, publishing, telling, asking, armed, poised, waits, sleeps, glancing, leaving, phase}
use Rattle.rules.specs.Calls.{is_sleeping, push_spec, pop_spec, close_spec, shut_spec}
use Rattle.rules.specs.Run.{Note, World, Happening, attaches, plays, party_in, takes, happens}
use Rattle.rules.specs.Stretch.{notes_of}

-- the push or pop of a side that was begun last: what it named, what the side had published by then, and what its copy turns were
-- lent; and whether it is the side's last call, and no close or shutdown was begun since
pub record Call : Type 0 where
  pub last : Bool
  pub blocking : Bool
  pub tag : ℕ
  pub length : ℕ
  pub before : List Note
  pub copied : List (List ℕ)

abbrev pub no_call : Call
no_call = record { last = false; blocking = false; tag = 0; length = 0; before = []; copied = [] }

abbrev pub copy_of : List ℕ → Call → Call
copy_of lent c = record { last = c.last; blocking = c.blocking; tag = c.tag; length = c.length; before = c.before; copied = c.copied ++ (lent ∷ []) }

abbrev pub superseded : Call → Call
superseded c = record { last = false; blocking = c.blocking; tag = c.tag; length = c.length; before = c.before; copied = c.copied }

-- 254
abbrev pub begun : Answer → Bool
begun a = eqb (number a) 254

-- what a turn of a side is lent: a push's payload, a pop's buffer
abbrev pub lent_of : Side → (payload buffer : List ℕ) → List ℕ
lent_of Sender payload buffer = payload
lent_of Recorder payload buffer = buffer

abbrev pub at_copy : Stance → Bool
at_copy Resting = false
at_copy Sleeping = false
at_copy Copying = true
at_copy Publishing = false
at_copy Closing = false
at_copy Moving = false

abbrev pub turn_call : Side → World → (mover : Side) → (payload buffer : List ℕ) → Fault → Call → Call
turn_call side w mover payload buffer fault c =
    pick (same_side side mover && (takes w mover payload buffer fault && at_copy (stance_of (party_in w mover).step))) (copy_of (lent_of mover payload buffer) c) c

abbrev pub call_after : Side → Happening → World → Call → Call
call_after side (attaches mover spins) w c = c
call_after side (plays (Turn mover) payload buffer) w c = turn_call side w mover payload buffer None c
call_after side (plays (Failing mover error) payload buffer) w c = turn_call side w mover payload buffer (Some error) c
call_after side (plays (Spurious mover) payload buffer) w c = c
call_after side (plays (TimeOut mover) payload buffer) w c = c
call_after side (plays (Push blocking tag length) payload buffer) w c =
    pick (same_side side Sender && begun (push_spec (party_in w Sender) blocking tag length).answer)
    (record { last = true; blocking = blocking; tag = tag; length = length; before = notes_of Sender w.trace; copied = [] })
    c
call_after side (plays (Pop blocking length) payload buffer) w c =
    pick (same_side side Recorder && begun (pop_spec (party_in w Recorder) blocking length).answer)
    (record { last = true; blocking = blocking; tag = 0; length = length; before = notes_of Recorder w.trace; copied = [] })
    c
call_after side (plays (Close mover) payload buffer) w c = pick (same_side side mover && begun (close_spec mover (party_in w mover)).answer) (superseded c) c
call_after side (plays (Shutdown mover) payload buffer) w c = pick (same_side side mover && begun (shut_spec mover (party_in w mover)).answer) (superseded c) c

abbrev pub call_by : Side → List Happening → World → Call → Call
call_by side [] w c = c
call_by side (h ∷ hs) w c = call_by side hs (happens h w) (call_after side h w c)

-- a note is what its push named and what its one copy was lent; what a pop delivers is said by T1
abbrev pub AsNamed : Side → Call → Note → Type 0
AsNamed Sender c n = (n.tag ≡ c.tag) × (c.copied ≡ n.body ∷ [])
AsNamed Recorder c n = Unit

-- a close or a shutdown that is begun, which sets that bit in the end; and whether the run has one
abbrev pub asks_for : Mark → Happening → World → Bool
asks_for m (attaches mover spins) w = false
asks_for m (plays (Turn mover) payload buffer) w = false
asks_for m (plays (Failing mover error) payload buffer) w = false
asks_for m (plays (Spurious mover) payload buffer) w = false
asks_for m (plays (TimeOut mover) payload buffer) w = false
asks_for m (plays (Push blocking tag length) payload buffer) w = false
asks_for m (plays (Pop blocking length) payload buffer) w = false
asks_for m (plays (Close mover) payload buffer) w = eqb (worth m) (worth (close_mark mover)) && begun (close_spec mover (party_in w mover)).answer
asks_for m (plays (Shutdown mover) payload buffer) w = eqb (worth m) (worth ShutMark) && begun (shut_spec mover (party_in w mover)).answer

abbrev pub ever_asks : Mark → List Happening → World → Bool
ever_asks m [] w = false
ever_asks m (h ∷ hs) w = asks_for m h w || ever_asks m hs (happens h w)

-- whether a time-out has come to the side's call since it was begun: to a sleeper, or as error 110 of its wait
abbrev pub at_wait : Phase → Bool
at_wait resting = false
at_wait looking = false
at_wait copying = false
at_wait (publishing l t) = false
at_wait (telling l t) = false
at_wait asking = false
at_wait (armed e) = false
at_wait (poised e) = false
at_wait (waits e) = true
at_wait sleeps = false
at_wait glancing = false
at_wait leaving = false

abbrev pub timed_after : Side → Happening → World → Bool → Bool
timed_after side (attaches mover spins) w b = b
timed_after side (plays (Turn mover) payload buffer) w b = b
timed_after side (plays (Failing mover error) payload buffer) w b =
    (same_side side mover && (takes w mover payload buffer (Some error) && (at_wait (phase (party_in w mover).step) && eqb error 110))) || b
timed_after side (plays (Spurious mover) payload buffer) w b = b
timed_after side (plays (TimeOut mover) payload buffer) w b = (same_side side mover && is_sleeping (stance_of (party_in w mover).step)) || b
timed_after side (plays (Push blocking tag length) payload buffer) w b = pick (same_side side Sender && begun (push_spec (party_in w Sender) blocking tag length).answer) false b
timed_after side (plays (Pop blocking length) payload buffer) w b = pick (same_side side Recorder && begun (pop_spec (party_in w Recorder) blocking length).answer) false b
timed_after side (plays (Close mover) payload buffer) w b = b
timed_after side (plays (Shutdown mover) payload buffer) w b = b

abbrev pub timed_by : Side → List Happening → World → Bool → Bool
timed_by side [] w b = b
timed_by side (h ∷ hs) w b = timed_by side hs (happens h w) (timed_after side h w b)
