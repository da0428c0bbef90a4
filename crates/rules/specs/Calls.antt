-- Begins, and what comes to a sleeper. Each is asked of a side, and the other side's record counts as not attached.
use Rattle.std.specs.Prelude.{Bool, true, false, ◌&&◌, not, ℕ, leb}
use Rattle.types.specs.Pick.{pick}
use Rattle.types.specs.declared.Side.{Side}
use Rattle.types.specs.declared.Side.TheVariants.{Sender, Recorder}
use Rattle.types.specs.declared.Party.{Party}
use Rattle.types.specs.declared.Reply.{Reply}
use Rattle.types.specs.declared.Step.{Step}
use Rattle.types.specs.declared.Step.TheVariants.{Look, LastLook, CloseSet, ShutSet}
use Rattle.types.specs.declared.Stance.{Stance}
use Rattle.types.specs.declared.Stance.TheVariants.{Resting, Sleeping, Copying, Publishing, Closing, Moving}
use Rattle.types.specs.declared.Answer.{Answer}
use Rattle.types.specs.declared.Answer.TheVariants.{GoesOn, Closed, Nothing, Begun, PayloadTooLong, NotFullOff, BadCall}
use Rattle.layout.specs.Limits.{power_ok, slot_ok, spins_ok, payload_capacity}
use Rattle.rules.specs.Sides.{same_side}
use Rattle.rules.specs.Take.{stance_of}

abbrev pub is_resting : Stance → Bool
is_resting Resting = true
is_resting Sleeping = false
is_resting Copying = false
is_resting Publishing = false
is_resting Closing = false
is_resting Moving = false

abbrev pub is_sleeping : Stance → Bool
is_sleeping Resting = false
is_sleeping Sleeping = true
is_sleeping Copying = false
is_sleeping Publishing = false
is_sleeping Closing = false
is_sleeping Moving = false

-- a push's length is within the payload capacity; a pop may name any length
abbrev pub length_ok : Side → (length slot : ℕ) → Bool
length_ok Sender length slot = leb length (payload_capacity slot)
length_ok Recorder length slot = true

-- 20's grounds that lie in the record
unfoldable pub sound : Side → Party → Bool
sound side p =
    p.own.attached
    && (same_side side p.own.side
    && (power_ok p.own.power && (slot_ok p.own.slot && (spins_ok p.own.spins && length_ok side p.length p.own.slot))))

-- and at a begin that a call runs
unfoldable pub ready : Side → Party → Bool
ready side p = sound side p && is_resting (stance_of p.step)

abbrev pub reply : Party → Answer → Reply
reply p a = record { party = p; answer = a }

-- the party at another step, and with what a call names
abbrev pub at : Step → Party → Party
at s p = record { own = p.own; closed = p.closed; counter = p.counter; blocking = p.blocking; tag = p.tag; length = p.length; step = s }

abbrev pub named : (blocking : Bool) → (tag length : ℕ) → Party → Party
named blocking tag length p = record { own = p.own; closed = p.closed; counter = p.counter; blocking = blocking; tag = tag; length = length; step = Look }

-- the order of a begin: 20, 11, 19, 18; a refusal leaves the record
abbrev pub begins : Party → (goes closed off long : Bool) → (begun : Party) → Reply
begins p goes closed off long begun =
    pick goes
    (pick closed (reply p Closed) (pick off (reply p NotFullOff) (pick long (reply p PayloadTooLong) (reply begun Begun))))
    (reply p BadCall)

unfoldable pub push_spec : Party → (blocking : Bool) → (tag length : ℕ) → Reply
push_spec p blocking tag length =
    begins p (ready Sender p) p.closed (blocking && not p.own.notfull) (not (leb length (payload_capacity p.own.slot))) (named blocking tag length p)

unfoldable pub pop_spec : Party → (blocking : Bool) → (length : ℕ) → Reply
pop_spec p blocking length = begins p (ready Recorder p) p.closed false false (named blocking 0 length p)

unfoldable pub close_spec : Side → Party → Reply
close_spec side p = begins p (ready side p) p.closed false false (at CloseSet p)

-- a shutdown may be begun after one's own close
unfoldable pub shut_spec : Side → Party → Reply
shut_spec side p = begins p (ready side p) false false false (at (ShutSet false) p)

-- 20 before 253
abbrev pub rouses : Party → (goes asleep : Bool) → (roused : Reply) → Reply
rouses p goes asleep roused = pick goes (pick asleep roused (reply p Nothing)) (reply p BadCall)

unfoldable pub spurious_spec : Side → Party → Reply
spurious_spec side p = rouses p (sound side p) (is_sleeping (stance_of p.step)) (reply (at Look p) GoesOn)

-- a time-out leads to the last look
unfoldable pub timeout_spec : Side → Party → Reply
timeout_spec side p = rouses p (sound side p) (is_sleeping (stance_of p.step)) (reply (at (LastLook true) p) GoesOn)
