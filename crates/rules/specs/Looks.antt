-- What a value that a turn loaded says to a party.
use Rattle.std.specs.Prelude.{Bool, ◌||◌, ℕ, ◌/◌, ltb, eqb}
use Rattle.words.specs.Wrap.{minus}
use Rattle.types.specs.Pick.{pick}
use Rattle.types.specs.declared.Side.{Side}
use Rattle.types.specs.declared.Side.TheVariants.{Sender, Recorder}
use Rattle.types.specs.declared.Mark.TheVariants.{Shutdown}
use Rattle.types.specs.declared.Own.{Own}
use Rattle.types.specs.declared.Room.{Room}
use Rattle.types.specs.declared.Room.TheVariants.{Corrupt, Blocked, Free}
use Rattle.types.specs.declared.Door.{Door}
use Rattle.types.specs.declared.Door.TheVariants.{Shut, Left, Open}
use Rattle.types.specs.declared.Fit.{Fit}
use Rattle.types.specs.declared.Fit.TheVariants.{Bad, Small, Fits}
use Rattle.types.specs.declared.Nap.{Nap}
use Rattle.types.specs.declared.Nap.TheVariants.{Sleeps, Returns, TimedOut, Fails}
use Rattle.types.specs.declared.SlotHead.{SlotHead}
use Rattle.layout.specs.Limits.{capacity}
use Rattle.layout.specs.Flags.{worth, bit_on, close_mark}
use Rattle.rules.specs.Sides.{other, used, limit}

-- P1, C1, a spin, B3, W3, B6, W6: the other side's counter
abbrev pub room_with : (used capacity limit : ℕ) → Room
room_with used capacity limit = pick (ltb capacity used) Corrupt (pick (eqb used limit) Blocked Free)

unfoldable pub room_of : Side → (capacity own their : ℕ) → Room
room_of side capacity own their = room_with (used side own their) capacity (limit side capacity)

-- by a party's own copy of the sizes
abbrev pub room_here : Own → (counter their : ℕ) → Room
room_here own counter their = room_of own.side (capacity own.power) counter their

-- P4: tail equals old h. C4: head − old t equals capacity. The own counter has moved on by then
unfoldable pub was_blocked : Side → (capacity own their : ℕ) → Bool
was_blocked Sender capacity own their = eqb their (minus 64 own 1)
was_blocked Recorder capacity own their = eqb (minus 64 their (minus 64 own 1)) capacity

-- B1, B4, W1, W4: shutdown before the other's close
unfoldable pub door_of : Side → (flags : ℕ) → Door
door_of side flags =
    pick (bit_on (worth Shutdown) flags) Shut (pick (bit_on (worth (close_mark (other side))) flags) Left Open)

-- C2, 8: the length above the payload capacity, slot flags 1 to 15 not zero (flag 0 may be set), or the zero word not zero
abbrev pub head_bad : SlotHead → (payload_capacity : ℕ) → Bool
head_bad head payload_capacity = ltb payload_capacity head.length || (ltb 0 (head.flags / 2) || ltb 0 head.zero)

-- 8 before 15
unfoldable pub fit_of : SlotHead → (payload_capacity buffer : ℕ) → Fit
fit_of head payload_capacity buffer = pick (head_bad head payload_capacity) Bad (pick (ltb buffer head.length) Small Fits)

-- B5, W5: the announced error (0: none), and whether the bell reads the epoch
unfoldable pub nap_of : (error : ℕ) → (same : Bool) → Nap
nap_of error same =
    pick (eqb error 0) (pick same Sleeps Returns)
    (pick (eqb error 4 || eqb error 11) Returns (pick (eqb error 110) TimedOut Fails))
