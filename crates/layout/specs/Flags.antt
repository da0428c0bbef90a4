-- The flag bits, each by its worth, and what a flags word says.
use Rattle.std.specs.Prelude.{Bool, ℕ, ◌+◌, ◌/◌, ◌%◌, eqb}
use Rattle.types.specs.Pick.{pick}
use Rattle.types.specs.declared.Side.{Side}
use Rattle.types.specs.declared.Side.TheVariants.{Sender, Recorder}
use Rattle.types.specs.declared.Mark.{Mark}
use Rattle.types.specs.declared.Mark.TheVariants.{SenderAttached, RecorderAttached, SenderClosed, RecorderClosed, Shutdown}

-- bit 0
abbrev pub initialised : ℕ
initialised = 0x01

-- bits 1 to 5
abbrev pub worth : Mark → ℕ
worth SenderAttached = 0x02
worth RecorderAttached = 0x04
worth SenderClosed = 0x08
worth RecorderClosed = 0x10
worth Shutdown = 0x20

-- bit 6
abbrev pub not_full_on : ℕ
not_full_on = 0x40

-- the bits from 7 on are zero
abbrev pub reserved_from : ℕ
reserved_from = 0x80

-- the bit of that worth is set
abbrev pub bit_on : ℕ → ℕ → Bool
bit_on bit flags = eqb (flags / bit % 2) 1

-- the flags with that bit set
abbrev pub set_bit : ℕ → ℕ → ℕ
set_bit bit flags = pick (bit_on bit flags) flags (flags + bit)

abbrev pub attach_mark : Side → Mark
attach_mark Sender = SenderAttached
attach_mark Recorder = RecorderAttached

abbrev pub close_mark : Side → Mark
close_mark Sender = SenderClosed
close_mark Recorder = RecorderClosed
