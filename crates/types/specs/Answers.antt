-- Document 01's table of answers: the number of each, and the values that it carries.
use Rattle.std.specs.Prelude.{Bool, List, [], ◌∷◌, ℕ}
use Rattle.types.specs.Pick.{pick}
use Rattle.types.specs.declared.Told.{Told}
use Rattle.types.specs.declared.Answer.{Answer}
use Rattle.types.specs.declared.Answer.TheVariants.{Done, InvalidMagic, UnsupportedVersion, InvalidHeaderSize, InvalidLayout, InvalidCapacity, InvalidSlotSize, CorruptIndices, CorruptSlot, Full, Empty, Closed, Shutdown, Timeout, WouldBlock, OutputTooSmall, AlreadyAttached, Syscall, PayloadTooLong, NotFullOff, BadCall, Nothing, Begun, GoesOn}

-- a number that carries nothing
abbrev pub bare : ℕ → Told
bare n = record { number = n; tag = 0; length = 0; error = 0 }

abbrev pub told_of : Answer → Told
told_of (Done length tag) = record { number = 0; tag = tag; length = length; error = 0 }
told_of InvalidMagic = bare 1
told_of UnsupportedVersion = bare 2
told_of InvalidHeaderSize = bare 3
told_of InvalidLayout = bare 4
told_of InvalidCapacity = bare 5
told_of InvalidSlotSize = bare 6
told_of CorruptIndices = bare 7
told_of CorruptSlot = bare 8
told_of Full = bare 9
told_of Empty = bare 10
told_of Closed = bare 11
told_of Shutdown = bare 12
told_of Timeout = bare 13
told_of WouldBlock = bare 14
told_of (OutputTooSmall length) = record { number = 15; tag = 0; length = length; error = 0 }
told_of AlreadyAttached = bare 16
told_of (Syscall operation error) = record { number = 17; tag = operation; length = 0; error = error }
told_of PayloadTooLong = bare 18
told_of NotFullOff = bare 19
told_of BadCall = bare 20
told_of Nothing = bare 253
told_of Begun = bare 254
told_of GoesOn = bare 255

abbrev pub number : Answer → ℕ
number a = (told_of a).number

-- a test that must hold, and the refusal where it does not
pub data Test : Type 0 where
  test : Bool → Answer → Test

-- the refusal of the first test that fails, or Done
abbrev pub first_of : List Test → Answer
first_of [] = Done 0 0
first_of (test b a ∷ cs) = pick b (first_of cs) a
