-- Why a region is not created, or not joined, as an answer; and a call that is either done or refused.
use Rattle.std.specs.Prelude.{Result, Ok, Err}
use Rattle.types.specs.declared.Answer.{Answer}
use Rattle.types.specs.declared.Answer.TheVariants as answer
use Rattle.types.specs.declared.Refusal.{Refusal}
use Rattle.types.specs.declared.Refusal.TheVariants as refusal

abbrev pub refused_with : Refusal → Answer
refused_with refusal.InvalidMagic = answer.InvalidMagic
refused_with refusal.UnsupportedVersion = answer.UnsupportedVersion
refused_with refusal.InvalidHeaderSize = answer.InvalidHeaderSize
refused_with refusal.InvalidLayout = answer.InvalidLayout
refused_with refusal.InvalidCapacity = answer.InvalidCapacity
refused_with refusal.InvalidSlotSize = answer.InvalidSlotSize
refused_with refusal.WouldBlock = answer.WouldBlock
refused_with refusal.AlreadyAttached = answer.AlreadyAttached
refused_with refusal.BadCall = answer.BadCall

-- done, with no values, or refused
abbrev pub answered : Result (Unit {0}) Refusal → Answer
answered (Ok done) = answer.Done 0 0
answered (Err r) = refused_with r
