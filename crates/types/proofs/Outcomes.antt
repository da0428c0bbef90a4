-- No two outcomes have one answer.
use Rattle.std.proofs.Common.{◌≡◌, refl, sym, ap, ◌∙◌}
use Rattle.std.specs.Prelude.{Result, Ok, Err}
use Rattle.types.specs.declared.Answer.{Answer}
use Rattle.types.specs.declared.Answer.TheVariants as answer
use Rattle.types.specs.declared.Refusal.{Refusal}
use Rattle.types.specs.declared.Refusal.TheVariants as refusal
use Rattle.types.specs.Refusals.{answered}

abbrev outcome : Answer → Result (Unit {0}) Refusal
outcome answer.InvalidMagic = Err refusal.InvalidMagic
outcome answer.UnsupportedVersion = Err refusal.UnsupportedVersion
outcome answer.InvalidHeaderSize = Err refusal.InvalidHeaderSize
outcome answer.InvalidLayout = Err refusal.InvalidLayout
outcome answer.InvalidCapacity = Err refusal.InvalidCapacity
outcome answer.InvalidSlotSize = Err refusal.InvalidSlotSize
outcome answer.WouldBlock = Err refusal.WouldBlock
outcome answer.AlreadyAttached = Err refusal.AlreadyAttached
outcome answer.BadCall = Err refusal.BadCall
outcome a = Ok tt

known : (r : Result (Unit {0}) Refusal) → outcome (answered r) ≡ r
known (Ok done) = refl
known (Err refusal.InvalidMagic) = refl
known (Err refusal.UnsupportedVersion) = refl
known (Err refusal.InvalidHeaderSize) = refl
known (Err refusal.InvalidLayout) = refl
known (Err refusal.InvalidCapacity) = refl
known (Err refusal.InvalidSlotSize) = refl
known (Err refusal.WouldBlock) = refl
known (Err refusal.AlreadyAttached) = refl
known (Err refusal.BadCall) = refl

pub answered-one : (r s : Result (Unit {0}) Refusal) → answered r ≡ answered s → r ≡ s
answered-one r s e = sym (known r) ∙ ap outcome e ∙ known s
