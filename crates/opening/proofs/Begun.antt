-- The region that a script is played on: created, and joined by both sides.
use Rattle.std.proofs.Common.{◌≡◌, true, replicate, refl}
use Rattle.types.specs.declared.Answer.TheVariants.{Done}
use Rattle.layout.specs.Limits.{power_ok, slot_ok, capacity, ring_bytes, total_bytes}
use Rattle.layout.specs.Create.{create_answer, create_leaves}
use Rattle.opening.specs.Night.{power, slot, made_region}

fits : create_answer 512 power slot ≡ Done 0 0
unfolding create_answer power_ok slot_ok capacity ring_bytes total_bytes
fits = refl

pub total : total_bytes power slot ≡ 512
unfolding total_bytes ring_bytes capacity
total = refl

-- zeros all over, created
pub made : create_leaves (replicate 512 0) power slot true 0 ≡ made_region
unfolding create_leaves
made = rw (total, fits)
