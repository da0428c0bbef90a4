use native.Mathlib.Omega.{arith}
use Rattle.layout.proofs.SizeLaws.{capacity-least, place-room}
use Rattle.sizes.proofs.slot_at.Goals as goal

pub nonzero_rem-place : goal.nonzero_rem-place
nonzero_rem-place c = omega (arith, c.capacity.ensures, capacity-least c.args.power c.requires)

pub overflow_mul-result : goal.overflow_mul-result
overflow_mul-result c = rw (c.capacity.ensures, c.from.ensures) (omega (arith, place-room c.args.power c.requires c.args.slot c.args.count))

pub overflow_add-result : goal.overflow_add-result
overflow_add-result c = rw (c.capacity.ensures, c.from.ensures) (omega (arith, place-room c.args.power c.requires c.args.slot c.args.count))
