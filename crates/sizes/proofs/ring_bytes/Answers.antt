use native.Mathlib.Omega.{arith}
use Rattle.layout.specs.Limits.{ring_bytes}
use Rattle.layout.proofs.SizeLaws.{ring-room}
use Rattle.sizes.proofs.ring_bytes.Goals as goal

pub overflow_mul-result : goal.overflow_mul-result
unfolding ring_bytes
overflow_mul-result c = rw (c.capacity.ensures, c.from.ensures) (omega (arith, ring-room c.args.power c.args.slot))
