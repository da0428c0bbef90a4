use native.Mathlib.Omega.{arith}
use Rattle.layout.proofs.SizeLaws.{ring-room}
use Rattle.sizes.proofs.total_bytes.Goals as goal

pub overflow_add-result : goal.overflow_add-result
overflow_add-result c = omega (arith, ring-room c.args.power c.args.slot)
