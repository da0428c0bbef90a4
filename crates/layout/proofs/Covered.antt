-- Every header byte lies in the magic, in one field or in one reserved run, and in no two of them.
use mathlib.Core.Path.{◌≡◌, refl}
use mathlib.Core.Bool.{true}
use Prim.Native.Nat.{ℕ, ◌<◌}
use lib.Dec.{eqb}
use Rattle.std.proofs.lemmas.Bool.{eqb-true, agree_below_at}
use Rattle.layout.specs.Limits.{header_bytes}
pub use Rattle.layout.specs.Whole.{run_of, holders, everything}
use Rattle.layout.specs.Whole.{Covered}

pub covered : (k : ℕ) → k < header_bytes → holders k everything ≡ 1
covered k h = eqb-true (holders k everything) 1 (agree_below_at (λ j. eqb (holders j everything) 1) (λ j. true) header_bytes k refl h)

pub owned-once : Covered
owned-once = covered
