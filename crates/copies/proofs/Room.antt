-- What a party's own sizes have room for: the slots in the region, a header in a slot.
use Prim.Native.Nat.{ℕ, ◌+◌, ◌≤◌}
use native.Mathlib.Omega.{arith}
use Rattle.types.specs.declared.Own.{Own}
use Rattle.layout.specs.Limits.{slot_head_bytes}
use Rattle.layout.proofs.SizeLaws.{slot-least, slot-within}
use Rattle.rules.specs.Access.{place_of}
use Rattle.copies.specs.Sized.{Sized}

module _ {own : Own} {region : ℕ} (s : Sized own region) where
  pub place_in : (count : ℕ) → place_of own count + own.slot ≤ region
  place_in count = rw s.whole (slot-within own.power s.power_in own.slot count)

  pub head_in : slot_head_bytes ≤ own.slot
  head_in = omega (arith, slot-least own.slot s.slot-in)
