-- What a party's own sizes are for: a region of that length, with slots within the limits.
use Rattle.std.specs.Prelude.{◌≡◌, true, ℕ}
use Rattle.types.specs.declared.Own.{Own}
use Rattle.layout.specs.Limits.{power_ok, slot_ok, total_bytes}

pub record Sized (own : Own) (region : ℕ) : Type 0 where
  pub power_in : power_ok own.power ≡ true
  pub slot-in : slot_ok own.slot ≡ true
  pub whole : region ≡ total_bytes own.power own.slot
