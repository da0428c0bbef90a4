-- What an access asks of the sizes and of what is lent to it.
use Rattle.std.specs.Prelude.{ℕ, ◌≤◌}
use Rattle.types.specs.declared.Own.{Own}
use Rattle.types.specs.declared.Access.{Access}
use Rattle.types.specs.declared.Access.TheVariants.{None, LoadCounter, LoadFlags, LoadBell, WriteSlot, ReadSlot, StoreCounter, RaiseBell, SetFlag, WaitBell, WakeBell}
use Rattle.layout.specs.Limits.{payload_capacity}
use Rattle.copies.specs.Sized.{Sized}

-- a copy in asks that the payload fits a slot, a copy out that the buffer has the length that the call named
abbrev pub Lent : Access → (slot payload named buffer : ℕ) → Type 0
Lent None slot payload named buffer = Unit {0}
Lent (LoadCounter side) slot payload named buffer = Unit {0}
Lent LoadFlags slot payload named buffer = Unit {0}
Lent (LoadBell b) slot payload named buffer = Unit {0}
Lent (WriteSlot n) slot payload named buffer = payload ≤ payload_capacity slot
Lent (ReadSlot n) slot payload named buffer = named ≤ buffer
Lent (StoreCounter side n) slot payload named buffer = Unit {0}
Lent (RaiseBell b) slot payload named buffer = Unit {0}
Lent (SetFlag m) slot payload named buffer = Unit {0}
Lent (WaitBell b e) slot payload named buffer = Unit {0}
Lent (WakeBell b n) slot payload named buffer = Unit {0}

pub record Fitted (own : Own) (a : Access) (region payload named buffer : ℕ) : Type 0 where
  pub sized : Sized own region
  pub lent : Lent a own.slot payload named buffer
