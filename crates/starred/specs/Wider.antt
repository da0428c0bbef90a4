-- The starred cases in a wider table: stronger than `starred`, and whole.
use Rattle.std.specs.Prelude.{◌≡◌, true, List, [], ◌∷◌, ℕ, ◌+◌, ◌-◌, ◌^◌, ◌<◌, ℤ, pos, negsuc, length}
use Rattle.std.specs.Int.{w32}
use Rattle.std.proofs.Common.{to_z}
use Rattle.types.specs.declared.Room.TheVariants.{Corrupt, Blocked, Free}
use Rattle.types.specs.declared.Answer.{Answer}
use Rattle.types.specs.declared.Answer.TheVariants.{InvalidLayout, InvalidCapacity, InvalidSlotSize, BadCall}
use Rattle.layout.specs.Limits.{slot_ok}
use Rattle.starred.specs.Cases.{Case, accepted, largest, refused, flagged, spinning, overspun, used, corrupt, place, Refused, Raised, Holds}

pub data Row : Type 0 where
  kept : Case → Row
  -- a slot size that is refused whatever the power
  slot_refused : (slot : ℕ) → Answer → Row
  -- a power that is refused whatever the slot size, within the limits: the slot size is tested first
  power_refused : (power : ℕ) → Answer → Row
  -- a bell, by a signed reading that it may have, raised
  rung : (reading raised : ℤ) → Row

abbrev pub wider : List Row
wider =
    kept (accepted 1 8 400 0)
    ∷ kept (accepted 10 4096 4194688 4088)
    ∷ kept (accepted 30 65536 70368744178048 65528)
    ∷ kept (largest 70368744178048 65528)
    ∷ power_refused 0 InvalidCapacity
    ∷ power_refused 31 InvalidCapacity
    ∷ slot_refused 0 InvalidSlotSize
    ∷ slot_refused 12 InvalidSlotSize
    ∷ slot_refused 65544 InvalidSlotSize
    ∷ kept (refused 0 12 InvalidSlotSize)
    ∷ kept (used 4 4 Blocked Free)
    ∷ kept (used 4 5 Corrupt Corrupt)
    ∷ kept (corrupt 1 3)
    ∷ kept (place 2 32 (2 ^ 64 - 1) 480 0)
    ∷ rung (negsuc 0) (pos 0)
    ∷ rung (pos 2147483647) (negsuc 2147483647)
    ∷ kept (flagged 0x80 InvalidLayout)
    ∷ kept (spinning 1000)
    ∷ kept (overspun 1001 BadCall)
    ∷ []

-- The table is whole: fifteen cases stand under document 01's stars; request (iv) adds the sizes at its limits and that they are the
-- largest, request (v) a count on either side of its limit.
abbrev pub Whole : List Row → Type 0
Whole rows = length rows ≡ 15 + 2 + 2

abbrev pub SlotRefused : (slot : ℕ) → Answer → Type 0
SlotRefused slot answer = (power : ℕ) → Refused power slot answer

abbrev pub PowerRefused : (power : ℕ) → Answer → Type 0
PowerRefused power answer = (slot : ℕ) → slot_ok slot ≡ true → Refused power slot answer

-- a bell may read so, and whatever word reads so is raised to that
abbrev pub Rung : (reading raised : ℤ) → Type 0
Rung reading raised = ((n : ℕ) × ((n < 2 ^ 32) × (to_z w32 n ≡ reading))) × Raised reading raised

abbrev pub RowHolds : Row → Type 0
RowHolds (kept c) = Holds c
RowHolds (slot_refused slot answer) = SlotRefused slot answer
RowHolds (power_refused power answer) = PowerRefused power answer
RowHolds (rung reading raised) = Rung reading raised

-- every row of a table
abbrev pub AllRowsHold : List Row → Type 0
AllRowsHold [] = Unit
AllRowsHold (r ∷ rs) = RowHolds r × AllRowsHold rs
