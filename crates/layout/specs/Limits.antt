-- The house limits, and the sizes that follow from a power and a slot size.
use Rattle.std.specs.Prelude.{Bool, ◌&&◌, ℕ, ◌+◌, ◌-◌, ◌*◌, ◌%◌, ◌^◌, leb, eqb}
use Rattle.types.specs.Pick.{pick}

abbrev pub least_power : ℕ
least_power = 1

abbrev pub most_power : ℕ
most_power = 30

abbrev pub least_slot : ℕ
least_slot = 8

abbrev pub most_slot : ℕ
most_slot = 65536

-- a party spins at most so often before it sleeps
abbrev pub most_spins : ℕ
most_spins = 1000

-- slot sizes go in steps of 8
abbrev pub slot_step : ℕ
slot_step = 8

abbrev pub header_bytes : ℕ
header_bytes = 384

-- a slot begins with its own header
abbrev pub slot_head_bytes : ℕ
slot_head_bytes = 8

unfoldable pub power_ok : ℕ → Bool
power_ok power = leb least_power power && leb power most_power

unfoldable pub slot_ok : ℕ → Bool
slot_ok slot = leb least_slot slot && leb slot most_slot && eqb (slot % slot_step) 0

unfoldable pub spins_ok : ℕ → Bool
spins_ok spins = leb spins most_spins

-- 2^power; a power above the limit has no ring, so no slots
unfoldable pub capacity : ℕ → ℕ
capacity power = pick (leb power most_power) (2 ^ power) 0

unfoldable pub payload_capacity : ℕ → ℕ
payload_capacity slot = slot - slot_head_bytes

unfoldable pub ring_bytes : ℕ → ℕ → ℕ
ring_bytes power slot = capacity power * slot

unfoldable pub total_bytes : ℕ → ℕ → ℕ
total_bytes power slot = header_bytes + ring_bytes power slot
