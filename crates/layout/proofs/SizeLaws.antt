-- What the limits say of a power and of a slot size, and where the slots lie. Whoever needs that a number fits a word finds
-- it here: a capacity has the room 2 ^ 30, so that sums of sizes fit 64 bits for every slot size of 32 bits, and a payload's
-- length the room 2 ^ 16 of its word in the slot header.
use mathlib.Core.Path.{◌≡◌, refl}
use mathlib.Core.Bool.{Bool, true, false, ◌&&◌}
use mathlib.Core.Logic.{inl, inr}
use Prim.Native.Nat.{ℕ, ◌+◌, ◌*◌, ◌%◌, ◌^◌, ◌≤◌, ◌<◌}
use native.Mathlib.Omega.{arith}
use native.Mathlib.Decide.{dec_lt}
use native.Mathlib.Nat.{mod-lt, mul-le-mul_left, mul-le-mul_right, suc-mul}
use borrow.Author.Tests.{leb-true, le-leb}
use lib.Dec.{leb, eqb}
use lib.Pow.{pow_mono}
use Rattle.std.specs.Cmp.{first_so, second_so}
use Rattle.types.specs.Pick.{pick}
use Rattle.words.proofs.Sets.{Apart}
use Rattle.layout.specs.Limits.{least_power, most_power, least_slot, most_slot, slot_step, header_bytes, slot_head_bytes, power_ok, slot_ok, capacity, payload_capacity, ring_bytes, total_bytes, spins_ok}
use Rattle.layout.specs.Slots.{slot_at}

most-by : (power : ℕ) (b : Bool) → leb power most_power ≡ b → pick b (2 ^ power) 0 ≤ 2 ^ most_power
most-by power true e = pow_mono (leb-true power most_power e)
most-by power false e = omega arith

pub capacity-most : (power : ℕ) → capacity power ≤ capacity most_power
unfolding capacity
capacity-most power = most-by power (leb power most_power) refl

pub capacity-room : (power : ℕ) → capacity power ≤ 2 ^ 30
unfolding capacity
capacity-room power = omega (arith, most-by power (leb power most_power) refl)

pub ring-room : (power slot : ℕ) → ring_bytes power slot ≤ 2 ^ 30 * slot
unfolding ring_bytes
ring-room power slot = mul-le-mul_right slot (capacity-room power)

-- no spins are within their limit
pub spins-none : spins_ok 0 ≡ true
unfolding spins_ok
spins-none = refl

-- a slot size within the limits
module _ (slot : ℕ) (ok : slot_ok slot ≡ true) where
  bounds : (leb least_slot slot && leb slot most_slot) ≡ true
  unfolding slot_ok
  bounds = first_so (leb least_slot slot && leb slot most_slot) (eqb (slot % slot_step) 0) ok

  pub slot-least : least_slot ≤ slot
  slot-least = leb-true least_slot slot (first_so (leb least_slot slot) (leb slot most_slot) bounds)

  pub slot-most : slot ≤ most_slot
  slot-most = leb-true slot most_slot (second_so (leb least_slot slot) (leb slot most_slot) bounds)

  pub total-most : (power : ℕ) → total_bytes power slot ≤ total_bytes most_power most_slot
  unfolding total_bytes ring_bytes
  total-most power = omega (arith, mul-le-mul_right slot (capacity-most power), mul-le-mul_left (capacity most_power) slot-most)

  -- a payload lies in its slot, and its length fits its word
  pub payload-in : (n : ℕ) → n ≤ payload_capacity slot → slot_head_bytes + n ≤ slot
  unfolding payload_capacity
  payload-in n h = omega (arith, slot-least)

  pub payload-short : (n : ℕ) → n ≤ payload_capacity slot → n < 2 ^ 16
  payload-short n h = omega (arith, payload-in n h, slot-most)

-- a power within the limits
module _ (power : ℕ) (ok : power_ok power ≡ true) where
  pub power-least : least_power ≤ power
  unfolding power_ok
  power-least = leb-true least_power power (first_so (leb least_power power) (leb power most_power) ok)

  pub power-most : power ≤ most_power
  unfolding power_ok
  power-most = leb-true power most_power (second_so (leb least_power power) (leb power most_power) ok)

  pub capacity-is : capacity power ≡ 2 ^ power
  unfolding capacity
  capacity-is = rw (le-leb power most_power power-most)

  pub capacity-least : 2 ≤ capacity power
  capacity-least = rw capacity-is (pow_mono {i = 1} power-least)

  -- the slot of a counter lies behind the header, within the ring
  pub slot-behind : (slot count : ℕ) → header_bytes ≤ slot_at power slot count
  unfolding slot_at
  slot-behind slot count = omega arith

  place_in : (slot count : ℕ) → count % capacity power * slot + slot ≤ capacity power * slot
  place_in slot count =
      let h : count % capacity power < capacity power = mod-lt count (omega (arith, capacity-least)) in
      rw suc-mul at (mul-le-mul_right slot h)

  pub place-room : (slot count : ℕ) → count % capacity power * slot ≤ 2 ^ 30 * slot
  place-room slot count = omega (arith, place_in slot count, mul-le-mul_right slot (capacity-room power))

  pub slot-within : (slot count : ℕ) → slot_at power slot count + slot ≤ total_bytes power slot
  unfolding slot_at total_bytes ring_bytes
  slot-within slot count = omega (arith, place_in slot count)

place-before : (slot i j : ℕ) → i < j → i * slot + slot ≤ j * slot
place-before slot i j h = rw suc-mul at (mul-le-mul_right slot h)

-- slots of counters that fall on different places are apart
pub slots_apart : (power slot c d : ℕ) → (c % capacity power ≡ d % capacity power → ⊥) → Apart (slot_at power slot d) slot (slot_at power slot c) slot
unfolding slot_at
slots_apart power slot c d differ = by (dec_lt (c % capacity power) (d % capacity power))
  where
    by : Dec (c % capacity power < d % capacity power)
        → Apart (header_bytes + d % capacity power * slot) slot (header_bytes + c % capacity power * slot) slot
    by (yes h) = inl (omega (arith, place-before slot (c % capacity power) (d % capacity power) h))
    by (no h) = inr (omega (arith, place-before slot (d % capacity power) (c % capacity power) (omega arith)))
