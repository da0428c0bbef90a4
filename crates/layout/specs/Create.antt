-- Create: its answer, and every byte that it leaves.
use Rattle.std.specs.Prelude.{Bool, List, [], ◌∷◌, ℕ, ◌+◌, eqb, length}
use Rattle.types.specs.Pick.{pick}
use Rattle.types.specs.Answers.{number, Test, test, first_of}
use Rattle.types.specs.declared.Answer.{Answer}
use Rattle.types.specs.declared.Answer.TheVariants.{InvalidLayout, InvalidCapacity, InvalidSlotSize}
use Rattle.layout.specs.Limits.{slot_ok, power_ok, ring_bytes, total_bytes}
use Rattle.layout.specs.Flags.{initialised, not_full_on}
use Rattle.layout.specs.Header.{headed}

-- in this order: 6, 5, 4
abbrev pub create_checks : (bytes power slot : ℕ) → List Test
create_checks bytes power slot =
    test (slot_ok slot) InvalidSlotSize
    ∷ test (power_ok power) InvalidCapacity
    ∷ test (eqb bytes (total_bytes power slot)) InvalidLayout
    ∷ []

unfoldable pub create_answer : (bytes power slot : ℕ) → Answer
create_answer bytes power slot = first_of (create_checks bytes power slot)

abbrev pub first_flags : Bool → ℕ
first_flags notfull = pick notfull (initialised + not_full_on) initialised

-- the region with a fresh header
unfoldable pub created : List ℕ → (power slot : ℕ) → Bool → (start : ℕ) → List ℕ
created r power slot notfull start = headed r (ring_bytes power slot) power slot (first_flags notfull) start

-- a refusal changes no byte
unfoldable pub create_leaves : List ℕ → (power slot : ℕ) → Bool → (start : ℕ) → List ℕ
create_leaves r power slot notfull start =
    pick (eqb (number (create_answer (length r) power slot)) 0) (created r power slot notfull start) r
