-- What is claimed of a header: every byte has one owner, and attach over a whole header goes by its sizes and flags alone.
use Rattle.std.specs.Prelude.{◌≡◌, true, ◌&&◌, List, [], ◌∷◌, ◌++◌, map, ℕ, ◌+◌, ◌^◌, ◌<◌, leb, ltb, eqb, length}
use Rattle.types.specs.Pick.{pick}
use Rattle.types.specs.Answers.{Test, test, first_of}
use Rattle.types.specs.declared.Side.{Side}
use Rattle.types.specs.declared.Answer.TheVariants.{InvalidLayout, InvalidCapacity, InvalidSlotSize}
use Rattle.layout.specs.Limits.{header_bytes, slot_ok, power_ok, spins_ok, ring_bytes}
use Rattle.layout.specs.Header.{magic, Field, field, Run, run, fields, reserved, headed}
use Rattle.layout.specs.Attach.{flag_checks, attach_answer}

abbrev pub run_of : Field → Run
run_of (field width at value) = run width at

-- how many of the runs have the byte k
abbrev pub holders : ℕ → List Run → ℕ
holders k [] = 0
holders k (run count at ∷ rs) = pick (leb at k && ltb k (at + count)) 1 0 + holders k rs

-- the magic, the fields and the reserved runs
abbrev pub everything : List Run
everything = run (length magic) 0 ∷ (map run_of (fields 0 0 0 0 0) ++ reserved)

-- each byte of the header lies in one of them, and in no two
abbrev pub Covered : Type 0
Covered = (k : ℕ) → k < header_bytes → holders k everything ≡ 1

-- every value fits its field
pub record Fitting (r : List ℕ) (ring power slot flags start : ℕ) : Type 0 where
  pub long : length r ≡ header_bytes + ring
  pub total-fits : header_bytes + ring < 256 ^ 8
  pub power-fits : power < 256 ^ 1
  pub slot-fits : slot < 256 ^ 4
  pub flags-fits : flags < 256 ^ 4
  pub start_fits : start < 256 ^ 8

-- what is left to test of a whole header
abbrev pub size_checks : (ring power slot flags : ℕ) → Side → List Test
size_checks ring power slot flags side =
    test (slot_ok slot) InvalidSlotSize
    ∷ test (power_ok power) InvalidCapacity
    ∷ test (eqb ring (ring_bytes power slot)) InvalidLayout
    ∷ flag_checks flags side

abbrev pub AttachHeaded : Type 0
AttachHeaded = (r : List ℕ) (ring power slot flags start : ℕ) → Fitting r ring power slot flags start → (side : Side) (spins : ℕ) → spins_ok spins ≡ true
    → attach_answer (headed r ring power slot flags start) side spins ≡ first_of (size_checks ring power slot flags side)
