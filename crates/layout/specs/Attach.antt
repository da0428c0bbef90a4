-- Attach: its checks in their order, the record that it gives back, and every byte that it leaves.
use Rattle.std.specs.Prelude.{Bool, true, false, not, ◌&&◌, List, [], ◌∷◌, ℕ, ◌+◌, leb, ltb, eqb, length}
use Rattle.words.specs.Bytes.{bytes_are}
use Rattle.words.specs.Le.{le_at, put_le}
use Rattle.types.specs.Pick.{pick}
use Rattle.types.specs.Answers.{number, Test, test, first_of}
use Rattle.types.specs.declared.Side.{Side}
use Rattle.types.specs.declared.Own.{Own}
use Rattle.types.specs.declared.Party.{Party}
use Rattle.types.specs.declared.Reply.{Reply}
use Rattle.types.specs.declared.Step.TheVariants.{Rest}
use Rattle.types.specs.declared.Answer.{Answer}
use Rattle.types.specs.declared.Answer.TheVariants.{InvalidMagic, UnsupportedVersion, InvalidHeaderSize, InvalidLayout, InvalidCapacity, InvalidSlotSize, WouldBlock, AlreadyAttached, BadCall}
use Rattle.layout.specs.Limits.{header_bytes, slot_ok, power_ok, spins_ok, ring_bytes}
use Rattle.layout.specs.Flags.{initialised, worth, not_full_on, reserved_from, bit_on, set_bit, attach_mark}
use Rattle.layout.specs.Header.{magic, major_at, minor_at, header_size_at, total_size_at, ring_offset_at, ring_bytes_at, arena_offset_at, arena_bytes_at, power_at, slot_size_at, flags_at, counter_at, reserved, all_zero}

unfoldable pub magic_ok : List ℕ → Bool
magic_ok r = bytes_are r 0 magic

unfoldable pub version_ok : List ℕ → Bool
version_ok r = eqb (le_at 2 r major_at) 0 && eqb (le_at 2 r minor_at) 1

-- total size, ring offset, arena words, and the total against the ring's bytes, which cannot wrap here
unfoldable pub sizes_ok : List ℕ → Bool
sizes_ok r =
    eqb (le_at 8 r total_size_at) (length r)
    && (eqb (le_at 8 r ring_offset_at) header_bytes
    && (eqb (le_at 8 r arena_offset_at) 0
    && (eqb (le_at 8 r arena_bytes_at) 0 && eqb (le_at 8 r total_size_at) (header_bytes + le_at 8 r ring_bytes_at))))

-- reserved flags, bit 0, the own attach bit
unfoldable pub flag_checks : ℕ → Side → List Test
flag_checks flags side =
    test (ltb flags reserved_from) InvalidLayout
    ∷ test (bit_on initialised flags) WouldBlock
    ∷ test (not (bit_on (worth (attach_mark side)) flags)) AlreadyAttached
    ∷ []

-- slot size, power, ring bytes, reserved bytes, flags
unfoldable pub ring_checks : List ℕ → Side → List Test
ring_checks r side =
    test (slot_ok (le_at 4 r slot_size_at)) InvalidSlotSize
    ∷ test (power_ok (le_at 1 r power_at)) InvalidCapacity
    ∷ test (eqb (le_at 8 r ring_bytes_at) (ring_bytes (le_at 1 r power_at) (le_at 4 r slot_size_at))) InvalidLayout
    ∷ test (all_zero r reserved) InvalidLayout
    ∷ flag_checks (le_at 4 r flags_at) side

-- the region's, in their order
unfoldable pub region_checks : List ℕ → Side → List Test
region_checks r side =
    test (leb header_bytes (length r)) InvalidLayout
    ∷ test (magic_ok r) InvalidMagic
    ∷ test (version_ok r) UnsupportedVersion
    ∷ test (eqb (le_at 4 r header_size_at) header_bytes) InvalidHeaderSize
    ∷ test (sizes_ok r) InvalidLayout
    ∷ ring_checks r side

-- the spin count before them all
unfoldable pub attach_checks : List ℕ → Side → (spins : ℕ) → List Test
attach_checks r side spins = test (spins_ok spins) BadCall ∷ region_checks r side

unfoldable pub attach_answer : List ℕ → Side → (spins : ℕ) → Answer
attach_answer r side spins = first_of (attach_checks r side spins)

-- a party at rest that has named nothing yet
abbrev pub fresh : Own → (counter : ℕ) → Party
fresh own counter = record { own = own; closed = false; counter = counter; blocking = false; tag = 0; length = 0; step = Rest }

-- the record of a party not attached
abbrev pub unattached : Side → Party
unattached side = fresh (record { side = side; attached = false; power = 0; slot = 0; notfull = false; spins = 0 }) 0

-- its own copy of the counter, the sizes and the option, and its spin count; its own close starts false
abbrev pub attached : List ℕ → Side → (spins : ℕ) → Party
attached r side spins =
    fresh
    (record {
      side = side;
      attached = true;
      power = le_at 1 r power_at;
      slot = le_at 4 r slot_size_at;
      notfull = bit_on not_full_on (le_at 4 r flags_at);
      spins = spins;
    })
    (le_at 8 r (counter_at side))

-- a refusal gives back the record of a party not attached
unfoldable pub attach_reply : List ℕ → Side → (spins : ℕ) → Reply
attach_reply r side spins =
    record {
      party = pick (eqb (number (attach_answer r side spins)) 0) (attached r side spins) (unattached side);
      answer = attach_answer r side spins;
    }

-- and changes no byte; success sets the one bit
unfoldable pub attach_leaves : List ℕ → Side → (spins : ℕ) → List ℕ
attach_leaves r side spins =
    pick (eqb (number (attach_answer r side spins)) 0)
    (put_le 4 r flags_at (set_bit (worth (attach_mark side)) (le_at 4 r flags_at)))
    r
