-- Attach over a whole header: the sizes and the flags decide. So a created region is accepted by each side, once, in either order.
use mathlib.Core.Path.{◌≡◌, refl, ap, ◌∙◌}
use mathlib.Core.Bool.{Bool, true, false}
use mathlib.Core.List.{List, [], ◌∷◌}
use Prim.Native.Nat.{ℕ, ◌+◌, ◌^◌, ◌<◌, ◌≤◌}
use native.Mathlib.Omega.{arith}
use borrow.Author.Tests.{le-leb, eq-eqb, eqb-true}
use lib.Dec.{eqb}
use lib.ListN.{length}
use Rattle.types.specs.Sides.{other}
use Rattle.types.specs.Answers.{test, first_of}
use Rattle.types.specs.declared.Side.{Side}
use Rattle.types.specs.declared.Side.TheVariants.{Sender, Recorder}
use Rattle.types.specs.declared.Answer.TheVariants.{Done, InvalidLayout, InvalidCapacity, InvalidSlotSize, AlreadyAttached, BadCall}
use Rattle.layout.specs.Limits.{header_bytes, most_slot, slot_ok, power_ok, spins_ok, ring_bytes, total_bytes}
use Rattle.layout.specs.Flags.{worth, not_full_on, bit_on, set_bit, attach_mark}
use Rattle.layout.specs.Header.{headed}
use Rattle.layout.specs.Create.{create_answer, first_flags, created}
use Rattle.layout.specs.Attach.{flag_checks, ring_checks, region_checks, attach_checks, fresh, attach_answer, attach_reply, attach_leaves}
pub use Rattle.layout.specs.Whole.{size_checks}
use Rattle.layout.specs.Whole.{AttachHeaded}
use Rattle.layout.proofs.SizeLaws.{slot-most, power-most, ring-room}
use Rattle.layout.proofs.Headed.{Fitting, length-headed, headed-magic, headed-version, headed-size, headed-sizes, headed-ring, headed-reserved, headed-power, headed-slot, headed-flags, headed-counter, headed-flagged}

-- a spin count above the limit decides before any region; within it, the region does
pub spins-refused : (r : List ℕ) (side : Side) (spins : ℕ) → spins_ok spins ≡ false → attach_answer r side spins ≡ BadCall
unfolding attach_answer attach_checks
spins-refused r side spins h = rw h refl

pub spins-taken : (r : List ℕ) (side : Side) (spins : ℕ) → spins_ok spins ≡ true → attach_answer r side spins ≡ first_of (region_checks r side)
unfolding attach_answer attach_checks
spins-taken r side spins h = rw h refl

module _ (r : List ℕ) (ring power slot flags start : ℕ) (f : Fitting r ring power slot flags start) where
  region-headed : (side : Side) → first_of (region_checks (headed r ring power slot flags start) side) ≡ first_of (size_checks ring power slot flags side)
  unfolding region_checks ring_checks
  region-headed side =
      simp (
        length-headed r ring power slot flags start f,
        f.long,
        le-leb header_bytes (header_bytes + ring) (omega arith),
        headed-magic r ring power slot flags start f,
        headed-version r ring power slot flags start f,
        headed-size r ring power slot flags start f,
        headed-sizes r ring power slot flags start f,
        headed-slot r ring power slot flags start f,
        headed-power r ring power slot flags start f,
        headed-ring r ring power slot flags start f,
        headed-reserved r ring power slot flags start f,
        headed-flags r ring power slot flags start f,
      )

  pub attach-headed : (side : Side) (spins : ℕ) → spins_ok spins ≡ true → attach_answer (headed r ring power slot flags start) side spins ≡ first_of (size_checks ring power slot flags side)
  attach-headed side spins h = spins-taken (headed r ring power slot flags start) side spins h ∙ region-headed side

  -- where it is accepted, the one bit is set and nothing else changes
  pub leaves-headed : (side : Side) (spins : ℕ) → attach_answer (headed r ring power slot flags start) side spins ≡ Done 0 0
      → attach_leaves (headed r ring power slot flags start) side spins ≡ headed r ring power slot (set_bit (worth (attach_mark side)) flags) start
  unfolding attach_leaves
  leaves-headed side spins e =
      rw (e, headed-flags r ring power slot flags start f) (headed-flagged r ring power slot flags start f (set_bit (worth (attach_mark side)) flags))

pub headed-attach : AttachHeaded
headed-attach r ring power slot flags start f = attach-headed r ring power slot flags start f

-- what a create that is done says
done-slot : (a b c : Bool) → first_of (test a InvalidSlotSize ∷ test b InvalidCapacity ∷ test c InvalidLayout ∷ []) ≡ Done 0 0 → (a ≡ true) × (b ≡ true) × (c ≡ true)
done-slot true true true e = (refl, refl, refl)
done-slot true true false e = absurd (let z : ◌≡◌ {A = ℕ} 0 1 = cc in omega arith)
done-slot true false c e = absurd (let z : ◌≡◌ {A = ℕ} 0 1 = cc in omega arith)
done-slot false b c e = absurd (let z : ◌≡◌ {A = ℕ} 0 1 = cc in omega arith)

-- the attach bits: of one side, and of both
abbrev pub own_bit : Side → ℕ
own_bit side = worth (attach_mark side)

abbrev pub both_bits : ℕ
both_bits = own_bit Sender + own_bit Recorder

-- fresh flags with no bit, one side's or both sides': whom the checks let in, and what the flags become
nobody-in : (notfull : Bool) (side : Side) → first_of (flag_checks (first_flags notfull) side) ≡ Done 0 0
unfolding flag_checks
nobody-in true Sender = refl
nobody-in true Recorder = refl
nobody-in false Sender = refl
nobody-in false Recorder = refl

other-in : (notfull : Bool) (side : Side) → first_of (flag_checks (first_flags notfull + own_bit (other side)) side) ≡ Done 0 0
unfolding flag_checks
other-in true Sender = refl
other-in true Recorder = refl
other-in false Sender = refl
other-in false Recorder = refl

self_in : (notfull : Bool) (side : Side) → first_of (flag_checks (first_flags notfull + own_bit side) side) ≡ AlreadyAttached
unfolding flag_checks
self_in true Sender = refl
self_in true Recorder = refl
self_in false Sender = refl
self_in false Recorder = refl

both-in : (notfull : Bool) (side : Side) → first_of (flag_checks (first_flags notfull + both_bits) side) ≡ AlreadyAttached
unfolding flag_checks
both-in true Sender = refl
both-in true Recorder = refl
both-in false Sender = refl
both-in false Recorder = refl

pub first-option : (notfull : Bool) → bit_on not_full_on (first_flags notfull) ≡ notfull
first-option true = refl
first-option false = refl

first_bit : (notfull : Bool) (side : Side) → set_bit (own_bit side) (first_flags notfull) ≡ first_flags notfull + own_bit side
first_bit true Sender = refl
first_bit true Recorder = refl
first_bit false Sender = refl
first_bit false Recorder = refl

second-bit : (notfull : Bool) (side : Side) → set_bit (own_bit side) (first_flags notfull + own_bit (other side)) ≡ first_flags notfull + both_bits
second-bit true Sender = refl
second-bit true Recorder = refl
second-bit false Sender = refl
second-bit false Recorder = refl

flags-small : (notfull : Bool) (bits : ℕ) → bits < 128 → first_flags notfull + bits < 256 ^ 4
flags-small true bits h = omega arith
flags-small false bits h = omega arith

own-small : (side : Side) → own_bit side < 128
own-small Sender = omega arith
own-small Recorder = omega arith

module _ (r : List ℕ) (power slot : ℕ) (notfull : Bool) (start : ℕ) (done : create_answer (length r) power slot ≡ Done 0 0) (small : start < 256 ^ 8) where
  pub tests : (slot_ok slot ≡ true) × (power_ok power ≡ true) × (eqb (length r) (total_bytes power slot) ≡ true)
  unfolding create_answer
  tests = done-slot (slot_ok slot) (power_ok power) (eqb (length r) (total_bytes power slot)) done

  pub fits : (flags : ℕ) → flags < 256 ^ 4 → Fitting r (ring_bytes power slot) power slot flags start
  unfolding total_bytes
  fits flags h =
      let t = tests in
      let s : slot ≤ most_slot = slot-most slot t.0 in
      record {
        long = eqb-true (length r) (total_bytes power slot) t.2;
        total-fits = omega (arith, ring-room power slot);
        power-fits = omega (arith, power-most power t.1);
        slot-fits = omega arith;
        flags-fits = h;
        start_fits = small;
      }

  -- with any flags, what is left to test is the flags
  attach-flags : (flags : ℕ) → flags < 256 ^ 4 → (side : Side) (spins : ℕ) → spins_ok spins ≡ true → attach_answer (headed r (ring_bytes power slot) power slot flags start) side spins ≡ first_of (flag_checks flags side)
  attach-flags flags h side spins few =
      let t = tests in
      attach-headed r (ring_bytes power slot) power slot flags start (fits flags h) side spins few
      ∙ rw (t.0, t.1, eq-eqb (ring_bytes power slot) (ring_bytes power slot) refl)

  -- the created header with more flags
  abbrev pub with-bits : ℕ → List ℕ
  with-bits bits = headed r (ring_bytes power slot) power slot (first_flags notfull + bits) start

  pub first_small : first_flags notfull < 256 ^ 4
  first_small = omega (arith, flags-small notfull 0 (omega arith))

  -- each side is accepted, with whatever count within the limit, and sets its own bit ..
  pub accepted : (side : Side) (spins : ℕ) → spins_ok spins ≡ true → attach_answer (created r power slot notfull start) side spins ≡ Done 0 0
  unfolding created
  accepted side spins few = attach-flags (first_flags notfull) first_small side spins few ∙ nobody-in notfull side

  pub attached-first : (side : Side) (spins : ℕ) → spins_ok spins ≡ true → attach_leaves (created r power slot notfull start) side spins ≡ with-bits (own_bit side)
  unfolding created
  attached-first side spins few =
      leaves-headed r (ring_bytes power slot) power slot (first_flags notfull) start (fits (first_flags notfull) first_small) side spins (accepted side spins few)
      ∙ rw (first_bit notfull side)

  -- .. once: then it is refused by 16 and the other side is accepted
  pub refused-second : (side : Side) (spins : ℕ) → spins_ok spins ≡ true → attach_answer (with-bits (own_bit side)) side spins ≡ AlreadyAttached
  refused-second side spins few = attach-flags (first_flags notfull + own_bit side) (flags-small notfull (own_bit side) (own-small side)) side spins few ∙ self_in notfull side

  pub accepted-other : (side : Side) (spins : ℕ) → spins_ok spins ≡ true → attach_answer (with-bits (own_bit (other side))) side spins ≡ Done 0 0
  accepted-other side spins few =
      attach-flags (first_flags notfull + own_bit (other side)) (flags-small notfull (own_bit (other side)) (own-small (other side))) side spins few ∙ other-in notfull side

  -- in either order the two leave the header as created but for their bits, and nobody is accepted any more
  pub attached-both : (side : Side) (spins theirs : ℕ) → spins_ok spins ≡ true → spins_ok theirs ≡ true
      → attach_leaves (attach_leaves (created r power slot notfull start) (other side) theirs) side spins ≡ with-bits both_bits
  attached-both side spins theirs few also =
      let h = flags-small notfull (own_bit (other side)) (own-small (other side)) in
      ap (λ (x : List ℕ). attach_leaves x side spins) (attached-first (other side) theirs also)
      ∙ leaves-headed r (ring_bytes power slot) power slot (first_flags notfull + own_bit (other side)) start (fits (first_flags notfull + own_bit (other side)) h) side spins (accepted-other side spins few)
      ∙ rw (second-bit notfull side)

  pub refused-both : (side : Side) (spins : ℕ) → spins_ok spins ≡ true → attach_answer (with-bits both_bits) side spins ≡ AlreadyAttached
  refused-both side spins few = attach-flags (first_flags notfull + both_bits) (flags-small notfull both_bits (omega arith)) side spins few ∙ both-in notfull side

  -- the record of an accepted side: its own copy of what create was given, and its count
  pub attached-record : (side : Side) (spins : ℕ) → spins_ok spins ≡ true → attach_reply (created r power slot notfull start) side spins ≡ record {
    party = fresh (record { side = side; attached = true; power = power; slot = slot; notfull = notfull; spins = spins }) start;
    answer = Done 0 0;
  }
  unfolding attach_reply created
  attached-record side spins few =
      let f = fits (first_flags notfull) first_small in
      rw (
        accepted side spins few,
        headed-power r (ring_bytes power slot) power slot (first_flags notfull) start f,
        headed-slot r (ring_bytes power slot) power slot (first_flags notfull) start f,
        headed-flags r (ring_bytes power slot) power slot (first_flags notfull) start f,
        headed-counter r (ring_bytes power slot) power slot (first_flags notfull) start f side,
        first-option notfull,
      )
