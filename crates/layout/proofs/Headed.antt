-- What a whole header reads as.
use mathlib.Core.Path.{◌≡◌, refl, ap, ◌∙◌}
use mathlib.Core.Bool.{Bool, true, ◌&&◌}
use mathlib.Core.List.{List, [], ◌∷◌, ◌++◌}
use Prim.Native.Nat.{ℕ, suc, ◌+◌, ◌^◌, ◌<◌, ◌≤◌}
use native.Mathlib.Omega.{arith}
use borrow.Author.Tests.{eq-eqb}
use lib.Dec.{leb, lit<}
use lib.ListN.{length, get_or, take, drop}
use Rattle.std.proofs.lemmas.Bool.{leb-true}
use Rattle.std.specs.Cmp.{first_so, second_so}
use Rattle.words.specs.Bytes.{zeros}
use Rattle.words.specs.Le.{le_at, put_le}
use Rattle.words.proofs.Runs.{zeros-true, bytes_are-true}
use Rattle.types.specs.declared.Side.{Side}
use Rattle.types.specs.declared.Side.TheVariants.{Sender, Recorder}
use Rattle.types.specs.declared.Bell.{Bell}
use Rattle.types.specs.declared.Bell.TheVariants.{NotEmpty, NotFull}
use Rattle.layout.specs.Limits.{header_bytes}
use Rattle.layout.specs.Header.{magic, major_at, minor_at, header_size_at, total_size_at, ring_offset_at, ring_bytes_at, arena_offset_at, arena_bytes_at, power_at, slot_size_at, flags_at, counter_at, bell_at, Field, field, fields, put_fields, blank, headed, Run, run, reserved, all_zero}
use Rattle.layout.specs.Attach.{magic_ok, version_ok, sizes_ok}
pub use Rattle.layout.specs.Whole.{Fitting}
use Rattle.layout.proofs.Fields.{apart, length_fields, fields-other, fields-behind, field-read, field-anew, length-blank, blank-zero, blank-magic, blank-ring}

-- a counter and a bell lie in the header
pub counter-in : (side : Side) → counter_at side + 8 ≤ header_bytes
counter-in Sender = omega arith
counter-in Recorder = omega arith

pub bell-in : (b : Bell) → bell_at b + 4 ≤ header_bytes
bell-in NotEmpty = omega arith
bell-in NotFull = omega arith

module _ (r : List ℕ) (ring power slot flags start : ℕ) (f : Fitting r ring power slot flags start) where
  abbrev table : List Field
  table = fields ring power slot flags start

  abbrev made : List ℕ
  made = headed r ring power slot flags start

  pub length-headed : length made ≡ length r
  unfolding headed
  length-headed = length_fields table (blank r) ∙ length-blank r

  -- the field after the first n is read as it was written
  headed-field : (n width at value : ℕ) → table ≡ take n table ++ (field width at value ∷ drop (suc n) table) → at + width ≤ header_bytes → value < 256 ^ width → apart at width (drop (suc n) table) ≡ true
      → le_at width made at ≡ value
  unfolding headed
  headed-field n width at value e h b t =
      ap (λ (fs : List Field). le_at width (put_fields fs (blank r)) at) e
      ∙ field-read (take n table) width at value (drop (suc n) table) (blank r) (rw length-blank (omega (arith, f.long))) b t

  -- a byte in no field is the blank header's
  headed-other : (n j k : ℕ) → apart j n table ≡ true → k < n → get_or made (j + k) 0 ≡ get_or (blank r) (j + k) 0
  unfolding headed
  headed-other n j k t h = fields-other table (blank r) j n k t h

  headed-zeros : (n j : ℕ) → apart j n table ≡ true → length magic ≤ j → j + n ≤ header_bytes → zeros made n j ≡ true
  headed-zeros n j t a b =
      zeros-true made n j (λ k h. headed-other n j k t h ∙ blank-zero r (j + k) (omega (arith, f.long)) (omega arith) (omega arith))

  pub headed-magic : magic_ok made ≡ true
  unfolding magic_ok
  headed-magic =
      bytes_are-true made 0 magic
      (λ k h. headed-other (length magic) 0 k refl h ∙ ap (λ (i : ℕ). get_or (blank r) i 0) (omega arith) ∙ blank-magic r k (omega (arith, f.long)) h)

  -- runs between the magic and the header's end that are apart from every field
  abbrev free : List Run → Bool
  free [] = true
  free (run count at ∷ rs) = (apart at count table && (leb (length magic) at && leb (at + count) header_bytes)) && free rs

  headed-free : (rs : List Run) → free rs ≡ true → all_zero made rs ≡ true
  headed-free [] t = refl
  headed-free (run count at ∷ rs) t =
      let h = first_so (apart at count table && (leb (length magic) at && leb (at + count) header_bytes)) (free rs) t in
      let i = second_so (apart at count table) (leb (length magic) at && leb (at + count) header_bytes) h in
      rw (
        headed-zeros count at (first_so (apart at count table) (leb (length magic) at && leb (at + count) header_bytes) h)
            (leb-true (length magic) at (first_so (leb (length magic) at) (leb (at + count) header_bytes) i))
            (leb-true (at + count) header_bytes (second_so (leb (length magic) at) (leb (at + count) header_bytes) i)),
        headed-free rs (second_so (apart at count table && (leb (length magic) at && leb (at + count) header_bytes)) (free rs) t),
      )

  pub headed-reserved : all_zero made reserved ≡ true
  headed-reserved = headed-free reserved refl

  pub headed-version : version_ok made ≡ true
  unfolding version_ok
  headed-version =
      rw (headed-field 0 2 major_at 0 refl (omega arith) (lit< tt) refl, headed-field 1 2 minor_at 1 refl (omega arith) (lit< tt) refl)

  pub headed-size : le_at 4 made header_size_at ≡ header_bytes
  headed-size = headed-field 2 4 header_size_at header_bytes refl (omega arith) (lit< tt) refl

  pub headed-ring : le_at 8 made ring_bytes_at ≡ ring
  headed-ring = headed-field 5 8 ring_bytes_at ring refl (omega arith) (omega (arith, f.total-fits)) refl

  pub headed-sizes : sizes_ok made ≡ true
  unfolding sizes_ok
  headed-sizes =
      rw (
        headed-field 3 8 total_size_at (header_bytes + ring) refl (omega arith) f.total-fits refl,
        headed-field 4 8 ring_offset_at header_bytes refl (omega arith) (lit< tt) refl,
        headed-field 6 8 arena_offset_at 0 refl (omega arith) (lit< tt) refl,
        headed-field 7 8 arena_bytes_at 0 refl (omega arith) (lit< tt) refl,
        headed-ring,
        length-headed,
        f.long,
        eq-eqb (header_bytes + ring) (header_bytes + ring) refl,
      )

  pub headed-power : le_at 1 made power_at ≡ power
  headed-power = headed-field 8 1 power_at power refl (omega arith) f.power-fits refl

  pub headed-slot : le_at 4 made slot_size_at ≡ slot
  headed-slot = headed-field 9 4 slot_size_at slot refl (omega arith) f.slot-fits refl

  pub headed-flags : le_at 4 made flags_at ≡ flags
  headed-flags = headed-field 10 4 flags_at flags refl (omega arith) f.flags-fits refl

  pub headed-counter : (side : Side) → le_at 8 made (counter_at side) ≡ start
  headed-counter Sender = headed-field 14 8 (counter_at Sender) start refl (omega arith) f.start_fits refl
  headed-counter Recorder = headed-field 15 8 (counter_at Recorder) start refl (omega arith) f.start_fits refl

  pub headed-bell : (b : Bell) → le_at 4 made (bell_at b) ≡ 0
  headed-bell NotEmpty = headed-field 16 4 (bell_at NotEmpty) 0 refl (omega arith) (lit< tt) refl
  headed-bell NotFull = headed-field 17 4 (bell_at NotFull) 0 refl (omega arith) (lit< tt) refl

  -- no byte of the ring changes
  pub headed-kept : (k : ℕ) → header_bytes ≤ k → get_or made k 0 ≡ get_or r k 0
  unfolding headed
  headed-kept k h = fields-behind header_bytes table (blank r) k refl h ∙ blank-ring r k h

  -- the flags written anew: the same header with other flags
  pub headed-flagged : (new : ℕ) → put_le 4 made flags_at new ≡ headed r ring power slot new start
  unfolding headed
  headed-flagged new = field-anew (take 10 table) 4 flags_at flags new (drop 11 table) header_bytes (blank r) (omega arith) (rw length-blank (omega (arith, f.long))) refl refl
