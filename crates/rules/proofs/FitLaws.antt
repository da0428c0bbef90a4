-- How a note fits, by the fields of its slot's header, and where a copy then leads.
use mathlib.Core.Path.{◌≡◌, refl, ap}
use mathlib.Core.Bool.{Bool, true, false}
use mathlib.Core.Logic.{◌⊎◌, inl, inr}
use Prim.Native.Nat.{ℕ, ◌/◌, ◌<◌, ◌≤◌}
use native.Mathlib.Omega.{arith}
use borrow.Author.Tests.{lt-ltb, le-ltb, ltb-false}
use lib.Dec.{ltb}
use Rattle.std.proofs.lemmas.Bool.{or_left, or_right}
use Rattle.types.specs.Pick.{pick}
use Rattle.types.specs.declared.Side.{Side}
use Rattle.types.specs.declared.Own.{Own}
use Rattle.types.specs.declared.SlotHead.{SlotHead}
use Rattle.types.specs.declared.Fit.TheVariants.{Bad, Small, Fits}
use Rattle.layout.specs.Limits.{payload_capacity}
use Rattle.layout.specs.Slots.{head_of}
use Rattle.rules.specs.Looks.{head_bad, fit_of}
use Rattle.rules.specs.Steps.{fit_move, copy_with, copy_move}

-- how a header fits, by its fields
module _ (h : SlotHead) (most named : ℕ) where
  is-bad : (most < h.length) ⊎ ((1 < h.flags) ⊎ (0 < h.zero)) → head_bad h most ≡ true
  is-bad (inl l) = or_left (ltb most h.length) _ (lt-ltb most h.length l)
  is-bad (inr (inl f)) = or_right (ltb most h.length) _ (or_left (ltb 0 (h.flags / 2)) _ (lt-ltb 0 (h.flags / 2) (omega arith)))
  is-bad (inr (inr z)) = or_right (ltb most h.length) _ (or_right (ltb 0 (h.flags / 2)) _ (lt-ltb 0 h.zero z))

  pub fit-bad : (most < h.length) ⊎ ((1 < h.flags) ⊎ (0 < h.zero)) → fit_of h most named ≡ Bad
  unfolding fit_of
  fit-bad g = rw (is-bad g)

  module _ (l : h.length ≤ most) (f : h.flags ≤ 1) (z : h.zero ≡ 0) where
    not-bad : head_bad h most ≡ false
    not-bad = rw (le-ltb most h.length l, le-ltb 0 (h.flags / 2) (omega arith), le-ltb 0 h.zero (omega arith))

    pub fit_small : named < h.length → fit_of h most named ≡ Small
    unfolding fit_of
    fit_small n = rw (not-bad, lt-ltb named h.length n)

    pub fit_is : h.length ≤ named → fit_of h most named ≡ Fits
    unfolding fit_of
    fit_is n = rw (not-bad, le-ltb named h.length n)

-- and what a good fit says of them
pub fit-good : (h : SlotHead) (most named : ℕ) → fit_of h most named ≡ Fits → (h.length ≤ most) × (h.length ≤ named)
unfolding fit_of
fit-good h most named e = by (ltb most h.length) (head_bad h most) (ltb named h.length) refl refl refl e
  where
    by : (l a b : Bool) → ltb most h.length ≡ l → head_bad h most ≡ a → ltb named h.length ≡ b → pick a Bad (pick b Small Fits) ≡ Fits → (h.length ≤ most) × (h.length ≤ named)
    by l true b p q r e = absurd (let z : ◌≡◌ {A = ℕ} 0 1 = cc in omega arith)
    by l false true p q r e = absurd (let z : ◌≡◌ {A = ℕ} 0 1 = cc in omega arith)
    by true false false p q r e = absurd (let u = rw p at q in let z : ◌≡◌ {A = ℕ} 0 1 = cc in omega arith)
    by false false false p q r e = (ltb-false most h.length p, ltb-false named h.length r)

-- a copy of a party whose side is known
pub copy-by : (own : Own) (named val : ℕ) (σ : Side) → own.side ≡ σ
    → copy_move own named val ≡ copy_with σ (fit_move (fit_of (head_of val) (payload_capacity own.slot) named) (head_of val).length (head_of val).tag)
unfolding copy_move
copy-by own named val σ z = ap (λ (x : Side). copy_with x (fit_move (fit_of (head_of val) (payload_capacity own.slot) named) (head_of val).length (head_of val).tag)) z
