-- A run of zeros, looked at a word at a time: once over the width.
use mathlib.Core.Path.{◌≡◌, refl, sym, ap, ◌∙◌}
use mathlib.Core.Bool.{Bool, true, false, ◌&&◌, and-false}
use mathlib.Core.List.{List}
use Prim.Native.Nat.{ℕ, zero, suc, ◌+◌, ◌*◌, ◌-◌, ◌/◌, ◌%◌, ◌≤◌}
use native.Mathlib.Omega.{arith}
use native.Mathlib.Nat.{add_comm, div-add-mod}
use borrow.Author.Tests.{eq-eqb, ne_eqb}
use lib.Dec.{eqb}
use lib.ListN.{get_or}
use Rattle.words.specs.Bytes.{zeros}
use Rattle.words.specs.Le.{le_at}
use Rattle.words.proofs.Runs.{zeros-split}

digits-zero : (a b : ℕ) → eqb (a + 256 * b) 0 ≡ (eqb a 0 && eqb b 0)
digits-zero zero zero = eq-eqb (0 + 256 * 0) 0 (omega arith)
digits-zero zero (suc b) = ne_eqb (0 + 256 * suc b) 0 (λ e. omega arith) ∙ sym (ne_eqb (suc b) 0 (λ e. omega arith))
digits-zero (suc a) b = ne_eqb (suc a + 256 * b) 0 (λ e. omega arith) ∙ rw (ne_eqb (suc a) 0 (λ e. omega arith))

-- a word is zero where its bytes are
pub word-zero : (w : ℕ) (s : List ℕ) (i : ℕ) → eqb (le_at w s i) 0 ≡ zeros s w i
unfolding le_at zeros
word-zero zero s i = refl
word-zero (suc w) s i = digits-zero (get_or s i 0) (le_at w s (suc i)) ∙ rw (word-zero w s (suc i))

-- one word more of a run of zeros
pub zeros-more : (w : ℕ) (s : List ℕ) (k i : ℕ) → zeros s k i ≡ true → le_at w s (i + k) ≡ 0 → zeros s (k + w) i ≡ true
zeros-more w s k i e h = zeros-split s k w i ∙ rw (e, ← word-zero w s (i + k), eq-eqb (le_at w s (i + k)) 0 h)

-- a run with a word in it that is not zero
pub zeros-fewer : (w : ℕ) (s : List ℕ) (n k i : ℕ) → k + w ≤ n → (le_at w s (i + k) ≡ 0 → ⊥) → zeros s n i ≡ false
zeros-fewer w s n k i h f =
    let after = n - (k + w) in
    let e : n ≡ k + (w + after) = omega arith in
    ap (λ (m : ℕ). zeros s m i) e
    ∙ zeros-split s k (w + after) i
    ∙ rw (zeros-split s w after (i + k), ← word-zero w s (i + k), ne_eqb (le_at w s (i + k)) 0 f) (and-false (zeros s k i))

-- the odd bytes of a run, of which b is the test, then its whole words
pub odd-first : (w : ℕ) (s : List ℕ) (n i : ℕ) (b : Bool) → zeros s (n % w) i ≡ b → zeros s n i ≡ (b && zeros s (w * (n / w)) (i + n % w))
odd-first w s n i b h =
    let e : n ≡ n % w + w * (n / w) = sym (add_comm (n % w) (w * (n / w)) ∙ div-add-mod n w) in
    ap (λ (m : ℕ). zeros s m i) e ∙ zeros-split s (n % w) (w * (n / w)) i ∙ rw h
