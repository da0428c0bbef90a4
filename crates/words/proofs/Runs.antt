-- Tests of a run of bytes: what they say of each byte of it, and how a run splits.
use Rattle.std.proofs.Common.{◌≡◌, ℕ, zero, suc, ◌+◌, ◌<◌, true, false, ◌&&◌, eqb, List, [], ◌∷◌, ◌++◌, length, get_or, replicate, sym, refl, ◌∙◌, add-zero, add-suc, suc-add, arith, eq-eqb, ne_eqb}
use mathlib.Core.Bool.{and_assoc, and-false}
use lib.ListN.{length-replicate, get_or-replicate, replicate-append-replicate}
use Rattle.words.specs.Bytes.{zeros, bytes_are}

-- the place after the first, as a definition recurses and as a law counts
step : (s : List ℕ) (i k : ℕ) → get_or s (suc i + k) 0 ≡ get_or s (i + suc k) 0
step s i k = rw (suc-add, add-suc)

-- a run whose every byte agrees
pub bytes_are-true : (s : List ℕ) (i : ℕ) (t : List ℕ) → ((k : ℕ) → k < length t → get_or s (i + k) 0 ≡ get_or t k 0) → bytes_are s i t ≡ true
unfolding bytes_are
bytes_are-true s i [] h = refl
bytes_are-true s i (b ∷ t) h =
    rw (eq-eqb (get_or s i 0) b (rw add-zero at (h 0 (omega arith))))
    (bytes_are-true s (suc i) t (λ k l. step s i k ∙ h (suc k) (omega arith)))

-- a run with a byte that does not
pub bytes_are-false : (s : List ℕ) (i : ℕ) (t : List ℕ) (k : ℕ) → k < length t → (get_or s (i + k) 0 ≡ get_or t k 0 → ⊥) → bytes_are s i t ≡ false
unfolding bytes_are
bytes_are-false s i [] k h n = absurd (omega arith)
bytes_are-false s i (b ∷ t) zero h n = rw (ne_eqb (get_or s i 0) b (λ e. n (rw add-zero e)))
bytes_are-false s i (b ∷ t) (suc k) h n =
    rw (bytes_are-false s (suc i) t k (omega arith) (λ e. n (sym (step s i k) ∙ e))) (and-false (eqb (get_or s i 0) b))

-- a run that begins with another
pub bytes_are-split : (s : List ℕ) (i : ℕ) (t u : List ℕ) → bytes_are s i (t ++ u) ≡ (bytes_are s i t && bytes_are s (i + length t) u)
unfolding bytes_are
bytes_are-split s i [] u = rw add-zero
bytes_are-split s i (b ∷ t) u =
    rw (bytes_are-split s (suc i) t u, suc-add, ← add-suc) (sym (and_assoc (eqb (get_or s i 0) b) (bytes_are s (suc i) t) (bytes_are s (i + suc (length t)) u)))

-- a run of zeros is a run of bytes like any other, so the laws of zeros are those of bytes_are
zeros-are : (s : List ℕ) (n i : ℕ) → zeros s n i ≡ bytes_are s i (replicate n 0)
unfolding zeros bytes_are
zeros-are s zero i = refl
zeros-are s (suc n) i = rw (zeros-are s n (suc i))

in-run : (n k : ℕ) → k < length {A = ℕ} (replicate n 0) → k < n
in-run n k h = rw length-replicate at h

pub zeros-true : (s : List ℕ) (n i : ℕ) → ((k : ℕ) → k < n → get_or s (i + k) 0 ≡ 0) → zeros s n i ≡ true
zeros-true s n i h =
    zeros-are s n i ∙ bytes_are-true s i (replicate n 0) (λ k l. h k (in-run n k l) ∙ sym (get_or-replicate n k 0 0 (in-run n k l)))

pub zeros-split : (s : List ℕ) (m n i : ℕ) → zeros s (m + n) i ≡ (zeros s m i && zeros s n (i + m))
zeros-split s m n i =
    rw (zeros-are s (m + n) i, zeros-are s m i, zeros-are s n (i + m), ← replicate-append-replicate, bytes_are-split s i (replicate m 0) (replicate n 0), length-replicate)
