-- A test of a run of bytes as a test of a part of the list, a byte or a word at a look.
use Rattle.std.proofs.Common.{◌≡◌, ℕ, zero, suc, ◌+◌, ◌*◌, ◌≤◌, List, [], ◌∷◌, length, drop, eqb, refl, sym, arith, drop-cons, mul-zero, mul-add, mul-one, mul-suc, add_assoc}
use Rattle.std.proofs.lemmas.Bool.Decides.{nat_tests}
use Rattle.std.specs.List.{list_all, starts_with, range_with_len}
use native.Mathlib.Nat.{add_comm}
use Rattle.words.specs.Bytes.{part, zeros, bytes_are}
use Rattle.words.specs.Le.{le_at}
use Rattle.words.proofs.Runs.{zeros-split}
use Rattle.scans.proofs.Zeros.{word-zero}

pub zeros-part : (s : List ℕ) (n i : ℕ) → i + n ≤ length s → zeros s n i ≡ list_all (λ b. eqb b 0) (part s i n)
unfolding zeros
zeros-part s zero i h = refl
zeros-part s (suc n) i h = rw (drop-cons s i 0 (omega arith), zeros-part s n (suc i) (omega arith))

-- n words of w bytes, from the a-th on
pub zeros-words : (w : ℕ) (s : List ℕ) (at a n : ℕ) → list_all (λ k. eqb (le_at w s (at + w * k)) 0) (range_with_len a n) ≡ zeros s (w * n) (at + w * a)
unfolding zeros
zeros-words w s at a zero = rw mul-zero
zeros-words w s at a (suc n) =
    let e : (at + w * a) + w ≡ at + w * (a + 1) = rw (mul-add, mul-one, add_assoc) in
    rw (word-zero w s (at + w * a), zeros-words w s at (a + 1) n, ← e, mul-suc, add_comm (w * n) w) (sym (zeros-split s w (w * n) (at + w * a)))

either-way : (a b : ℕ) → eqb a b ≡ eqb b a
either-way a b = grind (arith, nat_tests)

pub bytes_are-part : (s : List ℕ) (i : ℕ) (t : List ℕ) → i + length t ≤ length s → bytes_are s i t ≡ starts_with eqb (drop i s) t
unfolding bytes_are
bytes_are-part s i [] h = refl
bytes_are-part s i (b ∷ t) h = rw (drop-cons s i 0 (omega arith), bytes_are-part s (suc i) t (omega arith), either-way b)
