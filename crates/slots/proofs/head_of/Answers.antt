use mathlib.Core.Path.{◌≡◌}
use Prim.Native.Nat.{ℕ, ◌/◌, ◌%◌}
use native.Mathlib.Omega.{arith}
use Rattle.std.specs.Int.{bytes_low_first}
use Rattle.words.specs.Le.{le_at}
use Rattle.words.proofs.Laws.{le_at-two}
use Rattle.layout.specs.Slots.{head_of}
use Rattle.slots.proofs.head_of.Goals as goal

-- two bytes of a word, as the library writes its eight
at-0 : (n : ℕ) → le_at 2 (bytes_low_first 0 8 n) 0 ≡ n % 65536
at-0 n = rw le_at-two (omega arith)

at-2 : (n : ℕ) → le_at 2 (bytes_low_first 0 8 n) 2 ≡ n / 65536 % 65536
at-2 n = rw le_at-two (omega arith)

at-4 : (n : ℕ) → le_at 2 (bytes_low_first 0 8 n) 4 ≡ n / 4294967296 % 65536
at-4 n = rw le_at-two (omega arith)

at-6 : (n : ℕ) → le_at 2 (bytes_low_first 0 8 n) 6 ≡ n / 281474976710656 % 65536
at-6 n = rw le_at-two (omega arith)

pub returns : goal.returns
unfolding head_of
returns c =
    rw (c.load.ensures, c.load-2.ensures, c.load-3.ensures, c.load-4.ensures, c.to_le_bytes-bytes.ensures) (rw (at-0, at-2, at-4, at-6))
