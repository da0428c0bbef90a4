-- Sums and differences that wrap, over the width w in bits: counters at 64, bells at 32.
use Rattle.std.specs.Prelude.{ℕ, ◌+◌, ◌-◌, ◌%◌, ◌^◌}

unfoldable pub plus : ℕ → ℕ → ℕ → ℕ
plus w a b = (a + b) % 2 ^ w

unfoldable pub minus : ℕ → ℕ → ℕ → ℕ
minus w a b = (a + (2 ^ w - b)) % 2 ^ w

-- the next counter; a bell that is raised
abbrev pub next : ℕ → ℕ → ℕ
next w a = plus w a 1
