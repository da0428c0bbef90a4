-- Runs of bytes in a list.
use Rattle.std.specs.Prelude.{ℕ, zero, suc, Bool, true, ◌&&◌, List, [], ◌∷◌, take, drop, ◌==◌, slice_index}

-- the n elements from i on
abbrev pub part : {A : Type 0} → List A → ℕ → ℕ → List A
part s i n = take n (drop i s)

-- the n bytes from i on are zero
unfoldable pub zeros : List ℕ → ℕ → ℕ → Bool
zeros s zero i = true
zeros s (suc n) i = slice_index s i == 0 && zeros s n (suc i)

-- the bytes from i on are those of t
unfoldable pub bytes_are : List ℕ → ℕ → List ℕ → Bool
bytes_are s i [] = true
bytes_are s i (b ∷ t) = slice_index s i == b && bytes_are s (suc i) t
