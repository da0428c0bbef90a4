-- Little-endian words in a list of bytes, over the width w in bytes.
use Rattle.std.specs.Prelude.{ℕ, zero, suc, ◌+◌, ◌*◌, ◌/◌, ◌%◌, List, [], ◌∷◌, slice_index}
use Rattle.std.proofs.lemmas.List.Edits.{sets}

-- the word in the w bytes from i on
unfoldable pub le_at : ℕ → List ℕ → ℕ → ℕ
le_at zero s i = 0
le_at (suc w) s i = slice_index s i + 256 * le_at w s (suc i)

-- the w bytes of a word, the lowest first
unfoldable pub le_bytes : ℕ → ℕ → List ℕ
le_bytes zero n = []
le_bytes (suc w) n = n % 256 ∷ le_bytes w (n / 256)

-- the list with the word n stored in the w bytes from i on
unfoldable pub put_le : ℕ → List ℕ → ℕ → ℕ → List ℕ
put_le w s i n = sets s i (le_bytes w n)
