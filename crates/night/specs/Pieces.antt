-- A script that comes in pieces, as a pipe delivers it: each piece is played as far as its whole records go, and what is
-- left of it waits for the next.
use Rattle.std.specs.Prelude.{List, [], ◌∷◌, ◌++◌, ℕ, ◌*◌, ◌/◌, eqb, length, drop}
use Rattle.types.specs.Pick.{pick}
use Rattle.records.specs.Records.{record_bytes, cut_report}
use Rattle.opening.specs.Night.{Night}
use Rattle.script.specs.Script.{nights, reports}

-- a piece is at most as long as this
abbrev pub block_bytes : ℕ
block_bytes = 65536

-- the whole records, and the bytes behind them
abbrev pub whole_in : List ℕ → ℕ
whole_in s = length s / record_bytes

abbrev pub left_of : List ℕ → List ℕ
left_of s = drop (record_bytes * whole_in s) s

-- the input has ended: what is left is a cut record, if it is anything
abbrev pub ending : List ℕ → List ℕ
ending left = pick (eqb (length left) 0) [] cut_report

-- the report from a night on, with bytes left from the piece before
unfoldable pub in_pieces : Night → (left : List ℕ) → List (List ℕ) → List ℕ
in_pieces w left [] = ending left
in_pieces w left (piece ∷ pieces) =
    reports (whole_in (left ++ piece)) w (left ++ piece)
    ++ in_pieces (nights (whole_in (left ++ piece)) w (left ++ piece)) (left_of (left ++ piece)) pieces

unfoldable pub joined : List (List ℕ) → List ℕ
joined [] = []
joined (piece ∷ pieces) = piece ++ joined pieces
