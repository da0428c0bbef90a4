-- A script that comes in pieces, cut anywhere, is reported as the whole of it is.
use mathlib.Core.Path.{◌≡◌, sym}
use mathlib.Core.List.{List, [], ◌∷◌, ◌++◌, append_assoc, append-nil}
use Prim.Native.Nat.{ℕ, ◌+◌, ◌-◌, ◌*◌, ◌%◌, ◌≤◌, ◌<◌}
use native.Mathlib.Omega.{arith}
use lib.Dec.{eqb}
use lib.ListN.{length, drop, length-drop, length-append}
use lib.Seq.{drop-append-le}
use Rattle.types.specs.Pick.{pick}
use Rattle.records.specs.Records.{record_bytes, cut_report}
use Rattle.opening.specs.Night.{Night, start}
use Rattle.script.specs.Script.{nights, reports, report}
use Rattle.night.specs.Pieces.{whole_in, left_of, in_pieces, joined}
use Rattle.night.proofs.Blocks.{nights-front, reports-add, reports-front}

-- the report of a script from a night on
report_from : Night → List ℕ → List ℕ
report_from w s = reports (whole_in s) w s ++ pick (eqb (length s % record_bytes) 0) [] cut_report

pub left-short : (s : List ℕ) → length (left_of s) < record_bytes
left-short s = rw length-drop (omega arith)

-- a script that begins with a piece: the piece's whole records, and then what was left of it with the rest
from-piece : (w : Night) (s t : List ℕ)
    → reports (whole_in s) w s ++ report_from (nights (whole_in s) w s) (left_of s ++ t) ≡ report_from w (s ++ t)
unfolding report_from
from-piece w s t =
    let f : record_bytes * whole_in s ≤ length s = omega arith in
    let d : drop (record_bytes * whole_in s) (s ++ t) ≡ left_of s ++ t = drop-append-le (record_bytes * whole_in s) s t f in
    let l : length (left_of s ++ t) ≡ length (s ++ t) - record_bytes * whole_in s = simp (length-append, length-drop) (omega arith) in
    let g : length s ≤ length (s ++ t) = rw length-append (omega arith) in
    let e : whole_in (s ++ t) ≡ whole_in s + whole_in (left_of s ++ t) = omega arith in
    let m : length (s ++ t) % record_bytes ≡ length (left_of s ++ t) % record_bytes = omega arith in
    rw (e, m, reports-add (whole_in s) (whole_in (left_of s ++ t)) w (s ++ t), d, reports-front (whole_in s) w s t f, nights-front (whole_in s) w s t f)
    (sym (append_assoc (reports (whole_in s) w s) (reports (whole_in (left_of s ++ t)) (nights (whole_in s) w s) (left_of s ++ t)) (pick (eqb (length (left_of s ++ t) % record_bytes) 0) [] cut_report)))

pieces-from : (w : Night) (left : List ℕ) (pieces : List (List ℕ)) → length left < record_bytes
    → in_pieces w left pieces ≡ report_from w (left ++ joined pieces)
unfolding in_pieces joined reports report_from
pieces-from w left [] h =
    let e : whole_in left ≡ 0 = omega arith in
    let m : length left % record_bytes ≡ length left = omega arith in
    rw (append-nil, e, m)
pieces-from w left (piece ∷ pieces) h =
    let s = left ++ piece in
    let i = pieces-from (nights (whole_in s) w s) (left_of s) pieces (left-short s) in
    rw (i, ← append_assoc left piece (joined pieces)) (from-piece w s (joined pieces))

-- a script that comes in pieces
pub in-pieces : (pieces : List (List ℕ)) → in_pieces start [] pieces ≡ report (joined pieces)
unfolding report report_from
in-pieces pieces = pieces-from start [] pieces (omega arith)
