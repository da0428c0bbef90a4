-- How a report is filled up with zeros, and what of a buffer it shows.
use Rattle.std.proofs.Common.{◌≡◌, ℕ, ◌+◌, ◌-◌, ◌≤◌, List, ◌++◌, length, drop, replicate, sym, ap, ◌∙◌, arith, length-append, length-take-le}
use Rattle.std.proofs.lemmas.List.{length-replicate, take-replicate, drop-replicate}
use Rattle.std.proofs.Math.Seq.{take-append-add}
use borrow.Rule.Slice.PartMut.{put_mid}
use Rattle.words.specs.Le.{le_bytes, put_le}
use Rattle.words.proofs.Laws.{length-le_bytes}
use Rattle.types.specs.declared.Told.{Told}
use Rattle.records.specs.Records.{record_bytes, payload_bytes, shown, filled, report_of}

filled-front : (s : List ℕ) (k : ℕ) → filled s (length s + k) ≡ s ++ replicate k 0
filled-front s k = take-append-add s (replicate (length s + k) 0) k ∙ ap (λ (t : List ℕ). s ++ t) (take-replicate k (length s + k) 0 (omega arith))

-- a run over zeros
filled-over : (s : List ℕ) (n : ℕ) → length s ≤ n → s ++ drop (length s) (replicate n 0) ≡ filled s n
filled-over s n h =
    let e : length s + (n - length s) ≡ n = omega arith in
    rw drop-replicate (sym (rw e at (filled-front s (n - length s))))

length-filled : (s : List ℕ) (n : ℕ) → length (filled s n) ≡ n
length-filled s n = length-take-le n (s ++ replicate n 0) (simp (length-append, length-replicate) (omega arith))

pub length-report : (kind : ℕ) (t : Told) (buffer : List ℕ) → length (report_of kind t buffer) ≡ record_bytes
unfolding report_of
length-report kind t buffer = simp (length-append, length-le_bytes, length-filled)

-- the stores of a report over zeros, one after the other
pub report-stores : (kind : ℕ) (t : Told) (buffer s : List ℕ) → s ≡ shown t buffer → length s ≤ payload_bytes
    → put_mid 8 (8 + length s - 8) (put_le 2 (put_le 2 (put_le 2 (put_le 1 (put_le 1 (replicate record_bytes 0) 0 kind) 1 t.number) 2 t.tag) 4 t.length) 6 t.error) s
    ≡ report_of kind t buffer
unfolding put_le le_bytes report_of
report-stores kind t buffer s e h =
    let k : 8 + length s - 8 ≡ length s = omega arith in
    rw (k, ← e) (ap (λ (u : List ℕ). le_bytes 1 kind ++ (le_bytes 1 t.number ++ (le_bytes 2 t.tag ++ (le_bytes 2 t.length ++ (le_bytes 2 t.error ++ u))))) (filled-over s payload_bytes h))
