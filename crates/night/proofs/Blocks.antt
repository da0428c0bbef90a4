-- Reports and nights over blocks of whole records, one after another.
use mathlib.Core.Path.{◌≡◌, refl, ap, ◌∙◌}
use mathlib.Core.List.{List, ◌++◌, append_assoc, append-nil}
use Prim.Native.Nat.{ℕ, zero, suc, ◌+◌, ◌-◌, ◌*◌, ◌≤◌}
use native.Mathlib.Omega.{arith}
use native.Mathlib.Nat.{suc-add, zero-add, add-sub_cancel_left}
use lib.ListN.{length, take, drop, length-append, length-drop}
use lib.Seq.{drop-drop, take_at, drop_at, take-append-le, drop-append-le}
use borrow.Rule.Slice.PartMut.{put_mid}
use Rattle.words.specs.Bytes.{part}
use Rattle.types.specs.Answers.{told_of}
use Rattle.records.specs.Records.{record_bytes, kind_in, asked_in}
use Rattle.reports.proofs.Filled.{length-report}
use Rattle.opening.specs.Night.{Night}
use Rattle.script.specs.Script.{played_by, buffer_by, after, reported, nights, reports}

-- a record less to drop
drop-record : (n : ℕ) (s : List ℕ) → drop (record_bytes * n) (drop record_bytes s) ≡ drop (record_bytes * suc n) s
drop-record n s =
    let e : record_bytes + record_bytes * n ≡ record_bytes * suc n = omega arith in
    drop-drop (record_bytes * n) record_bytes s ∙ ap (λ (k : ℕ). drop k s) e

pub nights-add : (m n : ℕ) (w : Night) (s : List ℕ) → nights (m + n) w s ≡ nights n (nights m w s) (drop (record_bytes * m) s)
unfolding nights
nights-add zero n w s = rw zero-add
nights-add (suc m) n w s = rw (suc-add, ← drop-record m s) (nights-add m n (after w (take record_bytes s)) (drop record_bytes s))

pub reports-add : (m n : ℕ) (w : Night) (s : List ℕ)
    → reports (m + n) w s ≡ reports m w s ++ reports n (nights m w s) (drop (record_bytes * m) s)
unfolding nights reports
reports-add zero n w s = rw zero-add
reports-add (suc m) n w s =
    rw (suc-add, append_assoc, ← drop-record m s)
    (ap (λ (r : List ℕ). reported w (take record_bytes s) ++ r) (reports-add m n (after w (take record_bytes s)) (drop record_bytes s)))

-- n records are read, and nothing behind them
pub nights-front : (n : ℕ) (w : Night) (s t : List ℕ) → record_bytes * n ≤ length s → nights n w (s ++ t) ≡ nights n w s
unfolding nights
nights-front zero w s t h = refl
nights-front (suc n) w s t h =
    rw (take-append-le record_bytes s t (omega arith), drop-append-le record_bytes s t (omega arith))
    (nights-front n (after w (take record_bytes s)) (drop record_bytes s) t (rw length-drop (omega arith)))

pub reports-front : (n : ℕ) (w : Night) (s t : List ℕ) → record_bytes * n ≤ length s → reports n w (s ++ t) ≡ reports n w s
unfolding reports
reports-front zero w s t h = refl
reports-front (suc n) w s t h =
    rw (take-append-le record_bytes s t (omega arith), drop-append-le record_bytes s t (omega arith))
    (ap (λ (r : List ℕ). reported w (take record_bytes s) ++ r) (reports-front n (after w (take record_bytes s)) (drop record_bytes s) t (rw length-drop (omega arith))))

length-reported : (w : Night) (s : List ℕ) → length (reported w s) ≡ record_bytes
unfolding reported
length-reported w s = length-report (kind_in s) (told_of (played_by (asked_in s) w).answer) (buffer_by (asked_in s) w)

pub length-reports : (n : ℕ) (w : Night) (s : List ℕ) → length (reports n w s) ≡ record_bytes * n
unfolding reports
length-reports zero w s = refl
length-reports (suc n) w s =
    rw (length-append, length-reported, length-reports n (after w (take record_bytes s)) (drop record_bytes s)) (omega arith)

-- a part that was lent behind the first a bytes comes back
put-behind : (r t out : List ℕ) (a m : ℕ) → length r ≡ a → put_mid a (a + m - a) (r ++ drop a out) t ≡ (r ++ t) ++ drop (a + m) out
put-behind r t out a m l =
    rw (add-sub_cancel_left, take_at r (drop a out) a l, drop_at r (drop a out) a l, drop-drop, append_assoc)

module _ (w : Night) (s : List ℕ) (k : ℕ) where
  -- one record more
  abbrev next : List ℕ
  next = part s (record_bytes * k) record_bytes

  pub nights-more : nights (k + 1) w s ≡ after (nights k w s) next
  unfolding nights
  nights-more = nights-add k 1 w s

  reports-more : reports (k + 1) w s ≡ reports k w s ++ reported (nights k w s) next
  unfolding reports
  reports-more = reports-add k 1 w s ∙ rw append-nil

  -- its report behind those before it, put in the place of the bytes that were lent for it
  pub told_more : (out : List ℕ)
      → put_mid (record_bytes * k) (record_bytes * k + record_bytes - record_bytes * k) (reports k w s ++ drop (record_bytes * k) out) (reported (nights k w s) next)
      ≡ reports (k + 1) w s ++ drop (record_bytes * (k + 1)) out
  told_more out =
      let e : record_bytes * (k + 1) ≡ record_bytes * k + record_bytes = omega arith in
      rw (reports-more, e)
      (put-behind (reports k w s) (reported (nights k w s) next) out (record_bytes * k) record_bytes (length-reports k w s))
