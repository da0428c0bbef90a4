use Rattle.std.proofs.Common.{◌≡◌, ◌+◌, ◌-◌, ◌*◌, ◌/◌, ◌%◌, arith, length-take-le}
use Rattle.std.proofs.lemmas.List.{drop-take}
use Rattle.records.specs.Records.{record_bytes}
use Rattle.night.proofs.feed_slices.Goals as goal

pub returns-clause-waits : goal.returns-clause-waits
returns-clause-waits c =
    let n = c.args.have in
    let l = c.args.input.now in
    let t = length-take-le n l (omega (arith, c.requires)) in
    let m : record_bytes * (n / record_bytes) ≡ n - n % record_bytes = omega arith in
    let e : n - n % record_bytes + n % record_bytes ≡ n = omega arith in
    rw (c.shift.ensures, t, m, rw e at (drop-take (n - n % record_bytes) (n % record_bytes) l))
