use Rattle.std.proofs.Common.{refl, rules}
use Rattle.scans.proofs.Zeros.{odd-first}
use Rattle.scans.proofs.all_zero.Goals as goal

pub returns-then-zero_bytes : goal.returns-then-zero_bytes
returns-then-zero_bytes c =
    let a = c.args in
    search (rules, odd-first 8 a.s.now a.count a.at _ refl)

pub returns-else-zero_bytes : goal.returns-else-zero_bytes
returns-else-zero_bytes c =
    let a = c.args in
    search (rules, odd-first 8 a.s.now a.count a.at _ refl)
