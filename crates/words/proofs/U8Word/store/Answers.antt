use Rattle.std.proofs.Common.{◌≡◌, ◌%◌, arith}
use Rattle.words.specs.Le.{put_le, le_bytes}
use Rattle.words.proofs.U8Word.store.Goals as goal

pub returns : goal.returns
unfolding put_le le_bytes
returns c =
    let e : c.args.self % 256 ≡ c.args.self = omega arith in
    rw e
