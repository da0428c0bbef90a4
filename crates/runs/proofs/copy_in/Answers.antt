use Rattle.std.proofs.Common.{refl}
use Rattle.words.proofs.Sets.{put_mid-sets}
use Rattle.runs.proofs.copy_in.Goals as goal

pub returns : goal.returns
returns c = rw c.copy_from_slice.ensures.after (put_mid-sets c.args.dst.now c.args.at _ c.args.src.now c.requires refl)
