use Rattle.std.proofs.Common.{refl}
use native.Mathlib.Nat.{add-sub_cancel_left}
use Rattle.opening.specs.Night.{night_of}
use Rattle.script.specs.Script.{nights, reports}
use Rattle.night.proofs.Blocks.{nights-more, told_more}
use Rattle.night.proofs.play_block.Goals as goal

pub loop-k-init : goal.loop-k-init
unfolding nights reports
loop-k-init c = record { leaves = refl; tells = refl }

pub loop-k-preserved : goal.loop-k-preserved
loop-k-preserved c =
    let p = c.play_record.ensures in
    let l = c.loop-k in
    let w = night_of c.args.region.now c.args.player.now in
    let t = simp (add-sub_cancel_left, l.invariant.leaves) at p.tells in
    record {
      leaves = rw (nights-more w c.args.script.now l.k, ← l.invariant.leaves) (rw add-sub_cancel_left at p.leaves);
      tells = rw (t, l.invariant.tells) (told_more w c.args.script.now l.k c.args.out.now);
    }
