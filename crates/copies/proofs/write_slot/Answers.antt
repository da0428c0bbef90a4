use native.Mathlib.Omega.{arith}
use lib.ListN.{length}
use Rattle.layout.proofs.SizeLaws.{payload-in, payload-short}
use Rattle.copies.proofs.Room.{place_in}
use Rattle.copies.proofs.write_slot.Goals as goal

pub write_at-requires : goal.write_at-requires
write_at-requires c =
    let slot = c.args.own.slot in
    let n = length c.args.payload.now in
    (payload-in slot c.requires.0.slot-in n c.requires.1, payload-short slot c.requires.0.slot-in n c.requires.1, omega (arith, c.place-at.ensures, place_in c.requires.0 c.args.count))
