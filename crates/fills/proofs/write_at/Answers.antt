use native.Mathlib.Omega.{arith}
use Rattle.words.proofs.Sets.{sets-lent}
use Rattle.layout.specs.Slots.{slot_bytes, slot_put}
use Rattle.layout.proofs.SlotLaws.{length-slot_bytes}
use Rattle.fills.proofs.write_at.Goals as goal

pub returns : goal.returns
unfolding slot_put
returns c =
    let a = c.args in
    rw c.write.ensures (sets-lent a.region.now a.at a.size (slot_bytes a.tag a.payload.now) (omega arith) (rw length-slot_bytes (omega arith)))
