use Rattle.fills.proofs.Stores.{slot-stores}
use Rattle.fills.proofs.write.Goals as goal

pub returns : goal.returns
returns c =
    let a = c.args in
    rw (c.copy_in.ensures, c.store-4.ensures, c.store-3.ensures, c.store-2.ensures, c.store.ensures) (slot-stores a.slot.now a.tag a.payload.now)
