-- The stores of a slot, one after the other, are its bytes.
use mathlib.Core.Path.{◌≡◌}
use mathlib.Core.List.{List}
use Prim.Native.Nat.{ℕ}
use lib.ListN.{length}
use lib.Seq.{sets}
use Rattle.words.specs.Le.{put_le}
use Rattle.words.proofs.Sets.{sets-append}
use Rattle.words.proofs.Laws.{length-le_bytes}
use Rattle.layout.specs.Limits.{slot_head_bytes}
use Rattle.layout.specs.Slots.{slot_bytes, slot_put}

pub slot-stores : (s : List ℕ) (tag : ℕ) (payload : List ℕ)
    → sets (put_le 2 (put_le 2 (put_le 2 (put_le 2 s 0 (length payload)) 2 tag) 4 0) 6 0) slot_head_bytes payload ≡ slot_put s 0 tag payload
unfolding put_le slot_bytes slot_put
slot-stores s tag payload = simp (sets-append, length-le_bytes)
