-- Every word that a party reads, and every slot, after an access: one row an access.
use mathlib.Core.Path.{◌≡◌, refl}
use mathlib.Core.Bool.{Bool, true, false}
use mathlib.Core.List.{List}
use mathlib.Core.Logic.{inr}
use Prim.Native.Nat.{ℕ, ◌+◌, ◌^◌, ◌<◌, ◌≤◌}
use native.Mathlib.Omega.{arith}
use lib.ListN.{length}
use Rattle.layout.proofs.Headed.{counter-in, bell-in}
use Rattle.words.specs.Bytes.{part}
use Rattle.words.specs.Le.{le_at, put_le}
use Rattle.words.specs.Wrap.{next}
use Rattle.words.proofs.Wrapped.{plus-lt}
use Rattle.words.proofs.Sets.{Apart, part_ext}
use Rattle.words.proofs.Laws.{put_le-other, length-put_le}
use Rattle.types.specs.Pick.{pick}
use Rattle.types.specs.declared.Side.{Side}
use Rattle.types.specs.declared.Side.TheVariants.{Sender, Recorder}
use Rattle.types.specs.declared.Bell.{Bell}
use Rattle.types.specs.declared.Bell.TheVariants.{NotEmpty, NotFull}
use Rattle.types.specs.declared.Mark.TheVariants.{Shutdown}
use Rattle.types.specs.declared.Own.{Own}
use Rattle.types.specs.declared.Access.{Access}
use Rattle.types.specs.declared.Access.TheVariants.{None, LoadCounter, LoadFlags, LoadBell, WriteSlot, ReadSlot, StoreCounter, RaiseBell, SetFlag, WaitBell, WakeBell}
use Rattle.layout.specs.Limits.{header_bytes, slot_head_bytes}
use Rattle.layout.specs.Flags.{worth, reserved_from, set_bit}
use Rattle.layout.specs.Header.{power_at, slot_size_at, flags_at, counter_at, bell_at}
use Rattle.layout.proofs.SlotLaws.{part-slot_put-other}
use Rattle.layout.proofs.FlagLaws.{flags-small}
use Rattle.rules.specs.Sides.{same_side}
use Rattle.rules.specs.Bench.{same_bell}
use Rattle.rules.specs.Access.{place_of, leaves_of}
use Rattle.rules.proofs.Frames.{clear, word_kept, counter-stored, bell-raised, flag-set}

abbrev pub flags_by : Access → ℕ → ℕ
flags_by None f = f
flags_by (LoadCounter side) f = f
flags_by LoadFlags f = f
flags_by (LoadBell b) f = f
flags_by (WriteSlot n) f = f
flags_by (ReadSlot n) f = f
flags_by (StoreCounter side n) f = f
flags_by (RaiseBell b) f = f
flags_by (SetFlag m) f = set_bit (worth m) f
flags_by (WaitBell b e) f = f
flags_by (WakeBell b n) f = f

abbrev pub counter_by : Access → Side → ℕ → ℕ
counter_by None side c = c
counter_by (LoadCounter s) side c = c
counter_by LoadFlags side c = c
counter_by (LoadBell b) side c = c
counter_by (WriteSlot n) side c = c
counter_by (ReadSlot n) side c = c
counter_by (StoreCounter s n) side c = pick (same_side s side) n c
counter_by (RaiseBell b) side c = c
counter_by (SetFlag m) side c = c
counter_by (WaitBell b e) side c = c
counter_by (WakeBell b n) side c = c

abbrev pub bell_by : Access → Bell → ℕ → ℕ
bell_by None b c = c
bell_by (LoadCounter s) b c = c
bell_by LoadFlags b c = c
bell_by (LoadBell a) b c = c
bell_by (WriteSlot n) b c = c
bell_by (ReadSlot n) b c = c
bell_by (StoreCounter s n) b c = c
bell_by (RaiseBell a) b c = pick (same_bell a b) (next 32 c) c
bell_by (SetFlag m) b c = c
bell_by (WaitBell a e) b c = c
bell_by (WakeBell a n) b c = c

pub bell-by-small : (a : Access) (b : Bell) (c : ℕ) → c < 2 ^ 32 → bell_by a b c < 2 ^ 32
bell-by-small None b c h = h
bell-by-small (LoadCounter s) b c h = h
bell-by-small LoadFlags b c h = h
bell-by-small (LoadBell a) b c h = h
bell-by-small (WriteSlot n) b c h = h
bell-by-small (ReadSlot n) b c h = h
bell-by-small (StoreCounter s n) b c h = h
bell-by-small (RaiseBell a) b c h = by (same_bell a b)
  where
    by : (t : Bool) → pick t (next 32 c) c < 2 ^ 32
    by true = plus-lt 32 c 1
    by false = h
bell-by-small (SetFlag m) b c h = h
bell-by-small (WaitBell a e) b c h = h
bell-by-small (WakeBell a n) b c h = h

-- a word that no access stores
apart-all : (i w : ℕ) → clear (StoreCounter Sender 0) i w ≡ true → clear (StoreCounter Recorder 0) i w ≡ true → clear (RaiseBell NotEmpty) i w ≡ true → clear (RaiseBell NotFull) i w ≡ true → clear (SetFlag (Shutdown)) i w ≡ true
    → (a : Access) → clear a i w ≡ true
apart-all i w s r e f g None = refl
apart-all i w s r e f g (LoadCounter side) = refl
apart-all i w s r e f g LoadFlags = refl
apart-all i w s r e f g (LoadBell b) = refl
apart-all i w s r e f g (WriteSlot n) = refl
apart-all i w s r e f g (ReadSlot n) = refl
apart-all i w s r e f g (StoreCounter Sender n) = s
apart-all i w s r e f g (StoreCounter Recorder n) = r
apart-all i w s r e f g (RaiseBell NotEmpty) = e
apart-all i w s r e f g (RaiseBell NotFull) = f
apart-all i w s r e f g (SetFlag m) = g
apart-all i w s r e f g (WaitBell b e') = refl
apart-all i w s r e f g (WakeBell b n) = refl

module _ (r : List ℕ) (own : Own) (tag : ℕ) (payload : List ℕ) (long : header_bytes ≤ length r) where
  abbrev after : Access → List ℕ
  after a = leaves_of r own a tag payload

  pub power-after : (a : Access) → le_at 1 (after a) power_at ≡ le_at 1 r power_at
  power-after a = word_kept r own tag payload 1 power_at (omega arith) a (apart-all power_at 1 refl refl refl refl refl a)

  pub slot-size-after : (a : Access) → le_at 4 (after a) slot_size_at ≡ le_at 4 r slot_size_at
  slot-size-after a = word_kept r own tag payload 4 slot_size_at (omega arith) a (apart-all slot_size_at 4 refl refl refl refl refl a)

  flags-kept : (a : Access) → clear a flags_at 4 ≡ true → le_at 4 (after a) flags_at ≡ le_at 4 r flags_at
  flags-kept a t = word_kept r own tag payload 4 flags_at (omega arith) a t

  pub flags-after : le_at 4 r flags_at < reserved_from → (a : Access) → le_at 4 (after a) flags_at ≡ flags_by a (le_at 4 r flags_at)
  flags-after h None = flags-kept None refl
  flags-after h (LoadCounter side) = flags-kept (LoadCounter side) refl
  flags-after h LoadFlags = flags-kept LoadFlags refl
  flags-after h (LoadBell b) = flags-kept (LoadBell b) refl
  flags-after h (WriteSlot n) = flags-kept (WriteSlot n) refl
  flags-after h (ReadSlot n) = flags-kept (ReadSlot n) refl
  flags-after h (StoreCounter Sender n) = flags-kept (StoreCounter Sender n) refl
  flags-after h (StoreCounter Recorder n) = flags-kept (StoreCounter Recorder n) refl
  flags-after h (RaiseBell NotEmpty) = flags-kept (RaiseBell NotEmpty) refl
  flags-after h (RaiseBell NotFull) = flags-kept (RaiseBell NotFull) refl
  flags-after h (SetFlag m) = flag-set r own tag payload long m (omega (arith, flags-small m (le_at 4 r flags_at) h))
  flags-after h (WaitBell b e) = flags-kept (WaitBell b e) refl
  flags-after h (WakeBell b n) = flags-kept (WakeBell b n) refl

  counter-kept : (side : Side) (a : Access) → clear a (counter_at side) 8 ≡ true → le_at 8 (after a) (counter_at side) ≡ le_at 8 r (counter_at side)
  counter-kept side a t = word_kept r own tag payload 8 (counter_at side) (counter-in side) a t

  -- a stored counter is a word
  abbrev pub Word : Access → Type 0
  Word None = Unit
  Word (LoadCounter side) = Unit
  Word LoadFlags = Unit
  Word (LoadBell b) = Unit
  Word (WriteSlot n) = Unit
  Word (ReadSlot n) = Unit
  Word (StoreCounter side n) = n < 2 ^ 64
  Word (RaiseBell b) = Unit
  Word (SetFlag m) = Unit
  Word (WaitBell b e) = Unit
  Word (WakeBell b n) = Unit

  pub counter-after : (side : Side) (a : Access) → Word a → le_at 8 (after a) (counter_at side) ≡ counter_by a side (le_at 8 r (counter_at side))
  counter-after side None h = counter-kept side None refl
  counter-after side (LoadCounter s) h = counter-kept side (LoadCounter s) refl
  counter-after side LoadFlags h = counter-kept side LoadFlags refl
  counter-after side (LoadBell b) h = counter-kept side (LoadBell b) refl
  counter-after side (WriteSlot n) h = counter-kept side (WriteSlot n) refl
  counter-after side (ReadSlot n) h = counter-kept side (ReadSlot n) refl
  counter-after Sender (StoreCounter Sender n) h = counter-stored r own tag payload long Sender n h
  counter-after Sender (StoreCounter Recorder n) h = counter-kept Sender (StoreCounter Recorder n) refl
  counter-after Recorder (StoreCounter Sender n) h = counter-kept Recorder (StoreCounter Sender n) refl
  counter-after Recorder (StoreCounter Recorder n) h = counter-stored r own tag payload long Recorder n h
  counter-after Sender (RaiseBell NotEmpty) h = counter-kept Sender (RaiseBell NotEmpty) refl
  counter-after Sender (RaiseBell NotFull) h = counter-kept Sender (RaiseBell NotFull) refl
  counter-after Recorder (RaiseBell NotEmpty) h = counter-kept Recorder (RaiseBell NotEmpty) refl
  counter-after Recorder (RaiseBell NotFull) h = counter-kept Recorder (RaiseBell NotFull) refl
  counter-after Sender (SetFlag m) h = counter-kept Sender (SetFlag m) refl
  counter-after Recorder (SetFlag m) h = counter-kept Recorder (SetFlag m) refl
  counter-after side (WaitBell b e) h = counter-kept side (WaitBell b e) refl
  counter-after side (WakeBell b n) h = counter-kept side (WakeBell b n) refl

  bell-kept : (b : Bell) (a : Access) → clear a (bell_at b) 4 ≡ true → le_at 4 (after a) (bell_at b) ≡ le_at 4 r (bell_at b)
  bell-kept b a t = word_kept r own tag payload 4 (bell_at b) (bell-in b) a t

  pub bell-after : (b : Bell) (a : Access) → le_at 4 (after a) (bell_at b) ≡ bell_by a b (le_at 4 r (bell_at b))
  bell-after b None = bell-kept b None refl
  bell-after b (LoadCounter s) = bell-kept b (LoadCounter s) refl
  bell-after b LoadFlags = bell-kept b LoadFlags refl
  bell-after b (LoadBell c) = bell-kept b (LoadBell c) refl
  bell-after b (WriteSlot n) = bell-kept b (WriteSlot n) refl
  bell-after b (ReadSlot n) = bell-kept b (ReadSlot n) refl
  bell-after NotEmpty (StoreCounter Sender n) = bell-kept NotEmpty (StoreCounter Sender n) refl
  bell-after NotEmpty (StoreCounter Recorder n) = bell-kept NotEmpty (StoreCounter Recorder n) refl
  bell-after NotFull (StoreCounter Sender n) = bell-kept NotFull (StoreCounter Sender n) refl
  bell-after NotFull (StoreCounter Recorder n) = bell-kept NotFull (StoreCounter Recorder n) refl
  bell-after NotEmpty (RaiseBell NotEmpty) = bell-raised r own tag payload long NotEmpty
  bell-after NotEmpty (RaiseBell NotFull) = bell-kept NotEmpty (RaiseBell NotFull) refl
  bell-after NotFull (RaiseBell NotEmpty) = bell-kept NotFull (RaiseBell NotEmpty) refl
  bell-after NotFull (RaiseBell NotFull) = bell-raised r own tag payload long NotFull
  bell-after NotEmpty (SetFlag m) = bell-kept NotEmpty (SetFlag m) refl
  bell-after NotFull (SetFlag m) = bell-kept NotFull (SetFlag m) refl
  bell-after b (WaitBell c e) = bell-kept b (WaitBell c e) refl
  bell-after b (WakeBell c n) = bell-kept b (WakeBell c n) refl

  -- a part of the ring: only a written slot changes
  stored-elsewhere : (w j x i n : ℕ) → j + w ≤ header_bytes → header_bytes ≤ i → i + n ≤ length r → part (put_le w r j x) i n ≡ part r i n
  stored-elsewhere w j x i n h a b =
      part_ext 0 (put_le w r j x) r i i n (rw length-put_le b) b (λ k l. put_le-other w r j x (i + k) (inr (omega arith)))

  -- the place of a slot that is written is apart
  abbrev pub Elsewhere : Access → (i n : ℕ) → Type 0
  Elsewhere None i n = Unit
  Elsewhere (LoadCounter s) i n = Unit
  Elsewhere LoadFlags i n = Unit
  Elsewhere (LoadBell b) i n = Unit
  Elsewhere (WriteSlot c) i n = Apart (place_of own c) (slot_head_bytes + length payload) i n
  Elsewhere (ReadSlot c) i n = Unit
  Elsewhere (StoreCounter s c) i n = Unit
  Elsewhere (RaiseBell b) i n = Unit
  Elsewhere (SetFlag m) i n = Unit
  Elsewhere (WaitBell b e) i n = Unit
  Elsewhere (WakeBell b c) i n = Unit

  pub part-after : (i n : ℕ) → header_bytes ≤ i → i + n ≤ length r → (a : Access) → Elsewhere a i n → part (after a) i n ≡ part r i n
  unfolding leaves_of
  part-after i n h b None e = refl
  part-after i n h b (LoadCounter s) e = refl
  part-after i n h b LoadFlags e = refl
  part-after i n h b (LoadBell c) e = refl
  part-after i n h b (WriteSlot c) e = part-slot_put-other r (place_of own c) tag payload i n e b
  part-after i n h b (ReadSlot c) e = refl
  part-after i n h b (StoreCounter s c) e = stored-elsewhere 8 (counter_at s) c i n (counter-in s) h b
  part-after i n h b (RaiseBell c) e = stored-elsewhere 4 (bell_at c) (next 32 (le_at 4 r (bell_at c))) i n (bell-in c) h b
  part-after i n h b (SetFlag m) e = stored-elsewhere 4 flags_at (set_bit (worth m) (le_at 4 r flags_at)) i n (omega arith) h b
  part-after i n h b (WaitBell c x) e = refl
  part-after i n h b (WakeBell c x) e = refl
