-- A turn keeps the notes: the waiting ones in their slots, in order, within the capacity.
use mathlib.Core.Path.{◌≡◌, sym, ap, ap₂, ◌∙◌}
use mathlib.Core.Bool.{Bool, true}
use mathlib.Core.List.{List, [], ◌∷◌, ◌++◌}
use mathlib.Core.Logic.{inl, inr, ⊎_elim}
use Prim.Native.Nat.{ℕ, ◌+◌, ◌-◌, ◌*◌, ◌%◌, ◌^◌, ◌<◌, ◌≤◌}
use native.Mathlib.Decide.{dec_lt}
use native.Mathlib.Nat.{mod-mod_of_dvd, dvd_of_mod-eq-zero, mul-mod_right}
use native.Mathlib.Numerals.{add-one}
use native.Mathlib.Omega.{arith}
use lib.ListN.{length, take, get_or-append}
use lib.Pow.{pow-add}
use lib.Seq.{take-suc, take-append-le, get_or-append_seam}
use Rattle.words.specs.Wrap.{plus}
use Rattle.words.proofs.Sets.{Apart}
use Rattle.words.proofs.Wrapped.{plus-differ}
use Rattle.types.specs.declared.Side.TheVariants.{Sender, Recorder}
use Rattle.types.specs.declared.Party.{Party}
use Rattle.types.specs.declared.Access.{Access}
use Rattle.types.specs.declared.Access.TheVariants.{WriteSlot, StoreCounter}
use Rattle.layout.specs.Limits.{slot_head_bytes, power_ok, slot_ok, capacity}
use Rattle.layout.specs.Slots.{slot_at, head_word, head_of, payload_in}
use Rattle.layout.proofs.SizeLaws.{capacity-is, power-most, slot-behind, slot-within, slots_apart}
use Rattle.rules.specs.Access.{slot_of, leaves_of}
use Rattle.rules.specs.Run.{Note, Trace, Carried, published, traced}
use Rattle.rules.proofs.After.{Elsewhere, part-after}
use Rattle.rules.proofs.Kept.{header-in, length_more}
use Rattle.rules.proofs.Real.{sizes, nth, blank, HoldsAt, Fixed, Queue}

module _ (P S v : ℕ) (on : Bool) (power-ok : power_ok P ≡ true) (slot-ok : slot_ok S ≡ true) where
  -- the capacity divides 2^64, so a wrapped counter falls on the place of the whole one
  even : 2 ^ 64 % capacity P ≡ 0
  even =
      let e : P + (64 - P) ≡ 64 = omega (arith, power-most P power-ok) in
      let f : 2 ^ 64 ≡ 2 ^ P * 2 ^ (64 - P) = ap (λ (n : ℕ). 2 ^ n) (sym e) ∙ pow-add 2 P (64 - P) in
      rw (capacity-is P power-ok) (ap (λ (n : ℕ). n % 2 ^ P) f ∙ mul-mod_right (2 ^ P) (2 ^ (64 - P)))

  place_of : (i : ℕ) → plus 64 v i % capacity P ≡ plus P v i
  unfolding plus
  place_of i = mod-mod_of_dvd (capacity P) (v + i) (dvd_of_mod-eq-zero (capacity P) even) ∙ ap (λ (n : ℕ). (v + i) % n) (capacity-is P power-ok)

  -- notes fewer than a capacity apart have different places
  places-differ : (i j : ℕ) → i < j → j < i + capacity P → plus 64 v i % capacity P ≡ plus 64 v j % capacity P → ⊥
  places-differ i j h l e =
      let s : capacity P ≡ 2 ^ P = capacity-is P power-ok in
      let q : j ≡ i = plus-differ P v j i (omega arith) (omega arith) (sym (place_of j) ∙ sym e ∙ place_of i) in
      omega arith

  module _ (r : List ℕ) (p : Party) (payload : List ℕ) (fixed : Fixed P S v on r) where
    abbrev left : Access → List ℕ
    left a = leaves_of r p.own a p.tag payload

    -- a slot that the access does not write holds what it held
    pub slot_kept : (c : ℕ) (a : Access) → Elsewhere r p.own p.tag payload (header-in P S v on r p payload fixed) a (slot_at P S c) S
        → slot_of (left a) (sizes P S v on Sender 0) c ≡ slot_of r (sizes P S v on Sender 0) c
    slot_kept c a e =
        part-after r p.own p.tag payload (header-in P S v on r p payload fixed) (slot_at P S c) S (slot-behind P power-ok S c)
        (omega (arith, slot-within P power-ok S c, fixed.long)) a e

    pub holds_kept : (i : ℕ) (n : Note) (a : Access) → Elsewhere r p.own p.tag payload (header-in P S v on r p payload fixed) a (slot_at P S (plus 64 v i)) S
        → HoldsAt P S v on r i n → HoldsAt P S v on (left a) i n
    holds_kept i n a e h =
        let k = slot_kept (plus 64 v i) a e in
        record {
          head = ap (λ (s : List ℕ). head_of (head_word s)) k ∙ h.head;
          payload = ap (λ (s : List ℕ). payload_in s (length n.body)) k ∙ h.payload;
          body-fits = h.body-fits;
        }

    -- the slot that a push writes is none of the waiting ones
    pub written-elsewhere : (c i j : ℕ) → p.own ≡ sizes P S v on Sender p.own.spins → c ≡ plus 64 v j → i < j → j < i + capacity P → slot_head_bytes + length payload ≤ S
        → Elsewhere r p.own p.tag payload (header-in P S v on r p payload fixed) (WriteSlot c) (slot_at P S (plus 64 v i)) S
    written-elsewhere c i j o e h l f =
        let far : Apart (slot_at P S c) S (slot_at P S (plus 64 v i)) S = slots_apart P S (plus 64 v i) c (λ q. places-differ i j h l (q ∙ ap (λ (x : ℕ). x % capacity P) e)) in
        rw o (⊎_elim (λ b. inl b) (λ b. inr (omega arith)) far)

    module _ (t : Trace) (buffer : List ℕ) (queue : Queue P S v on r t) where
      abbrev told : Access → Trace
      told a = traced a p payload buffer t

      pub queue-still : (r' : List ℕ) (t' : Trace) → t'.sent ≡ t.sent → t'.delivered ≡ t.delivered
          → ((i : ℕ) (n : Note) → length t.delivered ≤ i → i < length t.sent → HoldsAt P S v on r i n → HoldsAt P S v on r' i n) → Queue P S v on r' t'
      queue-still r' t' e f k =
          record {
            below = rw (e, f) queue.below;
            above = rw (e, f) queue.above;
            order = rw (e, f) queue.order;
            ring = rw (e, f) (λ i h l. k i (nth t.sent i) h l (queue.ring i h l));
          }

      -- no note more and none fewer, and no slot written
      pub queue-quiet : (a : Access) → ((i : ℕ) → Elsewhere r p.own p.tag payload (header-in P S v on r p payload fixed) a (slot_at P S (plus 64 v i)) S)
          → (told a).sent ≡ t.sent → (told a).delivered ≡ t.delivered → Queue P S v on (left a) (told a)
      queue-quiet a w e f = queue-still (left a) (told a) e f (λ i n h l. holds_kept i n a (w i))

      last-is : (notes : List Note) (n : Note) → nth (notes ++ (n ∷ [])) (length notes) ≡ n
      last-is notes n = get_or-append_seam notes n [] blank

      -- a note sent
      pub queue-sent : (c : ℕ) → length t.sent < length t.delivered + capacity P → HoldsAt P S v on r (length t.sent) t.hand → Queue P S v on (left (StoreCounter Sender c)) (told (StoreCounter Sender c))
      queue-sent c room hand =
          record {
            below = rw (length_more t.sent t.hand) (omega (arith, queue.below));
            above = rw (length_more t.sent t.hand) (omega arith);
            order = queue.order ∙ sym (take-append-le (length t.delivered) t.sent (t.hand ∷ []) queue.below);
            ring = λ i h l. by i h (rw (length_more t.sent t.hand) at l) (dec_lt i (length t.sent));
          }
        where
          by : (i : ℕ) → length t.delivered ≤ i → i < length t.sent + 1 → Dec (i < length t.sent) → HoldsAt P S v on (left (StoreCounter Sender c)) i (nth (t.sent ++ (t.hand ∷ [])) i)
          by i h l (yes q) = rw (get_or-append t.sent (t.hand ∷ []) blank i q) (holds_kept i (nth t.sent i) (StoreCounter Sender c) tt (queue.ring i h q))
          by i h l (no q) =
              let e : i ≡ length t.sent = omega arith in
              rw (e, last-is t.sent t.hand) (holds_kept (length t.sent) t.hand (StoreCounter Sender c) tt hand)

      -- the first waiting note delivered
      pub queue-got : (c : ℕ) (s : Carried) → published Recorder s t ≡ told (StoreCounter Recorder c) → length t.delivered < length t.sent
          → nth t.sent (length t.delivered) ≡ record { tag = s.tag; body = take s.length t.buffer }
          → Queue P S v on (left (StoreCounter Recorder c)) (published Recorder s t)
      queue-got c s q room first =
          record {
            below = rw (length_more t.delivered n) (omega arith);
            above = rw (length_more t.delivered n) (omega (arith, queue.above));
            order = rw (length_more t.delivered n, add-one) (ap₂ (λ (xs : List Note) (x : Note). xs ++ (x ∷ [])) queue.order (sym first) ∙ sym (take-suc t.sent (length t.delivered) blank room));
            ring = λ i h l. holds_kept i (nth t.sent i) (StoreCounter Recorder c) tt (queue.ring i (omega (arith, rw (length_more t.delivered n) at h)) l);
          }
        where
          n : Note
          n = record { tag = s.tag; body = take s.length t.buffer }
