-- The laws of a slot: its header's fields; what a write left is read back, and nothing else is touched.
use mathlib.Core.Path.{◌≡◌, ap, ◌∙◌}
use mathlib.Core.List.{List, ◌++◌, append_assoc}
use Prim.Native.Nat.{ℕ, ◌+◌, ◌*◌, ◌%◌, ◌/◌, ◌^◌, ◌≤◌, ◌<◌}
use native.Mathlib.Omega.{arith}
use lib.ListN.{length, get_or, length-append}
use lib.Seq.{length-sets, sets}
use Rattle.words.specs.Bytes.{part}
use Rattle.words.specs.Le.{le_at, le_bytes}
use Rattle.words.proofs.Sets.{Outside, Apart, sets-other, sets-append, part_in, part-sets-other, part-sets-same}
use Rattle.words.proofs.Laws.{length-le_bytes, le_at-part, le_at-lt, le_at-sets, le_at-le_bytes, le_at-append, le_at-split}
use Rattle.layout.specs.Limits.{slot_head_bytes}
use Rattle.layout.specs.Slots.{head_word, head_of, payload_in, slot_bytes, slot_put}

pub length-slot_bytes : (tag : ℕ) (payload : List ℕ) → length (slot_bytes tag payload) ≡ slot_head_bytes + length payload
unfolding slot_bytes
length-slot_bytes tag payload = simp (length-append, length-le_bytes) (omega arith)

pub length-slot_put : (r : List ℕ) (at tag : ℕ) (payload : List ℕ) → length (slot_put r at tag payload) ≡ length r
unfolding slot_put
length-slot_put r at tag payload = length-sets r at (slot_bytes tag payload)

-- a byte before the slot, behind the payload, or in any other slot is as it was
pub slot_put-other : (r : List ℕ) (at tag : ℕ) (payload : List ℕ) (k : ℕ) → Outside k at (slot_head_bytes + length payload) → get_or (slot_put r at tag payload) k 0 ≡ get_or r k 0
unfolding slot_put
slot_put-other r at tag payload k o = sets-other r at (slot_bytes tag payload) k 0 (rw length-slot_bytes o)

-- and so is a part that holds no byte of the slot
pub part-slot_put-other : (r : List ℕ) (at tag : ℕ) (payload : List ℕ) (i n : ℕ) → Apart at (slot_head_bytes + length payload) i n → i + n ≤ length r
    → part (slot_put r at tag payload) i n ≡ part r i n
unfolding slot_put
part-slot_put-other r at tag payload i n o h = part-sets-other 0 r at (slot_bytes tag payload) i n (rw length-slot_bytes o) h

-- the words of a slot's header, one after the other
word-here : (n : ℕ) (t : List ℕ) → n < 2 ^ 16 → le_at 2 (le_bytes 2 n ++ t) 0 ≡ n
word-here n t h = le_at-le_bytes 2 n t h

word-past : (n : ℕ) (t : List ℕ) (i : ℕ) → le_at 2 (le_bytes 2 n ++ t) (2 + i) ≡ le_at 2 t i
word-past n t i = rw length-le_bytes at (le_at-append 2 (le_bytes 2 n) t i)

-- a header's one word is its four fields ..
head-word : (s : List ℕ) → head_word s ≡ le_at 2 s 0 + 2 ^ 16 * (le_at 2 s 2 + 2 ^ 16 * (le_at 2 s 4 + 2 ^ 16 * le_at 2 s 6))
head-word s = rw (← le_at-split 2 6 s 0, ← le_at-split 2 4 s 2, ← le_at-split 2 2 s 4)

-- .. and they are taken apart again
head-parts : (l g f z : ℕ) → l < 2 ^ 16 → g < 2 ^ 16 → f < 2 ^ 16 → z < 2 ^ 16
    → head_of (l + 2 ^ 16 * (g + 2 ^ 16 * (f + 2 ^ 16 * z))) ≡ record { length = l; tag = g; flags = f; zero = z }
unfolding head_of
head-parts l g f z a b c d =
    let word : ℕ = l + 2 ^ 16 * (g + 2 ^ 16 * (f + 2 ^ 16 * z)) in
    let first : word % 2 ^ 16 ≡ l = omega arith in
    let past-length : word / 2 ^ 16 ≡ g + 2 ^ 16 * (f + 2 ^ 16 * z) = omega arith in
    let past-tag : word / 2 ^ 32 ≡ f + 2 ^ 16 * z = omega arith in
    let past-flags : word / 2 ^ 48 ≡ z = omega arith in
    let second : (g + 2 ^ 16 * (f + 2 ^ 16 * z)) % 2 ^ 16 ≡ g = omega arith in
    let third : (f + 2 ^ 16 * z) % 2 ^ 16 ≡ f = omega arith in
    let last : z % 2 ^ 16 ≡ z = omega arith in
    rw (first, past-length, second, past-tag, third, past-flags, last)

-- so what is read of a slot's header is the word of 16 bits at 0, at 2, at 4 and at 6
pub head-fields : (s : List ℕ) → ((k : ℕ) → get_or s k 0 < 256) → head_of (head_word s) ≡ record { length = le_at 2 s 0; tag = le_at 2 s 2; flags = le_at 2 s 4; zero = le_at 2 s 6 }
head-fields s bytes =
    ap head_of (head-word s) ∙ head-parts (le_at 2 s 0) (le_at 2 s 2) (le_at 2 s 4) (le_at 2 s 6) (le_at-lt 2 s 0 bytes) (le_at-lt 2 s 2 bytes) (le_at-lt 2 s 4 bytes) (le_at-lt 2 s 6 bytes)

-- what a write left is read back, in the slot of that size at that place
module _ (r : List ℕ) (at size tag : ℕ) (payload : List ℕ) (room : at + size ≤ length r) (fits : slot_head_bytes + length payload ≤ size) where
  written : (i : ℕ) → i + 2 ≤ slot_head_bytes → le_at 2 (part (slot_put r at tag payload) at size) i ≡ le_at 2 (slot_bytes tag payload) i
  unfolding slot_put
  written i h =
      let n : length (slot_bytes tag payload) ≡ slot_head_bytes + length payload = length-slot_bytes tag payload in
      le_at-part 2 (sets r at (slot_bytes tag payload)) at size i (omega arith) ∙ le_at-sets 2 r at (slot_bytes tag payload) i (omega arith) (omega arith)

  put-length : length payload < 2 ^ 16 → le_at 2 (part (slot_put r at tag payload) at size) 0 ≡ length payload
  unfolding slot_bytes
  put-length h = written 0 (omega arith) ∙ word-here (length payload) _ h

  put-tag : tag < 2 ^ 16 → le_at 2 (part (slot_put r at tag payload) at size) 2 ≡ tag
  unfolding slot_bytes
  put-tag h = written 2 (omega arith) ∙ word-past (length payload) _ 0 ∙ word-here tag _ h

  -- slot flags and the zero word
  put-flags : le_at 2 (part (slot_put r at tag payload) at size) 4 ≡ 0
  unfolding slot_bytes
  put-flags = written 4 (omega arith) ∙ word-past (length payload) _ 2 ∙ word-past tag _ 0 ∙ word-here 0 _ (omega arith)

  put-zero : le_at 2 (part (slot_put r at tag payload) at size) 6 ≡ 0
  unfolding slot_bytes
  put-zero = written 6 (omega arith) ∙ word-past (length payload) _ 4 ∙ word-past tag _ 2 ∙ word-past 0 _ 0 ∙ word-here 0 _ (omega arith)

  -- the note's length and tag, and zeros
  pub put-head : length payload < 2 ^ 16 → tag < 2 ^ 16 → head_of (head_word (part (slot_put r at tag payload) at size)) ≡ record { length = length payload; tag = tag; flags = 0; zero = 0 }
  put-head h t = rw (head-word (part (slot_put r at tag payload) at size), put-length h, put-tag t, put-flags, put-zero) (head-parts (length payload) tag 0 0 h t (omega arith) (omega arith))

  pub put_payload : payload_in (part (slot_put r at tag payload) at size) (length payload) ≡ payload
  unfolding slot_put slot_bytes
  put_payload =
      let head : List ℕ = le_bytes 2 (length payload) ++ le_bytes 2 tag ++ le_bytes 2 0 ++ le_bytes 2 0 in
      let n : length head ≡ slot_head_bytes = simp (length-append, length-le_bytes) in
      let e : slot_bytes tag payload ≡ head ++ payload = simp append_assoc in
      part_in 0 (sets r at (slot_bytes tag payload)) at size slot_head_bytes (length payload) (rw length-sets room) fits
      ∙ rw (e, sets-append r at head payload, n) (part-sets-same (sets r at head) (at + slot_head_bytes) payload (rw length-sets (omega arith)))
