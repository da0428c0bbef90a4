-- Every starred case holds.
use mathlib.Core.Path.{◌≡◌, refl, sym, ◌∙◌}
use mathlib.Core.Bool.{Bool, true, false}
use mathlib.Core.List.{List, [], ◌∷◌}
use Prim.Native.Nat.{ℕ, suc, ◌-◌, ◌^◌, ◌<◌}
use native.Mathlib.Omega.{arith}
use borrow.Author.Tests.{lt-ltb, eq-eqb}
use lib.Dec.{ltb, lit<}
use lib.IntN.{pos, negsuc}
use mir.Syntax.{w32}
use mir.Val.{to_z, sel}
use Rattle.words.specs.Wrap.{plus, minus, next}
use Rattle.words.proofs.Wrapped.{minus_plus}
use Rattle.types.specs.Pick.{pick}
use Rattle.types.specs.Answers.{first_of}
use Rattle.types.specs.declared.Side.{Side}
use Rattle.types.specs.declared.Room.TheVariants.{Corrupt}
use Rattle.types.specs.declared.Answer.{Answer}
use Rattle.types.specs.declared.Answer.TheVariants.{Done, BadCall}
use Rattle.layout.specs.Limits.{most_power, most_slot, power_ok, slot_ok, spins_ok, capacity, payload_capacity, ring_bytes, total_bytes}
use Rattle.layout.specs.Slots.{slot_at}
use Rattle.layout.specs.Create.{create_answer}
use Rattle.layout.specs.Attach.{flag_checks, region_checks, attach_checks, attach_answer}
use Rattle.layout.proofs.SizeLaws.{capacity-most, slot-most, total-most, spins-none}
use Rattle.layout.proofs.Accepted.{size_checks, spins-taken, attach-headed, accepted as accepted-by}
use Rattle.rules.specs.Looks.{room_with, room_of}
use Rattle.starred.specs.Cases.{Case, accepted, largest, refused, flagged, spinning, overspun, used, corrupt, place, bell, Largest, Spinning, Overspun, CorruptAt, Raised, Holds, AllHold, starred}

-- What is left to compute of each row; the laws do the rest, so the table's sizes stand in the table alone.
abbrev pub Shown : Case → Type 0
Shown (accepted power slot total payload) = (total_bytes power slot ≡ total) × (payload_capacity slot ≡ payload) × (create_answer total power slot ≡ Done 0 0)
Shown (largest total payload) = (total_bytes most_power most_slot ≡ total) × (payload_capacity most_slot ≡ payload)
Shown (refused power slot answer) =
    ((bytes : ℕ) → create_answer bytes power slot ≡ answer) × ((ring flags : ℕ) (side : Side) → first_of (size_checks ring power slot flags side) ≡ answer)
Shown (flagged flags answer) = (side : Side) → first_of (flag_checks flags side) ≡ answer
Shown (spinning spins) = spins_ok spins ≡ true
Shown (overspun spins answer) = (shape : Answer) → pick (spins_ok spins) shape BadCall ≡ answer
Shown (used capacity n sender recorder) = (n < 2 ^ 64) × (room_with n capacity capacity ≡ sender) × (room_with n capacity 0 ≡ recorder)
Shown (corrupt head tail) = capacity most_power < minus 64 head tail
Shown (place power slot count at after) = (slot_at power slot count ≡ at) × (next 64 count ≡ after)
Shown (bell reading raised) = Raised reading raised

too_many : (n capacity limit : ℕ) → capacity < n → room_with n capacity limit ≡ Corrupt
too_many n capacity limit h = rw (lt-ltb capacity n h)

far : (head tail : ℕ) → capacity most_power < minus 64 head tail → CorruptAt head tail
unfolding room_of
far head tail h power =
    let l : capacity power < minus 64 head tail = omega (arith, capacity-most power) in
    (too_many (minus 64 head tail) (capacity power) (capacity power) l, too_many (minus 64 head tail) (capacity power) 0 l)

most : (total payload : ℕ) → total_bytes most_power most_slot ≡ total → payload_capacity most_slot ≡ payload → Largest total payload
unfolding payload_capacity power_ok slot_ok
most total payload t p =
    ((λ power slot power-ok slot-ok. (rw t at (total-most slot slot-ok power), omega (arith, slot-most slot slot-ok))), (most_power, (most_slot, (refl, (refl, (t, p))))))

few : (spins : ℕ) → spins_ok spins ≡ true → Spinning spins
few spins h r side = spins-taken r side spins h ∙ sym (spins-taken r side 0 spins-none)

many : (spins : ℕ) (answer : Answer) → ((shape : Answer) → pick (spins_ok spins) shape BadCall ≡ answer) → Overspun spins answer
unfolding attach_answer attach_checks
many spins answer c r side = c (first_of (region_checks r side))

-- What create makes of accepted sizes, attach accepts; a count decides before all the rest, refused sizes before the rest
-- of the header, and flags last; the start of the counters does not matter.
pub shown : (c : Case) → Shown c → Holds c
unfolding room_of
shown (accepted power slot total payload) (t, p, c) =
    (t, p, c, λ r notfull start side spins long small few. accepted-by r power slot notfull start (rw long c) small side spins few)
shown (largest total payload) (t, p) = most total payload t p
shown (refused power slot answer) (c, s) = (c, λ r ring flags start side spins f few. attach-headed r ring power slot flags start f side spins few ∙ s ring flags side)
shown (flagged flags answer) c = λ r power slot start side spins p s few f.
    attach-headed r (ring_bytes power slot) power slot flags start f side spins few
    ∙ rw (s, p, eq-eqb (ring_bytes power slot) (ring_bytes power slot) refl) (c side)
shown (spinning spins) h = few spins h
shown (overspun spins answer) c = many spins answer c
shown (used capacity n sender recorder) (h, s, r) = λ tail t. rw (minus_plus 64 tail n (omega arith) h) (s, r)
shown (corrupt head tail) h = far head tail h
shown (place power slot count at after) e = e
shown (bell reading raised) e = e

-- every row of a table
data AllShown : List Case → Type 0 where
  end : AllShown []
  ◌⁏◌ : {c : Case} {cs : List Case} → Shown c → AllShown cs → AllShown (c ∷ cs)

infixr 20 ◌⁏◌
all_shown : {cs : List Case} → AllShown cs → AllHold cs
all_shown end = tt
all_shown (◌⁏◌ {c} s rest) = (shown c s, all_shown rest)

-- a signed reading has one word
reading-one : (n : ℕ) → n < 2 ^ 32 → to_z w32 n ≡ negsuc 0 → n ≡ 2 ^ 32 - 1
reading-one n h e = by (ltb n (2 ^ 31)) e
  where
    by : (b : Bool) → sel b (pos n) (negsuc (2 ^ 32 - suc n)) ≡ negsuc 0 → n ≡ 2 ^ 32 - 1
    by true q = absurd (let z : ◌≡◌ {A = ℕ} 0 1 = cc in omega arith)
    by false q = let z : 2 ^ 32 - suc n ≡ 0 = cc in omega arith

reading-most : (n : ℕ) → to_z w32 n ≡ pos 2147483647 → n ≡ 2147483647
reading-most n e = by (ltb n (2 ^ 31)) e
  where
    by : (b : Bool) → sel b (pos n) (negsuc (2 ^ 32 - suc n)) ≡ pos 2147483647 → n ≡ 2147483647
    by true q = cc
    by false q = absurd (let z : ◌≡◌ {A = ℕ} 0 1 = cc in omega arith)

pub minus_one : Raised (negsuc 0) (pos 0)
unfolding plus
minus_one n h e = rw (reading-one n h e)

pub top : Raised (pos 2147483647) (negsuc 2147483647)
unfolding plus
top n h e = rw (reading-most n e)

pub holds : AllHold starred
unfolding create_answer slot_ok power_ok spins_ok capacity payload_capacity ring_bytes total_bytes slot_at flag_checks plus minus
holds =
    all_shown {cs = starred}
    ((refl, refl, refl)
    ⁏ (refl, refl, refl)
    ⁏ (refl, refl)
    ⁏ ((λ b. refl), (λ r f s. refl))
    ⁏ ((λ b. refl), (λ r f s. refl))
    ⁏ ((λ b. refl), (λ r f s. refl))
    ⁏ ((λ b. refl), (λ r f s. refl))
    ⁏ ((λ b. refl), (λ r f s. refl))
    ⁏ ((λ b. refl), (λ r f s. refl))
    ⁏ (lit< tt, refl, refl)
    ⁏ (lit< tt, refl, refl)
    ⁏ lit< tt
    ⁏ (refl, refl)
    ⁏ minus_one
    ⁏ top
    ⁏ (λ s. refl)
    ⁏ refl
    ⁏ (λ a. refl)
    ⁏ end)
