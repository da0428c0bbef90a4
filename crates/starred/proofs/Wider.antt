-- Every row of the wider table holds.
use mathlib.Core.Path.{◌≡◌, refl, ◌∙◌}
use mathlib.Core.Bool.{false}
use mathlib.Core.List.{List, [], ◌∷◌}
use Prim.Native.Nat.{ℕ, ◌-◌, ◌^◌}
use lib.Dec.{lit<}
use Rattle.words.specs.Wrap.{plus, minus}
use Rattle.types.specs.Answers.{first_of}
use Rattle.types.specs.declared.Side.{Side}
use Rattle.types.specs.declared.Answer.TheVariants.{InvalidCapacity}
use Rattle.layout.specs.Limits.{power_ok, slot_ok, spins_ok, capacity, payload_capacity, ring_bytes, total_bytes}
use Rattle.layout.specs.Slots.{slot_at}
use Rattle.layout.specs.Create.{create_answer}
use Rattle.layout.specs.Attach.{flag_checks}
use Rattle.layout.specs.Whole.{size_checks}
use Rattle.layout.proofs.Accepted.{attach-headed}
use Rattle.starred.specs.Wider.{Row, kept, slot_refused, power_refused, rung, wider, Whole, Rung, RowHolds, AllRowsHold}
use Rattle.starred.proofs.Starred.{Shown, shown, minus_one, top}

-- what is left to compute of each row
abbrev RowShown : Row → Type 0
RowShown (kept c) = Shown c
RowShown (slot_refused slot answer) =
    ((bytes power : ℕ) → create_answer bytes power slot ≡ answer) × ((ring power flags : ℕ) (side : Side) → first_of (size_checks ring power slot flags side) ≡ answer)
RowShown (power_refused power answer) = (power_ok power ≡ false) × (answer ≡ InvalidCapacity)
RowShown (rung reading raised) = Rung reading raised

row-shown : (r : Row) → RowShown r → RowHolds r
unfolding create_answer
row-shown (kept c) s = shown c s
row-shown (slot_refused slot answer) (c, s) = λ power.
    ((λ bytes. c bytes power), λ r ring flags start side spins f few. attach-headed r ring power slot flags start f side spins few ∙ s ring power flags side)
row-shown (power_refused power answer) (p, a) = λ slot s.
    ((λ bytes. rw (s, p, a)), λ r ring flags start side spins f few. attach-headed r ring power slot flags start f side spins few ∙ rw (s, p, a))
row-shown (rung reading raised) e = e

-- every row of a table
data AllShown : List Row → Type 0 where
  end : AllShown []
  ◌⁏◌ : {r : Row} {rs : List Row} → RowShown r → AllShown rs → AllShown (r ∷ rs)

infixr 20 ◌⁏◌
all_shown : {rs : List Row} → AllShown rs → AllRowsHold rs
all_shown end = tt
all_shown (◌⁏◌ {r} s rest) = (row-shown r s, all_shown rest)

pub rows-hold : AllRowsHold wider
unfolding create_answer slot_ok power_ok spins_ok capacity payload_capacity ring_bytes total_bytes slot_at flag_checks plus minus
rows-hold =
    all_shown {rs = wider}
    ((refl, refl, refl)
    ⁏ (refl, refl, refl)
    ⁏ (refl, refl, refl)
    ⁏ (refl, refl)
    ⁏ (refl, refl)
    ⁏ (refl, refl)
    ⁏ ((λ b p. refl), (λ r p f s. refl))
    ⁏ ((λ b p. refl), (λ r p f s. refl))
    ⁏ ((λ b p. refl), (λ r p f s. refl))
    ⁏ ((λ b. refl), (λ r f s. refl))
    ⁏ (lit< tt, refl, refl)
    ⁏ (lit< tt, refl, refl)
    ⁏ lit< tt
    ⁏ (refl, refl)
    ⁏ ((2 ^ 32 - 1, (lit< tt, refl)), minus_one)
    ⁏ ((2147483647, (lit< tt, refl)), top)
    ⁏ (λ s. refl)
    ⁏ refl
    ⁏ (λ a. refl)
    ⁏ end)

pub whole : Whole wider
whole = refl
