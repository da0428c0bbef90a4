-- The words of the two counters, read as rooms.
use mathlib.Core.Path.{◌≡◌, refl, sym, ◌∙◌}
use mathlib.Core.Bool.{Bool, true, false}
use Prim.Native.Nat.{ℕ, zero, suc, ◌+◌, ◌-◌, ◌^◌, ◌<◌, ◌≤◌}
use native.Mathlib.Omega.{arith}
use borrow.Author.Tests.{le-ltb, eq-eqb, ne_eqb, eqb-true, eqb-false}
use lib.Dec.{eqb}
use Rattle.words.specs.Wrap.{plus, minus}
use Rattle.words.proofs.Wrapped.{plus-lt, minus-lt, plus_comm, plus-plus, minus_plus, plus-minus, minus-both}
use Rattle.types.specs.Pick.{pick}
use Rattle.types.specs.declared.Side.{Side}
use Rattle.types.specs.declared.Side.TheVariants.{Sender, Recorder}
use Rattle.types.specs.declared.Room.{Room}
use Rattle.types.specs.declared.Room.TheVariants.{Blocked, Free}
use Rattle.rules.specs.Sides.{limit}
use Rattle.rules.specs.Looks.{room_of, was_blocked}

-- a side with room, and one without
abbrev pub as_room : ℕ → Room
as_room zero = Blocked
as_room (suc k) = Free

-- free slots for the sender, waiting notes for the recorder, of so many used
abbrev pub room_for : Side → (capacity used : ℕ) → ℕ
room_for Sender capacity u = capacity - u
room_for Recorder capacity u = u

as-blocked : (k : ℕ) → k ≡ 0 → as_room k ≡ Blocked
as-blocked zero e = refl
as-blocked (suc k) e = absurd (omega arith)

pub as-free : (k : ℕ) → 0 < k → as_room k ≡ Free
as-free zero h = absurd (omega arith)
as-free (suc k) h = refl

-- a test on numbers that says whether another is so
same_test : (a b c d : ℕ) → (a ≡ b → c ≡ d) → (c ≡ d → a ≡ b) → eqb a b ≡ eqb c d
same_test a b c d f g = by (eqb c d) refl
  where
    by : (t : Bool) → eqb c d ≡ t → eqb a b ≡ eqb c d
    by true e = eq-eqb a b (g (eqb-true c d e)) ∙ sym e
    by false e = ne_eqb a b (λ q. eqb-false c d e (f q)) ∙ sym e

module _ (capacity v sent delivered : ℕ) (below : delivered ≤ sent) (above : sent ≤ delivered + capacity) (room : capacity + 1 < 2 ^ 64) where
  abbrev head : ℕ
  head = plus 64 v sent

  abbrev tail : ℕ
  tail = plus 64 v delivered

  -- head − tail
  pub used-is : minus 64 head tail ≡ sent - delivered
  used-is = minus-both 64 v sent delivered below (omega arith)

  limits : (side : Side) → (sent - delivered ≡ limit side capacity → room_for side capacity (sent - delivered) ≡ 0)
  limits Sender e = omega arith
  limits Recorder e = e

  frees : (side : Side) → (sent - delivered ≡ limit side capacity → ⊥) → 0 < room_for side capacity (sent - delivered)
  frees Sender n = omega (arith, n)
  frees Recorder n = omega (arith, n)

  seen-with : (side : Side) (u : ℕ) → u ≡ sent - delivered → (b : Bool) → eqb u (limit side capacity) ≡ b → pick b Blocked Free ≡ as_room (room_for side capacity (sent - delivered))
  seen-with side u q true e = sym (as-blocked (room_for side capacity (sent - delivered)) (limits side (sym q ∙ eqb-true u (limit side capacity) e)))
  seen-with side u q false e = sym (as-free (room_for side capacity (sent - delivered)) (frees side (λ p. eqb-false u (limit side capacity) e (q ∙ p))))

  -- a look at the other side's counter tells the room: never corrupt
  pub sender-sees : room_of Sender capacity head tail ≡ as_room (room_for Sender capacity (sent - delivered))
  unfolding room_of
  sender-sees = rw (le-ltb capacity (minus 64 head tail) (omega (arith, used-is))) (seen-with Sender (minus 64 head tail) used-is (eqb (minus 64 head tail) capacity) refl)

  pub recorder-sees : room_of Recorder capacity tail head ≡ as_room (room_for Recorder capacity (sent - delivered))
  unfolding room_of
  recorder-sees = rw (le-ltb capacity (minus 64 head tail) (omega (arith, used-is))) (seen-with Recorder (minus 64 head tail) used-is (eqb (minus 64 head tail) 0) refl)

  -- one behind, and one before, by the wrapped difference
  one-back : plus 64 (minus 64 tail 1) (sent - delivered + 1) ≡ head
  one-back =
      let e : 1 + (sent - delivered) ≡ sent - delivered + 1 = omega arith in
      let f : delivered + (sent - delivered) ≡ sent = omega arith in
      let g : plus 64 (minus 64 tail 1) 1 ≡ tail = plus_comm 64 (minus 64 tail 1) 1 ∙ plus-minus 64 tail 1 (plus-lt 64 v delivered) (omega arith) in
      rw (← e, ← plus-plus 64 (minus 64 tail 1) 1 (sent - delivered), g, plus-plus 64 v delivered (sent - delivered), f)

  back-used : minus 64 head (minus 64 tail 1) ≡ sent - delivered + 1
  back-used = rw one-back at (minus_plus 64 (minus 64 tail 1) (sent - delivered + 1) (omega (arith, minus-lt 64 tail 1)) (omega arith))

  -- the check after a store: the other was blocked where it has room for one now
  pub sender-checks : was_blocked Sender capacity head tail ≡ eqb (room_for Recorder capacity (sent - delivered)) 1
  unfolding was_blocked
  sender-checks =
      same_test tail (minus 64 head 1) (sent - delivered) 1
      (λ e.
      let g : plus 64 1 tail ≡ head = rw e (plus-minus 64 head 1 (plus-lt 64 v sent) (omega arith)) in
      let h : minus 64 head tail ≡ 1 = rw (← plus_comm 64 1 tail, g) at (minus_plus 64 tail 1 (omega (arith, plus-lt 64 v delivered)) (omega arith)) in
      sym used-is ∙ h)
      (λ e.
      let g : plus 64 tail 1 ≡ head = rw (used-is, e) at (plus-minus 64 head tail (plus-lt 64 v sent) (omega (arith, plus-lt 64 v delivered))) in
      sym (rw (plus_comm 64 1 tail, g) at (minus_plus 64 1 tail (omega arith) (plus-lt 64 v delivered))))

  pub recorder-checks : was_blocked Recorder capacity tail head ≡ eqb (room_for Sender capacity (sent - delivered)) 1
  unfolding was_blocked
  recorder-checks = same_test (minus 64 head (minus 64 tail 1)) capacity (capacity - (sent - delivered)) 1 (λ e. omega (arith, back-used)) (λ e. back-used ∙ omega arith)
