-- The laws of sums and differences that wrap, once over the width.
use Rattle.std.proofs.Common.{◌≡◌, ℕ, ◌+◌, ◌-◌, ◌%◌, ◌^◌, ◌<◌, ◌≤◌, sym, ap, ◌∙◌, add-zero, add_assoc, mod-lt, mod-eq_of_lt, arith, pow_pos}
use native.Mathlib.Nat.{add-mod_right, add-mod-mod, mod-add-mod}
use Rattle.words.specs.Wrap.{plus, minus, next}

module _ (w : ℕ) where
  pub plus-lt : (a b : ℕ) → plus w a b < 2 ^ w
  unfolding plus
  plus-lt a b = mod-lt (a + b) (pow_pos w)

  pub minus-lt : (a b : ℕ) → minus w a b < 2 ^ w
  unfolding minus
  minus-lt a b = mod-lt (a + (2 ^ w - b)) (pow_pos w)

  pub plus-small : (a b : ℕ) → a + b < 2 ^ w → plus w a b ≡ a + b
  unfolding plus
  plus-small a b h = mod-eq_of_lt h

  pub plus-zero : (a : ℕ) → a < 2 ^ w → plus w a 0 ≡ a
  plus-zero a h = plus-small a 0 (omega arith) ∙ add-zero a

  pub plus_comm : (a b : ℕ) → plus w a b ≡ plus w b a
  unfolding plus
  plus_comm a b = let e : a + b ≡ b + a = omega arith in rw e

  -- two steps on are one
  pub plus-plus : (a m n : ℕ) → plus w (plus w a m) n ≡ plus w a (m + n)
  unfolding plus
  plus-plus a m n = mod-add-mod (a + m) (2 ^ w) n ∙ rw add_assoc

  -- what was added is the difference
  pub minus_plus : (b n : ℕ) → b ≤ 2 ^ w → n < 2 ^ w → minus w (plus w b n) b ≡ n
  unfolding plus minus
  minus_plus b n h l =
      let e : (b + n) + (2 ^ w - b) ≡ n + 2 ^ w = omega arith in
      mod-add-mod (b + n) (2 ^ w) (2 ^ w - b) ∙ rw (e, add-mod_right n (2 ^ w)) (mod-eq_of_lt l)

  -- the difference, added, leads back
  pub plus-minus : (a b : ℕ) → a < 2 ^ w → b ≤ 2 ^ w → plus w b (minus w a b) ≡ a
  unfolding plus minus
  plus-minus a b l h =
      let e : b + (a + (2 ^ w - b)) ≡ a + 2 ^ w = omega arith in
      add-mod-mod b (a + (2 ^ w - b)) (2 ^ w) ∙ rw (e, add-mod_right a (2 ^ w)) (mod-eq_of_lt l)

  pub minus-self : (a : ℕ) → a < 2 ^ w → minus w a a ≡ 0
  minus-self a h = ap (λ (x : ℕ). minus w x a) (sym (plus-zero a h)) ∙ minus_plus a 0 (omega arith) (pow_pos w)

  pub minus-none : (a b : ℕ) → a < 2 ^ w → b < 2 ^ w → minus w a b ≡ 0 → a ≡ b
  minus-none a b h l e = sym (plus-minus a b h (omega arith)) ∙ rw e (plus-zero b l)

  -- both moved from one start: the start does not matter
  pub minus-both : (c m n : ℕ) → n ≤ m → m - n < 2 ^ w → minus w (plus w c m) (plus w c n) ≡ m - n
  minus-both c m n h l =
      let e : n + (m - n) ≡ m = omega arith in
      let f : plus w (plus w c n) (m - n) ≡ plus w c m = plus-plus c n (m - n) ∙ rw e in
      rw f at (minus_plus (plus w c n) (m - n) (omega (arith, plus-lt c n)) l)

  -- words fewer than 2^w steps apart differ
  pub plus-differ : (c m n : ℕ) → n ≤ m → m - n < 2 ^ w → plus w c m ≡ plus w c n → m ≡ n
  plus-differ c m n h l e =
      let z : m - n ≡ 0 = sym (minus-both c m n h l) ∙ rw e (minus-self (plus w c n) (plus-lt c n)) in
      omega arith

  -- the left number, and the right one, moved on by one
  pub minus-next : (a b : ℕ) → a < 2 ^ w → b < 2 ^ w → minus w a b + 1 < 2 ^ w → minus w (next w a) b ≡ minus w a b + 1
  minus-next a b h l s =
      let e : plus w b (minus w a b + 1) ≡ next w a = sym (plus-plus b (minus w a b) 1) ∙ rw (plus-minus a b h (omega arith)) in
      rw e at (minus_plus b (minus w a b + 1) (omega arith) s)

  pub minus-past : (a b : ℕ) → a < 2 ^ w → b < 2 ^ w → 0 < minus w a b → minus w a (next w b) + 1 ≡ minus w a b
  minus-past a b h l s =
      let q : 1 + (minus w a b - 1) ≡ minus w a b = omega arith in
      let e : plus w (next w b) (minus w a b - 1) ≡ a = plus-plus b 1 (minus w a b - 1) ∙ rw q (plus-minus a b h (omega arith)) in
      let f = rw e at (minus_plus (next w b) (minus w a b - 1) (omega (arith, plus-lt b 1)) (omega (arith, minus-lt a b))) in
      omega arith

  -- one on and one back
  pub next-back : (a : ℕ) → a < 2 ^ w → minus w (next w a) 1 ≡ a
  next-back a h = rw plus_comm (minus_plus 1 a (pow_pos w) h)

  -- the difference as the number that, added, wraps to the left one
  pub minus_is : (a b r : ℕ) → b ≤ 2 ^ w → r < 2 ^ w → (r + b) % 2 ^ w ≡ a → r ≡ minus w a b
  unfolding plus
  minus_is a b r h l e =
      let f : plus w b r ≡ a = plus_comm b r ∙ e in
      sym (rw f at (minus_plus b r h l))
