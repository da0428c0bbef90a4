-- What a flags word says after one bit was set: that bit, and every other as it was.
use mathlib.Core.Path.{◌≡◌, refl}
use mathlib.Core.Bool.{Bool, true, false}
use Prim.Native.Nat.{ℕ, ◌<◌}
use lib.Dec.{ltb}
use Rattle.std.proofs.lemmas.Bool.{ltb-true, agree_below, agree_below_at}
use Rattle.types.specs.Pick.{pick}
use Rattle.types.specs.declared.Mark.{Mark}
use Rattle.types.specs.declared.Mark.TheVariants.{SenderAttached, RecorderAttached, SenderClosed, RecorderClosed, Shutdown}
use Rattle.layout.specs.Flags.{worth, not_full_on, reserved_from, bit_on, set_bit}

-- one's own test for each mark
abbrev pub by_mark : {A : Type 0} → (a b c d e : A) → Mark → A
by_mark a b c d e SenderAttached = a
by_mark a b c d e RecorderAttached = b
by_mark a b c d e SenderClosed = c
by_mark a b c d e RecorderClosed = d
by_mark a b c d e Shutdown = e

abbrev pub same_mark : Mark → Mark → Bool
same_mark SenderAttached m = by_mark true false false false false m
same_mark RecorderAttached m = by_mark false true false false false m
same_mark SenderClosed m = by_mark false false true false false m
same_mark RecorderClosed m = by_mark false false false true false m
same_mark Shutdown m = by_mark false false false false true m

-- a law of every mark that antt computes
every : (f : Mark → Bool) → f SenderAttached ≡ true → f RecorderAttached ≡ true → f SenderClosed ≡ true → f RecorderClosed ≡ true → f Shutdown ≡ true → (m : Mark) → f m ≡ true
every f a b c d e SenderAttached = a
every f a b c d e RecorderAttached = b
every f a b c d e SenderClosed = c
every f a b c d e RecorderClosed = d
every f a b c d e Shutdown = e

-- flags with one bit set: what a bit of them is and what it is to be, the option, and a test that no reserved bit is on
abbrev bit_after : Mark → Mark → ℕ → Bool
bit_after m n flags = bit_on (worth m) (set_bit (worth n) flags)

abbrev bit_due : Mark → Mark → ℕ → Bool
bit_due m n flags = pick (same_mark m n) true (bit_on (worth m) flags)

abbrev option_after : Mark → ℕ → Bool
option_after n flags = bit_on not_full_on (set_bit (worth n) flags)

abbrev small : Mark → ℕ → Bool
small n flags = ltb (set_bit (worth n) flags) reserved_from

abbrev right : Mark → Mark → Bool
right m n = agree_below (bit_after m n) (bit_due m n) reserved_from

all_right : (m n : Mark) → right m n ≡ true
all_right SenderAttached n = every (right SenderAttached) refl refl refl refl refl n
all_right RecorderAttached n = every (right RecorderAttached) refl refl refl refl refl n
all_right SenderClosed n = every (right SenderClosed) refl refl refl refl refl n
all_right RecorderClosed n = every (right RecorderClosed) refl refl refl refl refl n
all_right Shutdown n = every (right Shutdown) refl refl refl refl refl n

module _ (n : Mark) (flags : ℕ) (h : flags < reserved_from) where
  pub mark_set : (m : Mark) → bit_on (worth m) (set_bit (worth n) flags) ≡ pick (same_mark m n) true (bit_on (worth m) flags)
  mark_set m = agree_below_at (bit_after m n) (bit_due m n) reserved_from flags (all_right m n) h

  pub option-kept : bit_on not_full_on (set_bit (worth n) flags) ≡ bit_on not_full_on flags
  option-kept =
      agree_below_at (option_after n) (bit_on not_full_on) reserved_from flags (every (λ n. agree_below (option_after n) (bit_on not_full_on) reserved_from) refl refl refl refl refl n) h

  pub flags-small : set_bit (worth n) flags < reserved_from
  flags-small =
      ltb-true (set_bit (worth n) flags) reserved_from
      (agree_below_at (small n) (λ k. true) reserved_from flags (every (λ n. agree_below (small n) (λ k. true) reserved_from) refl refl refl refl refl n) h)
