-- T8: asking is taken.
use mathlib.Core.Path.{◌≡◌}
use mathlib.Core.Bool.{Bool, true}
use mathlib.Core.List.{List}
use Prim.Native.Nat.{ℕ}
use borrow.Author.Tests.{le-leb}
use Rattle.types.specs.declared.Side.{Side}
use Rattle.types.specs.declared.Side.TheVariants.{Sender, Recorder}
use Rattle.types.specs.declared.Party.{Party}
use Rattle.types.specs.declared.Step.TheVariants.{Rest}
use Rattle.layout.specs.Limits.{payload_capacity}
use Rattle.layout.specs.Create.{created}
use Rattle.rules.specs.Calls.{sound, ready, push_spec, pop_spec, close_spec, shut_spec}
use Rattle.rules.specs.Run.{opened}
use Rattle.rules.specs.Claims.{PushBegins, PopBegins, CloseBegins, ShutBegins, PushBeginsAs, PopBeginsAs, CloseBeginsAs, ShutBeginsAs, Fresh, reached, Sound}
use Rattle.rules.proofs.RealRun.{power-fits, slot-fits, real-reached}
use Rattle.rules.proofs.Sized.{sized-run, sized-start, sound-here}

is-ready : (side : Side) (p : Party) → sound side p ≡ true → p.step ≡ Rest → ready side p ≡ true
unfolding ready
is-ready side p h e = rw (h, e)

pub push-begins : (p : Party) → PushBegins p
unfolding push_spec
push-begins p h e c blocking tag length heard fits = rw (is-ready Sender p h e, c, heard, le-leb length (payload_capacity p.own.slot) fits)

pub pop-begins : (p : Party) → PopBegins p
unfolding pop_spec
pop-begins p h e c blocking length = rw (is-ready Recorder p h e, c)

pub close-begins : (side : Side) (p : Party) → CloseBegins side p
unfolding close_spec
close-begins side p h e c = rw (is-ready side p h e, c)

pub shut-begins : (side : Side) (p : Party) → ShutBegins side p
unfolding shut_spec
shut-begins side p h e = rw (is-ready side p h e)

-- and the record that it then is, field by field
pub push-begins-as : (p : Party) → PushBeginsAs p
push-begins-as p = push-begins p

pub pop-begins-as : (p : Party) → PopBeginsAs p
pop-begins-as p = pop-begins p

pub close-begins-as : (side : Side) (p : Party) → CloseBeginsAs side p
close-begins-as side p = close-begins side p

pub shut-begins-as : (side : Side) (p : Party) → ShutBeginsAs side p
shut-begins-as side p = shut-begins side p

module _ (r : List ℕ) (P S : ℕ) (on : Bool) (v : ℕ) (fresh : Fresh r P S on v) where
  pub always-sound : (side : Side) → Sound r P S on v side
  always-sound side hs t here =
      sound-here P S v on (power-fits r P S on v fresh) (slot-fits r P S on v fresh) (reached r P S on v hs) (real-reached r P S on v fresh hs t)
      (sized-run hs (opened (created r P S on v)) (sized-start (created r P S on v))) side here
