-- T3: nobody sleeps without cause, so never both.
use mathlib.Core.Path.{◌≡◌, ap, ◌∙◌}
use mathlib.Core.Bool.{Bool}
use mathlib.Core.List.{List}
use mathlib.Core.Logic.{inr}
use Prim.Native.Nat.{ℕ, ◌-◌}
use native.Mathlib.Omega.{arith}
use Rattle.std.proofs.lemmas.Bool.{or_parts}
use Rattle.words.specs.Le.{le_at}
use Rattle.types.specs.declared.Side.{Side}
use Rattle.types.specs.declared.Side.TheVariants.{Sender, Recorder}
use Rattle.layout.specs.Limits.{capacity}
use Rattle.layout.specs.Header.{flags_at}
use Rattle.layout.specs.Create.{created}
use Rattle.layout.proofs.SizeLaws.{capacity-least}
use Rattle.rules.specs.Sides.{other, rings}
use Rattle.rules.specs.Run.{Happening, party_in, opened}
use Rattle.rules.specs.Premises.{AllTyped, AllFair}
use Rattle.rules.specs.Claims.{room, Fresh, reached, WithCause, NotBoth}
use Rattle.rules.proofs.RealRun.{power-fits, slot-fits, real-start, waiting-is}
use Rattle.rules.proofs.Fairly.{Ready, ready-run, ready-start, quiet-duty, causeless, dozes}
use Rattle.rules.proofs.Leads.{stop_at}
use Rattle.rules.proofs.Real.{room_in}

module _ (r : List ℕ) (P S : ℕ) (on : Bool) (v : ℕ) (fresh : Fresh r P S on v) where
  -- the room in the bytes is the room in the counts
  pub room-is : (side : Side) (hs : List Happening) → AllTyped hs → room side (capacity P) (reached r P S on v hs) ≡ room_in P S v on side (reached r P S on v hs).trace
  room-is Sender hs y = ap (λ (u : ℕ). capacity P - u) (waiting-is r P S on v fresh hs y)
  room-is Recorder hs y = waiting-is r P S on v fresh hs y

  pub ready-reached : (side : Side) (hs : List Happening) → AllTyped hs → AllFair side hs (opened (created r P S on v)) → Ready P S v on side (reached r P S on v hs)
  ready-reached side hs y f =
      ready-run P S v on (power-fits r P S on v fresh) (slot-fits r P S on v fresh) side hs (opened (created r P S on v)) y f (real-start r P S on v fresh) (ready-start P S v on side (created r P S on v))

  pub with-cause : (side : Side) → WithCause r P S on v side
  with-cause side hs y f asleep still =
      let w = reached r P S on v hs in
      let c = causeless (room_in P S v on side w.trace) (stop_at side (le_at 4 w.region flags_at)) (dozes P S v on (rings (other side) on) side (other side) w (quiet-duty (other side) (party_in w (other side)).step still) asleep (ready-reached side hs y f)) in
      (room-is side hs y ∙ c.0, or_parts _ _ c.1)

  pub not-both : NotBoth r P S on v
  not-both hs y f s q =
      let w = reached r P S on v hs in
      let a = (with-cause Sender hs y (f Sender) s (inr q)).0 in
      let b = (with-cause Recorder hs y (f Recorder) q (inr s)).0 in
      let c = capacity-least P (power-fits r P S on v fresh) in
      omega arith
