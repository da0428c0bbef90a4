-- What T11's numbers count on, kept by whatever happens: nothing, that the other has no room, or that a side never rings.
use mathlib.Core.Path.{◌≡◌, refl, sym, ap, ◌∙◌}
use mathlib.Core.Bool.{Bool, true, false}
use mathlib.Core.List.{List, [], ◌∷◌}
use mathlib.Core.Logic.{◌⊎◌, inl, inr}
use Prim.Native.Nat.{ℕ}
use native.Mathlib.Omega.{arith}
use Rattle.types.specs.declared.Side.{Side}
use Rattle.types.specs.declared.Side.TheVariants.{Sender, Recorder}
use Rattle.types.specs.declared.Step.{Step}
use Rattle.types.specs.declared.Step.TheVariants.{Rest, Look, Check, Raise, Wake, Asleep}
use Rattle.types.specs.declared.Stance.{Stance}
use Rattle.types.specs.declared.Stance.TheVariants.{Resting, Sleeping, Copying, Publishing, Closing, Moving}
use Rattle.layout.specs.Limits.{power_ok, slot_ok}
use Rattle.rules.specs.Sides.{other, rings}
use Rattle.rules.specs.Take.{stance_of}
use Rattle.rules.specs.Run.{World, Happening, party_in, happens, run}
use Rattle.rules.specs.Premises.{AllTyped}
use Rattle.rules.specs.Both.{done_by}
use Rattle.rules.specs.Phase.{phase}
use Rattle.rules.proofs.Leads.{Sight, asks, Leads, tells, owes, raises, enters, spins}
use Rattle.rules.proofs.Does.{other_after}
use Rattle.rules.proofs.Costs.{own_room}
use Rattle.rules.proofs.RealCalls.{Idle, rests, looks, glances, closes, shuts}
use Rattle.rules.proofs.RealRun.{real-happens}
use Rattle.rules.proofs.Bound.{own-room-none}
use Rattle.rules.proofs.Deeds.{whose, Goes, Stays, Deed, deed, goes, stays}
use Rattle.rules.proofs.Strides.{x_after, worst-stays, Sure, sure-worst}
use Rattle.rules.proofs.Real.{free, room_in, Real}

-- a party that checks whether to ring, or rings
pub data Telling : Step → Type 0 where
  checks : {l t : ℕ} → Telling (Check l t)
  raises-bell : {l t : ℕ} → Telling (Raise l t)
  wakes-other : {l t : ℕ} → Telling (Wake l t)

free-not : (s : Step) → free (phase s) ≡ true → Telling s → ⊥
free-not s e checks = let z : ◌≡◌ {A = ℕ} 0 1 = cc in omega arith
free-not s e raises-bell = let z : ◌≡◌ {A = ℕ} 0 1 = cc in omega arith
free-not s e wakes-other = let z : ◌≡◌ {A = ℕ} 0 1 = cc in omega arith

pub resting-tells : Telling Rest → ⊥
resting-tells y = free-not Rest refl y

idle-free : (s : Step) → Idle s → free (phase s) ≡ true
idle-free s rests = refl
idle-free s looks = refl
idle-free s glances = refl
idle-free s closes = refl
idle-free s shuts = refl

-- only one that rings comes to it
telling-from : (g : Sight) → g.rings ≡ false → (s next : Step) → Telling next → Leads g s next → Telling s
telling-from g r s next checks (tells h) = absurd (let q = sym r ∙ h in let z : ◌≡◌ {A = ℕ} 0 1 = cc in omega arith)
telling-from g r s next checks (enters h o) = absurd (free-not next (ap free (asks _ next o)) checks)
telling-from g r s next checks (spins h o) = absurd (free-not next (ap free (asks _ next o)) checks)
telling-from g r s next raises-bell (owes h) = checks
telling-from g r s next raises-bell (enters h o) = absurd (free-not next (ap free (asks _ next o)) raises-bell)
telling-from g r s next raises-bell (spins h o) = absurd (free-not next (ap free (asks _ next o)) raises-bell)
telling-from g r s next wakes-other raises = raises-bell
telling-from g r s next wakes-other (enters h o) = absurd (free-not next (ap free (asks _ next o)) wakes-other)
telling-from g r s next wakes-other (spins h o) = absurd (free-not next (ap free (asks _ next o)) wakes-other)

mute-stays : (u : Stance) → x_after false u 2 ≡ 2
mute-stays Resting = refl
mute-stays Sleeping = refl
mute-stays Copying = refl
mute-stays Publishing = refl
mute-stays Closing = refl
mute-stays Moving = refl

-- a store gives the other room, and nothing else does
whole-on : (u : Stance) → (x_after true u 2 ≡ 1) ⊎ ((x_after true u 2 ≡ 2) × (other_after u 0 ≡ 0))
whole-on Resting = inr (refl, refl)
whole-on Sleeping = inr (refl, refl)
whole-on Copying = inr (refl, refl)
whole-on Publishing = inl refl
whole-on Closing = inr (refl, refl)
whole-on Moving = inr (refl, refl)

module _ (P S v : ℕ) (on : Bool) where
  -- x as `Strides` has it, of one that rings or is said not to
  pub record Mode (r : Bool) (side : Side) (Keeps : (x : ℕ) → World → Type 0) : Type 0 where
    pub sure : (x : ℕ) (h : Happening) (w u : World) (d : Goes P S v on h side w u) → Keeps x w → Sure d.sight r x (party_in w side).step
    pub own_turn : (x : ℕ) (h : Happening) (w u : World) → Goes P S v on h side w u → Keeps x w → Keeps (x_after r (stance_of (party_in w side).step) x) u
    pub own-call : (x : ℕ) (h : Happening) (w u : World) → Stays P S v on h side w u → Keeps x w → Keeps x u
    pub theirs : (x : ℕ) (h : Happening) (w u : World) → Deed P S v on h (other side) w u → Keeps x w → Keeps x u

  not-theirs : (m : Side) (h : Happening) (w u : World) → Deed P S v on h m w u → (Telling (party_in w (other m)).step → ⊥) → Telling (party_in u (other m)).step → ⊥
  not-theirs m h w u (stays d) f y = f (rw d.other_step at y)
  not-theirs m h w u (goes d) f y = by d.woken
    where
      by : ((party_in u (other m)).step ≡ (party_in w (other m)).step) ⊎ (((party_in w (other m)).step ≡ Asleep) × ((party_in u (other m)).step ≡ Look)) → ⊥
      by (inl q) = f (rw q at y)
      by (inr (q, look)) = free-not (party_in u (other m)).step (rw look refl) y

  not-woken : (side : Side) (h : Happening) (w u : World) → Deed P S v on h (other side) w u → (Telling (party_in w side).step → ⊥) → Telling (party_in u side).step → ⊥
  not-woken Sender h w u d f y = not-theirs Recorder h w u d f y
  not-woken Recorder h w u d f y = not-theirs Sender h w u d f y

  module _ (side : Side) where
    pub worst : Mode true side (λ x w. x ≡ 1)
    worst =
        record {
          sure = λ x h w u d e. rw e (sure-worst d.sight (party_in w side).step);
          own_turn = λ x h w u d e. rw e (worst-stays (stance_of (party_in w side).step));
          own-call = λ x h w u d e. e;
          theirs = λ x h w u d e. e;
        }

    -- the other has no room, and is given none before the next store
    abbrev pub Whole : (x : ℕ) → World → Type 0
    Whole x w = (x ≡ 1) ⊎ ((x ≡ 2) × (room_in P S v on (other side) w.trace ≡ 0))

    pub whole : Mode true side Whole
    whole = record { sure = sure; own_turn = own_turn; own-call = λ x h w u d y. rw d.trace y; theirs = λ x h w u d y. theirs x h w u d y }
      where
        sure : (x : ℕ) (h : Happening) (w u : World) (d : Goes P S v on h side w u) → Whole x w → Sure d.sight true x (party_in w side).step
        sure x h w u d (inl e) = rw e (sure-worst d.sight (party_in w side).step)
        sure x h w u d (inr (e, none)) =
            record { mute = λ q. absurd (let z : ◌≡◌ {A = ℕ} 0 1 = cc in omega arith); some = omega arith; rung = λ l t q one. absurd (omega (arith, d.theirs)) }

        own_turn : (x : ℕ) (h : Happening) (w u : World) → Goes P S v on h side w u → Whole x w → Whole (x_after true (stance_of (party_in w side).step) x) u
        own_turn x h w u d (inl e) = inl (rw e (worst-stays (stance_of (party_in w side).step)))
        own_turn x h w u d (inr (e, none)) = rw (e, d.other-room, none) (whole-on (stance_of (party_in w side).step))

        theirs : (x : ℕ) (h : Happening) (w u : World) → Deed P S v on h (other side) w u → Whole x w → Whole x u
        theirs x h w u d (inl e) = inl e
        theirs x h w u (goes d) (inr (e, none)) = inr (e, d.own-room ∙ ap (own_room (party_in w (other side)).step) none ∙ own-room-none (party_in w (other side)).step)
        theirs x h w u (stays d) (inr (e, none)) = inr (e, rw d.trace none)

    -- it never rings
    abbrev pub Mute : (x : ℕ) → World → Type 0
    Mute x w = (x ≡ 2) × (Telling (party_in w side).step → ⊥)

    pub mute : rings side on ≡ false → Mode false side Mute
    mute silent = record { sure = sure; own_turn = own_turn; own-call = own-call; theirs = theirs }
      where
        sure : (x : ℕ) (h : Happening) (w u : World) (d : Goes P S v on h side w u) → Mute x w → Sure d.sight false x (party_in w side).step
        sure x h w u d (e, not) = record { mute = λ q. d.ringing ∙ silent; some = omega arith; rung = λ l t q one. absurd (not (rw q checks)) }

        own_turn : (x : ℕ) (h : Happening) (w u : World) → Goes P S v on h side w u → Mute x w → Mute (x_after false (stance_of (party_in w side).step) x) u
        own_turn x h w u d (e, not) =
            (rw e (mute-stays (stance_of (party_in w side).step)), λ y. not (telling-from d.sight (d.ringing ∙ silent) (party_in w side).step (party_in u side).step y d.leads))

        own-call : (x : ℕ) (h : Happening) (w u : World) → Stays P S v on h side w u → Mute x w → Mute x u
        own-call x h w u d (e, not) = (e, λ y. by y d.own-step)
          where
            by : Telling (party_in u side).step → ((party_in u side).step ≡ (party_in w side).step) ⊎ ((((party_in w side).step ≡ Rest) ⊎ ((party_in w side).step ≡ Asleep)) × Idle (party_in u side).step) → ⊥
            by y (inl q) = not (rw q at y)
            by y (inr (q, idle)) = free-not (party_in u side).step (idle-free (party_in u side).step idle) y

        theirs : (x : ℕ) (h : Happening) (w u : World) → Deed P S v on h (other side) w u → Mute x w → Mute x u
        theirs x h w u d (e, not) = (e, not-woken side h w u d not)

  -- kept by whatever happens, and by a run
  module _ (r : Bool) (side : Side) (Keeps : (x : ℕ) → World → Type 0) (mode : Mode r side Keeps) where
    own-kept : (h : Happening) (w u : World) (x : ℕ) → Deed P S v on h side w u → Keeps x w → (x' : ℕ) × Keeps x' u
    own-kept h w u x (goes d) y = (x_after r (stance_of (party_in w side).step) x, mode.own_turn x h w u d y)
    own-kept h w u x (stays d) y = (x, mode.own-call x h w u d y)

    pub kept_run : power_ok P ≡ true → slot_ok S ≡ true → (hs : List Happening) (w : World) → AllTyped hs → Real P S v on w → (x : ℕ) → Keeps x w → (x' : ℕ) × Keeps x' (run hs w)
    unfolding run
    kept_run p q [] w t real x y = (x, y)
    kept_run p q (h ∷ hs) w t real x y =
        let z = by (done_by h) (whose side (done_by h)) (deed P S v on p q h w t.0 real) in
        kept_run p q hs (happens h w) t.1 (real-happens P S v on p q h w t.0 real) z.0 z.1
      where
        by : (m : Side) → (m ≡ side) ⊎ (m ≡ other side) → Deed P S v on h m w (happens h w) → (x' : ℕ) × Keeps x' (happens h w)
        by m (inl e) d = own-kept h w (happens h w) x (rw e at d) y
        by m (inr e) d = (x, mode.theirs x h w (happens h w) (rw e at d) y)
