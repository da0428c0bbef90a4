-- T11: a willing party publishes what it has room for, whatever the other does.
use mathlib.Core.Path.{◌≡◌, refl, sym, ◌∙◌, subst}
use mathlib.Core.Bool.{Bool, true, false}
use mathlib.Core.List.{List, [], ◌∷◌, ◌++◌}
use mathlib.Core.Logic.{◌⊎◌, inl, inr}
use Prim.Native.Nat.{ℕ, zero, suc, ◌+◌, ◌*◌, ◌<◌, ◌≤◌}
use native.Mathlib.Omega.{arith}
use lib.ListN.{length}
use Rattle.types.specs.Pick.{pick}
use Rattle.types.specs.declared.Side.{Side}
use Rattle.types.specs.declared.Side.TheVariants.{Sender, Recorder}
use Rattle.types.specs.declared.Step.{Step}
use Rattle.types.specs.declared.Step.TheVariants.{Look, Asleep}
use Rattle.types.specs.declared.Stance.{Stance}
use Rattle.types.specs.declared.Stance.TheVariants.{Sleeping}
use Rattle.layout.specs.Limits.{capacity, power_ok, slot_ok}
use Rattle.layout.specs.Create.{created}
use Rattle.rules.specs.Sides.{other, same_side}
use Rattle.rules.specs.Take.{stance_of}
use Rattle.rules.specs.Run.{Trace, World, Happening, party_in, happens, run, opened, rung_of}
use Rattle.rules.specs.Premises.{AllTyped, Fair, AllFair}
use Rattle.rules.specs.Stretch.{moves, tick_by, Wills, in_call, notes_of}
use Rattle.rules.specs.Claims.{room, Fresh, reached}
use Rattle.rules.specs.Both.{done_by, turns_by, WillingAmid, WaitFree, WaitFreeWhole, WaitFreeMute}
use Rattle.rules.specs.Phase.{phase}
use Rattle.rules.proofs.Views.{kind}
pub use Rattle.rules.proofs.Bright.{Bright, bright-more, bright-on, rung-more, asked-bright}
pub use Rattle.rules.proofs.Strides.{to_stores, stores-most, rest-stays, sleep-stays, room-more, own-most, stride, asked-soon, which}
use Rattle.rules.proofs.Strides.{to_stores_by, x_after, Sure, own-less, stride-by, asked-soon-by}
use Rattle.rules.proofs.Modes.{Mode, worst, Whole, whole, Mute, mute, resting-tells, kept_run}
use Rattle.rules.proofs.Costs.{ahead-slack, Calls, own_room, calls-on}
use Rattle.rules.proofs.RealRun.{power-fits, slot-fits, real-start, real-reached, real-happens}
use Rattle.rules.proofs.Causes.{room-is}
use Rattle.rules.proofs.Bound.{Count, by-moves}
use Rattle.rules.proofs.Asks.{looks, asked-calls, in-call, run-parts, typed-parts}
use Rattle.rules.proofs.Deeds.{Goes, Stays, Deed, deed, goes, stays as still}
use Rattle.rules.proofs.Real.{count_of, room_in, Real}

module _ (P S v : ℕ) (on : Bool) (counted : Stance → Bool) (count : Count counted) where
  -- on the way to so many notes: what is left of them there is room for, and so many turns are left at most
  pub record StridesBy (r : Bool) (x : ℕ) (side : Side) (goal n : ℕ) (w : World) : Type 0 where
    pub left : ℕ
    pub reaches : goal ≤ count_of side w.trace + left
    pub fits : left ≤ room_in P S v on side w.trace
    pub calls : Calls (phase (party_in w side).step)
    pub soon : to_stores_by r x (party_in w side).step left ≤ n
    pub bright : counted Sleeping ≡ true → 0 < left → Bright (phase (party_in w side).step) (rung_of side w.trace)

  abbrev pub Strides : Side → (goal n : ℕ) → World → Type 0
  Strides side goal n w = StridesBy true 1 side goal n w

  module _ (r : Bool) (x : ℕ) (goal n : ℕ) (h : Happening) (w u : World) where
    own_turn : (side : Side) (d : Goes P S v on h side w u) → Sure d.sight r x (party_in w side).step → Wills side h w → (counted Sleeping ≡ true → Fair side h w)
        → StridesBy r x side goal (tick_by counted h w + n) w → StridesBy r (x_after r (stance_of (party_in w side).step) x) side goal n u
    own_turn side d sure will f y =
        let s = (party_in w side).step in
        record {
          left = own_room s y.left;
          reaches = omega (arith, d.own-count y.left, y.reaches);
          fits = rw d.own-room (own-less s y.left (room_in P S v on side w.trace) y.fits);
          calls = calls-on d.sight s (party_in u side).step d.leads y.calls;
          soon = stride-by counted count d.sight r x y.left (λ l. omega (arith, d.room, y.fits)) n (rung_of side w.trace) s (party_in u side).step d.leads sure (kind s) y.calls (d.fits will) y.bright
              (rw (d.tick counted) at y.soon);
          bright = λ e l. bright-on d.sight (omega (arith, d.room, y.fits, own-most s y.left)) s (party_in u side).step d.leads (rung_of side w.trace) (rung_of side u.trace) (d.unheard (f e)) d.own-rung
              (y.bright e (omega (arith, own-most s y.left)));
        }

    own-call : (side : Side) → Stays P S v on h side w u → Wills side h w → StridesBy r x side goal (tick_by counted h w + n) w → StridesBy r x side goal n u
    own-call side d will y =
        let s = (party_in w side).step in
        record {
          left = y.left;
          reaches = rw d.trace y.reaches;
          fits = rw d.trace y.fits;
          calls = asked-calls s (party_in u side).step (d.asked will) y.calls;
          soon = omega (arith, asked-soon-by r x s (party_in u side).step y.left (d.asked will) (which s (party_in u side).step d.own-step), d.tick counted, y.soon);
          bright = λ e l. rw d.trace (asked-bright s (party_in u side).step (rung_of side w.trace) (d.asked will) (y.bright e l));
        }

    -- whatever the other does
    their-turn : (m : Side) → Goes P S v on h m w u → StridesBy r x (other m) goal n w → StridesBy r x (other m) goal n u
    their-turn m d y = by d.woken
      where
        s : Step
        s = (party_in w (other m)).step

        room : y.left ≤ room_in P S v on (other m) u.trace
        room = omega (arith, d.other-room, room-more (party_in w m).step (room_in P S v on (other m) w.trace), y.fits)

        rung : rung_of (other m) w.trace ≤ rung_of (other m) u.trace
        rung = omega (arith, d.other-rung, rung-more m (party_in w m).step (rung_of (other m) w.trace))

        by : ((party_in u (other m)).step ≡ s) ⊎ ((s ≡ Asleep) × ((party_in u (other m)).step ≡ Look)) → StridesBy r x (other m) goal n u
        by (inl e) =
            record {
              left = y.left;
              reaches = rw d.other-count y.reaches;
              fits = room;
              calls = rw e y.calls;
              soon = rw e y.soon;
              bright = λ c l. rw e (bright-more (phase s) (rung_of (other m) w.trace) (rung_of (other m) u.trace) rung (y.bright c l));
            }
        by (inr e) =
            record {
              left = y.left;
              reaches = rw d.other-count y.reaches;
              fits = room;
              calls = rw e.1 tt;
              soon = rw e.1 (omega (arith, asked-soon-by r x Asleep Look y.left looks (inr (inr refl)), subst (λ (z : Step). to_stores_by r x z y.left ≤ n) e.0 y.soon));
              bright = λ c l. rw e.1 tt;
            }

    their-deed : (m : Side) → Deed P S v on h m w u → StridesBy r x (other m) goal n w → StridesBy r x (other m) goal n u
    their-deed m (goes d) y = their-turn m d y
    their-deed m (still d) y =
        record {
          left = y.left;
          reaches = rw d.trace y.reaches;
          fits = rw d.trace y.fits;
          calls = rw d.other_step y.calls;
          soon = rw d.other_step y.soon;
          bright = λ c l. rw (d.other_step, d.trace) (y.bright c l);
        }

  no-turn : (r : Bool) (x : ℕ) (side : Side) (goal n : ℕ) (w : World) → StridesBy r x side goal (0 + n) w → StridesBy r x side goal n w
  no-turn r x side goal n w y = let e : 0 + n ≡ n = omega arith in subst (λ (z : ℕ). StridesBy r x side goal z w) e y

  module _ (r : Bool) (Keeps : Side → (x : ℕ) → World → Type 0) (goal n : ℕ) (h : Happening) (w u : World) (x : ℕ) where
    -- with what it counts on
    abbrev Going : Side → (n x : ℕ) → World → Type 0
    Going side n x w = Keeps side x w × StridesBy r x side goal n w

    own-deed : (side : Side) → Mode P S v on r side (Keeps side) → Deed P S v on h side w u → Wills side h w → (counted Sleeping ≡ true → Fair side h w) → Going side (tick_by counted h w + n) x w → (x' : ℕ) × Going side n x' u
    own-deed side mode (goes d) will f (k, y) = (x_after r (stance_of (party_in w side).step) x, (mode.own_turn x h w u d k, own_turn r x goal n h w u side d (mode.sure x h w u d k) will f y))
    own-deed side mode (still d) will f (k, y) = (x, (mode.own-call x h w u d k, own-call r x goal n h w u side d will y))

    one-deed : (side m : Side) → Mode P S v on r side (Keeps side) → Deed P S v on h m w u → (m ≡ side → Wills side h w) → (counted Sleeping ≡ true → Fair side h w) → Going side (pick (same_side side m) (tick_by counted h w) 0 + n) x w
        → (x' : ℕ) × Going side n x' u
    one-deed Sender Sender mode d will f y = own-deed Sender mode d (will refl) f y
    one-deed Sender Recorder mode d will f (k, y) = (x, (mode.theirs x h w u d k, their-deed r x goal n h w u Recorder d (no-turn r x Sender goal n w y)))
    one-deed Recorder Sender mode d will f (k, y) = (x, (mode.theirs x h w u d k, their-deed r x goal n h w u Sender d (no-turn r x Recorder goal n w y)))
    one-deed Recorder Recorder mode d will f y = own-deed Recorder mode d (will refl) f y

  module _ (power-ok : power_ok P ≡ true) (slot-ok : slot_ok S ≡ true) (side : Side) (goal : ℕ) where
    module _ (r : Bool) (Keeps : Side → (x : ℕ) → World → Type 0) (mode : Mode P S v on r side (Keeps side)) where
      pub strides-on : (hs : List Happening) (w : World) → AllTyped hs → WillingAmid side hs w → (counted Sleeping ≡ true → AllFair side hs w) → Real P S v on w → (n x : ℕ)
          → Keeps side x w → StridesBy r x side goal (turns_by counted side hs w + n) w → (x' : ℕ) × (Keeps side x' (run hs w) × StridesBy r x' side goal n (run hs w))
      unfolding run
      strides-on [] w t m f real n x k y = (x, (k, no-turn r x side goal n w y))
      strides-on (h ∷ hs) w t m f real n x k y =
          let e : pick (same_side side (done_by h)) (tick_by counted h w) 0 + turns_by counted side hs (happens h w) + n ≡ pick (same_side side (done_by h)) (tick_by counted h w) 0 + (turns_by counted side hs (happens h w) + n) = omega arith in
          let one = one-deed r Keeps goal (turns_by counted side hs (happens h w) + n) h w (happens h w) x side (done_by h) mode (deed P S v on power-ok slot-ok h w t.0 real) m.0 (λ c. (f c).0)
          (k, subst (λ (z : ℕ). StridesBy r x side goal z w) e y) in
          strides-on hs (happens h w) t.1 m.1 (λ c. (f c).1) (real-happens P S v on power-ok slot-ok h w t.0 real) n one.0 one.1.0 one.1.1

    -- the worst
    pub strides-run : (hs : List Happening) (w : World) → AllTyped hs → WillingAmid side hs w → (counted Sleeping ≡ true → AllFair side hs w) → Real P S v on w → (n : ℕ)
        → Strides side goal (turns_by counted side hs w + n) w → Strides side goal n (run hs w)
    strides-run hs w t m f real n y =
        let z = strides-on true (λ side x w. x ≡ 1) (worst P S v on side) hs w t m f real n 1 refl y in
        subst (λ (x : ℕ). StridesBy true x side goal n (run hs w)) z.1.0 z.1.1

    -- with no turn left there is nothing left to publish
    none_left : (r : Bool) (x : ℕ) (s : Step) (k : ℕ) → to_stores_by r x s k ≤ 0 → k ≡ 0
    none_left r x s zero h = refl
    none_left r x s (suc k) h = absurd (omega arith)

    pub strides-done : (r : Bool) (x : ℕ) (w : World) → StridesBy r x side goal 0 w → goal ≤ count_of side w.trace
    strides-done r x w y = omega (arith, none_left r x (party_in w side).step y.left y.soon, y.reaches)

    pub strides-end : (w : World) → Strides side goal 0 w → goal ≤ count_of side w.trace
    strides-end w y = strides-done true 1 w y

pub count-is : (side : Side) (t : Trace) → length (notes_of side t) ≡ count_of side t
count-is Sender t = refl
count-is Recorder t = refl

-- the numbers where no check before the first store leads to a ring, and of one that never rings
stores-whole : (s : Step) (k n : ℕ) → 6 * k ≤ n + 1 → to_stores_by true 2 s k ≤ n
stores-whole s zero n h = omega arith
stores-whole s (suc j) n h = omega (arith, ahead-slack s 2)

stores-mute : (s : Step) (k n : ℕ) → 3 * k + 2 ≤ n → to_stores_by false 2 s k ≤ n
stores-mute s zero n h = omega arith
stores-mute s (suc j) n h = omega (arith, ahead-slack s 2)

module _ (r : List ℕ) (P S : ℕ) (on : Bool) (v : ℕ) (fresh : Fresh r P S on v) where
  abbrev world : List Happening → World
  world hs = reached r P S on v hs

  -- by any of the numbers
  free-by : (b : Bool) (side : Side) (Keeps : Side → (x : ℕ) → World → Type 0) → Mode P S v on b side (Keeps side) → (hs ms : List Happening) → AllTyped (hs ++ ms) → (x : ℕ) → Keeps side x (world hs)
      → in_call (party_in (world hs) side).step ≡ true → WillingAmid side ms (world hs) → (k : ℕ) → k ≤ room side (capacity P) (world hs) → to_stores_by b x (party_in (world hs) side).step k ≤ turns_by moves side ms (world hs)
      → length (notes_of side (world hs).trace) + k ≤ length (notes_of side (world (hs ++ ms)).trace)
  free-by b side Keeps mode hs ms t x keeps calls will k fits long =
      let w = world hs in
      let typed = typed-parts hs ms t in
      let power-ok = power-fits r P S on v fresh in
      let slot-ok = slot-fits r P S on v fresh in
      let goal = count_of side w.trace + k in
      let start : StridesBy P S v on moves by-moves b x side goal (turns_by moves side ms w + 0) w =
      record {
        left = k;
        reaches = omega arith;
        fits = omega (arith, fits, room-is r P S on v fresh side hs typed.0);
        calls = in-call (party_in w side).step calls;
        soon = omega arith;
        bright = λ e l. absurd (let z : ◌≡◌ {A = ℕ} 0 1 = cc in omega arith);
      } in
      let end = strides-on P S v on moves by-moves power-ok slot-ok side goal b Keeps mode ms w typed.1 will (λ e. absurd (let z : ◌≡◌ {A = ℕ} 0 1 = cc in omega arith)) (real-reached r P S on v fresh hs typed.0) 0 x keeps start in
      let last = subst (StridesBy P S v on moves by-moves b end.0 side goal 0) (sym (run-parts hs ms (opened (created r P S on v)))) end.1.1 in
      rw (count-is side w.trace, count-is side (world (hs ++ ms)).trace) (strides-done P S v on moves by-moves power-ok slot-ok side goal b end.0 (world (hs ++ ms)) last)

  pub wait-free : (side : Side) → WaitFree r P S on v side
  wait-free side hs ms t calls will k fits long = free-by true side (λ side x w. x ≡ 1) (worst P S v on side) hs ms t 1 refl calls will k fits (omega (arith, stores-most (party_in (world hs) side).step k))

  pub wait-free-whole : (side : Side) → WaitFreeWhole r P S on v side
  wait-free-whole side hs ms t calls will none k fits long =
      let e : room_in P S v on (other side) (world hs).trace ≡ 0 = sym (room-is r P S on v fresh (other side) hs (typed-parts hs ms t).0) ∙ none in
      free-by true side (Whole P S v on) (whole P S v on side) hs ms t 2 (inr (refl, e)) calls will k fits (stores-whole (party_in (world hs) side).step k (turns_by moves side ms (world hs)) long)

  -- whoever never rings is nowhere on the way to it, so on any run
  pub wait-free-mute : WaitFreeMute r P S on v
  wait-free-mute hs ms t calls will off k fits long =
      let start : Mute P S v on Recorder 2 (opened (created r P S on v)) = (refl, resting-tells) in
      let kept = kept_run P S v on false Recorder (Mute P S v on Recorder) (mute P S v on Recorder off) (power-fits r P S on v fresh) (slot-fits r P S on v fresh) hs (opened (created r P S on v)) (typed-parts hs ms t).0 (real-start r P S on v fresh) 2 start in
      free-by false Recorder (Mute P S v on) (mute P S v on Recorder off) hs ms t 2 (refl, kept.1.1) calls will k fits (stores-mute (party_in (world hs) Recorder).step k (turns_by moves Recorder ms (world hs)) long)
