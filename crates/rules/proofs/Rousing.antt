-- T3, the other way round: when the other has taken the turns up to its wake, the sleep is over.
use mathlib.Core.Path.{◌≡◌, refl, sym, ap, ◌∙◌, subst}
use mathlib.Core.Bool.{Bool, true}
use mathlib.Core.List.{List, [], ◌∷◌, ◌++◌}
use mathlib.Core.Logic.{◌⊎◌, inl, inr, ⊎_elim}
use Prim.Native.Nat.{ℕ, zero, suc, ◌+◌, ◌<◌, ◌≤◌}
use native.Mathlib.Omega.{arith}
use Rattle.words.specs.Le.{le_at}
use Rattle.types.specs.Pick.{pick}
use Rattle.types.specs.declared.Side.{Side}
use Rattle.types.specs.declared.Side.TheVariants.{Sender, Recorder}
use Rattle.types.specs.declared.Step.{Step}
use Rattle.types.specs.declared.Step.TheVariants.{Rest, Look, Asleep}
use Rattle.layout.specs.Limits.{power_ok, slot_ok}
use Rattle.layout.specs.Header.{flags_at}
use Rattle.layout.specs.Create.{created}
use Rattle.rules.specs.Sides.{other, rings, same_side}
use Rattle.rules.specs.Take.{stance_of}
use Rattle.rules.specs.Run.{World, Happening, party_in, happens, run, opened}
use Rattle.rules.specs.Premises.{AllTyped, AllFair}
use Rattle.rules.specs.Stretch.{moves, tick_by}
use Rattle.rules.specs.Claims.{Fresh, reached}
use Rattle.rules.specs.Both.{done_by, turns_by, Ringing, checking, raising, waking, close-raising, close-waking, shut-raising, shut-waking, shut-raising-ne, shut-waking-ne, shut-raising-nf, shut-waking-nf, Rousing}
use Rattle.rules.proofs.Views.{is-asleep}
use Rattle.rules.proofs.Leads.{Sight, Leads, owes, passes, raises, wakes, close-raises, close-wakes, shut-raises, shut-wakes, shut-raises-again, shut-wakes-again, stop_at}
use Rattle.rules.proofs.Heard.{Cause, none, duty, sets_none, has-cause}
use Rattle.rules.proofs.Listening.{ReadyAt}
use Rattle.rules.proofs.RealCalls.{Idle}
use Rattle.rules.proofs.Costs.{own_room}
use Rattle.rules.proofs.Fairly.{Ready, ready-happens, idle-duty}
use Rattle.rules.proofs.RealRun.{power-fits, slot-fits, real-reached, real-happens}
use Rattle.rules.proofs.Causes.{room-is, ready-reached}
use Rattle.rules.proofs.BeingRung.{ringing, due}
use Rattle.rules.proofs.Asks.{run-parts}
use Rattle.rules.proofs.Deeds.{Goes, Stays, Deed, deed, goes, stays}
use Rattle.rules.proofs.WaitFree.{room-more}
use Rattle.rules.proofs.Real.{room_in, Real}

-- one that rings has a turn, which sets no flag; and after it is nearer to its wake, or rings no more
pub rings-moves : (k n : ℕ) (τ : Side) (s : Step) → Ringing k τ s n → (moves (stance_of s) ≡ true) × ((sets_none s ≡ true) × (1 ≤ n))
rings-moves k n τ s (checking e) = (refl, (refl, omega arith))
rings-moves k n τ s raising = (refl, (refl, omega arith))
rings-moves k n τ s waking = (refl, (refl, omega arith))
rings-moves k n τ s close-raising = (refl, (refl, omega arith))
rings-moves k n τ s close-waking = (refl, (refl, omega arith))
rings-moves k n τ s shut-raising = (refl, (refl, omega arith))
rings-moves k n τ s shut-waking = (refl, (refl, omega arith))
rings-moves k n τ s shut-raising-ne = (refl, (refl, omega arith))
rings-moves k n τ s shut-waking-ne = (refl, (refl, omega arith))
rings-moves k n τ s shut-raising-nf = (refl, (refl, omega arith))
rings-moves k n τ s shut-waking-nf = (refl, (refl, omega arith))

pub rings-some : (k n : ℕ) (τ : Side) (s : Step) → Ringing k τ s n → duty τ s ≡ none → ⊥
rings-some k n τ s (checking e) q = let z : ◌≡◌ {A = ℕ} 0 1 = cc in omega arith
rings-some k n τ s raising q = let z : ◌≡◌ {A = ℕ} 0 1 = cc in omega arith
rings-some k n τ s waking q = let z : ◌≡◌ {A = ℕ} 0 1 = cc in omega arith
rings-some k n τ s close-raising q = let z : ◌≡◌ {A = ℕ} 0 1 = cc in omega arith
rings-some k n τ s close-waking q = let z : ◌≡◌ {A = ℕ} 0 1 = cc in omega arith
rings-some k n τ s shut-raising q = let z : ◌≡◌ {A = ℕ} 0 1 = cc in omega arith
rings-some k n τ s shut-waking q = let z : ◌≡◌ {A = ℕ} 0 1 = cc in omega arith
rings-some k n τ s shut-raising-ne q = let z : ◌≡◌ {A = ℕ} 0 1 = cc in omega arith
rings-some k n τ s shut-waking-ne q = let z : ◌≡◌ {A = ℕ} 0 1 = cc in omega arith
rings-some k n τ s shut-raising-nf q = let z : ◌≡◌ {A = ℕ} 0 1 = cc in omega arith
rings-some k n τ s shut-waking-nf q = let z : ◌≡◌ {A = ℕ} 0 1 = cc in omega arith

pub nearer-wake : (g : Sight) (k j n m : ℕ) (τ : Side) (s next : Step) → Ringing k τ s n → Leads g s next → Ringing j τ next m → suc m ≤ n
nearer-wake g k j n m τ s next (checking e) (owes h) raising = omega arith
nearer-wake g k j n m τ s next (checking e) (passes h) r = elim r [ ]
nearer-wake g k j n m τ s next raising raises waking = omega arith
nearer-wake g k j n m τ s next close-raising close-raises close-waking = omega arith
nearer-wake g k j n m τ s next shut-raising shut-raises shut-waking = omega arith
nearer-wake g k j n m τ s next shut-raising-ne shut-raises shut-waking-ne = omega arith
nearer-wake g k j n m τ s next shut-waking-ne shut-wakes shut-raising-nf = omega arith
nearer-wake g k j n m τ s next shut-raising-nf shut-raises-again shut-waking-nf = omega arith
nearer-wake g k j n m τ s next waking wakes r = absurd (rings-some j m τ Rest r refl)
nearer-wake g k j n m τ s next close-waking close-wakes r = absurd (rings-some j m τ Rest r refl)
nearer-wake g k j n m Sender s next shut-waking shut-wakes r = absurd (rings-some j m Sender next r refl)
nearer-wake g k j n m τ s next shut-waking-nf shut-wakes-again r = absurd (rings-some j m τ Rest r refl)

-- more room is as much cause
more-cause : (k j : ℕ) (z : Bool) → k ≤ j → Cause k z → Cause j z
more-cause k (suc j) z h c = tt
more-cause (suc k) zero z h c = absurd (omega arith)
more-cause zero zero z h c = c

-- a party that sleeps: it has cause, and whatever rings it does so in at most so many turns
module _ (P S v : ℕ) (on : Bool) where
  abbrev Rung : (waiter mover : Side) → (n : ℕ) → World → Type 0
  Rung σ τ n w = Cause (room_in P S v on σ w.trace) (stop_at σ (le_at 4 w.region flags_at)) × ((k m : ℕ) → Ringing k τ (party_in w τ).step m → m ≤ n)

  -- and what rings it
  rung-now : (h : Bool) (σ τ : Side) (n : ℕ) (w : World) → (party_in w σ).step ≡ Asleep → ReadyAt P S v on h σ τ w → Rung σ τ n w
      → (m : ℕ) × (Ringing (room_in P S v on σ w.trace) τ (party_in w τ).step m × (m ≤ n))
  rung-now h σ τ n w asleep ready y =
      let g = ringing τ (party_in w τ).step (room_in P S v on σ w.trace) (due P S v on h σ τ w asleep ready y.0) in
      (g.0, (g.1, y.1 (room_in P S v on σ w.trace) g.0 g.1))

  module _ (n : ℕ) (h : Happening) (w u : World) where
    -- the sleeper's own turn
    own-goes : (σ : Side) → (party_in w σ).step ≡ Asleep → Goes P S v on h σ w u → Rung σ (other σ) n w → Rung σ (other σ) n u
    own-goes σ asleep d y =
        let k : room_in P S v on σ u.trace ≡ room_in P S v on σ w.trace = d.own-room ∙ ap (λ (s : Step). own_room s (room_in P S v on σ w.trace)) asleep in
        (rw (k, d.flags (ap sets_none asleep)) y.0, by d.woken)
      where
        by : ((party_in u (other σ)).step ≡ (party_in w (other σ)).step) ⊎ (((party_in w (other σ)).step ≡ Asleep) × ((party_in u (other σ)).step ≡ Look)) → (k m : ℕ) → Ringing k (other σ) (party_in u (other σ)).step m → m ≤ n
        by (inl e) k m r = y.1 k m (rw e at r)
        by (inr e) k m r = absurd (rings-some k m (other σ) Look (rw e.1 at r) refl)

    own-stays : (σ : Side) → Stays P S v on h σ w u → Rung σ (other σ) n w → Rung σ (other σ) n u
    own-stays σ d y = (rw (d.trace, d.stop σ) y.0, λ k m r. y.1 k m (rw d.other_step at r))

    -- the other's
    their-stays : (τ : Side) → Stays P S v on h τ w u → Rung (other τ) τ n w → Rung (other τ) τ n u
    their-stays τ d y = (rw (d.trace, d.stop (other τ)) y.0, by d.own-step)
      where
        by : ((party_in u τ).step ≡ (party_in w τ).step) ⊎ ((((party_in w τ).step ≡ Rest) ⊎ ((party_in w τ).step ≡ Asleep)) × Idle (party_in u τ).step) → (k m : ℕ) → Ringing k τ (party_in u τ).step m → m ≤ n
        by (inl e) k m r = y.1 k m (rw e at r)
        by (inr e) k m r = absurd (rings-some k m τ (party_in u τ).step r (idle-duty τ (party_in u τ).step e.1))

    their-goes : (b : Bool) (τ : Side) → (party_in w (other τ)).step ≡ Asleep → ReadyAt P S v on b (other τ) τ w → Goes P S v on h τ w u → Rung (other τ) τ (suc n) w → Rung (other τ) τ n u
    their-goes b τ asleep ready d y =
        let g = rung-now b (other τ) τ (suc n) w asleep ready y in
        let f = rings-moves _ _ τ (party_in w τ).step g.1.0 in (
          rw (d.flags f.1.0) (more-cause (room_in P S v on (other τ) w.trace) (room_in P S v on (other τ) u.trace) _ (omega (arith, d.other-room, room-more (party_in w τ).step (room_in P S v on (other τ) w.trace))) y.0),
          λ k m r. omega (arith, nearer-wake d.sight _ k _ m τ (party_in w τ).step (party_in u τ).step g.1.0 d.leads r, g.1.1),
        )

  -- so many turns are left, but for this one
  abbrev Less : (side : Side) → (n : ℕ) → (h : Happening) → (w u : World) → (m : Side) → Type 0
  Less side n h w u m = (j : ℕ) × (Rung side (other side) j u × (n ≡ pick (same_side (other side) m) (tick_by moves h w) 0 + j))

  module _ (n : ℕ) (h : Happening) (w u : World) where
    own-deed : (σ : Side) → (party_in w σ).step ≡ Asleep → Deed P S v on h σ w u → Rung σ (other σ) n w → Rung σ (other σ) n u
    own-deed σ asleep (goes d) y = own-goes n h w u σ asleep d y
    own-deed σ asleep (stays d) y = own-stays n h w u σ d y

    their-deed : (b : Bool) (τ : Side) → (party_in w (other τ)).step ≡ Asleep → ReadyAt P S v on b (other τ) τ w → Deed P S v on h τ w u → Rung (other τ) τ n w → (j : ℕ) × (Rung (other τ) τ j u × (n ≡ tick_by moves h w + j))
    their-deed b τ asleep ready (stays d) y = (n, (their-stays n h w u τ d y, omega (arith, d.tick moves)))
    their-deed b τ asleep ready (goes d) y = by n y
      where
        by : (n : ℕ) → Rung (other τ) τ n w → (j : ℕ) × (Rung (other τ) τ j u × (n ≡ tick_by moves h w + j))
        by zero y =
            let g = rung-now b (other τ) τ zero w asleep ready y in
            absurd (omega (arith, (rings-moves _ _ τ (party_in w τ).step g.1.0).1.1, g.1.1))
        by (suc j) y =
            let g = rung-now b (other τ) τ (suc j) w asleep ready y in
            let e : tick_by moves h w ≡ 1 = d.tick moves ∙ ap (λ (x : Bool). pick x 1 0) (rings-moves _ _ τ (party_in w τ).step g.1.0).0 in
            (j, (their-goes j h w u b τ asleep ready d y, omega arith))

    one-deed : (side m : Side) → (party_in w side).step ≡ Asleep → Ready P S v on side w → Deed P S v on h m w u → Rung side (other side) n w → Less side n h w u m
    one-deed Sender Sender asleep ready d y = (n, (own-deed Sender asleep d y, omega arith))
    one-deed Sender Recorder asleep ready d y = their-deed (rings Recorder on) Recorder asleep ready d y
    one-deed Recorder Sender asleep ready d y = their-deed true Sender asleep ready d y
    one-deed Recorder Recorder asleep ready d y = (n, (own-deed Recorder asleep d y, omega arith))

  abbrev Wakes : Side → (hs : List Happening) → (n : ℕ) → World → Type 0
  Wakes side hs n w =
      (first : List Happening) × ((rest : List Happening) × ((hs ≡ first ++ rest) × ((turns_by moves (other side) first w ≤ n) × ((party_in (run first w) side).step ≡ Asleep → ⊥))))

  module _ (power-ok : power_ok P ≡ true) (slot-ok : slot_ok S ≡ true) (side : Side) where
    awake-now : (hs : List Happening) (n : ℕ) (w : World) → ((party_in w side).step ≡ Asleep → ⊥) → Wakes side hs n w
    unfolding run
    awake-now hs n w e = ([], (hs, (refl, (omega arith, e))))

    one_more : (h : Happening) (hs : List Happening) (n j : ℕ) (w : World) → n ≡ pick (same_side (other side) (done_by h)) (tick_by moves h w) 0 + j → Wakes side hs j (happens h w) → Wakes side (h ∷ hs) n w
    unfolding run
    one_more h hs n j w e (first, (rest, (parts, (few, up)))) = (h ∷ first, (rest, (ap (λ (x : List Happening). h ∷ x) parts, (omega arith, up))))

    rouse : (hs : List Happening) (w : World) → AllTyped hs → AllFair side hs w → Real P S v on w → Ready P S v on side w → (n : ℕ) → ((party_in w side).step ≡ Asleep → Rung side (other side) n w) → n ≤ turns_by moves (other side) hs w → Wakes side hs n w
    unfolding run
    rouse [] w t f real ready n y long = by (is-asleep (party_in w side).step)
      where
        by : ((party_in w side).step ≡ Asleep) ⊎ ((party_in w side).step ≡ Asleep → ⊥) → Wakes side [] n w
        by (inr e) = awake-now [] n w e
        by (inl e) =
            let g = rung-now (rings (other side) on) side (other side) n w e ready (y e) in
            absurd (omega (arith, (rings-moves _ _ (other side) (party_in w (other side)).step g.1.0).1.1, g.1.1))
    rouse (h ∷ hs) w t f real ready n y long =
        ⊎_elim
        (λ e.
        let d = one-deed n h w (happens h w) side (done_by h) e ready (deed P S v on power-ok slot-ok h w t.0 real) (y e) in
        let q = d.1.1 in
        one_more h hs n d.0 w q
        (rouse hs (happens h w) t.1 f.1 (real-happens P S v on power-ok slot-ok h w t.0 real) (ready-happens P S v on power-ok slot-ok side h w t.0 f.0 real ready) d.0 (λ a. d.1.0) (omega arith)))
        (awake-now (h ∷ hs) n w)
        (is-asleep (party_in w side).step)

-- a step rings in one number of turns
pub one_number : (k j n m : ℕ) (τ : Side) (s : Step) → Ringing k τ s n → Ringing j τ s m → m ≡ n
one_number k j n m τ s (checking e) (checking q) = refl
one_number k j n m τ s raising raising = refl
one_number k j n m τ s waking waking = refl
one_number k j n m τ s close-raising close-raising = refl
one_number k j n m τ s close-waking close-waking = refl
one_number k j n m τ s shut-raising shut-raising = refl
one_number k j n m τ s shut-waking shut-waking = refl
one_number k j n m τ s shut-raising-ne shut-raising-ne = refl
one_number k j n m τ s shut-waking-ne shut-waking-ne = refl
one_number k j n m τ s shut-raising-nf shut-raising-nf = refl
one_number k j n m τ s shut-waking-nf shut-waking-nf = refl

module _ (r : List ℕ) (P S : ℕ) (on : Bool) (v : ℕ) (fresh : Fresh r P S on v) where
  pub rousing : (side : Side) → Rousing r P S on v side
  rousing side hs ms n o t f ring long =
      let w = reached r P S on v hs in
      let e = room-is r P S on v fresh side hs o.0 in
      let c = has-cause (room_in P S v on side w.trace) (stop_at side (le_at 4 w.region flags_at)) (subst (λ (k : ℕ). (0 < k) ⊎ (stop_at side (le_at 4 w.region flags_at) ≡ true)) e o.1.1.1) in
      let z = rouse P S v on (power-fits r P S on v fresh) (slot-fits r P S on v fresh) side ms w t f (real-reached r P S on v fresh hs o.0) (ready-reached r P S on v fresh side hs o.0 o.1.0) n
      (λ a. (c, λ k m q. omega (arith, one_number _ k n m (other side) (party_in w (other side)).step ring q))) long in
      (z.0, (z.1.0, (z.1.1.0, (z.1.1.1.0, subst (λ (u : World). (party_in u side).step ≡ Asleep → ⊥) (sym (run-parts hs z.0 (opened (created r P S on v)))) z.1.1.1.1))))
