-- T12: of two parties in calls one needs nobody.
use mathlib.Core.Path.{◌≡◌, refl, sym, ap, subst}
use mathlib.Core.Bool.{Bool, true, false}
use mathlib.Core.List.{List, [], ◌∷◌, ◌++◌}
use mathlib.Core.Logic.{◌⊎◌, inl, inr}
use Prim.Native.Nat.{ℕ, zero, suc, ◌+◌, ◌-◌, ◌<◌, ◌≤◌}
use native.Mathlib.Omega.{arith}
use lib.ListN.{length}
use Rattle.words.specs.Le.{le_at}
use Rattle.types.specs.declared.Side.{Side}
use Rattle.types.specs.declared.Side.TheVariants.{Sender, Recorder}
use Rattle.types.specs.declared.Step.{Step}
use Rattle.types.specs.declared.Step.TheVariants.{Rest, Look, Copy, Publish, Check, Raise, Wake, Gate, Spin, Epoch, Again, GateAgain, Wait, Asleep, LastLook, CloseSet, CloseRaise, CloseWake, ShutSet, ShutRaiseNe, ShutWakeNe, ShutRaiseNf, ShutWakeNf}
use Rattle.layout.specs.Limits.{power_ok, slot_ok, capacity}
use Rattle.layout.specs.Header.{flags_at}
use Rattle.layout.specs.Create.{created}
use Rattle.layout.proofs.SizeLaws.{capacity-least}
use Rattle.rules.specs.Sides.{other, rings}
use Rattle.rules.specs.Run.{World, Happening, party_in, happens, run, opened, rung_of}
use Rattle.rules.specs.Premises.{AllTyped}
use Rattle.rules.specs.Stretch.{calling, in_call, notes_of}
use Rattle.rules.specs.Claims.{Fresh, reached}
use Rattle.rules.specs.Both.{done_by, turns_by, Presses, NeverStill, Stirs}
use Rattle.rules.specs.Phase.{Phase, resting, looking, copying, publishing, telling, asking, armed, poised, waits, sleeps, glancing, leaving, phase}
use Rattle.rules.proofs.Leads.{Sight, asks, Leads, owes, raises, enters, spins, stop_at}
use Rattle.rules.proofs.Heard.{Duty, none, Due, duty, Good, room_by}
use Rattle.rules.proofs.Own.{later, Tries}
use Rattle.rules.proofs.Listening.{ReadyAt}
use Rattle.rules.proofs.RealCalls.{Idle}
use Rattle.rules.proofs.Fairly.{Ready, idle-duty}
use Rattle.rules.proofs.RealRun.{power-fits, slot-fits, real-start, real-reached, real-happens}
use Rattle.rules.proofs.Causes.{room-is, ready-reached}
use Rattle.rules.proofs.Costs.{Calls}
use Rattle.rules.proofs.Bound.{by-calling}
use Rattle.rules.proofs.Asks.{in-call, run-parts}
use Rattle.rules.proofs.Deeds.{Deed, deed, goes, stays, count-run}
use Rattle.rules.proofs.WaitFree.{Bright, own-most, stores-most, Strides, strides-run, strides-end, count-is}
use Rattle.rules.proofs.Real.{count_of, room_in, Real}

-- one that found the other blocked, and rings it
pub data Calling : Step → Type 0 where
  at-raise : {l t : ℕ} → Calling (Raise l t)
  at-wake : {l t : ℕ} → Calling (Wake l t)

calling-owes : (side : Side) (s : Step) → Calling s → duty side s ≡ none → ⊥
calling-owes side s at-raise e = let z : ◌≡◌ {A = ℕ} 0 1 = cc in omega arith
calling-owes side s at-wake e = let z : ◌≡◌ {A = ℕ} 0 1 = cc in omega arith

-- it came from its check
calling-from : (g : Sight) (s next : Step) → Leads g s next → Calling next → ((g.theirs ≡ 1) × (room_by s g.theirs ≡ g.theirs)) ⊎ (Calling s × (room_by s g.theirs ≡ g.theirs))
calling-from g s next (owes h) at-raise = inl (h, refl)
calling-from g s next raises at-wake = inr (at-raise, refl)
calling-from g s next (enters h o) at-raise = let e = asks _ _ o in absurd (let z : ◌≡◌ {A = ℕ} 0 1 = cc in omega arith)
calling-from g s next (enters h o) at-wake = let e = asks _ _ o in absurd (let z : ◌≡◌ {A = ℕ} 0 1 = cc in omega arith)
calling-from g s next (spins h o) at-raise = let e = asks _ _ o in absurd (let z : ◌≡◌ {A = ℕ} 0 1 = cc in omega arith)
calling-from g s next (spins h o) at-wake = let e = asks _ _ o in absurd (let z : ◌≡◌ {A = ℕ} 0 1 = cc in omega arith)
calling-from g s next l c = elim c [ ]

module _ (P S v : ℕ) (on : Bool) where
  -- then the other has room for one at most
  abbrev pub Few : (caller called : Side) → World → Type 0
  Few m x w = Calling (party_in w m).step → room_in P S v on x w.trace ≤ 1

  module _ (h : Happening) (w u : World) where
    few-own : (m : Side) → Deed P S v on h m w u → Few m (other m) w → Few m (other m) u
    few-own m (goes d) y c = by (calling-from d.sight (party_in w m).step (party_in u m).step d.leads c)
      where
        by : ((d.sight.theirs ≡ 1) × (room_by (party_in w m).step d.sight.theirs ≡ d.sight.theirs)) ⊎ (Calling (party_in w m).step × (room_by (party_in w m).step d.sight.theirs ≡ d.sight.theirs)) → room_in P S v on (other m) u.trace ≤ 1
        by (inl e) = let q = ap (room_by (party_in w m).step) d.theirs in omega (arith, d.other-room, e.0, e.1)
        by (inr e) = let q = ap (room_by (party_in w m).step) d.theirs in omega (arith, d.other-room, d.theirs, y e.0, e.1)
    few-own m (stays d) y c = by d.own-step
      where
        by : ((party_in u m).step ≡ (party_in w m).step) ⊎ ((((party_in w m).step ≡ Rest) ⊎ ((party_in w m).step ≡ Asleep)) × Idle (party_in u m).step) → room_in P S v on (other m) u.trace ≤ 1
        by (inl e) = rw d.trace (y (rw e at c))
        by (inr e) = absurd (calling-owes m (party_in u m).step c (idle-duty m (party_in u m).step e.1))

    few-other : (τ : Side) → Deed P S v on h τ w u → Few (other τ) τ w → Few (other τ) τ u
    few-other τ (goes d) y c = by d.woken
      where
        by : ((party_in u (other τ)).step ≡ (party_in w (other τ)).step) ⊎ (((party_in w (other τ)).step ≡ Asleep) × ((party_in u (other τ)).step ≡ Look)) → room_in P S v on τ u.trace ≤ 1
        by (inl e) = omega (arith, d.own-room, own-most (party_in w τ).step (room_in P S v on τ w.trace), y (rw e at c))
        by (inr e) = absurd (calling-owes (other τ) Look (rw e.1 at c) refl)
    few-other τ (stays d) y c = rw d.trace (y (rw d.other_step at c))

    pub few-deed : (side m : Side) → Deed P S v on h m w u → Few side (other side) w → Few side (other side) u
    few-deed Sender Sender d y = few-own Sender d y
    few-deed Sender Recorder d y = few-other Recorder d y
    few-deed Recorder Sender d y = few-other Sender d y
    few-deed Recorder Recorder d y = few-own Recorder d y

  few-run : (power-ok : power_ok P ≡ true) (slot-ok : slot_ok S ≡ true) (side : Side) (hs : List Happening) (w : World) → AllTyped hs → Real P S v on w → Few side (other side) w → Few side (other side) (run hs w)
  unfolding run
  few-run power-ok slot-ok side [] w t real y = y
  few-run power-ok slot-ok side (h ∷ hs) w t real y =
      few-run power-ok slot-ok side hs (happens h w) t.1 (real-happens P S v on power-ok slot-ok h w t.0 real) (few-deed h w (happens h w) side (done_by h) (deed P S v on power-ok slot-ok h w t.0 real) y)

-- one that owes the other something in a push or a pop has just stored, or found it blocked: it presses on itself
pub due-calls : (τ : Side) (s : Step) (k n : ℕ) → Due true (duty τ s) k → Calls (phase s) → (Calling s → k ≤ 1) → (k ≤ 1) × Bright (phase s) n
due-calls τ Rest k n d c f = absurd d
due-calls τ Look k n d c f = absurd d
due-calls τ Copy k n d c f = absurd d
due-calls τ (Publish l t) k n d c f = absurd d
due-calls τ (Check l t) k n d c f = (omega arith, tt)
due-calls τ (Raise l t) k n d c f = (f at-raise, tt)
due-calls τ (Wake l t) k n d c f = (f at-wake, tt)
due-calls τ Gate k n d c f = absurd d
due-calls τ (Spin i) k n d c f = absurd d
due-calls τ Epoch k n d c f = absurd d
due-calls τ (Again e) k n d c f = absurd d
due-calls τ (GateAgain e) k n d c f = absurd d
due-calls τ (Wait e) k n d c f = absurd d
due-calls τ Asleep k n d c f = absurd d
due-calls τ (LastLook q) k n d c f = absurd d
due-calls τ CloseSet k n d c f = absurd d
due-calls τ CloseRaise k n d c f = absurd c
due-calls τ CloseWake k n d c f = absurd c
due-calls τ (ShutSet q) k n d c f = absurd d
due-calls τ (ShutRaiseNe q) k n d c f = absurd c
due-calls τ (ShutWakeNe q) k n d c f = absurd c
due-calls τ (ShutRaiseNf q e) k n d c f = absurd c
due-calls τ (ShutWakeNf q e) k n d c f = absurd c

-- a party that may fall asleep over its room, or has
abbrev pub Dull : Phase → (rung : ℕ) → Type 0
Dull resting n = ⊥
Dull looking n = ⊥
Dull copying n = ⊥
Dull (publishing l t) n = ⊥
Dull (telling l t) n = ⊥
Dull asking n = ⊥
Dull (armed e) n = ⊥
Dull (poised e) n = n ≡ 0
Dull (waits e) n = n ≡ 0
Dull sleeps n = Unit
Dull glancing n = ⊥
Dull leaving n = ⊥

-- one with room is bright, or owed a ring
pub shine : (ph : Phase) (n k : ℕ) (z : Bool) (d : Duty) → Good ph n (suc k) z d → Bright ph n ⊎ (Dull ph n × (Due true d (suc k) × (Due false d (suc k) ⊎ (ph ≡ sleeps))))
shine resting n k z d y = inl tt
shine looking n k z d y = inl tt
shine copying n k z d y = inl tt
shine (publishing l t) n k z d y = inl tt
shine (telling l t) n k z d y = inl tt
shine asking n k z d y = inl tt
shine (armed e) n k z d y = inl tt
shine (poised e) zero k z d y = inr (refl, (later d (suc k) (y refl tt), inl (y refl tt)))
shine (poised e) (suc n) k z d y = inl (omega arith)
shine (waits e) zero k z d y = inr (refl, (later d (suc k) (y refl tt), inl (y refl tt)))
shine (waits e) (suc n) k z d y = inl (omega arith)
shine sleeps n k z d y = inr (tt, (y tt, inr refl))
shine glancing n k z d y = inl tt
shine leaving n k z d y = inl tt

pub tries-bright : (b : Bool) (ph : Phase) (n : ℕ) → Tries b ph → Bright ph n
tries-bright true ph n y = absurd y
tries-bright false resting n y = tt
tries-bright false looking n y = tt
tries-bright false copying n y = tt
tries-bright false (publishing l t) n y = tt
tries-bright false (telling l t) n y = tt
tries-bright false asking n y = tt
tries-bright false (armed e) n y = tt
tries-bright false (poised e) n y = absurd y
tries-bright false (waits e) n y = absurd y
tries-bright false sleeps n y = absurd y
tries-bright false glancing n y = tt
tries-bright false leaving n y = tt

module _ (P S v : ℕ) (on : Bool) where
  -- one with room that presses on
  abbrev pub Pressing : Side → World → Type 0
  Pressing σ w = (0 < room_in P S v on σ w.trace) × Bright (phase (party_in w σ).step) (rung_of σ w.trace)

  press : (w : World) (h : Bool) (σ τ : Side) (k : ℕ) → room_in P S v on σ w.trace ≡ suc k → (k ≡ 0 → 0 < room_in P S v on τ w.trace) → ReadyAt P S v on h σ τ w → Calls (phase (party_in w τ).step) → Few P S v on τ σ w → Pressing σ w ⊎ Pressing τ w
  press w false σ τ k e room y c f = inl (omega arith, tries-bright (party_in w σ).blocking (phase (party_in w σ).step) (rung_of σ w.trace) y)
  press w true σ τ k e room y c f = by (shine (phase (party_in w σ).step) (rung_of σ w.trace) k (stop_at σ (le_at 4 w.region flags_at)) (duty τ (party_in w τ).step) (rw e at y))
    where
      by : Bright (phase (party_in w σ).step) (rung_of σ w.trace) ⊎ (Dull (phase (party_in w σ).step) (rung_of σ w.trace) × (Due true (duty τ (party_in w τ).step) (suc k) × (Due false (duty τ (party_in w τ).step) (suc k) ⊎ (phase (party_in w σ).step ≡ sleeps)))) → Pressing σ w ⊎ Pressing τ w
      by (inl b) = inl (omega arith, b)
      by (inr o) =
          let d = due-calls τ (party_in w τ).step (suc k) (rung_of τ w.trace) o.1.0 c (λ q. omega (arith, f q, e)) in
          inr (room (omega (arith, d.0)), d.1)

  -- somebody has room
  pub presses-one : 2 ≤ capacity P → (w : World) → Real P S v on w → ((side : Side) → Ready P S v on side w) → ((side : Side) → Calls (phase (party_in w side).step)) → ((side : Side) → Few P S v on side (other side) w) → (side : Side) × Pressing side w
  presses-one cap w real ready calls few = by (room_in P S v on Recorder w.trace) refl
    where
      one : (σ τ : Side) → Pressing σ w ⊎ Pressing τ w → (side : Side) × Pressing side w
      one σ τ (inl p) = (σ, p)
      one σ τ (inr p) = (τ, p)

      by : (k : ℕ) → room_in P S v on Recorder w.trace ≡ k → (side : Side) × Pressing side w
      by (suc k) e = one Recorder Sender (press w true Recorder Sender k e (λ q. omega arith) (ready Recorder) (calls Sender) (few Sender))
      by zero e = one Sender Recorder (press w (rings Recorder on) Sender Recorder (capacity P - 1) (omega arith) (λ q. absurd (omega arith)) (ready Sender) (calls Recorder) (few Recorder))

module _ (r : List ℕ) (P S : ℕ) (on : Bool) (v : ℕ) (fresh : Fresh r P S on v) where
  pressing-on : (side : Side) (hs : List Happening) → AllTyped hs → in_call (party_in (reached r P S on v hs) side).step ≡ true → Pressing P S v on side (reached r P S on v hs) → Presses r P S on v side hs
  pressing-on side hs t c p ms u f will long =
      let w = reached r P S on v hs in
      let power-ok = power-fits r P S on v fresh in
      let slot-ok = slot-fits r P S on v fresh in
      let goal = count_of side w.trace + 1 in
      let start : Strides P S v on calling by-calling side goal (turns_by calling side ms w + 0) w =
      record { left = 1; reaches = omega arith; fits = omega (arith, p.0); calls = in-call (party_in w side).step c; soon = omega (arith, stores-most (party_in w side).step 1, long); bright = λ e l. p.1 } in
      let end = strides-run P S v on calling by-calling power-ok slot-ok side goal ms w u will (λ e. f) (real-reached r P S on v fresh hs t) 0 start in
      let last = subst (Strides P S v on calling by-calling side goal 0) (sym (run-parts hs ms (opened (created r P S on v)))) end in
      rw (count-is side w.trace, count-is side (reached r P S on v (hs ++ ms)).trace) (omega (arith, strides-end P S v on calling by-calling power-ok slot-ok side goal (reached r P S on v (hs ++ ms)) last))

  pub few-reached : (hs : List Happening) → AllTyped hs → (side : Side) → Few P S v on side (other side) (reached r P S on v hs)
  few-reached hs t side = few-run P S v on (power-fits r P S on v fresh) (slot-fits r P S on v fresh) side hs (opened (created r P S on v)) t (real-start r P S on v fresh) (by side)
    where
      by : (side : Side) → Few P S v on side (other side) (opened (created r P S on v))
      by Sender c = absurd (calling-owes Sender Rest c refl)
      by Recorder c = absurd (calling-owes Sender Rest c refl)

  pub never-still : NeverStill r P S on v
  never-still hs t f c =
      let w = reached r P S on v hs in
      let one = presses-one P S v on (capacity-least P (power-fits r P S on v fresh)) w (real-reached r P S on v fresh hs t) (λ side. ready-reached r P S on v fresh side hs t (f side)) (λ side. in-call (party_in w side).step (c side)) (few-reached hs t) in
      (one.0, (omega (arith, one.1.0, room-is r P S on v fresh one.0 hs t), pressing-on one.0 hs t (c one.0) one.1))

  pub stirs : Stirs r P S on v
  stirs hs ms t u f c =
      let w = reached r P S on v hs in
      let one = never-still hs t (λ side. (f side).0) (λ side. (c side).0) in
      let e = run-parts hs ms (opened (created r P S on v)) in
      by one.0 (one.1.1 ms u (f one.0).1 (c one.0).1.0 (c one.0).1.1) (more Sender) (more Recorder)
    where
      more : (side : Side) → count_of side (reached r P S on v hs).trace ≤ count_of side (reached r P S on v (hs ++ ms)).trace
      more side = rw (run-parts hs ms (opened (created r P S on v))) (count-run P S v on (power-fits r P S on v fresh) (slot-fits r P S on v fresh) side ms (reached r P S on v hs) u (real-reached r P S on v fresh hs t))

      by : (side : Side) → length (notes_of side (reached r P S on v hs).trace) < length (notes_of side (reached r P S on v (hs ++ ms)).trace)
          → count_of Sender (reached r P S on v hs).trace ≤ count_of Sender (reached r P S on v (hs ++ ms)).trace → count_of Recorder (reached r P S on v hs).trace ≤ count_of Recorder (reached r P S on v (hs ++ ms)).trace
          → length (reached r P S on v hs).trace.sent + length (reached r P S on v hs).trace.delivered < length (reached r P S on v (hs ++ ms)).trace.sent + length (reached r P S on v (hs ++ ms)).trace.delivered
      by Sender l a b = omega arith
      by Recorder l a b = omega arith
