-- Along a run that is fair to a side, it may rely on the other; and T3 follows.
use Rattle.std.proofs.lemmas.Bool.{false_from_ne_true}
use Rattle.std.specs.Prelude.{None, Some}
use mathlib.Core.Path.{◌≡◌, refl, sym, ap, ap₂, ◌∙◌, subst}
use mathlib.Core.Bool.{Bool, true, false, ◌||◌, true≢false}
use mathlib.Core.List.{List, [], ◌∷◌}
use mathlib.Core.Logic.{◌⊎◌, inl, inr, ⊎_elim}
use Prim.Native.Nat.{ℕ, zero, suc, ◌^◌, ◌<◌}
use native.Mathlib.Omega.{arith}
use lib.Dec.{eqb}
use Rattle.words.specs.Le.{le_at, put_le}
use Rattle.types.specs.Answers.{number}
use Rattle.types.specs.declared.Side.{Side}
use Rattle.types.specs.declared.Side.TheVariants.{Sender, Recorder}
use Rattle.types.specs.declared.Mark.TheVariants.{Shutdown as ShutMark}
use Rattle.types.specs.declared.Own.{Own}
use Rattle.types.specs.declared.Party.{Party}
use Rattle.types.specs.declared.Bench.{Bench}
use Rattle.types.specs.Faults.{Fault}
use Rattle.types.specs.declared.Event.TheVariants.{Turn, Failing, Spurious, TimeOut, Push, Pop, Close, Shutdown}
use Rattle.types.specs.declared.Access.{Access}
use Rattle.types.specs.declared.Step.{Step}
use Rattle.types.specs.declared.Step.TheVariants.{Rest, Wait, Asleep}
use Rattle.layout.specs.Limits.{power_ok, slot_ok}
use Rattle.layout.specs.Flags.{worth, reserved_from, set_bit, attach_mark, close_mark}
use Rattle.layout.specs.Header.{flags_at}
use Rattle.layout.specs.Attach.{attach_answer, attach_reply, attach_leaves, attached}
use Rattle.layout.proofs.FlagLaws.{mark_set}
use Rattle.rules.specs.Sides.{other, rings}
use Rattle.rules.specs.Calls.{push_spec, pop_spec, close_spec, shut_spec, spurious_spec, timeout_spec}
use Rattle.rules.specs.Next.{next_spec}
use Rattle.rules.specs.Turn.{error_of, woke_of}
use Rattle.rules.specs.Bench.{hears, settled, played, played_leaves}
use Rattle.rules.specs.Run.{World, Happening, attaches, plays, party_in, takes, happens, run, opened, rung_of}
use Rattle.rules.specs.Premises.{Typed, AllTyped, Fair, AllFair, FairTurn}
use Rattle.rules.specs.Phase.{phase}
use Rattle.rules.proofs.Leads.{stop_at}
use Rattle.rules.proofs.Taken.{turn_world, turn-refused}
use Rattle.rules.proofs.RealTurn.{access-is, turn-is-after}
use Rattle.rules.proofs.RealAttach.{attach-flags, attach_world, was-at-rest}
use Rattle.rules.proofs.Woken.{heard-by}
use Rattle.rules.proofs.RealCalls.{Idle, rests, looks, glances, closes, shuts, Changed, seat-same, seat-one, seat-two, seated, push-changes, pop-changes, close-changes, shut-changes, spurious-changes, timeout-changes}
use Rattle.rules.proofs.RealRun.{real-happens}
use Rattle.rules.proofs.Heard.{Cause, Duty, none, duty, Good, wakes_at}
use Rattle.rules.proofs.Own.{Tries}
use Rattle.rules.proofs.Listening.{ReadyAt, ready-own, ready-other, never}
use Rattle.rules.proofs.Real.{room_in, Real}

-- a step that relies on nothing owes nothing
idle-good : (s : Step) (n k : ℕ) (z : Bool) (d : Duty) → Idle s → Good (phase s) n k z d
idle-good s n k z d rests = tt
idle-good s n k z d looks = tt
idle-good s n k z d glances = tt
idle-good s n k z d closes = tt
idle-good s n k z d shuts = tt

pub idle-duty : (side : Side) (s : Step) → Idle s → duty side s ≡ none
idle-duty side s rests = refl
idle-duty side s looks = refl
idle-duty side s glances = refl
idle-duty side s closes = refl
idle-duty side s shuts = refl

pub quiet-duty : (side : Side) (s : Step) → (s ≡ Rest) ⊎ (s ≡ Asleep) → duty side s ≡ none
quiet-duty side s (inl e) = ap (duty side) e
quiet-duty side s (inr e) = ap (duty side) e

idle-tries : (s : Step) (b : Bool) → Idle s → b ≡ false → Tries b (phase s)
idle-tries s b rests e = rw e tt
idle-tries s b looks e = rw e tt
idle-tries s b glances e = rw e tt
idle-tries s b closes e = rw e tt
idle-tries s b shuts e = rw e tt

tries-false : (b : Bool) (s : Step) → Tries b (phase s) → b ≡ false
tries-false true s y = absurd y
tries-false false s y = refl

-- only the sender may be unheard, and only with not-full off
unheard : (side : Side) (on : Bool) → rings (other side) on ≡ false → (side ≡ Sender) × (on ≡ false)
unheard Sender on e = (refl, e)
unheard Recorder on e = absurd (let z : ◌≡◌ {A = ℕ} 0 1 = cc in omega arith)

module _ (P S v : ℕ) (on : Bool) where
  -- a call of one's own, and of the other's
  pub called-own : (w : World) → Real P S v on w → (side : Side) (q : Party) → Changed side (party_in w side) q → (h : Bool) → rings (other side) on ≡ h
      → ReadyAt P S v on h side (other side) w → ReadyAt P S v on h side (other side) (seated P S v on w side q)
  called-own w real side q (inl e) h r y =
      subst (ReadyAt P S v on h side (other side)) (sym (ap (seated P S v on w side) e ∙ ap (λ (b : Bench). record { region = w.region; bench = b; trace = w.trace }) (seat-same side w.bench))) y
  called-own w real side q (inr b) true r y = rw (seat-one side w.bench q) (idle-good q.step _ _ _ _ b.idle)
  called-own w real side q (inr b) false r y =
      let u = unheard side on r in
      let m : q.blocking ≡ false = ⊎_elim
      (λ e. e ∙ tries-false (party_in w side).blocking (party_in w side).step y)
      (λ f. false_from_ne_true q.blocking (λ e. true≢false (sym (f e) ∙ ap (λ (o : Own). o.notfull) ((real.sides side).seat.in_place b.attached).0 ∙ u.1)))
      (b.blocks u.0) in
      rw (seat-one side w.bench q) (idle-tries q.step q.blocking b.idle m)

  pub called-other : (w : World) (side : Side) (q : Party) → Changed side (party_in w side) q → (h : Bool)
      → ReadyAt P S v on h (other side) side w → ReadyAt P S v on h (other side) side (seated P S v on w side q)
  called-other w side q (inl e) h y =
      subst (ReadyAt P S v on h (other side) side) (sym (ap (seated P S v on w side) e ∙ ap (λ (b : Bench). record { region = w.region; bench = b; trace = w.trace }) (seat-same side w.bench))) y
  called-other w side q (inr b) true y =
      rw (seat-one side w.bench q, seat-two side w.bench q, idle-duty side q.step b.idle) (rw (quiet-duty side (party_in w side).step b.from) at y)
  called-other w side q (inr b) false y = rw (seat-two side w.bench q) y

  -- an attach: whoever joins is at rest, and no flag that stops anybody changes
  pub stop-kept : (side mover : Side) (f : ℕ) → f < reserved_from → stop_at side (set_bit (worth (attach_mark mover)) f) ≡ stop_at side f
  stop-kept Sender Sender f h = ap₂ ◌||◌ (mark_set (attach_mark Sender) f h ShutMark) (mark_set (attach_mark Sender) f h (close_mark Recorder))
  stop-kept Sender Recorder f h = ap₂ ◌||◌ (mark_set (attach_mark Recorder) f h ShutMark) (mark_set (attach_mark Recorder) f h (close_mark Recorder))
  stop-kept Recorder Sender f h = ap₂ ◌||◌ (mark_set (attach_mark Sender) f h ShutMark) (mark_set (attach_mark Sender) f h (close_mark Sender))
  stop-kept Recorder Recorder f h = ap₂ ◌||◌ (mark_set (attach_mark Recorder) f h ShutMark) (mark_set (attach_mark Recorder) f h (close_mark Sender))

  module _ (power-ok : power_ok P ≡ true) (slot-ok : slot_ok S ≡ true) (w : World) (real : Real P S v on w) (side : Side) (spins : ℕ) where
    abbrev joined : World
    joined = attach_world P S v on power-ok slot-ok w real side spins

    pub attached-own : (h : Bool) → ReadyAt P S v on h side (other side) w → ReadyAt P S v on h side (other side) joined
    unfolding attach_leaves attach_reply
    attached-own h y = by (eqb (number (attach_answer w.region side spins)) 0) refl h y
      where
        by : (b : Bool) → eqb (number (attach_answer w.region side spins)) 0 ≡ b → (h : Bool) → ReadyAt P S v on h side (other side) w → ReadyAt P S v on h side (other side) joined
        by false e h y = rw e y
        by true e true y = rw (e, seat-one side w.bench (attached w.region side spins)) tt
        by true e false y = rw (e, seat-one side w.bench (attached w.region side spins)) tt

    pub attached-other : (h : Bool) → ReadyAt P S v on h (other side) side w → ReadyAt P S v on h (other side) side joined
    unfolding attach_leaves attach_reply
    attached-other h y = by (eqb (number (attach_answer w.region side spins)) 0) refl h y
      where
        flags-now : le_at 4 (put_le 4 w.region flags_at (set_bit (worth (attach_mark side)) (le_at 4 w.region flags_at))) flags_at ≡ set_bit (worth (attach_mark side)) (le_at 4 w.region flags_at)
        flags-now = attach-flags P S v on power-ok slot-ok w real side

        by : (b : Bool) → eqb (number (attach_answer w.region side spins)) 0 ≡ b → (h : Bool) → ReadyAt P S v on h (other side) side w → ReadyAt P S v on h (other side) side joined
        by false e h y = rw e y
        by true e true y =
            rw (e, seat-one side w.bench (attached w.region side spins), seat-two side w.bench (attached w.region side spins), flags-now, stop-kept (other side) side (le_at 4 w.region flags_at) real.fixed.small)
            (rw (ap (duty side) (was-at-rest P S v on power-ok slot-ok w real side spins e)) at y)
        by true e false y = rw (e, seat-two side w.bench (attached w.region side spins)) y

  -- a turn, taken or refused
  module _ (power-ok : power_ok P ≡ true) (slot-ok : slot_ok S ≡ true) (w : World) (real : Real P S v on w) (side : Side) where
    lands_here : (payload lent : List ℕ) (fault : Fault) (g : takes w side payload lent fault ≡ true)
        → (hears (other side) (woke_of (next_spec (party_in w side)) 0) ≡ true → (party_in w (other side)).step ≡ Asleep → error_of fault ≡ 0)
        → wakes_at side (party_in w side).step ≡ true → (party_in w (other side)).step ≡ Asleep → error_of fault ≡ 0
    lands_here payload lent fault g f u =
        f (ap (λ (x : Access). hears (other side) (woke_of x 0)) (access-is P S v on power-ok slot-ok w real side payload lent fault g) ∙ heard-by side (party_in w side).counter 0 (party_in w side).step ∙ rw u)

    pub turned-own : (payload lent : List ℕ) (fault : Fault) → (takes w side payload lent fault ≡ true → (e : ℕ) → (party_in w side).step ≡ Wait e → rung_of side w.trace < 2 ^ 32)
        → (h : Bool) → ReadyAt P S v on h side (other side) w → ReadyAt P S v on h side (other side) (turn_world w side payload lent fault)
    turned-own payload lent fault f h y = by (takes w side payload lent fault) refl
      where
        by : (b : Bool) → takes w side payload lent fault ≡ b → ReadyAt P S v on h side (other side) (turn_world w side payload lent fault)
        by true g = subst (ReadyAt P S v on h side (other side)) (sym (turn-is-after P S v on power-ok slot-ok w real side payload lent fault g)) (ready-own P S v on power-ok slot-ok w real side payload lent fault g h (f g) y)
        by false g = subst (ReadyAt P S v on h side (other side)) (sym (turn-refused w side payload lent fault g)) y

    pub turned-other : (payload lent : List ℕ) (fault : Fault)
        → (takes w side payload lent fault ≡ true → hears (other side) (woke_of (next_spec (party_in w side)) 0) ≡ true → (party_in w (other side)).step ≡ Asleep → error_of fault ≡ 0)
        → (h : Bool) → rings side on ≡ h → ReadyAt P S v on h (other side) side w → ReadyAt P S v on h (other side) side (turn_world w side payload lent fault)
    turned-other payload lent fault f h r y = by (takes w side payload lent fault) refl
      where
        by : (b : Bool) → takes w side payload lent fault ≡ b → ReadyAt P S v on h (other side) side (turn_world w side payload lent fault)
        by true g =
            subst (ReadyAt P S v on h (other side) side) (sym (turn-is-after P S v on power-ok slot-ok w real side payload lent fault g))
            (ready-other P S v on power-ok slot-ok w real side payload lent fault g h r (lands_here payload lent fault g (f g)) y)
        by false g = subst (ReadyAt P S v on h (other side) side) (sym (turn-refused w side payload lent fault g)) y

  -- what a side relies on, kept by whatever happens
  abbrev pub Ready : Side → World → Type 0
  Ready σ w = ReadyAt P S v on (rings (other σ) on) σ (other σ) w

  module _ (power-ok : power_ok P ≡ true) (slot-ok : slot_ok S ≡ true) where
    called-ready : (w : World) → Real P S v on w → (σ side : Side) (q : Party) → Changed side (party_in w side) q → Ready σ w → Ready σ (seated P S v on w side q)
    called-ready w real Sender Sender q c y = called-own w real Sender q c (rings Recorder on) refl y
    called-ready w real Sender Recorder q c y = called-other w Recorder q c (rings Recorder on) y
    called-ready w real Recorder Sender q c y = called-other w Sender q c true y
    called-ready w real Recorder Recorder q c y = called-own w real Recorder q c true refl y

    turned-ready : (w : World) → Real P S v on w → (σ side : Side) (payload lent : List ℕ) (fault : Fault) → (takes w side payload lent fault ≡ true → FairTurn σ side fault w)
        → Ready σ w → Ready σ (turn_world w side payload lent fault)
    turned-ready w real Sender Sender payload lent fault f y = turned-own power-ok slot-ok w real Sender payload lent fault f (rings Recorder on) y
    turned-ready w real Sender Recorder payload lent fault f y = turned-other power-ok slot-ok w real Recorder payload lent fault f (rings Recorder on) refl y
    turned-ready w real Recorder Sender payload lent fault f y = turned-other power-ok slot-ok w real Sender payload lent fault f true refl y
    turned-ready w real Recorder Recorder payload lent fault f y = turned-own power-ok slot-ok w real Recorder payload lent fault f true y

    attached-ready : (w : World) (real : Real P S v on w) (σ side : Side) (spins : ℕ) → Ready σ w → Ready σ (attach_world P S v on power-ok slot-ok w real side spins)
    attached-ready w real Sender Sender spins y = attached-own power-ok slot-ok w real Sender spins (rings Recorder on) y
    attached-ready w real Sender Recorder spins y = attached-other power-ok slot-ok w real Recorder spins (rings Recorder on) y
    attached-ready w real Recorder Sender spins y = attached-other power-ok slot-ok w real Sender spins true y
    attached-ready w real Recorder Recorder spins y = attached-own power-ok slot-ok w real Recorder spins true y

    pub ready-happens : (σ : Side) (h : Happening) (w : World) → Typed h → Fair σ h w → Real P S v on w → Ready σ w → Ready σ (happens h w)
    unfolding happens played played_leaves settled
    ready-happens σ (attaches side spins) w t f real y = attached-ready w real σ side spins y
    ready-happens σ (plays (Turn side) i o) w t f real y = turned-ready w real σ side i o None f y
    ready-happens σ (plays (Failing side e) i o) w t f real y = turned-ready w real σ side i o (Some e) f y
    ready-happens σ (plays (Spurious side) i o) w t f real y = called-ready w real σ side (spurious_spec side (party_in w side)).party (spurious-changes side (party_in w side)) y
    ready-happens σ (plays (TimeOut side) i o) w t f real y = called-ready w real σ side (timeout_spec side (party_in w side)).party (timeout-changes side (party_in w side)) y
    ready-happens σ (plays (Push b g l) i o) w t f real y = called-ready w real σ Sender (push_spec (party_in w Sender) b g l).party (push-changes (party_in w Sender) b g l t) y
    ready-happens σ (plays (Pop b l) i o) w t f real y = called-ready w real σ Recorder (pop_spec (party_in w Recorder) b l).party (pop-changes (party_in w Recorder) b l) y
    ready-happens σ (plays (Close side) i o) w t f real y = called-ready w real σ side (close_spec side (party_in w side)).party (close-changes side (party_in w side)) y
    ready-happens σ (plays (Shutdown side) i o) w t f real y = called-ready w real σ side (shut_spec side (party_in w side)).party (shut-changes side (party_in w side)) y

    pub ready-run : (σ : Side) (hs : List Happening) (w : World) → AllTyped hs → AllFair σ hs w → Real P S v on w → Ready σ w → Ready σ (run hs w)
    unfolding run
    ready-run σ [] w t f real y = y
    ready-run σ (h ∷ hs) w t f real y =
        ready-run σ hs (happens h w) t.1 f.1 (real-happens P S v on power-ok slot-ok h w t.0 real) (ready-happens σ h w t.0 f.0 real y)

  pub ready-start : (σ : Side) (region : List ℕ) → Ready σ (opened region)
  ready-start Sender region = by (rings Recorder on)
    where
      by : (h : Bool) → ReadyAt P S v on h Sender Recorder (opened region)
      by true = tt
      by false = tt
  ready-start Recorder region = tt

-- one that owes nothing helps nobody: a sleeper has no cause
pub causeless : (k : ℕ) (z : Bool) → (Cause k z → ⊥) → (k ≡ 0) × (z ≡ false)
causeless zero false f = (refl, refl)
causeless zero true f = absurd (f tt)
causeless (suc k) z f = absurd (f tt)

-- with the other owing nothing, nobody sleeps with cause
pub dozes : (P S v : ℕ) (on h : Bool) (σ τ : Side) (w : World) → duty τ (party_in w τ).step ≡ none → (party_in w σ).step ≡ Asleep → ReadyAt P S v on h σ τ w
    → Cause (room_in P S v on σ w.trace) (stop_at σ (le_at 4 w.region flags_at)) → ⊥
dozes P S v on true σ τ w s e y = rw (e, s) at y
dozes P S v on false σ τ w s e y = λ c. never (party_in w σ).blocking (rw e at y)
