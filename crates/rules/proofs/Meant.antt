-- What a party holds of its call, and what the call has published, in every world that a run reaches.
use Rattle.std.specs.Cmp.{first_so}
use Rattle.std.specs.Prelude.{None, Some}
use mathlib.Core.Path.{◌≡◌, refl, sym, ap, ◌∙◌, subst}
use mathlib.Core.Bool.{Bool, true, false, not, ◌&&◌}
use mathlib.Core.List.{List, [], ◌∷◌, ◌++◌}
use mathlib.Core.Logic.{◌⊎◌, inl, inr}
use Prim.Native.Nat.{ℕ}
use native.Mathlib.Omega.{arith}
use lib.Dec.{eqb, leb}
use lib.ListN.{take}
use Rattle.types.specs.Pick.{pick}
use Rattle.types.specs.Answers.{number}
use Rattle.types.specs.declared.Side.{Side}
use Rattle.types.specs.declared.Side.TheVariants.{Sender, Recorder}
use Rattle.types.specs.declared.Bell.TheVariants.{NotEmpty, NotFull}
use Rattle.types.specs.declared.Own.{Own}
use Rattle.types.specs.declared.Party.{Party}
use Rattle.types.specs.declared.Reply.{Reply}
use Rattle.types.specs.Faults.{Woke}
use Rattle.types.specs.declared.Stance.{Stance}
use Rattle.types.specs.declared.Stance.TheVariants.{Resting, Sleeping, Copying, Publishing, Closing, Moving}
use Rattle.types.specs.declared.Fit.{Fit}
use Rattle.types.specs.declared.Fit.TheVariants.{Bad, Small, Fits}
use Rattle.types.specs.declared.Move.{Move}
use Rattle.types.specs.declared.Access.{Access}
use Rattle.types.specs.Faults.{Fault}
use Rattle.types.specs.declared.Step.{Step}
use Rattle.types.specs.declared.Step.TheVariants.{Look, Copy, Publish, Raise, Epoch, LastLook, CloseSet, ShutSet}
use Rattle.types.specs.declared.Event.TheVariants.{Turn, Failing, Spurious, TimeOut, Push, Pop, Close, Shutdown}
use Rattle.types.specs.declared.Answer.TheVariants.{GoesOn}
use Rattle.layout.specs.Limits.{power_ok, slot_ok, payload_capacity}
use Rattle.layout.specs.Slots.{head_of}
use Rattle.layout.specs.Attach.{attach_answer, attach_reply, attached}
use Rattle.layout.specs.Create.{created}
use Rattle.rules.specs.Sides.{other, same_side}
use Rattle.rules.specs.Looks.{fit_of}
use Rattle.rules.specs.Steps.{fit_move, copy_with}
use Rattle.rules.specs.Take.{stance_of, step_after, move_at, move_of}
use Rattle.rules.specs.Next.{slot_access, next_at, next_spec}
use Rattle.rules.specs.Access.{value_of, buffer_of}
use Rattle.rules.specs.Calls.{is_sleeping, sound, ready, reply, at, named, begins, rouses, push_spec, pop_spec, close_spec, shut_spec, spurious_spec, timeout_spec}
use Rattle.rules.specs.Turn.{error_of, woke_of}
use Rattle.rules.specs.Bench.{seat, hears, wakened, settled, played, played_leaves}
use Rattle.rules.specs.Run.{Note, Trace, World, Happening, attaches, plays, party_in, takes, carried, traced, happens, run, opened}
use Rattle.rules.specs.Phase.{Phase, resting, looking, copying, publishing, telling, asking, armed, poised, waits, sleeps, glancing, leaving, phase}
use Rattle.rules.specs.Premises.{AllTyped}
use Rattle.rules.specs.Stretch.{notes_of}
use Rattle.rules.specs.Claims.{Fresh, reached}
use Rattle.rules.specs.Meaning.{call_of}
use Rattle.rules.specs.Asked.{Call, no_call, copy_of as copy_of, superseded, begun, lent_of, at_copy, turn_call, call_after, call_by, AsNamed}
use Rattle.rules.proofs.Views.{acting, is-copy, sleeping-step, view, View, at_rest, at_copy as copying-now, asleep, elsewhere}
use Rattle.rules.proofs.Does.{Does, does, nothing, looks, flags, reads as epoch, writes, takes as take-slot, stores as store, raises as ring, closes as close, shuts as shut, waits as wait, wakes as wake}
use Rattle.rules.proofs.Leads.{Sight, asks, Leads, idles, finds, blocks, gives_up, copies, spills, tells, stores, owes, passes, raises, wakes, enters, stops, finds-spin, spins, reads, finds-again, stays, enters-again, stops-again, sleeps as falls-asleep, returns, ends, dreams, glances, glances-again, times-out, finds-last, finds-none, closes, closes-alone, close-raises, close-wakes, shuts, shut-raises, shut-wakes, shut-raises-again, shut-wakes-again}
use Rattle.rules.proofs.FitLaws.{copy-by}
use Rattle.rules.proofs.Seats.{moved, roused, roused-elim}
use Rattle.rules.proofs.Taken.{turn_world, turn-refused, same_true}
use Rattle.rules.proofs.RealTurn.{own_is, next-step, leads-here, after_turn, turn-is-after}
use Rattle.rules.proofs.RealAttach.{bit-clear}
use Rattle.rules.proofs.RealRun.{power-fits, slot-fits, real-start, real-happens}
use Rattle.rules.proofs.Listening.{mover-is, waiter-is, trace-is}
use Rattle.rules.proofs.Bound.{notes-kept}
use Rattle.rules.proofs.Real.{Real}

-- a call that has published nothing yet and copied nothing
pub record Before (side : Side) (c : Call) (t : Trace) : Type 0 where
  pub last : c.last ≡ true
  pub same : notes_of side t ≡ c.before
  pub none : c.copied ≡ []

-- one that has its note in hand; a push's step carries no numbers
pub record Made (side : Side) (l g : ℕ) (c : Call) (t : Trace) : Type 0 where
  pub last : c.last ≡ true
  pub same : notes_of side t ≡ c.before
  pub bare : side ≡ Sender → (l ≡ 0) × (g ≡ 0)
  pub hand : side ≡ Sender → AsNamed Sender c t.hand

-- and one that has published it
pub record Given (side : Side) (l g : ℕ) (c : Call) (t : Trace) : Type 0 where
  pub last : c.last ≡ true
  pub bare : side ≡ Sender → (l ≡ 0) × (g ≡ 0)
  pub note : Note
  pub more : notes_of side t ≡ c.before ++ (note ∷ [])
  pub as-named : AsNamed side c note

abbrev pub Under : Side → Phase → Call → Trace → Type 0
Under side resting c t = Unit
Under side looking c t = Before side c t
Under side copying c t = Before side c t
Under side (publishing l g) c t = Made side l g c t
Under side (telling l g) c t = Given side l g c t
Under side asking c t = Before side c t
Under side (armed e) c t = Before side c t
Under side (poised e) c t = Before side c t
Under side (waits e) c t = Before side c t
Under side sleeps c t = Before side c t
Under side glancing c t = Before side c t
Under side leaving c t = c.last ≡ false

-- the record holds what the call named, and a party not attached has named nothing
pub record Keeps (c : Call) (p : Party) : Type 0 where
  pub blocking : p.blocking ≡ c.blocking
  pub tag : p.tag ≡ c.tag
  pub length : p.length ≡ c.length
  pub fresh : p.own.attached ≡ false → (c.blocking ≡ false) × ((c.tag ≡ 0) × (c.length ≡ 0))

pub record Meant (side : Side) (c : Call) (w : World) : Type 0 where
  pub keeps : Keeps c (party_in w side)
  pub under : Under side (phase (party_in w side).step) c w.trace

-- a trace with the same notes, and the same hand of a sender's
under-kept : (σ : Side) (ph : Phase) (c : Call) (t u : Trace) → notes_of σ u ≡ notes_of σ t → (σ ≡ Sender → u.hand ≡ t.hand) → Under σ ph c t → Under σ ph c u
under-kept σ resting c t u n h y = tt
under-kept σ looking c t u n h y = record { last = y.last; same = n ∙ y.same; none = y.none }
under-kept σ copying c t u n h y = record { last = y.last; same = n ∙ y.same; none = y.none }
under-kept σ (publishing l g) c t u n h y = record { last = y.last; same = n ∙ y.same; bare = y.bare; hand = λ e. rw (h e) (y.hand e) }
under-kept σ (telling l g) c t u n h y = record { last = y.last; bare = y.bare; note = y.note; more = n ∙ y.more; as-named = y.as-named }
under-kept σ asking c t u n h y = record { last = y.last; same = n ∙ y.same; none = y.none }
under-kept σ (armed e) c t u n h y = record { last = y.last; same = n ∙ y.same; none = y.none }
under-kept σ (poised e) c t u n h y = record { last = y.last; same = n ∙ y.same; none = y.none }
under-kept σ (waits e) c t u n h y = record { last = y.last; same = n ∙ y.same; none = y.none }
under-kept σ sleeps c t u n h y = record { last = y.last; same = n ∙ y.same; none = y.none }
under-kept σ glancing c t u n h y = record { last = y.last; same = n ∙ y.same; none = y.none }
under-kept σ leaving c t u n h y = y

-- a recorder's turn leaves the sender's hand
hand-kept : (p : Party) (payload buffer : List ℕ) (t : Trace) (n : ℕ) (s : Step) (a : Access) → Does Recorder n s a → (traced a p payload buffer t).hand ≡ t.hand
hand-kept p payload buffer t n s a (nothing q) = refl
hand-kept p payload buffer t n s a (looks q) = refl
hand-kept p payload buffer t n s a (flags q) = refl
hand-kept p payload buffer t n s a epoch = refl
hand-kept p payload buffer t n s a (writes q) = absurd (let z : ◌≡◌ {A = ℕ} 0 1 = cc in omega arith)
hand-kept p payload buffer t n s a (take-slot q) = refl
hand-kept p payload buffer t n s a store = refl
hand-kept p payload buffer t n s a (ring q NotEmpty) = refl
hand-kept p payload buffer t n s a (ring q NotFull) = refl
hand-kept p payload buffer t n s a close = refl
hand-kept p payload buffer t n s a shut = refl
hand-kept p payload buffer t n s a wait = refl
hand-kept p payload buffer t n s a (wake q b m) = refl

module _ (p : Party) (payload buffer : List ℕ) (t : Trace) (c : Call) where
  abbrev told : Side → Step → Trace
  told side s = traced (next_at s side p.counter) p payload buffer t

  pub stored : (side : Side) (l g : ℕ) → p.step ≡ Publish l g → Made side l g c t → Given side l g c (told side (Publish l g))
  stored Sender l g e y =
      record { last = y.last; bare = y.bare; note = t.hand; more = ap (λ (x : List Note). x ++ (t.hand ∷ [])) y.same; as-named = y.hand refl }
  stored Recorder l g e y =
      let n : Note = record { tag = (carried p.step).tag; body = take (carried p.step).length t.buffer } in
      record { last = y.last; bare = λ q. absurd (let z : ◌≡◌ {A = ℕ} 0 1 = cc in omega arith); note = n; more = ap (λ (x : List Note). x ++ (n ∷ [])) y.same; as-named = tt }

  rung : (side : Side) (l g : ℕ) → Given side l g c t → Given side l g c (traced (next_at (Raise l g) side p.counter) p payload buffer t)
  rung Sender l g y = record { last = y.last; bare = y.bare; note = y.note; more = y.more; as-named = y.as-named }
  rung Recorder l g y = record { last = y.last; bare = y.bare; note = y.note; more = y.more; as-named = y.as-named }

  read-on : (side : Side) → Before side c t → Before side c (traced (next_at Epoch side p.counter) p payload buffer t)
  read-on Sender y = record { last = y.last; same = y.same; none = y.none }
  read-on Recorder y = record { last = y.last; same = y.same; none = y.none }

  -- where a turn that is no copy leads
  own-under : (side : Side) (g : Sight) (s next : Step) → p.step ≡ s → (s ≡ Copy → ⊥) → Leads g s next → Under side (phase s) c t → Under side (phase next) c (told side s)
  own-under side g s next at u idles y = tt
  own-under side g s next at u (finds h) y = y
  own-under side g s next at u (blocks h q) y = y
  own-under side g s next at u (gives_up h q) y = tt
  own-under side g s next at u copies y = absurd (u refl)
  own-under side g s next at u spills y = absurd (u refl)
  own-under side g s next at u (tells {l = l} {t = i} h) y = stored side l i at y
  own-under side g s next at u (stores h) y = tt
  own-under side g s next at u (owes h) y = y
  own-under side g s next at u (passes h) y = tt
  own-under side g s next at u (raises {l = l} {t = i}) y = rung side l i y
  own-under side g s next at u wakes y = tt
  own-under side g s next at u (enters h o) y = rw (asks _ _ o) y
  own-under side g s next at u (finds-spin h) y = y
  own-under side g s next at u (spins h o) y = rw (asks _ _ o) y
  own-under side g s next at u (stops h i) y = tt
  own-under side g s next at u reads y = read-on side y
  own-under side g s next at u (finds-again h) y = y
  own-under side g s next at u (stays h) y = y
  own-under side g s next at u (enters-again h) y = y
  own-under side g s next at u (stops-again h i) y = tt
  own-under side g s next at u (falls-asleep h) y = y
  own-under side g s next at u returns y = y
  own-under side g s next at u ends y = tt
  own-under side g s next at u dreams y = y
  own-under side g s next at u (glances h i) y = y
  own-under side g s next at u (glances-again h i) y = y
  own-under side g s next at u times-out y = y
  own-under side g s next at u (finds-last h) y = y
  own-under side g s next at u (finds-none h) y = tt
  own-under side g s next at u (closes h) y = y
  own-under side g s next at u (closes-alone h) y = tt
  own-under side g s next at u close-raises y = y
  own-under side g s next at u close-wakes y = tt
  own-under side g s next at u shuts y = y
  own-under side g s next at u shut-raises y = y
  own-under side g s next at u shut-wakes y = y
  own-under side g s next at u shut-raises-again y = y
  own-under side g s next at u shut-wakes-again y = tt

  -- and a copy
  copy-under : (σ : Side) (lent : List ℕ) (n : ℕ) (f : Fit) (l g : ℕ) → p.tag ≡ c.tag → Before σ c t
      → Under σ (phase (step_after (copy_with σ (fit_move f l g)) Copy)) (copy_of (lent_of σ payload lent) c) (traced (slot_access σ n) p payload buffer t)
  copy-under Sender lent n f l g e y =
      record {
        last = y.last;
        same = y.same;
        bare = λ q. (refl, refl);
        hand = λ q. (e, ap (λ (x : List (List ℕ)). x ++ (payload ∷ [])) y.none);
      }
  copy-under Recorder lent n Bad l g e y = tt
  copy-under Recorder lent n Small l g e y = tt
  copy-under Recorder lent n Fits l g e y =
      record {
        last = y.last;
        same = y.same;
        bare = λ q. absurd (let z : ◌≡◌ {A = ℕ} 0 1 = cc in omega arith);
        hand = λ q. absurd (let z : ◌≡◌ {A = ℕ} 0 1 = cc in omega arith);
      }

-- a copy of what was lent, in the call of the mover alone
same_false : (side : Side) → same_side (other side) side ≡ false
same_false Sender = refl
same_false Recorder = refl

pub not-copy : (s : Step) → (s ≡ Copy → ⊥) → at_copy (stance_of s) ≡ false
not-copy s n = by s (view s) n
  where
    acting-copy : (u : Stance) → acting u ≡ true → at_copy u ≡ false
    acting-copy Resting e = refl
    acting-copy Sleeping e = refl
    acting-copy Copying e = absurd (let z : ◌≡◌ {A = ℕ} 0 1 = cc in omega arith)
    acting-copy Publishing e = refl
    acting-copy Closing e = refl
    acting-copy Moving e = refl

    by : (s : Step) → View s → (s ≡ Copy → ⊥) → at_copy (stance_of s) ≡ false
    by s at_rest n = refl
    by s copying-now n = absurd (n refl)
    by s asleep n = refl
    by s (elsewhere a w) n = acting-copy (stance_of s) a

copy-keeps : (c : Call) (b : Bool) (l : List ℕ) (p : Party) → Keeps c p → Keeps (pick b (copy_of l c) c) p
copy-keeps c true l p y = record { blocking = y.blocking; tag = y.tag; length = y.length; fresh = y.fresh }
copy-keeps c false l p y = y

-- a party with another step, and the same of all else
pub same-keeps : (c : Call) (p q : Party) → q.own ≡ p.own → q.blocking ≡ p.blocking → q.tag ≡ p.tag → q.length ≡ p.length → Keeps c p → Keeps c q
same-keeps c p q o b t l y =
    record { blocking = b ∙ y.blocking; tag = t ∙ y.tag; length = l ∙ y.length; fresh = λ e. y.fresh (ap (λ (x : Own). x.attached) (sym o) ∙ e) }

module _ (P S v : ℕ) (on : Bool) (power-ok : power_ok P ≡ true) (slot-ok : slot_ok S ≡ true) where
  module _ (w : World) (real : Real P S v on w) (side : Side) (payload lent : List ℕ) (fault : Fault) (g : takes w side payload lent fault ≡ true) where
    abbrev p : Party
    p = party_in w side

    abbrev q : Party
    q = party_in w (other side)

    abbrev s : Step
    s = p.step

    abbrev t : Trace
    t = w.trace

    abbrev next : Step
    next = next-step P S v on power-ok slot-ok w real side payload lent fault g

    abbrev a : Access
    a = next_at s side p.counter

    abbrev buffer : List ℕ
    buffer = buffer_of w.region p.own a p.length lent

    abbrev after : World
    after = after_turn P S v on power-ok slot-ok w real side payload lent fault g

    call-mine : (c : Call) → turn_call side w side payload lent fault c ≡ pick (at_copy (stance_of s)) (copy_of (lent_of side payload lent) c) c
    call-mine c = rw (same_true side, g)

    call-theirs : (c : Call) → turn_call (other side) w side payload lent fault c ≡ c
    call-theirs c = rw (same_false side)

    own-after : (c : Call) → Meant side c w → Under side (phase next) (pick (at_copy (stance_of s)) (copy_of (lent_of side payload lent) c) c) (traced a p payload buffer t)
    unfolding move_of
    own-after c y = by (is-copy s)
      where
        by : (s ≡ Copy) ⊎ (s ≡ Copy → ⊥) → Under side (phase next) (pick (at_copy (stance_of s)) (copy_of (lent_of side payload lent) c) c) (traced a p payload buffer t)
        by (inr n) = rw (not-copy s n) (own-under p payload buffer t c side _ s next refl n (leads-here P S v on power-ok slot-ok w real side payload lent fault g) y.under)
        by (inl e) =
            let val = value_of w.region p.own (next_spec p) in
            subst (λ (u : Step). Under side (phase (step_after (move_at u p.own p.counter p.blocking p.length val (error_of fault)) u)) (pick (at_copy (stance_of u)) (copy_of (lent_of side payload lent) c) c) (traced (next_at u side p.counter) p payload buffer t))
            (sym e)
            (subst (λ (m : Move). Under side (phase (step_after m Copy)) (copy_of (lent_of side payload lent) c) (traced (slot_access side p.counter) p payload buffer t))
            (sym (copy-by p.own p.length val side (ap (λ (o : Own). o.side) (own_is P S v on power-ok slot-ok w real side payload lent fault g))))
            (copy-under p payload buffer t c side lent p.counter (fit_of (head_of val) (payload_capacity p.own.slot) p.length) (head_of val).length (head_of val).tag y.keeps.tag
            (subst (λ (u : Step). Under side (phase u) c t) e y.under)))

    mine-after : (c : Call) → Meant side c w → Meant side (turn_call side w side payload lent fault c) after
    mine-after c y =
        let me = mover-is P S v on power-ok slot-ok w real side payload lent fault g in
        rw (call-mine c)
        (record {
          keeps = rw me (copy-keeps c (at_copy (stance_of s)) (lent_of side payload lent) (moved p s next) (same-keeps c p (moved p s next) refl refl refl refl y.keeps));
          under = rw (me, trace-is P S v on power-ok slot-ok w real side payload lent fault g) (own-after c y);
        })

    abbrev woken : Party
    woken = wakened (other side) q (woke_of (next_spec p) (error_of fault))

    woken-same : (x : Woke) → ((wakened (other side) q x).tag ≡ q.tag) × ((wakened (other side) q x).length ≡ q.length)
    unfolding wakened
    woken-same x = by (hears (other side) x && is_sleeping (stance_of q.step))
      where
        by : (b : Bool) → ((pick b (at Look q) q).tag ≡ q.tag) × ((pick b (at Look q) q).length ≡ q.length)
        by true = (refl, refl)
        by false = (refl, refl)

    sender-hand : (σ : Side) → other σ ≡ Sender → (n : ℕ) (u : Step) → (traced (next_at u σ n) p payload buffer t).hand ≡ t.hand
    sender-hand Sender e n u = absurd (let z : ◌≡◌ {A = ℕ} 0 1 = cc in omega arith)
    sender-hand Recorder e n u = hand-kept p payload buffer t n u (next_at u Recorder n) (does Recorder n u)

    theirs-after : (c : Call) → Meant (other side) c w → Meant (other side) (turn_call (other side) w side payload lent fault c) after
    theirs-after c y =
        let them = waiter-is P S v on power-ok slot-ok w real side payload lent fault g in
        let o = roused (other side) q (woke_of (next_spec p) (error_of fault)) in
        let m = woken-same (woke_of (next_spec p) (error_of fault)) in
        let kept = under-kept (other side) (phase q.step) c t (traced a p payload buffer t) (notes-kept p payload buffer t side p.counter s a (does side p.counter s)) (λ e. sender-hand side e p.counter s) y.under in
        rw (call-theirs c)
        (record {
          keeps = rw them (same-keeps c q woken o.own o.blocking m.0 m.1 y.keeps);
          under = rw (them, trace-is P S v on power-ok slot-ok w real side payload lent fault g)
              (roused-elim o (λ u. Under (other side) (phase u) c (traced a p payload buffer t)) kept (λ e. subst (λ (u : Step). Under (other side) (phase u) c (traced a p payload buffer t)) e kept));
        })

  meant-turn : (σ side : Side) (w : World) → Real P S v on w → (payload lent : List ℕ) (fault : Fault) (c : Call) → Meant σ c w → Meant σ (turn_call σ w side payload lent fault c) (turn_world w side payload lent fault)
  meant-turn σ side w real payload lent fault c y = by (takes w side payload lent fault) refl
    where
      off : (b d : Bool) → b ≡ false → pick (same_side σ side && (b && d)) (copy_of (lent_of side payload lent) c) c ≡ c
      off b d e = rw e (none (same_side σ side))
        where
          none : (x : Bool) → pick (x && false) (copy_of (lent_of side payload lent) c) c ≡ c
          none true = refl
          none false = refl

      taken : (σ side : Side) → (g : takes w side payload lent fault ≡ true) → Meant σ c w → Meant σ (turn_call σ w side payload lent fault c) (after_turn P S v on power-ok slot-ok w real side payload lent fault g)
      taken Sender Sender g y = mine-after w real Sender payload lent fault g c y
      taken Recorder Sender g y = theirs-after w real Sender payload lent fault g c y
      taken Sender Recorder g y = theirs-after w real Recorder payload lent fault g c y
      taken Recorder Recorder g y = mine-after w real Recorder payload lent fault g c y

      by : (b : Bool) → takes w side payload lent fault ≡ b → Meant σ (turn_call σ w side payload lent fault c) (turn_world w side payload lent fault)
      by true g = subst (Meant σ (turn_call σ w side payload lent fault c)) (sym (turn-is-after P S v on power-ok slot-ok w real side payload lent fault g)) (taken σ side g y)
      by false g = rw (off (takes w side payload lent fault) (at_copy (stance_of (party_in w side).step)) g) (subst (Meant σ c) (sym (turn-refused w side payload lent fault g)) y)

-- a begin changes the record and the call together, or neither
pub begun-keeps : (F : Call → Party → Type 0) (p : Party) (g k o n : Bool) (q : Party) (c d : Call) → F c p → (g ≡ true → F d q)
    → F (pick (begun (begins p g k o n q).answer) d c) (begins p g k o n q).party
begun-keeps F p false k o n q c d x y = x
begun-keeps F p true true o n q c d x y = x
begun-keeps F p true false true n q c d x y = x
begun-keeps F p true false false true q c d x y = x
begun-keeps F p true false false false q c d x y = y refl

pub roused-keeps : (F : Party → Type 0) (p : Party) (g a : Bool) (q : Reply) → F p → (a ≡ true → F q.party) → F (rouses p g a q).party
roused-keeps F p false a q x y = x
roused-keeps F p true false q x y = x
roused-keeps F p true true q x y = y refl

never : (side : Side) (p : Party) → ready side p ≡ true → p.own.attached ≡ false → {A : Type 0} → A
unfolding ready sound
never side p e f = absurd (let h = sym (first_so p.own.attached _ (first_so (sound side p) _ e)) ∙ f in let z : ◌≡◌ {A = ℕ} 0 1 = cc in omega arith)

-- a close or a shutdown that is begun
parted : (p : Party) (s : Step) (c : Call) → Keeps c p → Keeps (superseded c) (at s p)
parted p s c y = record { blocking = y.blocking; tag = y.tag; length = y.length; fresh = y.fresh }

abbrev Holds : Side → Trace → Call → Party → Type 0
Holds side t c p = Keeps c p × Under side (phase p.step) c t

-- a sleeper that rises goes on in its call
risen : (side : Side) (t : Trace) (c : Call) (p : Party) (s : Step) → Under side (phase s) c t ≡ Before side c t → Holds side t c p → is_sleeping (stance_of p.step) ≡ true → Holds side t c (at s p)
risen side t c p s e h a =
    (same-keeps c p (at s p) refl refl refl refl h.0, rw e (subst (λ (u : Step). Under side (phase u) c t) (sleeping-step p.step a) h.1))

module _ (P S v : ℕ) (on : Bool) (power-ok : power_ok P ≡ true) (slot-ok : slot_ok S ≡ true) where
  meant-attach : (σ side : Side) (count : ℕ) (w : World) → Real P S v on w → (c : Call) → Meant σ c w → Meant σ c (happens (attaches side count) w)
  unfolding happens attach_reply
  meant-attach σ side count w real c y = by (eqb (number (attach_answer w.region side count)) 0) refl
    where
      fresh : eqb (number (attach_answer w.region side count)) 0 ≡ true → (party_in w side).own.attached ≡ false
      fresh e = sym (real.sides side).seat.attached-bit ∙ bit-clear w.region side count e

      new : (side : Side) → Keeps c (party_in w side) → (party_in w side).own.attached ≡ false → Keeps c (attached w.region side count)
      new side k n =
          let f = k.fresh n in
          record { blocking = sym f.0; tag = sym f.1.0; length = sym f.1.1; fresh = λ e. absurd (let z : ◌≡◌ {A = ℕ} 0 1 = cc in omega arith) }

      seats : (σ side : Side) → Meant σ c w → (party_in w side).own.attached ≡ false → (r : List ℕ) → Meant σ c (record { region = r; bench = seat w.bench side (attached w.region side count); trace = w.trace })
      seats Sender Sender y n r = record { keeps = new Sender y.keeps n; under = tt }
      seats Recorder Sender y n r = record { keeps = y.keeps; under = y.under }
      seats Sender Recorder y n r = record { keeps = y.keeps; under = y.under }
      seats Recorder Recorder y n r = record { keeps = new Recorder y.keeps n; under = tt }

      by : (b : Bool) → eqb (number (attach_answer w.region side count)) 0 ≡ b → Meant σ c (happens (attaches side count) w)
      by true e = rw e (seats σ side y (fresh e) _)
      by false e = rw e (record { keeps = y.keeps; under = y.under })

  meant-happens : (σ : Side) (h : Happening) (w : World) → Real P S v on w → (c : Call) → Meant σ c w → Meant σ (call_after σ h w c) (happens h w)
  unfolding happens played played_leaves settled push_spec pop_spec close_spec shut_spec spurious_spec timeout_spec
  meant-happens σ (attaches side count) w real c y = meant-attach σ side count w real c y
  meant-happens σ (plays (Turn side) i o) w real c y = meant-turn P S v on power-ok slot-ok σ side w real i o None c y
  meant-happens σ (plays (Failing side e) i o) w real c y = meant-turn P S v on power-ok slot-ok σ side w real i o (Some e) c y
  meant-happens Sender (plays (Spurious Sender) i o) w real c y =
      let p = w.bench.sender in
      let h = roused-keeps (Holds Sender w.trace c) p (sound Sender p) (is_sleeping (stance_of p.step)) (reply (at Look p) GoesOn) (y.keeps, y.under) (risen Sender w.trace c p Look refl (y.keeps, y.under)) in
      record { keeps = h.0; under = h.1 }
  meant-happens Recorder (plays (Spurious Recorder) i o) w real c y =
      let p = w.bench.recorder in
      let h = roused-keeps (Holds Recorder w.trace c) p (sound Recorder p) (is_sleeping (stance_of p.step)) (reply (at Look p) GoesOn) (y.keeps, y.under) (risen Recorder w.trace c p Look refl (y.keeps, y.under)) in
      record { keeps = h.0; under = h.1 }
  meant-happens Recorder (plays (Spurious Sender) i o) w real c y = record { keeps = y.keeps; under = y.under }
  meant-happens Sender (plays (Spurious Recorder) i o) w real c y = record { keeps = y.keeps; under = y.under }
  meant-happens Sender (plays (TimeOut Sender) i o) w real c y =
      let p = w.bench.sender in
      let h = roused-keeps (Holds Sender w.trace c) p (sound Sender p) (is_sleeping (stance_of p.step)) (reply (at (LastLook true) p) GoesOn) (y.keeps, y.under) (risen Sender w.trace c p (LastLook true) refl (y.keeps, y.under)) in
      record { keeps = h.0; under = h.1 }
  meant-happens Recorder (plays (TimeOut Recorder) i o) w real c y =
      let p = w.bench.recorder in
      let h = roused-keeps (Holds Recorder w.trace c) p (sound Recorder p) (is_sleeping (stance_of p.step)) (reply (at (LastLook true) p) GoesOn) (y.keeps, y.under) (risen Recorder w.trace c p (LastLook true) refl (y.keeps, y.under)) in
      record { keeps = h.0; under = h.1 }
  meant-happens Recorder (plays (TimeOut Sender) i o) w real c y = record { keeps = y.keeps; under = y.under }
  meant-happens Sender (plays (TimeOut Recorder) i o) w real c y = record { keeps = y.keeps; under = y.under }
  meant-happens Sender (plays (Push b k l) i o) w real c y =
      let p = w.bench.sender in
      let d : Call = record { last = true; blocking = b; tag = k; length = l; before = w.trace.sent; copied = [] } in
      let h = begun-keeps (Holds Sender w.trace) p (ready Sender p) p.closed (b && not p.own.notfull) (not (leb l (payload_capacity p.own.slot))) (named b k l p) c d (y.keeps, y.under)
      (λ e. (record { blocking = refl; tag = refl; length = refl; fresh = λ f. never Sender p e f }, record { last = refl; same = refl; none = refl })) in
      record { keeps = h.0; under = h.1 }
  meant-happens Recorder (plays (Push b k l) i o) w real c y = record { keeps = y.keeps; under = y.under }
  meant-happens Recorder (plays (Pop b l) i o) w real c y =
      let p = w.bench.recorder in
      let d : Call = record { last = true; blocking = b; tag = 0; length = l; before = w.trace.delivered; copied = [] } in
      let h = begun-keeps (Holds Recorder w.trace) p (ready Recorder p) p.closed false false (named b 0 l p) c d (y.keeps, y.under)
      (λ e. (record { blocking = refl; tag = refl; length = refl; fresh = λ f. never Recorder p e f }, record { last = refl; same = refl; none = refl })) in
      record { keeps = h.0; under = h.1 }
  meant-happens Sender (plays (Pop b l) i o) w real c y = record { keeps = y.keeps; under = y.under }
  meant-happens Sender (plays (Close Sender) i o) w real c y =
      let p = w.bench.sender in
      let h = begun-keeps (Holds Sender w.trace) p (ready Sender p) p.closed false false (at CloseSet p) c (superseded c) (y.keeps, y.under) (λ e. (parted p _ c y.keeps, refl)) in
      record { keeps = h.0; under = h.1 }
  meant-happens Recorder (plays (Close Recorder) i o) w real c y =
      let p = w.bench.recorder in
      let h = begun-keeps (Holds Recorder w.trace) p (ready Recorder p) p.closed false false (at CloseSet p) c (superseded c) (y.keeps, y.under) (λ e. (parted p _ c y.keeps, refl)) in
      record { keeps = h.0; under = h.1 }
  meant-happens Recorder (plays (Close Sender) i o) w real c y = record { keeps = y.keeps; under = y.under }
  meant-happens Sender (plays (Close Recorder) i o) w real c y = record { keeps = y.keeps; under = y.under }
  meant-happens Sender (plays (Shutdown Sender) i o) w real c y =
      let p = w.bench.sender in
      let h = begun-keeps (Holds Sender w.trace) p (ready Sender p) false false false (at (ShutSet false) p) c (superseded c) (y.keeps, y.under) (λ e. (parted p _ c y.keeps, refl)) in
      record { keeps = h.0; under = h.1 }
  meant-happens Recorder (plays (Shutdown Recorder) i o) w real c y =
      let p = w.bench.recorder in
      let h = begun-keeps (Holds Recorder w.trace) p (ready Recorder p) false false false (at (ShutSet false) p) c (superseded c) (y.keeps, y.under) (λ e. (parted p _ c y.keeps, refl)) in
      record { keeps = h.0; under = h.1 }
  meant-happens Recorder (plays (Shutdown Sender) i o) w real c y = record { keeps = y.keeps; under = y.under }
  meant-happens Sender (plays (Shutdown Recorder) i o) w real c y = record { keeps = y.keeps; under = y.under }

  pub meant-run : (σ : Side) (hs : List Happening) (w : World) → AllTyped hs → Real P S v on w → (c : Call) → Meant σ c w → Meant σ (call_by σ hs w c) (run hs w)
  unfolding run
  meant-run σ [] w t real c y = y
  meant-run σ (h ∷ hs) w t real c y = meant-run σ hs (happens h w) t.1 (real-happens P S v on power-ok slot-ok h w t.0 real) (call_after σ h w c) (meant-happens σ h w real c y)

module _ (r : List ℕ) (P S : ℕ) (on : Bool) (v : ℕ) (fresh : Fresh r P S on v) where
  meant-start : (σ : Side) → Meant σ no_call (opened (created r P S on v))
  meant-start Sender = record { keeps = record { blocking = refl; tag = refl; length = refl; fresh = λ e. (refl, (refl, refl)) }; under = tt }
  meant-start Recorder = record { keeps = record { blocking = refl; tag = refl; length = refl; fresh = λ e. (refl, (refl, refl)) }; under = tt }

  pub meant-reached : (σ : Side) (hs : List Happening) → AllTyped hs → Meant σ (call_of r P S on v σ hs) (reached r P S on v hs)
  meant-reached σ hs t = meant-run P S v on (power-fits r P S on v fresh) (slot-fits r P S on v fresh) σ hs (opened (created r P S on v)) t (real-start r P S on v fresh) no_call (meant-start σ)
