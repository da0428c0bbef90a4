-- Once the sender has closed, no note is sent, whatever happens.
use mathlib.Core.Path.{◌≡◌, refl, sym, ap, ◌∙◌, subst}
use mathlib.Core.Bool.{Bool, true, false}
use mathlib.Core.List.{List, [], ◌∷◌}
use mathlib.Core.Logic.{inl, inr}
use Prim.Native.Nat.{ℕ}
use native.Mathlib.Omega.{arith}
use lib.Dec.{eqb}
use Rattle.types.specs.Answers.{number}
use Rattle.types.specs.declared.Side.{Side}
use Rattle.types.specs.declared.Side.TheVariants.{Sender, Recorder}
use Rattle.types.specs.declared.Party.{Party}
use Rattle.types.specs.Faults.{Fault}
use Rattle.types.specs.declared.Stance.{Stance}
use Rattle.types.specs.declared.Stance.TheVariants.{Resting, Sleeping, Copying, Publishing, Closing, Moving}
use Rattle.layout.specs.Limits.{power_ok, slot_ok}
use Rattle.layout.specs.Attach.{attach_answer, attach_reply, attach_leaves}
use Rattle.rules.specs.Take.{stance_of, closed_after}
use Rattle.rules.specs.Next.{next_at, next_spec}
use Rattle.rules.specs.Access.{buffer_of}
use Rattle.rules.specs.Turn.{error_of, woke_of}
use Rattle.rules.specs.Run.{Note, Trace, World, Happening, party_in, takes, happens, run}
use Rattle.rules.specs.Premises.{Typed, AllTyped}
use Rattle.rules.specs.Phase.{phase}
use Rattle.rules.proofs.Does.{does}
use Rattle.rules.proofs.Seats.{roused}
use Rattle.rules.proofs.Taken.{turn_world, turn-refused}
use Rattle.rules.proofs.RealTurn.{turn-is-after}
use Rattle.rules.proofs.RealCalls.{Changed, seated}
use Rattle.rules.proofs.RealAttach.{attach_world, bit-clear}
use Rattle.rules.proofs.RealRun.{happens-by, real-happens}
use Rattle.rules.proofs.Listening.{mover-is, waiter-is, trace-is}
use Rattle.rules.proofs.Bound.{notes-kept, notes-own, no_store}
use Rattle.rules.proofs.Real.{parts, Real}

closed-stays : (s : Stance) (b : Bool) → b ≡ true → closed_after s b ≡ true
closed-stays Resting b e = e
closed-stays Sleeping b e = e
closed-stays Copying b e = e
closed-stays Publishing b e = e
closed-stays Closing b e = refl
closed-stays Moving b e = e

-- the sender has closed, and these are all the notes that it sent
pub record Sealed (notes : List Note) (w : World) : Type 0 where
  pub closed : (party_in w Sender).closed ≡ true
  pub same : w.trace.sent ≡ notes

module _ (P S v : ℕ) (on : Bool) (notes : List Note) where
  sealed-called : (w : World) (side : Side) (q : Party) → Changed side (party_in w side) q → Sealed notes w → Sealed notes (seated P S v on w side q)
  sealed-called w Sender q (inl e) y = record { closed = ap (λ (x : Party). x.closed) e ∙ y.closed; same = y.same }
  sealed-called w Sender q (inr b) y = record { closed = b.closed ∙ y.closed; same = y.same }
  sealed-called w Recorder q c y = record { closed = y.closed; same = y.same }

  module _ (power-ok : power_ok P ≡ true) (slot-ok : slot_ok S ≡ true) (w : World) (real : Real P S v on w) (y : Sealed notes w) where
    -- whoever attaches finds its seat empty
    sealed-attached : (side : Side) (spins : ℕ) → Sealed notes (attach_world P S v on power-ok slot-ok w real side spins)
    unfolding attach_leaves attach_reply
    sealed-attached side spins = by side (eqb (number (attach_answer w.region side spins)) 0) refl
      where
        by : (side : Side) (b : Bool) → eqb (number (attach_answer w.region side spins)) 0 ≡ b → Sealed notes (attach_world P S v on power-ok slot-ok w real side spins)
        by side false e = rw e record { closed = y.closed; same = y.same }
        by Sender true e =
            let h = (real.sides Sender).seat in
            let f = (h.empty (sym h.attached-bit ∙ bit-clear w.region Sender spins e)).1 in
            absurd (let q = sym y.closed ∙ f in let z : ◌≡◌ {A = ℕ} 0 1 = cc in omega arith)
        by Recorder true e = rw e record { closed = y.closed; same = y.same }

    sealed-turned : (side : Side) (payload lent : List ℕ) (fault : Fault) → Sealed notes (turn_world w side payload lent fault)
    sealed-turned side payload lent fault = by side (takes w side payload lent fault) refl
      where
        by : (side : Side) (b : Bool) → takes w side payload lent fault ≡ b → Sealed notes (turn_world w side payload lent fault)
        by side false g = subst (Sealed notes) (sym (turn-refused w side payload lent fault g)) y
        by Sender true g =
            let p = party_in w Sender in
            let s = p.step in
            let a = next_at s Sender p.counter in
            let buffer = buffer_of w.region p.own a p.length lent in
            subst (Sealed notes) (sym (turn-is-after P S v on power-ok slot-ok w real Sender payload lent fault g))
            (record {
              closed = ap (λ (x : Party). x.closed) (mover-is P S v on power-ok slot-ok w real Sender payload lent fault g) ∙ closed-stays (stance_of s) p.closed y.closed;
              same =
                  ap (λ (x : Trace). x.sent) (trace-is P S v on power-ok slot-ok w real Sender payload lent fault g)
                  ∙ notes-own p payload buffer w.trace Sender p.counter s a (does Sender p.counter s) (no_store (λ u. parts (phase u)) s ((real.sides Sender).seat.over y.closed) (λ l g. refl))
                  ∙ y.same;
            })
        by Recorder true g =
            let p = party_in w Recorder in
            let a = next_at p.step Recorder p.counter in
            let buffer = buffer_of w.region p.own a p.length lent in
            subst (Sealed notes) (sym (turn-is-after P S v on power-ok slot-ok w real Recorder payload lent fault g))
            (record {
              closed =
                  ap (λ (x : Party). x.closed) (waiter-is P S v on power-ok slot-ok w real Recorder payload lent fault g)
                  ∙ (roused Sender (party_in w Sender) (woke_of (next_spec p) (error_of fault))).closed
                  ∙ y.closed;
              same =
                  ap (λ (x : Trace). x.sent) (trace-is P S v on power-ok slot-ok w real Recorder payload lent fault g)
                  ∙ notes-kept p payload buffer w.trace Recorder p.counter p.step a (does Recorder p.counter p.step)
                  ∙ y.same;
            })

  module _ (power-ok : power_ok P ≡ true) (slot-ok : slot_ok S ≡ true) where
    sealed-happens : (h : Happening) (w : World) → Typed h → Real P S v on w → Sealed notes w → Sealed notes (happens h w)
    sealed-happens h w t real y =
        happens-by P S v on power-ok slot-ok (Sealed notes) h w t real (sealed-attached power-ok slot-ok w real y) (sealed-turned power-ok slot-ok w real y) (λ side q c. sealed-called w side q c y)

    pub sealed-run : (hs : List Happening) (w : World) → AllTyped hs → Real P S v on w → Sealed notes w → Sealed notes (run hs w)
    unfolding run
    sealed-run [] w t real y = y
    sealed-run (h ∷ hs) w t real y = sealed-run hs (happens h w) t.1 (real-happens P S v on power-ok slot-ok h w t.0 real) (sealed-happens h w t.0 real y)
