-- On a run from a fresh region nobody finds it corrupt.
use mathlib.Core.Path.{◌≡◌, refl, sym, subst}
use mathlib.Core.Bool.{Bool, true, false}
use mathlib.Core.List.{List, [], ◌∷◌}
use mathlib.Core.Logic.{inl, inr}
use Prim.Native.Nat.{ℕ}
use lib.Dec.{eqb}
use Rattle.types.specs.Answers.{number}
use Rattle.types.specs.declared.Side.{Side}
use Rattle.types.specs.declared.Side.TheVariants.{Sender, Recorder}
use Rattle.types.specs.declared.Party.{Party}
use Rattle.types.specs.Faults.{Fault}
use Rattle.types.specs.declared.Step.{Step}
use Rattle.types.specs.declared.Step.TheVariants.{Rest, Look, Copy, Publish, Check, Raise, Wake, Gate, Spin, Epoch, Again, GateAgain, Wait, Asleep, LastLook, CloseSet, CloseRaise, CloseWake, ShutSet, ShutRaiseNe, ShutWakeNe, ShutRaiseNf, ShutWakeNf}
use Rattle.layout.specs.Limits.{power_ok, slot_ok}
use Rattle.layout.specs.Attach.{attach_answer, attach_reply, attached}
use Rattle.layout.specs.Create.{created}
use Rattle.rules.specs.Sides.{other}
use Rattle.rules.specs.Next.{next_spec}
use Rattle.rules.specs.Turn.{error_of, woke_of}
use Rattle.rules.specs.Bench.{party_of, seat}
use Rattle.rules.specs.Run.{World, Happening, party_in, takes, happens, run, opened}
use Rattle.rules.specs.Premises.{Typed, AllTyped}
use Rattle.rules.specs.Claims.{Fresh, reached}
use Rattle.rules.proofs.Leads.{Sight, Onward, straight, around, Leads, idles, finds, blocks, gives_up, copies, spills, tells, stores, owes, passes, raises, wakes, enters, stops, finds-spin, spins, reads, finds-again, stays, enters-again, stops-again, sleeps as falls-asleep, returns, ends, dreams, glances, glances-again, times-out, finds-last, finds-none, closes, closes-alone, close-raises, close-wakes, shuts, shut-raises, shut-wakes, shut-raises-again, shut-wakes-again}
use Rattle.rules.proofs.Seats.{roused, roused-elim}
use Rattle.rules.proofs.Taken.{turn_world, turn-refused}
use Rattle.rules.proofs.RealTurn.{both-sides, leads-here, after_turn, turn-is-after}
use Rattle.rules.proofs.RealCalls.{Changed, Idle, rests, looks, glances as idle-glances, closes as idle-closes, shuts as idle-shuts, seated, seat-one, seat-two}
use Rattle.rules.proofs.RealAttach.{attach_world}
use Rattle.rules.proofs.RealRun.{power-fits, slot-fits, real-start, happens-by, real-happens}
use Rattle.rules.proofs.Listening.{mover-is, waiter-is}
use Rattle.rules.proofs.Real.{Real}

-- a shutdown that corruption began
abbrev pub spoilt : Step → Bool
spoilt Rest = false
spoilt Look = false
spoilt Copy = false
spoilt (Publish l t) = false
spoilt (Check l t) = false
spoilt (Raise l t) = false
spoilt (Wake l t) = false
spoilt Gate = false
spoilt (Spin n) = false
spoilt Epoch = false
spoilt (Again e) = false
spoilt (GateAgain e) = false
spoilt (Wait e) = false
spoilt Asleep = false
spoilt (LastLook c) = false
spoilt CloseSet = false
spoilt CloseRaise = false
spoilt CloseWake = false
spoilt (ShutSet c) = c
spoilt (ShutRaiseNe c) = c
spoilt (ShutWakeNe c) = c
spoilt (ShutRaiseNf c e) = c
spoilt (ShutWakeNf c e) = c

onward-honest : (n : ℕ) (t : Step) → Onward n t → spoilt t ≡ false
onward-honest n t straight = refl
onward-honest n t (around m) = refl

honest-on : (g : Sight) (s n : Step) → Leads g s n → spoilt s ≡ false → spoilt n ≡ false
honest-on g s n idles y = refl
honest-on g s n (finds h) y = refl
honest-on g s n (blocks h q) y = refl
honest-on g s n (gives_up h q) y = refl
honest-on g s n copies y = refl
honest-on g s n spills y = refl
honest-on g s n (tells h) y = refl
honest-on g s n (stores h) y = refl
honest-on g s n (owes h) y = refl
honest-on g s n (passes h) y = refl
honest-on g s n raises y = refl
honest-on g s n wakes y = refl
honest-on g s n (enters h o) y = onward-honest _ _ o
honest-on g s n (stops h i) y = refl
honest-on g s n (finds-spin h) y = refl
honest-on g s n (spins h o) y = onward-honest _ _ o
honest-on g s n reads y = refl
honest-on g s n (finds-again h) y = refl
honest-on g s n (stays h) y = refl
honest-on g s n (enters-again h) y = refl
honest-on g s n (stops-again h i) y = refl
honest-on g s n (falls-asleep h) y = refl
honest-on g s n returns y = refl
honest-on g s n ends y = refl
honest-on g s n dreams y = refl
honest-on g s n (glances h i) y = refl
honest-on g s n (glances-again h i) y = refl
honest-on g s n times-out y = refl
honest-on g s n (finds-last h) y = refl
honest-on g s n (finds-none h) y = refl
honest-on g s n (closes h) y = refl
honest-on g s n (closes-alone h) y = refl
honest-on g s n close-raises y = refl
honest-on g s n close-wakes y = refl
honest-on g s n shuts y = y
honest-on g s n shut-raises y = y
honest-on g s n shut-wakes y = y
honest-on g s n shut-raises-again y = y
honest-on g s n shut-wakes-again y = refl

idle-honest : (s : Step) → Idle s → spoilt s ≡ false
idle-honest s rests = refl
idle-honest s looks = refl
idle-honest s idle-glances = refl
idle-honest s idle-closes = refl
idle-honest s idle-shuts = refl

abbrev Honest : World → Type 0
Honest w = (side : Side) → spoilt (party_in w side).step ≡ false

module _ (P S v : ℕ) (on : Bool) (power-ok : power_ok P ≡ true) (slot-ok : slot_ok S ≡ true) where
  honest-happens : (h : Happening) (w : World) → Typed h → Real P S v on w → Honest w → Honest (happens h w)
  unfolding attach_reply
  honest-happens h w y real o = happens-by P S v on power-ok slot-ok Honest h w y real attach turn call
    where
      attach : (side : Side) (n : ℕ) → Honest (attach_world P S v on power-ok slot-ok w real side n)
      attach side n = by (eqb (number (attach_answer w.region side n)) 0) refl
        where
          seats : (side τ : Side) → spoilt (party_of (seat w.bench side (attached w.region side n)) τ).step ≡ false
          seats Sender Sender = refl
          seats Sender Recorder = o Recorder
          seats Recorder Sender = o Sender
          seats Recorder Recorder = refl

          by : (b : Bool) → eqb (number (attach_answer w.region side n)) 0 ≡ b → Honest (attach_world P S v on power-ok slot-ok w real side n)
          by true e = rw e (λ τ. seats side τ)
          by false e = rw e o

      turn : (side : Side) (payload lent : List ℕ) (fault : Fault) → Honest (turn_world w side payload lent fault)
      turn side payload lent fault = by (takes w side payload lent fault) refl
        where
          by : (b : Bool) → takes w side payload lent fault ≡ b → Honest (turn_world w side payload lent fault)
          by false g = subst Honest (sym (turn-refused w side payload lent fault g)) o
          by true g =
              let q = party_in w (other side) in
              subst Honest (sym (turn-is-after P S v on power-ok slot-ok w real side payload lent fault g))
              (both-sides side (λ τ. spoilt (party_in (after_turn P S v on power-ok slot-ok w real side payload lent fault g) τ).step ≡ false)
              (rw (mover-is P S v on power-ok slot-ok w real side payload lent fault g) (honest-on _ _ _ (leads-here P S v on power-ok slot-ok w real side payload lent fault g) (o side)))
              (rw (waiter-is P S v on power-ok slot-ok w real side payload lent fault g)
              (roused-elim (roused (other side) q (woke_of (next_spec (party_in w side)) (error_of fault))) (λ u. spoilt u ≡ false) (o (other side)) (λ e. refl))))

      call : (side : Side) (q : Party) → Changed side (party_in w side) q → Honest (seated P S v on w side q)
      call side q c =
          both-sides side (λ τ. spoilt (party_in (seated P S v on w side q) τ).step ≡ false)
          (rw (seat-one side w.bench q) (by c)) (rw (seat-two side w.bench q) (o (other side)))
        where
          by : Changed side (party_in w side) q → spoilt q.step ≡ false
          by (inl e) = rw e (o side)
          by (inr b) = idle-honest q.step b.idle

  honest-run : (hs : List Happening) (w : World) → AllTyped hs → Real P S v on w → Honest w → Honest (run hs w)
  unfolding run
  honest-run [] w t real o = o
  honest-run (h ∷ hs) w t real o = honest-run hs (happens h w) t.1 (real-happens P S v on power-ok slot-ok h w t.0 real) (honest-happens h w t.0 real o)

module _ (r : List ℕ) (P S : ℕ) (on : Bool) (v : ℕ) (fresh : Fresh r P S on v) where
  start : Honest (opened (created r P S on v))
  start Sender = refl
  start Recorder = refl

  pub honest-reached : (hs : List Happening) → AllTyped hs → (side : Side) → spoilt (party_in (reached r P S on v hs) side).step ≡ false
  honest-reached hs t = honest-run P S v on (power-fits r P S on v fresh) (slot-fits r P S on v fresh) hs (opened (created r P S on v)) t (real-start r P S on v fresh) start
