-- The bits of a close and of a shutdown are set by calls that were begun.
use Rattle.std.proofs.lemmas.Bool.{or_left, or_right, and_from}
use Rattle.std.specs.Prelude.{None, Some}
use mathlib.Core.Path.{◌≡◌, refl, sym, ap, ◌∙◌, subst}
use mathlib.Core.Bool.{Bool, true, false, not, ◌&&◌, ◌||◌, false≢true, or-false, or_assoc}
use mathlib.Core.List.{List, [], ◌∷◌}
use mathlib.Core.Logic.{◌⊎◌, inl, inr, ⊎_elim}
use Prim.Native.Nat.{ℕ, ◌<◌}
use lib.Dec.{eqb, leb}
use Rattle.words.specs.Le.{le_at}
use Rattle.types.specs.Pick.{pick}
use Rattle.types.specs.Answers.{number}
use Rattle.types.specs.declared.Side.{Side}
use Rattle.types.specs.declared.Side.TheVariants.{Sender, Recorder}
use Rattle.types.specs.declared.Mark.{Mark}
use Rattle.types.specs.declared.Mark.TheVariants.{SenderAttached, RecorderAttached, SenderClosed, RecorderClosed, Shutdown as ShutMark}
use Rattle.types.specs.declared.Party.{Party}
use Rattle.types.specs.declared.Reply.{Reply}
use Rattle.types.specs.Faults.{Fault}
use Rattle.types.specs.declared.Access.{Access}
use Rattle.types.specs.declared.Event.TheVariants.{Turn, Failing, Spurious, TimeOut, Push, Pop, Close, Shutdown}
use Rattle.types.specs.declared.Answer.TheVariants.{GoesOn}
use Rattle.types.specs.declared.Step.{Step}
use Rattle.types.specs.declared.Step.TheVariants.{Rest, Look, Copy, Publish, Check, Raise, Wake, Gate, Spin, Epoch, Again, GateAgain, Wait, Asleep, LastLook, CloseSet, CloseRaise, CloseWake, ShutSet, ShutRaiseNe, ShutWakeNe, ShutRaiseNf, ShutWakeNf}
use Rattle.layout.specs.Limits.{power_ok, slot_ok, payload_capacity}
use Rattle.layout.specs.Flags.{worth, bit_on, set_bit, attach_mark, close_mark, reserved_from}
use Rattle.layout.specs.Header.{flags_at}
use Rattle.layout.specs.Attach.{attach_answer, attach_reply, attach_leaves, attached}
use Rattle.layout.specs.Create.{created, first_flags}
use Rattle.layout.proofs.FlagLaws.{same_mark, mark_set}
use Rattle.rules.specs.Sides.{other}
use Rattle.rules.specs.Take.{stance_of}
use Rattle.rules.specs.Next.{next_spec}
use Rattle.rules.specs.Calls.{is_sleeping, sound, ready, reply, at, named, begins, rouses, push_spec, pop_spec, close_spec, shut_spec, spurious_spec, timeout_spec}
use Rattle.rules.specs.Turn.{error_of, woke_of}
use Rattle.rules.specs.Bench.{party_of, seat, settled, played, played_leaves}
use Rattle.rules.specs.Run.{World, Happening, attaches, plays, party_in, takes, happens, run, opened}
use Rattle.rules.specs.Premises.{AllTyped}
use Rattle.rules.specs.Claims.{Fresh, reached}
use Rattle.rules.specs.Asked.{begun, asks_for, ever_asks}
use Rattle.rules.specs.Meaning.{ClosedByCall, DownByCall}
use Rattle.rules.proofs.Does.{Does, does, nothing, looks, flags, reads as epoch, writes, takes as take-slot, stores as store, raises as ring, closes as close, shuts as shut, waits as wait, wakes as wake}
use Rattle.rules.proofs.Leads.{Sight, Onward, straight, around, Leads, idles, finds, blocks, gives_up, copies, spills, tells, stores, owes, passes, raises, wakes, enters, stops, finds-spin, spins, reads, finds-again, stays, enters-again, stops-again, sleeps as falls-asleep, returns, ends, dreams, glances, glances-again, times-out, finds-last, finds-none, closes, closes-alone, close-raises, close-wakes, shuts, shut-raises, shut-wakes, shut-raises-again, shut-wakes-again}
use Rattle.rules.proofs.After.{flags_by}
use Rattle.rules.proofs.Seats.{roused, roused-elim}
use Rattle.rules.proofs.Taken.{turn_world, turn-refused}
use Rattle.rules.proofs.RealTurn.{both-sides, leads-here, after_turn, turn-is-after}
use Rattle.rules.proofs.RealCalls.{seat-one, seat-two}
use Rattle.rules.proofs.RealAttach.{attach-flags}
use Rattle.rules.proofs.RealRun.{power-fits, slot-fits, real-start, real-happens, flags-are}
use Rattle.rules.proofs.Listening.{mover-is, waiter-is, flags-left}
use Rattle.rules.proofs.Real.{Real}

same-worth : (m n : Mark) → eqb (worth m) (worth n) ≡ same_mark m n
same-worth SenderAttached SenderAttached = refl
same-worth SenderAttached RecorderAttached = refl
same-worth SenderAttached SenderClosed = refl
same-worth SenderAttached RecorderClosed = refl
same-worth SenderAttached ShutMark = refl
same-worth RecorderAttached SenderAttached = refl
same-worth RecorderAttached RecorderAttached = refl
same-worth RecorderAttached SenderClosed = refl
same-worth RecorderAttached RecorderClosed = refl
same-worth RecorderAttached ShutMark = refl
same-worth SenderClosed SenderAttached = refl
same-worth SenderClosed RecorderAttached = refl
same-worth SenderClosed SenderClosed = refl
same-worth SenderClosed RecorderClosed = refl
same-worth SenderClosed ShutMark = refl
same-worth RecorderClosed SenderAttached = refl
same-worth RecorderClosed RecorderAttached = refl
same-worth RecorderClosed SenderClosed = refl
same-worth RecorderClosed RecorderClosed = refl
same-worth RecorderClosed ShutMark = refl
same-worth ShutMark SenderAttached = refl
same-worth ShutMark RecorderAttached = refl
same-worth ShutMark SenderClosed = refl
same-worth ShutMark RecorderClosed = refl
same-worth ShutMark ShutMark = refl

-- the next turn sets that bit
abbrev will_set : Mark → Side → Step → Bool
will_set m side Rest = false
will_set m side Look = false
will_set m side Copy = false
will_set m side (Publish l t) = false
will_set m side (Check l t) = false
will_set m side (Raise l t) = false
will_set m side (Wake l t) = false
will_set m side Gate = false
will_set m side (Spin n) = false
will_set m side Epoch = false
will_set m side (Again e) = false
will_set m side (GateAgain e) = false
will_set m side (Wait e) = false
will_set m side Asleep = false
will_set m side (LastLook c) = false
will_set m side CloseRaise = false
will_set m side CloseWake = false
will_set m side (ShutRaiseNe c) = false
will_set m side (ShutWakeNe c) = false
will_set m side (ShutRaiseNf c e) = false
will_set m side (ShutWakeNf c e) = false
will_set m side CloseSet = same_mark m (close_mark side)
will_set m side (ShutSet c) = same_mark m ShutMark

onward-sets : (m : Mark) (side : Side) (n : ℕ) (t : Step) → Onward n t → will_set m side t ≡ false
onward-sets m side n t straight = refl
onward-sets m side n t (around i) = refl

-- no turn leads to such a step
sets-on : (m : Mark) (side : Side) (g : Sight) (s n : Step) → Leads g s n → will_set m side n ≡ false
sets-on m side g s n idles = refl
sets-on m side g s n (finds h) = refl
sets-on m side g s n (blocks h q) = refl
sets-on m side g s n (gives_up h q) = refl
sets-on m side g s n copies = refl
sets-on m side g s n spills = refl
sets-on m side g s n (tells h) = refl
sets-on m side g s n (stores h) = refl
sets-on m side g s n (owes h) = refl
sets-on m side g s n (passes h) = refl
sets-on m side g s n raises = refl
sets-on m side g s n wakes = refl
sets-on m side g s n (enters h o) = onward-sets m side _ _ o
sets-on m side g s n (stops h i) = refl
sets-on m side g s n (finds-spin h) = refl
sets-on m side g s n (spins h o) = onward-sets m side _ _ o
sets-on m side g s n reads = refl
sets-on m side g s n (finds-again h) = refl
sets-on m side g s n (stays h) = refl
sets-on m side g s n (enters-again h) = refl
sets-on m side g s n (stops-again h i) = refl
sets-on m side g s n (falls-asleep h) = refl
sets-on m side g s n returns = refl
sets-on m side g s n ends = refl
sets-on m side g s n dreams = refl
sets-on m side g s n (glances h i) = refl
sets-on m side g s n (glances-again h i) = refl
sets-on m side g s n times-out = refl
sets-on m side g s n (finds-last h) = refl
sets-on m side g s n (finds-none h) = refl
sets-on m side g s n (closes h) = refl
sets-on m side g s n (closes-alone h) = refl
sets-on m side g s n close-raises = refl
sets-on m side g s n close-wakes = refl
sets-on m side g s n shuts = refl
sets-on m side g s n shut-raises = refl
sets-on m side g s n shut-wakes = refl
sets-on m side g s n shut-raises-again = refl
sets-on m side g s n shut-wakes-again = refl

-- a bit that is up after a turn was up, or the turn set it
bit-set : (m n : Mark) (f : ℕ) → f < reserved_from → bit_on (worth m) (set_bit (worth n) f) ≡ true → (bit_on (worth m) f ≡ true) ⊎ (same_mark m n ≡ true)
bit-set m n f h e = by (same_mark m n) (sym (mark_set n f h m) ∙ e)
  where
    by : (b : Bool) → pick b true (bit_on (worth m) f) ≡ true → (bit_on (worth m) f ≡ true) ⊎ (b ≡ true)
    by true e = inr refl
    by false e = inl e

bit-by : (m : Mark) (side : Side) (k : ℕ) (s : Step) (a : Access) (f : ℕ) → f < reserved_from → Does side k s a → bit_on (worth m) (flags_by a f) ≡ true → (bit_on (worth m) f ≡ true) ⊎ (will_set m side s ≡ true)
bit-by m side k s a f h (nothing q) e = inl e
bit-by m side k s a f h (looks q) e = inl e
bit-by m side k s a f h (flags q) e = inl e
bit-by m side k s a f h epoch e = inl e
bit-by m side k s a f h (writes q) e = inl e
bit-by m side k s a f h (take-slot q) e = inl e
bit-by m side k s a f h store e = inl e
bit-by m side k s a f h (ring q b) e = inl e
bit-by m side k s a f h close e = bit-set m (close_mark side) f h e
bit-by m side k s a f h shut e = bit-set m ShutMark f h e
bit-by m side k s a f h wait e = inl e
bit-by m side k s a f h (wake q b n) e = inl e

-- b: such a call was begun
record Flagged (m : Mark) (b : Bool) (w : World) : Type 0 where
  bit : bit_on (worth m) (le_at 4 w.region flags_at) ≡ true → b ≡ true
  step : (side : Side) → will_set m side (party_in w side).step ≡ true → b ≡ true

-- a call of a side that changes its step
called : (m : Mark) (b x : Bool) (w : World) (side : Side) (q : Party) → (will_set m side q.step ≡ true → (b || x) ≡ true) → Flagged m b w
    → Flagged m (b || x) (record { region = w.region; bench = seat w.bench side q; trace = w.trace })
called m b x w side q h y =
    record {
      bit = λ e. or_left b x (y.bit e);
      step = both-sides side (λ τ. will_set m τ (party_of (seat w.bench side q) τ).step ≡ true → (b || x) ≡ true)
          (rw (seat-one side w.bench q) h) (rw (seat-two side w.bench q) (λ e. or_left b x (y.step (other side) e)));
    }

begun-step : (F : Bool → Party → Type 0) (p : Party) (g k o n : Bool) (q : Party) (a : Bool) → ((x : Bool) → F x p) → F (a && true) q → F (a && begun (begins p g k o n q).answer) (begins p g k o n q).party
begun-step F p false k o n q a h f = h _
begun-step F p true true o n q a h f = h _
begun-step F p true false true n q a h f = h _
begun-step F p true false false true q a h f = h _
begun-step F p true false false false q a h f = f

roused-step : (F : Party → Type 0) (p : Party) (g a : Bool) (q : Reply) → F p → F q.party → F (rouses p g a q).party
roused-step F p false a q h f = h
roused-step F p true false q h f = h
roused-step F p true true q h f = f

plain_step : (F : Party → Type 0) (p : Party) (g k o n : Bool) (q : Party) → F p → F q → F (begins p g k o n q).party
plain_step F p false k o n q h f = h
plain_step F p true true o n q h f = h
plain_step F p true false true n q h f = h
plain_step F p true false false true q h f = h
plain_step F p true false false false q h f = f

module _ (P S v : ℕ) (on : Bool) (power-ok : power_ok P ≡ true) (slot-ok : slot_ok S ≡ true) (m : Mark) (parts : (side : Side) → same_mark m (attach_mark side) ≡ false) where
  flagged-turn : (w : World) → Real P S v on w → (b : Bool) → Flagged m b w → (side : Side) (payload lent : List ℕ) (fault : Fault) → Flagged m b (turn_world w side payload lent fault)
  flagged-turn w real b y side payload lent fault = by (takes w side payload lent fault) refl
    where
      by : (x : Bool) → takes w side payload lent fault ≡ x → Flagged m b (turn_world w side payload lent fault)
      by false g = subst (Flagged m b) (sym (turn-refused w side payload lent fault g)) y
      by true g =
          let p = party_in w side in
          let q = party_in w (other side) in
          subst (Flagged m b) (sym (turn-is-after P S v on power-ok slot-ok w real side payload lent fault g))
          (record {
            bit = λ e. ⊎_elim y.bit (y.step side)
                (bit-by m side p.counter p.step _ (le_at 4 w.region flags_at) real.fixed.small (does side p.counter p.step) (sym (ap (bit_on (worth m)) (flags-left P S v on power-ok slot-ok w real side payload lent fault g)) ∙ e));
            step = both-sides side (λ τ. will_set m τ (party_in (after_turn P S v on power-ok slot-ok w real side payload lent fault g) τ).step ≡ true → b ≡ true)
                (rw (mover-is P S v on power-ok slot-ok w real side payload lent fault g) (λ e. absurd (false≢true (sym (sets-on m side _ _ _ (leads-here P S v on power-ok slot-ok w real side payload lent fault g)) ∙ e))))
                (rw (waiter-is P S v on power-ok slot-ok w real side payload lent fault g)
                (roused-elim (roused (other side) q (woke_of (next_spec p) (error_of fault))) (λ u. will_set m (other side) u ≡ true → b ≡ true) (y.step (other side)) (λ z e. absurd (false≢true e))));
          })

  flagged-attach : (side : Side) (n : ℕ) (w : World) → Real P S v on w → (b : Bool) → Flagged m b w → Flagged m b (happens (attaches side n) w)
  unfolding happens attach_reply attach_leaves
  flagged-attach side n w real b y = by (eqb (number (attach_answer w.region side n)) 0) refl
    where
      kept : bit_on (worth m) (set_bit (worth (attach_mark side)) (le_at 4 w.region flags_at)) ≡ true → b ≡ true
      kept e = ⊎_elim y.bit (λ q. absurd (false≢true (sym (parts side) ∙ q))) (bit-set m (attach_mark side) (le_at 4 w.region flags_at) real.fixed.small e)

      by : (x : Bool) → eqb (number (attach_answer w.region side n)) 0 ≡ x → Flagged m b (happens (attaches side n) w)
      by false e = rw e (record { bit = y.bit; step = y.step })
      by true e =
          rw e (record {
            bit = λ q. kept (sym (ap (bit_on (worth m)) (attach-flags P S v on power-ok slot-ok w real side)) ∙ q);
            step = both-sides side (λ τ. will_set m τ (party_of (seat w.bench side (attached w.region side n)) τ).step ≡ true → b ≡ true)
                (rw (seat-one side w.bench (attached w.region side n)) (λ q. absurd (false≢true q))) (rw (seat-two side w.bench (attached w.region side n)) (y.step (other side)));
          })

  flagged-happens : (h : Happening) (w : World) → Real P S v on w → (b : Bool) → Flagged m b w → Flagged m (b || asks_for m h w) (happens h w)
  unfolding happens played played_leaves settled push_spec pop_spec close_spec shut_spec spurious_spec timeout_spec
  flagged-happens (attaches side n) w real b y = rw (or-false b) (flagged-attach side n w real b y)
  flagged-happens (plays (Turn side) i o) w real b y = rw (or-false b) (flagged-turn w real b y side i o None)
  flagged-happens (plays (Failing side e) i o) w real b y = rw (or-false b) (flagged-turn w real b y side i o (Some e))
  flagged-happens (plays (Spurious side) i o) w real b y =
      let p = party_in w side in
      called m b false w side _ (roused-step (λ q. will_set m side q.step ≡ true → (b || false) ≡ true) p (sound side p) (is_sleeping (stance_of p.step)) (reply (at Look p) GoesOn) (λ e. or_left b false (y.step side e)) (λ e. absurd (false≢true e))) y
  flagged-happens (plays (TimeOut side) i o) w real b y =
      let p = party_in w side in
      called m b false w side _ (roused-step (λ q. will_set m side q.step ≡ true → (b || false) ≡ true) p (sound side p) (is_sleeping (stance_of p.step)) (reply (at (LastLook true) p) GoesOn) (λ e. or_left b false (y.step side e)) (λ e. absurd (false≢true e))) y
  flagged-happens (plays (Push blocking tag l) i o) w real b y =
      let p = party_in w Sender in
      called m b false w Sender _ (plain_step (λ q. will_set m Sender q.step ≡ true → (b || false) ≡ true) p (ready Sender p) p.closed (blocking && not p.own.notfull) (not (leb l (payload_capacity p.own.slot))) (named blocking tag l p) (λ e. or_left b false (y.step Sender e)) (λ e. absurd (false≢true e))) y
  flagged-happens (plays (Pop blocking l) i o) w real b y =
      let p = party_in w Recorder in
      called m b false w Recorder _ (plain_step (λ q. will_set m Recorder q.step ≡ true → (b || false) ≡ true) p (ready Recorder p) p.closed false false (named blocking 0 l p) (λ e. or_left b false (y.step Recorder e)) (λ e. absurd (false≢true e))) y
  flagged-happens (plays (Close side) i o) w real b y =
      let p = party_in w side in
      let a = eqb (worth m) (worth (close_mark side)) in
      called m b _ w side _ (begun-step (λ x q. will_set m side q.step ≡ true → (b || x) ≡ true) p (ready side p) p.closed false false (at CloseSet p) a
      (λ x e. or_left b x (y.step side e)) (λ e. or_right b (a && true) (and_from a true (same-worth m (close_mark side) ∙ e) refl))) y
  flagged-happens (plays (Shutdown side) i o) w real b y =
      let p = party_in w side in
      let a = eqb (worth m) (worth ShutMark) in
      called m b _ w side _ (begun-step (λ x q. will_set m side q.step ≡ true → (b || x) ≡ true) p (ready side p) false false false (at (ShutSet false) p) a
      (λ x e. or_left b x (y.step side e)) (λ e. or_right b (a && true) (and_from a true (same-worth m ShutMark ∙ e) refl))) y

  flagged-run : (hs : List Happening) (w : World) → AllTyped hs → Real P S v on w → (b : Bool) → Flagged m b w → Flagged m (b || ever_asks m hs w) (run hs w)
  unfolding run
  flagged-run [] w t real b y = rw (or-false b) y
  flagged-run (h ∷ hs) w t real b y =
      subst (λ (x : Bool). Flagged m x (run hs (happens h w))) (or_assoc b (asks_for m h w) (ever_asks m hs (happens h w)))
      (flagged-run hs (happens h w) t.1 (real-happens P S v on power-ok slot-ok h w t.0 real) (b || asks_for m h w) (flagged-happens h w real b y))

module _ (r : List ℕ) (P S : ℕ) (on : Bool) (v : ℕ) (fresh : Fresh r P S on v) where
  flagged-start : (m : Mark) → ((on : Bool) → bit_on (worth m) (first_flags on) ≡ false) → Flagged m false (opened (created r P S on v))
  flagged-start m f =
      record {
        bit = λ e. absurd (false≢true (sym (ap (bit_on (worth m)) (flags-are r P S on v fresh) ∙ f on) ∙ e));
        step = both-sides Sender (λ τ. will_set m τ (party_in (opened (created r P S on v)) τ).step ≡ true → ◌≡◌ {A = Bool} false true) (λ e. e) (λ e. e);
      }

  ever : (m : Mark) → ((side : Side) → same_mark m (attach_mark side) ≡ false) → ((on : Bool) → bit_on (worth m) (first_flags on) ≡ false) → (hs : List Happening) → AllTyped hs
      → bit_on (worth m) (le_at 4 (reached r P S on v hs).region flags_at) ≡ true → ever_asks m hs (opened (created r P S on v)) ≡ true
  ever m parts f hs t = (flagged-run P S v on (power-fits r P S on v fresh) (slot-fits r P S on v fresh) m parts hs (opened (created r P S on v)) t (real-start r P S on v fresh) false (flagged-start m f)).bit

  close-parts : (σ side : Side) → same_mark (close_mark σ) (attach_mark side) ≡ false
  close-parts Sender Sender = refl
  close-parts Sender Recorder = refl
  close-parts Recorder Sender = refl
  close-parts Recorder Recorder = refl

  close-fresh : (σ : Side) (on : Bool) → bit_on (worth (close_mark σ)) (first_flags on) ≡ false
  close-fresh Sender true = refl
  close-fresh Sender false = refl
  close-fresh Recorder true = refl
  close-fresh Recorder false = refl

  shut-parts : (side : Side) → same_mark ShutMark (attach_mark side) ≡ false
  shut-parts Sender = refl
  shut-parts Recorder = refl

  shut-fresh : (on : Bool) → bit_on (worth ShutMark) (first_flags on) ≡ false
  shut-fresh true = refl
  shut-fresh false = refl

  pub closed-by-call : (side : Side) → ClosedByCall r P S on v side
  closed-by-call side hs t = ever (close_mark side) (close-parts side) (close-fresh side) hs t

  pub down-by-call : DownByCall r P S on v
  down-by-call hs t = ever ShutMark shut-parts shut-fresh hs t
