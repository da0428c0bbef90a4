-- A time-out is answered 13 with no room, and loses nothing with room.
use Rattle.std.specs.Prelude.{Some}
use mathlib.Core.Path.{◌≡◌, refl, sym, ap, ◌∙◌, subst}
use mathlib.Core.Bool.{Bool, true, false}
use mathlib.Core.List.{List, [], ◌∷◌, ◌++◌}
use mathlib.Core.Logic.{◌⊎◌, inl, inr}
use Prim.Native.Nat.{ℕ, zero, suc, ◌+◌, ◌<◌, ◌≤◌}
use native.Mathlib.Omega.{arith}
use lib.ListN.{length}
use Rattle.words.specs.Wrap.{plus}
use Rattle.types.specs.declared.Side.{Side}
use Rattle.types.specs.declared.Side.TheVariants.{Sender, Recorder}
use Rattle.types.specs.declared.Own.{Own}
use Rattle.types.specs.declared.Party.{Party}
use Rattle.types.specs.declared.Reply.{Reply}
use Rattle.types.specs.Faults.{Fault}
use Rattle.types.specs.declared.Fit.TheVariants.{Fits}
use Rattle.types.specs.declared.Room.TheVariants.{Free}
use Rattle.types.specs.declared.Move.{Move}
use Rattle.types.specs.declared.Step.{Step}
use Rattle.types.specs.declared.Step.TheVariants.{Look, Copy, Publish, Wait, Asleep, LastLook}
use Rattle.types.specs.declared.Answer.TheVariants.{GoesOn}
use Rattle.layout.specs.Limits.{power_ok, slot_ok, payload_capacity}
use Rattle.layout.specs.Slots.{head_of}
use Rattle.rules.specs.Sides.{other}
use Rattle.rules.specs.Looks.{room_here, fit_of, nap_of}
use Rattle.rules.specs.Steps.{copy_move, wait_move, last_move}
use Rattle.rules.specs.Take.{step_after, move_at, move_of}
use Rattle.rules.specs.Next.{slot_access, next_at, next_spec}
use Rattle.rules.specs.Access.{value_of, buffer_of}
use Rattle.rules.specs.Calls.{sound, at, reply, spurious_spec, timeout_spec}
use Rattle.rules.specs.Turn.{error_of, woke_of}
use Rattle.rules.specs.Bench.{settled, played, played_leaves}
use Rattle.rules.specs.Given.{timed-out, turn-taken}
use Rattle.rules.specs.Run.{Note, Trace, World, Happening, party_in, takes, traced, happens}
use Rattle.rules.specs.Premises.{Typed, AllTyped}
use Rattle.rules.specs.Stretch.{notes_of}
use Rattle.rules.specs.Claims.{Fresh, reached}
use Rattle.rules.specs.Anywhere.{Lent, turn_by, after_turns, AllTaken}
use Rattle.rules.specs.Meaning.{TimesOut, asleep, failing, LongEnough, TimeoutTold, TimeoutLosesNone, RisesToLook}
use Rattle.rules.proofs.Answered.{given-only}
use Rattle.rules.proofs.Rooms.{as_room, as-free}
use Rattle.rules.proofs.Leads.{Tells}
use Rattle.rules.proofs.FitLaws.{copy-by}
use Rattle.rules.proofs.Fits.{good-fit}
use Rattle.rules.proofs.Seats.{roused, roused-elim}
use Rattle.rules.proofs.Kept.{length_more}
use Rattle.rules.proofs.Taken.{turn_world, turn-refused}
use Rattle.rules.proofs.RealTurn.{sight_at, own_is, counter-is, access-is, tells-here, turn-is-after, real-after}
use Rattle.rules.proofs.RealCalls.{seat-one}
use Rattle.rules.proofs.RealRun.{power-fits, slot-fits, real-reached, real-happens}
use Rattle.rules.proofs.Listening.{mover-is, waiter-is, trace-is}
use Rattle.rules.proofs.Causes.{room-is}
use Rattle.rules.proofs.Begins.{always-sound}
use Rattle.rules.proofs.Meant.{meant-reached}
use Rattle.rules.proofs.Delivers.{turn-happens}
use Rattle.rules.proofs.Real.{count_of, sizes, room_in, Real}

-- turns counted off
pub turns-off : (side : Side) (F : ℕ → World → Type 0)
    → ((n : ℕ) (w : World) → F (suc n) w → (payload lent : List ℕ) (fault : Fault) → takes w side payload lent fault ≡ true → F n (turn_world w side payload lent fault))
    → (ls : List Lent) (w : World) → AllTaken side ls w → F (length ls) w → F 0 (after_turns side ls w)
turns-off side F turn [] w g d = d
turns-off side F turn (l ∷ ls) w g d =
    turns-off side F turn ls (happens (turn_by side l) w) g.1
    (subst (F (length ls)) (sym (turn-happens side l.payload l.buffer l.fault w)) (turn (length ls) w d l.payload l.buffer l.fault g.0))

-- the note that comes next fits the buffer that is named
abbrev RoomFor : Side → World → Type 0
RoomFor Sender w = Unit
RoomFor Recorder w = (n : Note) (rest : List Note) → w.trace.sent ≡ w.trace.delivered ++ (n ∷ rest) → length n.body ≤ (party_in w Recorder).length

room-same : (side : Side) (w u : World) → u.trace ≡ w.trace → (party_in u side).length ≡ (party_in w side).length → RoomFor side w → RoomFor side u
room-same Sender w u e l h = tt
room-same Recorder w u e l h = λ n rest q. rw l (h n rest (subst (λ (x : Trace). x.sent ≡ x.delivered ++ (n ∷ rest)) e q))

module _ (P S v : ℕ) (on : Bool) (power-ok : power_ok P ≡ true) (slot_ok_lem : slot_ok S ≡ true) (side : Side) (k : ℕ) where
  record Stands (s : Step) (w : World) : Type 0 where
    step : (party_in w side).step ≡ s
    some : 0 < room_in P S v on side w.trace
    fits : RoomFor side w
    count : count_of side w.trace ≡ k

  -- so many turns are left until its note is out
  abbrev Left : ℕ → World → Type 0
  Left zero w = count_of side w.trace ≡ k + 1
  Left (suc zero) w = (l : ℕ) × ((g : ℕ) × (((party_in w side).step ≡ Publish l g) × (count_of side w.trace ≡ k)))
  Left (suc (suc zero)) w = Stands Copy w
  Left (suc (suc (suc n))) w = Stands (LastLook true) w

  module _ (w : World) (real : Real P S v on w) (payload lent : List ℕ) (fault : Fault) (g : takes w side payload lent fault ≡ true) where
    abbrev p : Party
    p = party_in w side

    abbrev value : ℕ
    value = value_of w.region p.own (next_spec p)

    abbrev buffer : List ℕ
    buffer = buffer_of w.region p.own (next_at p.step side p.counter) p.length lent

    abbrev u : World
    u = turn_world w side payload lent fault

    pub step-at : (s : Step) → p.step ≡ s → (party_in u side).step ≡ step_after (move_at s p.own p.counter p.blocking p.length value (error_of fault)) s
    unfolding move_of
    step-at s e =
        ap (λ (x : World). (party_in x side).step) (turn-is-after P S v on power-ok slot_ok_lem w real side payload lent fault g)
        ∙ ap (λ (x : Party). x.step) (mover-is P S v on power-ok slot_ok_lem w real side payload lent fault g)
        ∙ ap (λ (x : Step). step_after (move_at x p.own p.counter p.blocking p.length value (error_of fault)) x) e

    pub length_at : (party_in u side).length ≡ p.length
    length_at =
        ap (λ (x : World). (party_in x side).length) (turn-is-after P S v on power-ok slot_ok_lem w real side payload lent fault g)
        ∙ ap (λ (x : Party). x.length) (mover-is P S v on power-ok slot_ok_lem w real side payload lent fault g)

    pub trace-at : (s : Step) → p.step ≡ s → u.trace ≡ traced (next_at s side p.counter) p payload buffer w.trace
    trace-at s e =
        ap (λ (x : World). x.trace) (turn-is-after P S v on power-ok slot_ok_lem w real side payload lent fault g)
        ∙ trace-is P S v on power-ok slot_ok_lem w real side payload lent fault g
        ∙ ap (λ (x : Step). traced (next_at x side p.counter) p payload buffer w.trace) e

    told_at : (s : Step) → p.step ≡ s → Tells p.own (sight_at P S v on side p.own w.region w.trace p.blocking) p.counter value s
    told_at s e =
        subst (λ (x : Step). Tells p.own (sight_at P S v on side p.own w.region w.trace p.blocking) p.counter value x) e
        (tells-here P S v on power-ok slot_ok_lem w real side payload lent fault g)

    looked : Stands (LastLook true) w → Stands Copy u
    unfolding last_move
    looked d =
        let seen : room_here p.own p.counter value ≡ Free = told_at (LastLook true) d.step ∙ as-free (room_in P S v on side w.trace) d.some in
        let same = trace-at (LastLook true) d.step in
        record {
          step = step-at (LastLook true) d.step ∙ rw seen refl;
          some = rw same d.some;
          fits = room-same side w u same length_at d.fits;
          count = ap (count_of side) same ∙ d.count;
        }

    slot-count : (τ : Side) → count_of τ (traced (slot_access τ p.counter) p payload buffer w.trace) ≡ count_of τ w.trace
    slot-count Sender = refl
    slot-count Recorder = refl

    -- what a copy leads to
    copied-to : (τ : Side) → (party_in w τ).own ≡ sizes P S v on τ (party_in w τ).own.spins → (party_in w τ).counter ≡ plus 64 v (count_of τ w.trace)
        → (val : ℕ) → val ≡ value_of w.region (party_in w τ).own (slot_access τ (party_in w τ).counter) → 0 < room_in P S v on τ w.trace → RoomFor τ w
        → (l : ℕ) × ((g : ℕ) × (step_after (copy_move (party_in w τ).own (party_in w τ).length val) Copy ≡ Publish l g))
    copied-to Sender o c val e h f = (0, (0, ap (λ (m : Move). step_after m Copy) (copy-by (party_in w Sender).own (party_in w Sender).length val Sender (ap (λ (x : Own). x.side) o))))
    copied-to Recorder o c val e h f =
        let q = party_in w Recorder in
        let good : fit_of (head_of val) (payload_capacity q.own.slot) q.length ≡ Fits = rw e (good-fit P S v on power-ok slot_ok_lem w real q.own q.counter q.length o c h f) in
        ((head_of val).length, ((head_of val).tag, ap (λ (m : Move). step_after m Copy) (copy-by q.own q.length val Recorder (ap (λ (x : Own). x.side) o)) ∙ rw good refl))

    copied : Stands Copy w → Left 1 u
    copied d =
        let to = copied-to side (own_is P S v on power-ok slot_ok_lem w real side payload lent fault g) (counter-is P S v on power-ok slot_ok_lem w real side payload lent fault g) value
        (ap (value_of w.region p.own) (access-is P S v on power-ok slot_ok_lem w real side payload lent fault g ∙ ap (λ (s : Step). next_at s side p.counter) d.step)) d.some d.fits in
        (to.0, (to.1.0, (step-at Copy d.step ∙ to.1.1, ap (count_of side) (trace-at Copy d.step) ∙ slot-count side ∙ d.count)))

    stored-count : (τ : Side) (l i : ℕ) → count_of τ (traced (next_at (Publish l i) τ p.counter) p payload buffer w.trace) ≡ count_of τ w.trace + 1
    stored-count Sender l i = length_more w.trace.sent _
    stored-count Recorder l i = length_more w.trace.delivered _

    stored : Left 1 w → Left 0 u
    stored d = ap (count_of side) (trace-at (Publish d.0 d.1.0) d.1.1.0) ∙ stored-count side d.0 d.1.0 ∙ ap (λ (n : ℕ). n + 1) d.1.1.1

  abbrev Stage : ℕ → World → Type 0
  Stage n w = Real P S v on w × ((n ≤ 3) × Left n w)

  stage-turn : (n : ℕ) (w : World) → Stage (suc n) w → (payload lent : List ℕ) (fault : Fault) → takes w side payload lent fault ≡ true → Stage n (turn_world w side payload lent fault)
  stage-turn n w d payload lent fault g =
      (subst (Real P S v on) (sym (turn-is-after P S v on power-ok slot_ok_lem w d.0 side payload lent fault g)) (real-after P S v on power-ok slot_ok_lem w d.0 side payload lent fault g), (omega (arith, d.1.0), by n d.1.0 d.1.1))
    where
      by : (n : ℕ) → suc n ≤ 3 → Left (suc n) w → Left n (turn_world w side payload lent fault)
      by zero m h = stored w d.0 payload lent fault g h
      by (suc zero) m h = copied w d.0 payload lent fault g h
      by (suc (suc zero)) m h = looked w d.0 payload lent fault g h
      by (suc (suc (suc n))) m h = absurd (omega arith)

-- a sleeper is attached
module _ (r : List ℕ) (P S : ℕ) (on : Bool) (v : ℕ) (fresh : Fresh r P S on v) where
  abbrev power-ok : power_ok P ≡ true
  power-ok = power-fits r P S on v fresh

  abbrev slot_ok_lem : slot_ok S ≡ true
  slot_ok_lem = slot-fits r P S on v fresh

  here : (side : Side) (hs : List Happening) → AllTyped hs → (party_in (reached r P S on v hs) side).step ≡ Asleep → (party_in (reached r P S on v hs) side).own.attached ≡ true
  here side hs t e = by (party_in (reached r P S on v hs) side).own.attached refl
    where
      by : (b : Bool) → (party_in (reached r P S on v hs) side).own.attached ≡ b → b ≡ true
      by true f = refl
      by false f = absurd (let h = sym (((real-reached r P S on v fresh hs t).sides side).seat.empty f).0 ∙ e in let z : ◌≡◌ {A = ℕ} 0 1 = cc in omega arith)

  record Timed (side : Side) (hs : List Happening) (h : Happening) : Type 0 where
    typed : Typed h
    step : (party_in (happens h (reached r P S on v hs)) side).step ≡ LastLook true
    length : (party_in (happens h (reached r P S on v hs)) side).length ≡ (party_in (reached r P S on v hs) side).length
    trace : (happens h (reached r P S on v hs)).trace ≡ (reached r P S on v hs).trace

  roused-to : (side : Side) (p : Party) → sound side p ≡ true → p.step ≡ Asleep → timeout_spec side p ≡ reply (at (LastLook true) p) GoesOn
  unfolding timeout_spec
  roused-to side p a e = rw (a, e) refl

  timed : (side : Side) (hs : List Happening) (h : Happening) → AllTyped hs → TimesOut side (reached r P S on v hs) h → Timed side hs h
  unfolding happens played played_leaves settled wait_move nap_of
  timed side hs h t (asleep e) =
      let w = reached r P S on v hs in
      let p = party_in w side in
      let q = seat-one side w.bench (timeout_spec side p).party ∙ ap (λ (x : Reply). x.party) (roused-to side p (always-sound r P S on v fresh side hs t (here side hs t e)) e) in
      record { typed = tt; step = ap (λ (x : Party). x.step) q; length = ap (λ (x : Party). x.length) q; trace = refl }
  timed side hs h t (failing {epoch} {payload} {lent} e g) =
      let w = reached r P S on v hs in
      let real = real-reached r P S on v fresh hs t in
      record {
        typed = tt;
        step = step-at P S v on power-ok slot_ok_lem side 0 w real payload lent (Some 110) g (Wait epoch) e ∙ waited (party_in w side).own (value_of w.region (party_in w side).own (next_spec (party_in w side))) epoch;
        length = length_at P S v on power-ok slot_ok_lem side 0 w real payload lent (Some 110) g;
        trace = trace-at P S v on power-ok slot_ok_lem side 0 w real payload lent (Some 110) g (Wait epoch) e;
      }
    where
      waited : (own : Own) (val epoch : ℕ) → step_after (wait_move own val 110 epoch) (Wait epoch) ≡ LastLook true
      waited own val epoch = refl

  pub timeout-told : (side : Side) → TimeoutTold r P S on v side
  timeout-told side hs h t o none payload lent fault g =
      let w = reached r P S on v hs in
      let y = timed side hs h t o in
      let real = real-happens P S v on power-ok slot_ok_lem h w y.typed (real-reached r P S on v fresh hs t) in
      let k : room_in P S v on side (happens h w).trace ≡ 0 = ap (room_in P S v on side) y.trace ∙ sym (room-is r P S on v fresh side hs t) ∙ none in
      given-only (turn-taken g (timed-out y.step (told_at P S v on power-ok slot_ok_lem side 0 (happens h w) real payload lent fault g (LastLook true) y.step ∙ ap as_room k)))

  pub timeout-loses-none : (side : Side) → TimeoutLosesNone r P S on v side
  timeout-loses-none side hs h t o some long ls three g =
      let w = reached r P S on v hs in
      let y = timed side hs h t o in
      let real = real-happens P S v on power-ok slot_ok_lem h w y.typed (real-reached r P S on v fresh hs t) in
      let k = count_of side w.trace in
      let start : Stage P S v on power-ok slot_ok_lem side k 3 (happens h w) = (
        real,
        (
          omega arith,
          record {
            step = y.step;
            some = rw (y.trace, ← room-is r P S on v fresh side hs t) some;
            fits = room-same side w (happens h w) y.trace y.length (enough side hs t long);
            count = ap (count_of side) y.trace;
          },
        ),
      ) in
      let end = turns-off side (Stage P S v on power-ok slot_ok_lem side k) (stage-turn P S v on power-ok slot_ok_lem side k) ls (happens h w) g (subst (λ (n : ℕ). Stage P S v on power-ok slot_ok_lem side k n (happens h w)) (sym three) start) in
      counted side (after_turns side ls (happens h w)).trace w.trace end.1.1
    where
      enough : (side : Side) (hs : List Happening) → AllTyped hs → LongEnough r P S on v side hs → RoomFor side (reached r P S on v hs)
      enough Sender hs t l = tt
      enough Recorder hs t l = λ n rest e. rw (meant-reached r P S on v fresh Recorder hs t).keeps.length (l n rest e)

      counted : (side : Side) (a b : Trace) → count_of side a ≡ count_of side b + 1 → length (notes_of side a) ≡ length (notes_of side b) + 1
      counted Sender a b e = e
      counted Recorder a b e = e

  -- a sleeper that rises looks
  woken-looks : (σ : Side) (w : World) → Real P S v on w → (party_in w (other σ)).step ≡ Asleep → (payload lent : List ℕ) (fault : Fault)
      → ((party_in (turn_world w σ payload lent fault) (other σ)).step ≡ Look) ⊎ ((party_in (turn_world w σ payload lent fault) (other σ)).step ≡ Asleep)
  woken-looks σ w real e payload lent fault = by (takes w σ payload lent fault) refl
    where
      by : (b : Bool) → takes w σ payload lent fault ≡ b → ((party_in (turn_world w σ payload lent fault) (other σ)).step ≡ Look) ⊎ ((party_in (turn_world w σ payload lent fault) (other σ)).step ≡ Asleep)
      by false g = inr (ap (λ (x : World). (party_in x (other σ)).step) (turn-refused w σ payload lent fault g) ∙ e)
      by true g =
          subst (λ (u : World). ((party_in u (other σ)).step ≡ Look) ⊎ ((party_in u (other σ)).step ≡ Asleep)) (sym (turn-is-after P S v on power-ok slot_ok_lem w real σ payload lent fault g))
          (rw (waiter-is P S v on power-ok slot_ok_lem w real σ payload lent fault g) (roused-elim (roused (other σ) (party_in w (other σ)) (woke_of (next_spec (party_in w σ)) (error_of fault))) (λ s. (s ≡ Look) ⊎ (s ≡ Asleep)) (inr e) (λ z. inl refl)))

  spurious-looks : (side : Side) (p : Party) → sound side p ≡ true → p.step ≡ Asleep → spurious_spec side p ≡ reply (at Look p) GoesOn
  unfolding spurious_spec
  spurious-looks side p a e = rw (a, e) refl

  twice : (side : Side) → other (other side) ≡ side
  twice Sender = refl
  twice Recorder = refl

  pub rises-to-look : (side : Side) → RisesToLook r P S on v side
  unfolding happens played played_leaves settled
  rises-to-look side hs t e payload lent fault =
      let w = reached r P S on v hs in
      let p = party_in w side in
      let q = seat-one side w.bench (spurious_spec side p).party ∙ ap (λ (x : Reply). x.party) (spurious-looks side p (always-sound r P S on v fresh side hs t (here side hs t e)) e) in (
        ap (λ (x : Party). x.step) q,
        subst (λ (u : World). ((party_in u side).step ≡ Look) ⊎ ((party_in u side).step ≡ Asleep)) (sym (turn-happens (other side) payload lent fault w))
            (subst (λ (τ : Side). ((party_in (turn_world w (other side) payload lent fault) τ).step ≡ Look) ⊎ ((party_in (turn_world w (other side) payload lent fault) τ).step ≡ Asleep)) (twice side)
            (woken-looks (other side) w (real-reached r P S on v fresh hs t) (subst (λ (τ : Side). (party_in w τ).step ≡ Asleep) (sym (twice side)) e) payload lent fault)),
      )
