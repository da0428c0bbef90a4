-- What a call does of what it was asked.
use Rattle.std.specs.Prelude.{None, Some}
use mathlib.Core.Path.{◌≡◌, refl, sym, ap, ◌∙◌, subst}
use mathlib.Core.Bool.{Bool, true, false, not}
use mathlib.Core.List.{List}
use mathlib.Core.Logic.{◌⊎◌, inl, inr}
use Prim.Native.Nat.{ℕ, zero, suc}
use native.Mathlib.Omega.{arith}
use borrow.Author.Tests.{eq-eqb, lt-ltb}
use lib.Dec.{eqb, leb}
use lib.ListN.{length}
use Rattle.types.specs.declared.Side.{Side}
use Rattle.types.specs.declared.Side.TheVariants.{Sender, Recorder}
use Rattle.types.specs.declared.Own.{Own}
use Rattle.types.specs.Faults.{Fault}
use Rattle.types.specs.declared.Stance.{Stance}
use Rattle.types.specs.declared.Stance.TheVariants.{Resting, Sleeping, Copying, Publishing, Closing, Moving}
use Rattle.types.specs.declared.Room.TheVariants.{Blocked}
use Rattle.types.specs.declared.Step.{Step}
use Rattle.types.specs.declared.Step.TheVariants.{Look}
use Rattle.types.specs.declared.Answer.{Answer}
use Rattle.types.specs.declared.Answer.TheVariants.{Full, Empty, Begun}
use Rattle.layout.specs.Limits.{power_ok, slot_ok, capacity, total_bytes, payload_capacity}
use Rattle.rules.specs.Looks.{room_here, room_of}
use Rattle.rules.specs.Take.{stance_of}
use Rattle.rules.specs.Next.{next_spec}
use Rattle.rules.specs.Access.{value_of}
use Rattle.rules.specs.Turn.{fault_ok, lent_to, lent_ok, goes, taken, turn_spec}
use Rattle.rules.specs.Given.{full, empty, turn, Given, turn-taken}
use Rattle.rules.specs.Run.{Trace, World, Happening, party_in, takes, happens, plays}
use Rattle.rules.specs.Claims.{Fresh, reached}
use Rattle.rules.specs.Anywhere.{told}
use Rattle.rules.proofs.Views.{copying-step}
use Rattle.rules.proofs.Grounds.{lent_is}
use Rattle.rules.specs.Meaning.{AsAsked, NoteAsAsked, BlockingWaits, TryAnswers, TurnsTaken, TryPush, TryPop}
use Rattle.rules.proofs.Answered.{given-first, given-only}
use Rattle.rules.proofs.Rooms.{as_room}
use Rattle.rules.proofs.Leads.{Tells}
use Rattle.rules.proofs.RealTurn.{sight_at, own_is, tells-here, turn-is-after}
use Rattle.rules.proofs.RealRun.{power-fits, slot-fits, real-reached, real-happens}
use Rattle.rules.proofs.Delivers.{turn-happens}
use Rattle.rules.proofs.Listening.{trace-is}
use Rattle.rules.proofs.Causes.{room-is}
use Rattle.rules.proofs.Begins.{always-sound}
use Rattle.rules.proofs.Meant.{meant-reached}
use Rattle.rules.proofs.Real.{sizes, room_in, Real}
use Rattle.types.specs.declared.Party.{Party}
use Rattle.types.specs.declared.Event.TheVariants.{Push, Pop}
use Rattle.rules.specs.Sides.{blocked_answer}
use Rattle.rules.specs.Calls.{ready, named, begins, push_spec, pop_spec}
use Rattle.rules.specs.Bench.{settled, played, played_leaves}

-- what a turn answers has its row
pub row : (side : Side) (w : World) (payload lent : List ℕ) (fault : Fault) (x : Answer) → told side w payload lent fault ≡ x → Given (turn side w.region (party_in w side) payload lent fault) x
row side w payload lent fault x e = rw e at (given-first (turn side w.region (party_in w side) payload lent fault))

-- 9 and 10 end a try call alone
tries : (side : Side) (w : World) (payload lent : List ℕ) (fault : Fault) → (told side w payload lent fault ≡ Full) ⊎ (told side w payload lent fault ≡ Empty) → (party_in w side).blocking ≡ false
tries side w payload lent fault (inl e) = by (row side w payload lent fault Full e)
  where
    by : Given (turn side w.region (party_in w side) payload lent fault) Full → (party_in w side).blocking ≡ false
    by (turn-taken g (full s q b h)) = b
tries side w payload lent fault (inr e) = by (row side w payload lent fault Empty e)
  where
    by : Given (turn side w.region (party_in w side) payload lent fault) Empty → (party_in w side).blocking ≡ false
    by (turn-taken g (empty s q b h)) = b

lent-named : (st : Stance) (lent n : ℕ) → (st ≡ Copying → lent ≡ n) → lent_ok st lent n ≡ true
lent-named Resting lent n e = refl
lent-named Sleeping lent n e = refl
lent-named Copying lent n e = eq-eqb lent n (e refl)
lent-named Publishing lent n e = refl
lent-named Closing lent n e = refl
lent-named Moving lent n e = refl

pub fault-fine : (f : Fault) → (f ≡ Some 0 → ⊥) → fault_ok f ≡ true
fault-fine None n = refl
fault-fine (Some zero) n = absurd (n refl)
fault-fine (Some (suc e)) n = lt-ltb 0 (suc e) (omega arith)

-- a begin that answers 254 seats its record
begun-party : (p : Party) (g c o n : Bool) (q : Party) → (begins p g c o n q).answer ≡ Begun → (begins p g c o n q).party ≡ q
begun-party p false c o n q e = absurd (let z : ◌≡◌ {A = ℕ} 0 1 = cc in omega arith)
begun-party p true true o n q e = absurd (let z : ◌≡◌ {A = ℕ} 0 1 = cc in omega arith)
begun-party p true false true n q e = absurd (let z : ◌≡◌ {A = ℕ} 0 1 = cc in omega arith)
begun-party p true false false true q e = absurd (let z : ◌≡◌ {A = ℕ} 0 1 = cc in omega arith)
begun-party p true false false false q e = refl

module _ (r : List ℕ) (P S : ℕ) (on : Bool) (v : ℕ) (fresh : Fresh r P S on v) where
  abbrev pub power-ok : power_ok P ≡ true
  power-ok = power-fits r P S on v fresh

  abbrev pub slot_ok_lem : slot_ok S ≡ true
  slot_ok_lem = slot-fits r P S on v fresh

  abbrev pub at : List Happening → World
  at hs = reached r P S on v hs

  pub as-asked : (side : Side) → AsAsked r P S on v side
  as-asked side hs t =
      let k = (meant-reached r P S on v fresh side hs t).keeps in
      (k.blocking, (k.tag, k.length))

  pub note-as-asked : NoteAsAsked r P S on v
  note-as-asked hs t payload lent fault g s =
      let w = at hs in
      let real = real-reached r P S on v fresh hs t in
      let k = (meant-reached r P S on v fresh Sender hs t).keeps in
      ap (λ (u : World). u.trace.hand) (turn-happens Sender payload lent fault w ∙ turn-is-after P S v on power-ok slot_ok_lem w real Sender payload lent fault g)
      ∙ ap (λ (u : Trace). u.hand) (trace-is P S v on power-ok slot_ok_lem w real Sender payload lent fault g)
      ∙ rw (s, k.tag)

  pub blocking-waits : (side : Side) → BlockingWaits r P S on v side
  blocking-waits side hs t b payload lent fault e =
      let k = (meant-reached r P S on v fresh side hs t).keeps.blocking in
      let f = sym (tries side (at hs) payload lent fault e) ∙ k ∙ b in
      let z : ◌≡◌ {A = ℕ} 0 1 = cc in omega arith

  abbrev Blocks : Side → World → Type 0
  Blocks side w = (payload lent : List ℕ) (fault : Fault) → takes w side payload lent fault ≡ true → told side w payload lent fault ≡ blocked_answer side

  -- a try call at its look, with no room
  tries-here : (side : Side) (w : World) → Real P S v on w → (party_in w side).blocking ≡ false → (party_in w side).step ≡ Look → room_in P S v on side w.trace ≡ 0 → Blocks side w
  tries-here side w real b s none payload lent fault g =
      let p = party_in w side in
      let o = ap (λ (x : Own). x.side) (own_is P S v on power-ok slot_ok_lem w real side payload lent fault g) in
      let seen : room_here p.own p.counter (value_of w.region p.own (next_spec p)) ≡ Blocked =
      subst (λ (u : Step). Tells p.own (sight_at P S v on side p.own w.region w.trace p.blocking) p.counter (value_of w.region p.own (next_spec p)) u) s
      (tells-here P S v on power-ok slot_ok_lem w real side payload lent fault g)
      ∙ ap as_room none in
      by side p o b s seen g
    where
      by : (side : Side) (p : Party) → p.own.side ≡ side → p.blocking ≡ false → p.step ≡ Look → room_here p.own p.counter (value_of w.region p.own (next_spec p)) ≡ Blocked
          → taken side w.region p payload lent fault ≡ true → (turn_spec side w.region p payload lent fault).answer ≡ blocked_answer side
      by Sender p o b s seen g = given-only (turn-taken g (full s o b (subst (λ (τ : Side). room_of τ (capacity p.own.power) p.counter (value_of w.region p.own (next_spec p)) ≡ Blocked) o seen)))
      by Recorder p o b s seen g = given-only (turn-taken g (empty s o b (subst (λ (τ : Side). room_of τ (capacity p.own.power) p.counter (value_of w.region p.own (next_spec p)) ≡ Blocked) o seen)))

  try-answers : (side : Side) → TryAnswers r P S on v side (blocked_answer side)
  try-answers side hs t b s none =
      tries-here side (at hs) (real-reached r P S on v fresh hs t) ((meant-reached r P S on v fresh side hs t).keeps.blocking ∙ b) s (sym (room-is r P S on v fresh side hs t) ∙ none)

  pub try-full : TryAnswers r P S on v Sender Full
  try-full = try-answers Sender

  pub try-empty : TryAnswers r P S on v Recorder Empty
  try-empty = try-answers Recorder

  pub try-push : TryPush r P S on v
  unfolding happens played played_leaves settled push_spec
  try-push hs t tag l i o small e none =
      let w = at hs in
      let p = party_in w Sender in
      let q : (push_spec p false tag l).party ≡ named false tag l p = begun-party p (ready Sender p) p.closed false (not (leb l (payload_capacity p.own.slot))) (named false tag l p) e in
      tries-here Sender (happens (plays (Push false tag l) i o) w) (real-happens P S v on power-ok slot_ok_lem (plays (Push false tag l) i o) w small (real-reached r P S on v fresh hs t))
      (ap (λ (x : Party). x.blocking) q) (ap (λ (x : Party). x.step) q) (sym (room-is r P S on v fresh Sender hs t) ∙ none)

  pub try-pop : TryPop r P S on v
  unfolding happens played played_leaves settled pop_spec
  try-pop hs t l i o e none =
      let w = at hs in
      let p = party_in w Recorder in
      let q : (pop_spec p false l).party ≡ named false 0 l p = begun-party p (ready Recorder p) p.closed false false (named false 0 l p) e in
      tries-here Recorder (happens (plays (Pop false l) i o) w) (real-happens P S v on power-ok slot_ok_lem (plays (Pop false l) i o) w tt (real-reached r P S on v fresh hs t))
      (ap (λ (x : Party). x.blocking) q) (ap (λ (x : Party). x.step) q) (sym (room-is r P S on v fresh Recorder hs t) ∙ none)

  pub turns-taken : (side : Side) → TurnsTaken r P S on v side
  unfolding goes
  turns-taken side hs t here payload lent fault named fine =
      let w = at hs in
      let p = party_in w side in
      let real = real-reached r P S on v fresh hs t in
      let own : p.own ≡ sizes P S v on side p.own.spins = ((real.sides side).seat.in_place here).0 in
      let k = (meant-reached r P S on v fresh side hs t).keeps.length in
      let l : eqb (length w.region) (total_bytes p.own.power p.own.slot) ≡ true = eq-eqb _ _ (real.fixed.long ∙ sym (ap (λ (o : Own). total_bytes o.power o.slot) own)) in
      let m = lent-named (stance_of p.step) (lent_to side (length payload) (length lent)) p.length (λ e. lent_is payload lent side ∙ named (copying-step p.step e) ∙ sym k) in
      rw (always-sound r P S on v fresh side hs t here, l, m, fault-fine fault fine)
