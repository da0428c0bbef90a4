-- Where both move: what a happening, whoever's it is, makes of both.
use Rattle.std.specs.Prelude.{None, Some}
use mathlib.Core.Path.{◌≡◌, refl, sym, ap, ◌∙◌, subst}
use mathlib.Core.Bool.{Bool, true, false, ◌&&◌}
use mathlib.Core.List.{List, [], ◌∷◌}
use mathlib.Core.Logic.{◌⊎◌, inl, inr}
use Prim.Native.Nat.{ℕ, zero, suc, ◌+◌, ◌≤◌}
use native.Mathlib.Omega.{arith}
use lib.Dec.{eqb}
use lib.ListN.{length}
use Rattle.words.specs.Le.{le_at}
use Rattle.types.specs.Pick.{pick}
use Rattle.types.specs.Answers.{number}
use Rattle.types.specs.declared.Side.{Side}
use Rattle.types.specs.declared.Side.TheVariants.{Sender, Recorder}
use Rattle.types.specs.declared.Bell.TheVariants.{NotEmpty, NotFull}
use Rattle.types.specs.declared.Party.{Party}
use Rattle.types.specs.declared.Mark.{Mark}
use Rattle.types.specs.Faults.{Fault}
use Rattle.types.specs.declared.Event.TheVariants.{Turn, Failing, Spurious, TimeOut, Push, Pop, Close, Shutdown}
use Rattle.types.specs.declared.Step.{Step}
use Rattle.types.specs.declared.Step.TheVariants.{Rest, Look, Copy, Wait, Asleep}
use Rattle.types.specs.declared.Stance.{Stance}
use Rattle.types.specs.declared.Access.{Access}
use Rattle.layout.specs.Limits.{power_ok, slot_ok}
use Rattle.layout.specs.Flags.{worth, bit_on, attach_mark}
use Rattle.layout.specs.Header.{flags_at, bell_at}
use Rattle.layout.specs.Attach.{attach_answer, attach_reply, attach_leaves, attached}
use Rattle.rules.specs.Sides.{other, sleep_bell, rings}
use Rattle.rules.specs.Looks.{door_of}
use Rattle.rules.specs.Take.{stance_of}
use Rattle.rules.specs.Next.{next_at, next_spec}
use Rattle.rules.specs.Calls.{push_spec, pop_spec, close_spec, shut_spec, spurious_spec, timeout_spec}
use Rattle.rules.specs.Access.{buffer_of}
use Rattle.rules.specs.Turn.{error_of, woke_of}
use Rattle.rules.specs.Bench.{settled, played, played_leaves}
use Rattle.rules.specs.Run.{Trace, World, Happening, attaches, plays, party_in, takes, traced, happens, run, rung_of}
use Rattle.rules.specs.Premises.{Typed, AllTyped, Timely, FairTurn, Fair}
use Rattle.rules.specs.Stretch.{counts_by, tick_by, Wills, Big}
use Rattle.rules.specs.Both.{done_by}
use Rattle.rules.specs.Phase.{phase}
use Rattle.rules.proofs.Leads.{Sight, Leads, stop_at}
use Rattle.rules.proofs.Does.{less, Does, does, nothing, looks, flags, reads, writes, takes as read, stores, raises, closes, shuts, waits, wakes}
use Rattle.rules.proofs.Kept.{length_more, mark-up, flag_up}
use Rattle.rules.proofs.Seats.{roused}
use Rattle.rules.proofs.Taken.{turn_world, turn-refused}
use Rattle.rules.proofs.RealTurn.{sight, leads-here, after_turn, turn-is-after}
use Rattle.rules.proofs.RealCalls.{Idle, Changed, seat-one, seat-two, seated, push-changes, pop-changes, close-changes, shut-changes, spurious-changes, timeout-changes}
use Rattle.rules.proofs.RealAttach.{attach-flags, attach_world, was-at-rest}
use Rattle.rules.proofs.Heard.{rung_by, room_by, sets_none}
use Rattle.rules.proofs.Own.{waits_on}
use Rattle.rules.proofs.Costs.{own_room}
use Rattle.rules.proofs.Effects.{rung-other, rung-own}
use Rattle.rules.proofs.Listening.{unrung, mover-is, waiter-is, trace-is, room_after, other-room-after, flags-left, flags-same}
use Rattle.rules.proofs.Fairly.{stop-kept}
use Rattle.rules.proofs.RealRun.{real-happens}
use Rattle.rules.proofs.Bound.{fits-here, own-room-none}
use Rattle.rules.proofs.Asks.{Asked, stayed, push-asks, pop-asks, spurious-asks, timeout-asks}
use Rattle.rules.proofs.Real.{count_of, room_in, Since, Real}

-- one's own doing, or the other's
pub whose : (σ m : Side) → (m ≡ σ) ⊎ (m ≡ other σ)
whose Sender Sender = inl refl
whose Sender Recorder = inr refl
whose Recorder Sender = inr refl
whose Recorder Recorder = inl refl

-- a turn's notes, counted: those of its side grow where it stores, and by as much as it has less to publish
module _ (p : Party) (payload buffer : List ℕ) (t : Trace) where
  count_kept : (side : Side) (n : ℕ) (s : Step) (a : Access) → Does side n s a → count_of (other side) (traced a p payload buffer t) ≡ count_of (other side) t
  count_kept side n s a (nothing l) = refl
  count_kept side n s a (looks l) = refl
  count_kept side n s a (flags l) = refl
  count_kept Sender n s a reads = refl
  count_kept Sender n s a (writes e) = refl
  count_kept Sender n s a (read e) = refl
  count_kept Sender n s a stores = refl
  count_kept Sender n s a (raises l NotEmpty) = refl
  count_kept Sender n s a (raises l NotFull) = refl
  count_kept side n s a closes = refl
  count_kept side n s a shuts = refl
  count_kept side n s a waits = refl
  count_kept side n s a (wakes l b m) = refl
  count_kept Recorder n s a reads = refl
  count_kept Recorder n s a (writes e) = refl
  count_kept Recorder n s a (read e) = refl
  count_kept Recorder n s a stores = refl
  count_kept Recorder n s a (raises l NotEmpty) = refl
  count_kept Recorder n s a (raises l NotFull) = refl

  less-more : (c c' : ℕ) → c' ≡ c + 1 → (left : ℕ) → c + left ≤ c' + less left
  less-more c c' e zero = omega arith
  less-more c c' e (suc left) = omega arith

  count-own : (side : Side) (n : ℕ) (s : Step) (a : Access) → Does side n s a → (left : ℕ) → count_of side t + left ≤ count_of side (traced a p payload buffer t) + own_room s left
  count-own side n s a (nothing l) left = omega (arith, l.own left)
  count-own side n s a (looks l) left = omega (arith, l.own left)
  count-own side n s a (flags l) left = omega (arith, l.own left)
  count-own Sender n s a reads left = omega arith
  count-own Sender n s a (writes e) left = omega arith
  count-own Sender n s a (read e) left = omega arith
  count-own Sender n s a stores left = less-more (length t.sent) _ (length_more t.sent _) left
  count-own Sender n s a (raises l NotEmpty) left = omega (arith, l.own left)
  count-own Sender n s a (raises l NotFull) left = omega (arith, l.own left)
  count-own side n s a closes left = omega arith
  count-own side n s a shuts left = omega arith
  count-own side n s a waits left = omega arith
  count-own side n s a (wakes l b m) left = omega (arith, l.own left)
  count-own Recorder n s a reads left = omega arith
  count-own Recorder n s a (writes e) left = omega arith
  count-own Recorder n s a (read e) left = omega arith
  count-own Recorder n s a stores left = less-more (length t.delivered) _ (length_more t.delivered _) left
  count-own Recorder n s a (raises l NotEmpty) left = omega (arith, l.own left)
  count-own Recorder n s a (raises l NotFull) left = omega (arith, l.own left)

fair-own : (side : Side) (fault : Fault) (w : World) → FairTurn side side fault w → Timely side w
fair-own Sender fault w f = f
fair-own Recorder fault w f = f

module _ (P S v : ℕ) (on : Bool) where
  -- a turn that is taken: where it leads, and what it makes of both sides
  pub record Goes (h : Happening) (m : Side) (w u : World) : Type 0 where
    pub sight : Sight
    pub room : sight.room ≡ room_in P S v on m w.trace
    pub theirs : sight.theirs ≡ room_in P S v on (other m) w.trace
    pub whose : sight.side ≡ m
    pub ringing : sight.rings ≡ rings m on
    pub door : sight.door ≡ door_of m (le_at 4 w.region flags_at)
    pub leads : Leads sight (party_in w m).step (party_in u m).step
    pub tick : (counted : Stance → Bool) → tick_by counted h w ≡ pick (counted (stance_of (party_in w m).step)) 1 0
    pub fits : Wills m h w → (party_in w m).step ≡ Copy → (party_in u m).step ≡ Rest → ⊥
    pub unheard : Fair m h w → (e : ℕ) → (party_in w m).step ≡ Wait e → sight.bell ≡ e → rung_of m w.trace ≡ 0
    pub woken : ((party_in u (other m)).step ≡ (party_in w (other m)).step) ⊎ (((party_in w (other m)).step ≡ Asleep) × ((party_in u (other m)).step ≡ Look))
    pub own-room : room_in P S v on m u.trace ≡ own_room (party_in w m).step (room_in P S v on m w.trace)
    pub other-room : room_in P S v on (other m) u.trace ≡ room_by (party_in w m).step (room_in P S v on (other m) w.trace)
    pub own-count : (left : ℕ) → count_of m w.trace + left ≤ count_of m u.trace + own_room (party_in w m).step left
    pub other-count : count_of (other m) u.trace ≡ count_of (other m) w.trace
    pub own-rung : waits_on (party_in w m).step ≡ true → rung_of m u.trace ≡ rung_of m w.trace
    pub other-rung : rung_of (other m) u.trace ≡ rung_by m (party_in w m).step (rung_of (other m) w.trace)
    pub flags : sets_none (party_in w m).step ≡ true → le_at 4 u.region flags_at ≡ le_at 4 w.region flags_at
    pub up : (k : Mark) → bit_on (worth k) (le_at 4 w.region flags_at) ≡ true → bit_on (worth k) (le_at 4 u.region flags_at) ≡ true

  -- whatever is no such turn: it publishes nothing, and at most begins or ends a call of its side
  pub record Stays (h : Happening) (m : Side) (w u : World) : Type 0 where
    pub trace : u.trace ≡ w.trace
    pub other_step : (party_in u (other m)).step ≡ (party_in w (other m)).step
    pub tick : (counted : Stance → Bool) → tick_by counted h w ≡ 0
    pub own-step : ((party_in u m).step ≡ (party_in w m).step) ⊎ ((((party_in w m).step ≡ Rest) ⊎ ((party_in w m).step ≡ Asleep)) × Idle (party_in u m).step)
    pub asked : Wills m h w → Asked (party_in w m).step (party_in u m).step
    pub stop : (σ : Side) → stop_at σ (le_at 4 u.region flags_at) ≡ stop_at σ (le_at 4 w.region flags_at)
    pub up : (k : Mark) → bit_on (worth k) (le_at 4 w.region flags_at) ≡ true → bit_on (worth k) (le_at 4 u.region flags_at) ≡ true

  pub data Deed (h : Happening) (m : Side) (w u : World) : Type 0 where
    goes : Goes h m w u → Deed h m w u
    stays : Stays h m w u → Deed h m w u

  -- what is no turn
  called : (h : Happening) (w : World) (m : Side) (q : Party) → ((counted : Stance → Bool) → tick_by counted h w ≡ 0) → Changed m (party_in w m) q → (Wills m h w → Asked (party_in w m).step q.step) → Stays h m w (seated P S v on w m q)
  called h w m q e c a =
      record {
        trace = refl;
        other_step = ap (λ (x : Party). x.step) (seat-two m w.bench q);
        tick = e;
        own-step = rw (seat-one m w.bench q) (by c);
        asked = λ x. rw (seat-one m w.bench q) (a x);
        stop = λ σ. refl;
        up = λ k e. e;
      }
    where
      by : Changed m (party_in w m) q → (q.step ≡ (party_in w m).step) ⊎ ((((party_in w m).step ≡ Rest) ⊎ ((party_in w m).step ≡ Asleep)) × Idle q.step)
      by (inl e) = inl (ap (λ (x : Party). x.step) e)
      by (inr b) = inr (b.from, b.idle)

  module _ (power-ok : power_ok P ≡ true) (slot-ok : slot_ok S ≡ true) (w : World) (real : Real P S v on w) (side : Side) where
    joined : (spins : ℕ) → Stays (attaches side spins) side w (attach_world P S v on power-ok slot-ok w real side spins)
    unfolding attach_leaves attach_reply
    joined spins = by (eqb (number (attach_answer w.region side spins)) 0) refl
      where
        by : (b : Bool) → eqb (number (attach_answer w.region side spins)) 0 ≡ b → Stays (attaches side spins) side w (attach_world P S v on power-ok slot-ok w real side spins)
        by false e = rw e record { trace = refl; other_step = refl; tick = λ c. refl; own-step = inl refl; asked = λ x. absurd x; stop = λ σ. refl; up = λ k e. e }
        by true e =
            rw e record {
              trace = refl;
              other_step = ap (λ (x : Party). x.step) (seat-two side w.bench (attached w.region side spins));
              tick = λ c. refl;
              own-step = inl (ap (λ (x : Party). x.step) (seat-one side w.bench (attached w.region side spins)) ∙ sym (was-at-rest P S v on power-ok slot-ok w real side spins e));
              asked = λ x. absurd x;
              stop = λ σ. ap (stop_at σ) (attach-flags P S v on power-ok slot-ok w real side) ∙ stop-kept P S v on σ side (le_at 4 w.region flags_at) real.fixed.small;
              up = λ k e. ap (bit_on (worth k)) (attach-flags P S v on power-ok slot-ok w real side) ∙ mark-up (attach_mark side) (le_at 4 w.region flags_at) real.fixed.small k e;
            }

    module _ (payload lent : List ℕ) (fault : Fault) (h : Happening) (tick : (counted : Stance → Bool) → tick_by counted h w ≡ counts_by counted w side payload lent fault) (big : Wills side h w → Big side w)
        (fair : Fair side h w → takes w side payload lent fault ≡ true → FairTurn side side fault w) where
      gone : (g : takes w side payload lent fault ≡ true) → Goes h side w (after_turn P S v on power-ok slot-ok w real side payload lent fault g)
      gone g =
          let p = party_in w side in
          let s = p.step in
          let me = mover-is P S v on power-ok slot-ok w real side payload lent fault g in
          let them = waiter-is P S v on power-ok slot-ok w real side payload lent fault g in
          let trail = trace-is P S v on power-ok slot-ok w real side payload lent fault g in
          let buffer = buffer_of w.region p.own (next_at s side p.counter) p.length lent in
          record {
            sight = sight P S v on power-ok slot-ok w real side payload lent fault g;
            room = refl;
            theirs = refl;
            whose = refl;
            ringing = refl;
            door = refl;
            leads = rw me (leads-here P S v on power-ok slot-ok w real side payload lent fault g);
            tick = λ c. tick c ∙ ap (λ (b : Bool). pick (b && c (stance_of s)) 1 0) g;
            fits = λ x e q. fits-here P S v on power-ok slot-ok w real side payload lent fault g (big x) e (rw me at q);
            unheard = λ f e at b. unrung e (le_at 4 w.region (bell_at (sleep_bell side))) (rung_of side w.trace) (fair-own side fault w (fair f g) e at)
                (subst (λ (u : Step). Since (phase u) (le_at 4 w.region (bell_at (sleep_bell side))) (rung_of side w.trace)) at (real.sides side).since) b;
            woken = rw them (roused (other side) (party_in w (other side)) (woke_of (next_spec p) (error_of fault))).step;
            own-room = room_after P S v on power-ok slot-ok w real side payload lent fault g;
            other-room = other-room-after P S v on power-ok slot-ok w real side payload lent fault g;
            own-count = λ left. rw trail (count-own p payload buffer w.trace side p.counter s (next_at s side p.counter) (does side p.counter s) left);
            other-count = ap (count_of (other side)) trail ∙ count_kept p payload buffer w.trace side p.counter s (next_at s side p.counter) (does side p.counter s);
            own-rung = λ u. ap (rung_of side) trail ∙ rung-own p payload buffer w.trace side s u;
            other-rung = ap (rung_of (other side)) trail ∙ rung-other p payload buffer w.trace side s;
            flags = flags-same P S v on power-ok slot-ok w real side payload lent fault g;
            up = λ k e. ap (bit_on (worth k)) (flags-left P S v on power-ok slot-ok w real side payload lent fault g) ∙ flag_up (next_at s side p.counter) (le_at 4 w.region flags_at) real.fixed.small k e;
          }

      turned : Deed h side w (turn_world w side payload lent fault)
      turned = by (takes w side payload lent fault) refl
        where
          by : (b : Bool) → takes w side payload lent fault ≡ b → Deed h side w (turn_world w side payload lent fault)
          by true g = subst (Deed h side w) (sym (turn-is-after P S v on power-ok slot-ok w real side payload lent fault g)) (goes (gone g))
          by false g =
              subst (Deed h side w) (sym (turn-refused w side payload lent fault g))
              (stays record { trace = refl; other_step = refl; tick = λ c. tick c ∙ ap (λ (b : Bool). pick (b && c (stance_of (party_in w side).step)) 1 0) g; own-step = inl refl; asked = λ x. stayed; stop = λ σ. refl; up = λ k e. e })

  module _ (power-ok : power_ok P ≡ true) (slot-ok : slot_ok S ≡ true) where
    pub deed : (h : Happening) (w : World) → Typed h → Real P S v on w → Deed h (done_by h) w (happens h w)
    unfolding happens played played_leaves settled
    deed (attaches side spins) w t real = stays (joined power-ok slot-ok w real side spins)
    deed (plays (Turn side) i o) w t real = turned power-ok slot-ok w real side i o None (plays (Turn side) i o) (λ c. refl) (λ x. x.1) (λ f. f)
    deed (plays (Failing side e) i o) w t real = turned power-ok slot-ok w real side i o (Some e) (plays (Failing side e) i o) (λ c. refl) (λ x. x.1) (λ f. f)
    deed (plays (Spurious side) i o) w t real = stays (called (plays (Spurious side) i o) w side (spurious_spec side (party_in w side)).party (λ c. refl) (spurious-changes side (party_in w side)) (λ x. spurious-asks side (party_in w side)))
    deed (plays (TimeOut side) i o) w t real = stays (called (plays (TimeOut side) i o) w side (timeout_spec side (party_in w side)).party (λ c. refl) (timeout-changes side (party_in w side)) (λ x. timeout-asks side (party_in w side)))
    deed (plays (Push b g l) i o) w t real = stays (called (plays (Push b g l) i o) w Sender (push_spec (party_in w Sender) b g l).party (λ c. refl) (push-changes (party_in w Sender) b g l t) (λ x. push-asks (party_in w Sender) b g l))
    deed (plays (Pop b l) i o) w t real = stays (called (plays (Pop b l) i o) w Recorder (pop_spec (party_in w Recorder) b l).party (λ c. refl) (pop-changes (party_in w Recorder) b l) (λ x. pop-asks (party_in w Recorder) b l))
    deed (plays (Close side) i o) w t real = stays (called (plays (Close side) i o) w side (close_spec side (party_in w side)).party (λ c. refl) (close-changes side (party_in w side)) (λ x. absurd x))
    deed (plays (Shutdown side) i o) w t real = stays (called (plays (Shutdown side) i o) w side (shut_spec side (party_in w side)).party (λ c. refl) (shut-changes side (party_in w side)) (λ x. absurd x))

  -- nothing that was published is taken back
  count-deed : (h : Happening) (w u : World) (side m : Side) → Deed h m w u → count_of side w.trace ≤ count_of side u.trace
  count-deed h w u side m (stays d) = rw d.trace (omega arith)
  count-deed h w u Sender Sender (goes d) = omega (arith, d.own-count 0, own-room-none (party_in w Sender).step)
  count-deed h w u Sender Recorder (goes d) = omega (arith, d.other-count)
  count-deed h w u Recorder Sender (goes d) = omega (arith, d.other-count)
  count-deed h w u Recorder Recorder (goes d) = omega (arith, d.own-count 0, own-room-none (party_in w Recorder).step)

  module _ (power-ok : power_ok P ≡ true) (slot-ok : slot_ok S ≡ true) (side : Side) where
    pub count-run : (hs : List Happening) (w : World) → AllTyped hs → Real P S v on w → count_of side w.trace ≤ count_of side (run hs w).trace
    unfolding run
    count-run [] w t real = omega arith
    count-run (h ∷ hs) w t real =
        omega (arith, count-deed h w (happens h w) side (done_by h) (deed power-ok slot-ok h w t.0 real), count-run hs (happens h w) t.1 (real-happens P S v on power-ok slot-ok h w t.0 real))
