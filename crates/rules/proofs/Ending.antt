-- T4: with a flag up, every call ends.
use Rattle.std.proofs.lemmas.Bool.{or_left, or_right, or_cases}
use Rattle.std.specs.Prelude.{None, Some}
use mathlib.Core.Path.{◌≡◌, refl, sym, ap, ◌∙◌, subst}
use mathlib.Core.Bool.{Bool, true, false, ◌&&◌}
use mathlib.Core.List.{List, [], ◌∷◌, ◌++◌}
use mathlib.Core.Logic.{◌⊎◌, inl, inr, ⊎_elim}
use Prim.Native.Nat.{ℕ, zero, suc, ◌+◌, ◌-◌, ◌<◌, ◌≤◌}
use native.Mathlib.Omega.{arith}
use borrow.Author.Tests.{leb-true, leb-false}
use lib.Dec.{leb}
use Rattle.words.specs.Le.{le_at}
use Rattle.types.specs.Pick.{pick}
use Rattle.types.specs.declared.Side.{Side}
use Rattle.types.specs.declared.Mark.TheVariants.{Shutdown as ShutMark}
use Rattle.types.specs.declared.Bench.{Bench}
use Rattle.types.specs.declared.Party.{Party}
use Rattle.types.specs.Faults.{Fault}
use Rattle.types.specs.declared.Event.TheVariants.{Turn, Failing, Spurious, TimeOut, Push, Pop, Close, Shutdown}
use Rattle.types.specs.declared.Step.{Step}
use Rattle.types.specs.declared.Step.TheVariants.{Rest, Asleep}
use Rattle.types.specs.declared.Stance.{Stance}
use Rattle.types.specs.declared.Stance.TheVariants.{Sleeping}
use Rattle.types.specs.declared.Side.TheVariants.{Sender, Recorder}
use Rattle.types.specs.declared.Door.{Door}
use Rattle.types.specs.declared.Door.TheVariants.{Shut, Left, Open}
use Rattle.types.specs.declared.Access.{Access}
use Rattle.layout.specs.Limits.{power_ok, slot_ok}
use Rattle.layout.specs.Flags.{worth, reserved_from, bit_on, close_mark}
use Rattle.layout.specs.Header.{flags_at}
use Rattle.layout.specs.Create.{created}
use Rattle.rules.specs.Sides.{other, rings}
use Rattle.rules.specs.Take.{stance_of}
use Rattle.rules.specs.Next.{next_at}
use Rattle.rules.specs.Calls.{push_spec, pop_spec, close_spec, shut_spec, spurious_spec, timeout_spec}
use Rattle.rules.specs.Bench.{settled, played, played_leaves}
use Rattle.rules.specs.Run.{World, Happening, attaches, plays, party_in, takes, happens, run, opened}
use Rattle.rules.specs.Premises.{Typed, AllTyped, AllFair}
use Rattle.rules.specs.Stretch.{moves, calling, counts_by, tick_by, ticks_by, OwnDoing, AllOwn}
use Rattle.rules.specs.Claims.{last_looks, stop_turns, Follow, Fresh, reached, Stopped, AtRest, EndsTicks, Ends, SpinsWithin}
use Rattle.rules.proofs.Views.{Kind, rests, dreams, acts, kind}
use Rattle.rules.proofs.After.{flags_by}
use Rattle.rules.proofs.Kept.{flag_up}
use Rattle.rules.proofs.Leads.{stop_at, stop-barred, last_at}
use Rattle.rules.proofs.Taken.{turn_world, turn-refused}
use Rattle.rules.proofs.RealTurn.{next-step, leads-here, after_turn, turn-is-after}
use Rattle.rules.proofs.RealCalls.{Idle, rests as at_rest, looks, glances, closes, shuts, Changed, seat-same, seat-one, seat-two, seated, push-changes, pop-changes, close-changes, shut-changes, spurious-changes, timeout-changes}
use Rattle.rules.proofs.RealRun.{power-fits, slot-fits, real-reached, real-happens}
use Rattle.rules.proofs.Heard.{none, duty, has-cause}
use Rattle.rules.proofs.Does.{less}
use Rattle.rules.proofs.Costs.{own_room}
use Rattle.rules.proofs.Nearer.{to_rest, room-le, near, nearer}
use Rattle.rules.proofs.Listening.{duty-kept, mover-is, waiter-is, room_after, flags-left}
use Rattle.rules.proofs.Fairly.{Ready, ready-happens, quiet-duty, dozes}
use Rattle.rules.proofs.Causes.{ready-reached}
use Rattle.rules.proofs.Bound.{Count, by-moves, by-calling, moves-off, dreams-on}
use Rattle.rules.proofs.Asks.{run-parts, typed-parts, fair-parts}
use Rattle.rules.proofs.Real.{room_in, Real}

stop-up : (side : Side) (a : Access) (f : ℕ) → f < reserved_from → stop_at side f ≡ true → stop_at side (flags_by a f) ≡ true
stop-up side a f h e =
    ⊎_elim
    (λ d. or_left (bit_on (worth ShutMark) (flags_by a f)) _ (flag_up a f h ShutMark d))
    (λ c. or_right (bit_on (worth ShutMark) (flags_by a f)) _ (flag_up a f h (close_mark (other side)) c))
    (or_cases (bit_on (worth ShutMark) f) (bit_on (worth (close_mark (other side))) f) e)

-- at most one, and as many as there may be by its door
pub one_more : (side : Side) → last_looks side ≤ 1
one_more Sender = omega arith
one_more Recorder = omega arith

pub looks-most : (side : Side) (d : Door) → last_at side d ≤ last_looks side
looks-most Sender d = omega arith
looks-most Recorder Shut = omega arith
looks-most Recorder Left = omega arith
looks-most Recorder Open = omega arith

-- a turn before rest
one_less : (side : Side) (s : Step) (k then : ℕ) → (s ≡ Rest → ⊥) → then ≤ less (to_rest (last_looks side) s k) → (n : ℕ) → to_rest (last_looks side) s k ≤ n → (then ≤ n - 1) × (1 ≤ n)
one_less side s k then i h n l = by (to_rest (last_looks side) s k) refl h l
  where
    by : (m : ℕ) → to_rest (last_looks side) s k ≡ m → then ≤ less m → m ≤ n → (then ≤ n - 1) × (1 ≤ n)
    by zero e h l = absurd (i ((near (last_looks side) (one_more side) s k).rested (omega arith)))
    by (suc m) e h l = (omega arith, omega arith)

-- the greater of two numbers
pub either-most : (a x : ℕ) → (a ≤ pick (leb x a) a x) × (x ≤ pick (leb x a) a x)
either-most a x = by (leb x a) refl
  where
    by : (few : Bool) → leb x a ≡ few → (a ≤ pick few a x) × (x ≤ pick few a x)
    by true e = (omega arith, leb-true x a e)
    by false e = (omega (arith, leb-false x a e), omega arith)

idle-rest : (side : Side) (s : Step) (k : ℕ) → Idle s → to_rest (last_looks side) s k ≤ 6
idle-rest side s k at_rest = omega arith
idle-rest side s k looks = room-le k (2 + last_looks side) 6 6 (omega (arith, one_more side)) (omega arith)
idle-rest side s k glances = room-le k 1 6 6 (omega arith) (omega arith)
idle-rest side s k closes = omega arith
idle-rest side s k shuts = omega arith

module _ (P S v : ℕ) (on : Bool) where
  -- a stretch under way: the other owes nothing, a flag is up, so many turns are left at most
  pub record Ending (side : Side) (n : ℕ) (w : World) : Type 0 where
    pub quiet : duty (other side) (party_in w (other side)).step ≡ none
    pub up : stop_at side (le_at 4 w.region flags_at) ≡ true
    pub left : to_rest (last_looks side) (party_in w side).step (room_in P S v on side w.trace) ≤ n

  abbrev pub Then : Side → (n t : ℕ) → World → Type 0
  Then side n t w = Ending side (n - t) w × (t ≤ n)

  then_same : (side : Side) (n : ℕ) (w : World) → Ending side n w → Then side n 0 w
  then_same side n w d = let e : n - 0 ≡ n = omega arith in (rw e d, omega arith)

  -- a call asked for while another runs changes nothing; what comes to a sleeper takes it no further from its end
  called : (w : World) (side : Side) (q : Party) → Changed side (party_in w side) q → ((party_in w side).step ≡ Rest → ⊥) → (n : ℕ) → Ending side n w → Then side n 0 (seated P S v on w side q)
  called w side q (inl e) i n d =
      subst (Then side n 0) (sym (ap (seated P S v on w side) e ∙ ap (λ (b : Bench). record { region = w.region; bench = b; trace = w.trace }) (seat-same side w.bench))) (then_same side n w d)
  called w side q (inr b) i n d = by b.from
    where
      by : ((party_in w side).step ≡ Rest) ⊎ ((party_in w side).step ≡ Asleep) → Then side n 0 (seated P S v on w side q)
      by (inl e) = absurd (i e)
      by (inr e) =
          let l : 6 ≤ n = rw e at d.left in
          then_same side n (seated P S v on w side q)
          (record { quiet = rw (seat-two side w.bench q) d.quiet; up = d.up; left = rw (seat-one side w.bench q) (omega (arith, idle-rest side q.step (room_in P S v on side w.trace) b.idle)) })

  -- where a sleeper's turns count, one with a flag up does not sleep
  abbrev Rouses : (counted : Stance → Bool) → Side → World → Type 0
  Rouses counted side w = counted Sleeping ≡ true → (party_in w side).step ≡ Asleep → ⊥

  module _ (power-ok : power_ok P ≡ true) (slot-ok : slot_ok S ≡ true) (counted : Stance → Bool) (count : Count counted) where
    module _ (w : World) (real : Real P S v on w) (side : Side) (payload lent : List ℕ) (fault : Fault) (y : Rouses counted side w) (n : ℕ) (d : Ending side n w) (i : (party_in w side).step ≡ Rest → ⊥) where
      abbrev s : Step
      s = (party_in w side).step

      abbrev k : ℕ
      k = room_in P S v on side w.trace

      module _ (g : takes w side payload lent fault ≡ true) where
        abbrev next : Step
        next = next-step P S v on power-ok slot-ok w real side payload lent fault g

        abbrev after : World
        after = after_turn P S v on power-ok slot-ok w real side payload lent fault g

        still-ending : (m : ℕ) → to_rest (last_looks side) next (own_room s k) ≤ m → Ending side m after
        still-ending m l =
            let me = mover-is P S v on power-ok slot-ok w real side payload lent fault g in
            let them = waiter-is P S v on power-ok slot-ok w real side payload lent fault g in
            record {
              quiet = ap (λ (q : Party). duty (other side) q.step) them ∙ duty-kept P S v on power-ok slot-ok w real side payload lent fault g ∙ d.quiet;
              up = ap (stop_at side) (flags-left P S v on power-ok slot-ok w real side payload lent fault g) ∙ stop-up side (next_at s side (party_in w side).counter) (le_at 4 w.region flags_at) real.fixed.small d.up;
              left = rw (me, room_after P S v on power-ok slot-ok w real side payload lent fault g) l;
            }

        moves-nearer : (s ≡ Asleep → ⊥) → Then side n 1 after
        moves-nearer j =
            let leads = leads-here P S v on power-ok slot-ok w real side payload lent fault g in
            let fell = one_less side s k (to_rest (last_looks side) next (own_room s k)) i (nearer _ (last_looks side) (one_more side) (looks-most side _) s next leads (stop-barred side (le_at 4 w.region flags_at) ∙ d.up) j) n d.left in
            (still-ending (n - 1) fell.0, fell.1)

        sleeps-on : s ≡ Asleep → Then side n 0 after
        sleeps-on e =
            let l : 6 ≤ n = rw e at d.left in
            let u : next ≡ Asleep = dreams-on P S v on power-ok slot-ok w real side payload lent fault g e in
            (still-ending (n - 0) (rw u (omega arith)), omega arith)

        taken-ends : (u : Step) → s ≡ u → Kind u → (m : Bool) → counted (stance_of u) ≡ m → Then side n (pick m 1 0) after
        taken-ends u e rests m c = absurd (i e)
        taken-ends u e dreams true c = absurd (y c e)
        taken-ends u e dreams false c = sleeps-on e
        taken-ends u e (acts move) true c = moves-nearer (λ q. moves-off u Asleep move refl (sym e ∙ q))
        taken-ends u e (acts move) false c = absurd (let q = count.all (stance_of u) move in let z : ◌≡◌ {A = ℕ} 0 1 = cc in omega arith)

      turned-ends : Then side n (counts_by counted w side payload lent fault) (turn_world w side payload lent fault)
      turned-ends = by (takes w side payload lent fault) refl
        where
          by : (b : Bool) → takes w side payload lent fault ≡ b → Then side n (pick (b && counted (stance_of s)) 1 0) (turn_world w side payload lent fault)
          by false g = subst (Then side n 0) (sym (turn-refused w side payload lent fault g)) (then_same side n w d)
          by true g =
              subst (Then side n (pick (counted (stance_of s)) 1 0)) (sym (turn-is-after P S v on power-ok slot-ok w real side payload lent fault g)) (taken-ends g s refl (kind s) (counted (stance_of s)) refl)

    -- a turn by its mover's name
    turned : (w : World) → Real P S v on w → (side mover : Side) (payload lent : List ℕ) (fault : Fault) → mover ≡ side → Rouses counted side w
        → (n : ℕ) → Ending side n w → ((party_in w side).step ≡ Rest → ⊥) → Then side n (counts_by counted w mover payload lent fault) (turn_world w mover payload lent fault)
    turned w real side mover payload lent fault e y n d i =
        subst (λ (m : Side). Then side n (counts_by counted w m payload lent fault) (turn_world w m payload lent fault)) (sym e) (turned-ends w real side payload lent fault y n d i)

    ending-happens : (side : Side) (h : Happening) (w : World) → Typed h → OwnDoing side h → Real P S v on w → Rouses counted side w → (n : ℕ) → Ending side n w → ((party_in w side).step ≡ Rest → ⊥)
        → Then side n (tick_by counted h w) (happens h w)
    unfolding happens played played_leaves settled
    ending-happens side (attaches mover spins) w t m real y n d i = absurd m
    ending-happens side (plays (Turn mover) b o) w t m real y n d i = turned w real side mover b o None m y n d i
    ending-happens side (plays (Failing mover e) b o) w t m real y n d i = turned w real side mover b o (Some e) m y n d i
    ending-happens side (plays (Spurious mover) b o) w t m real y n d i = rw m (called w side (spurious_spec side (party_in w side)).party (spurious-changes side (party_in w side)) i n d)
    ending-happens side (plays (TimeOut mover) b o) w t m real y n d i = rw m (called w side (timeout_spec side (party_in w side)).party (timeout-changes side (party_in w side)) i n d)
    ending-happens side (plays (Push c g l) b o) w t m real y n d i =
        rw m (called w Sender (push_spec (party_in w Sender) c g l).party (push-changes (party_in w Sender) c g l t) (rw m at i) n (rw m at d))
    ending-happens side (plays (Pop c l) b o) w t m real y n d i =
        rw m (called w Recorder (pop_spec (party_in w Recorder) c l).party (pop-changes (party_in w Recorder) c l) (rw m at i) n (rw m at d))
    ending-happens side (plays (Close mover) b o) w t m real y n d i = rw m (called w side (close_spec side (party_in w side)).party (close-changes side (party_in w side)) i n d)
    ending-happens side (plays (Shutdown mover) b o) w t m real y n d i = rw m (called w side (shut_spec side (party_in w side)).party (shut-changes side (party_in w side)) i n d)

    -- the first part of a stretch after which the call has ended; `Keeps` as in T2
    abbrev pub Ended : Side → List Happening → (n : ℕ) → World → Type 0
    Ended side ms n w = (first : List Happening) × ((rest : List Happening) × ((ms ≡ first ++ rest) × ((ticks_by counted first w ≤ n) × ((party_in (run first w) side).step ≡ Rest))))

    module _ (side : Side) (Keeps : List Happening → World → Type 0)
        (on-it-goes : (h : Happening) (hs : List Happening) (w : World) → Typed h → Real P S v on w → Keeps (h ∷ hs) w → Keeps hs (happens h w))
        (rouses : (hs : List Happening) (w : World) (n : ℕ) → Keeps hs w → Ending side n w → Rouses counted side w) where
      pub ending-run : (ms : List Happening) (w : World) → AllTyped ms → AllOwn side ms → Real P S v on w → Keeps ms w → (n : ℕ) → Ending side n w → n ≤ ticks_by counted ms w → Ended side ms n w
      unfolding run
      ending-run [] w t m real y n d l = ([], ([], (refl, (omega arith, (near (last_looks side) (one_more side) (party_in w side).step (room_in P S v on side w.trace)).rested (omega (arith, d.left))))))
      ending-run (h ∷ ms) w t m real y n d l =
          by (party_in w side).step refl (kind (party_in w side).step)
          (λ i.
          let one = ending-happens side h w t.0 m.0 real (rouses (h ∷ ms) w n y d) n d i in
          let more = ending-run ms (happens h w) t.1 m.1 (real-happens P S v on power-ok slot-ok h w t.0 real) (on-it-goes h ms w t.0 real y) (n - tick_by counted h w) one.0
          (omega (arith, one.1)) in
          (h ∷ more.0, (more.1.0, (ap (λ (u : List Happening). h ∷ u) more.1.1.0, (omega (arith, more.1.1.1.0, one.1), more.1.1.1.1)))))
        where
          by : (s : Step) → (party_in w side).step ≡ s → Kind s → (((party_in w side).step ≡ Rest → ⊥) → Ended side (h ∷ ms) n w) → Ended side (h ∷ ms) n w
          by s e rests go = ([], (h ∷ ms, (refl, (omega arith, e))))
          by s e dreams go = go (λ q. let f = sym e ∙ q in let z : ◌≡◌ {A = ℕ} 0 1 = cc in omega arith)
          by s e (acts move) go = go (λ q. moves-off s Rest move refl (sym e ∙ q))

module _ (r : List ℕ) (P S : ℕ) (on : Bool) (v : ℕ) (fresh : Fresh r P S on v) where
  -- by any count, and whatever rouses the party
  ends_by : (counted : Stance → Bool) → Count counted → (side : Side) (Keeps : List Happening → World → Type 0)
      → ((h : Happening) (hs : List Happening) (w : World) → Typed h → Real P S v on w → Keeps (h ∷ hs) w → Keeps hs (happens h w))
      → ((hs : List Happening) (w : World) (n : ℕ) → Keeps hs w → Ending P S v on side n w → Rouses P S v on counted side w)
      → (hs ms : List Happening) (n : ℕ) → AllTyped (hs ++ ms) → Stopped r P S on v side hs → Follow side n (reached r P S on v hs) → AllOwn side ms → Keeps ms (reached r P S on v hs) → stop_turns side n ≤ ticks_by counted ms (reached r P S on v hs) → AtRest r P S on v counted side n hs ms
  ends_by counted count side Keeps goes rouses hs ms n t stop few own y long =
      let w = reached r P S on v hs in
      let typed = typed-parts hs ms t in
      let either = either-most 7 (n + 4 + last_looks side) in
      let start : Ending P S v on side (stop_turns side n) w = record { quiet = quiet-duty (other side) (party_in w (other side)).step stop.0; up = stop.1; left = (near (last_looks side) (one_more side) (party_in w side).step (room_in P S v on side w.trace)).most (stop_turns side n) either.0 (λ m e. omega (arith, few m e, either.1)) } in
      let done = ending-run P S v on (power-fits r P S on v fresh) (slot-fits r P S on v fresh) counted count side Keeps goes rouses ms w typed.1 own (real-reached r P S on v fresh hs typed.0) y (stop_turns side n) start long in
      (done.0, (done.1.0, (done.1.1.0, (done.1.1.1.0, subst (λ (u : World). (party_in u side).step ≡ Rest) (sym (run-parts hs done.0 (opened (created r P S on v)))) done.1.1.1.1))))

  -- document 01's turns: nothing is asked of wakes and bells
  pub ends-ticks : (side : Side) → EndsTicks r P S on v side
  ends-ticks side hs ms n t stop few own long = ends_by moves by-moves side (λ ms w. Unit) (λ h hs w t real y. tt) (λ hs w n y d e. absurd (let z : ◌≡◌ {A = ℕ} 0 1 = cc in omega arith)) hs ms n t stop few own tt long

  -- and those asleep with them
  pub ends : (side : Side) → Ends r P S on v side
  ends side hs ms n t f stop few own long =
      let typed = typed-parts hs ms t in
      let fair = fair-parts side hs ms (opened (created r P S on v)) f in
      ends_by calling by-calling side (λ ms w. AllFair side ms w × Ready P S v on side w)
      (λ h hs w t real y. (y.0.1, ready-happens P S v on (power-fits r P S on v fresh) (slot-fits r P S on v fresh) side h w t y.0.0 real y.1))
      (λ hs w n y d c e. dozes P S v on (rings (other side) on) side (other side) w d.quiet e y.1 (has-cause (room_in P S v on side w.trace) _ (inr d.up)))
      hs ms n t stop few own (fair.1, ready-reached r P S on v fresh side hs typed.0 fair.0) long

  -- and how many spins may follow
  pub spins-within : (side : Side) → SpinsWithin r P S on v side
  spins-within side hs n t e = ((real-reached r P S on v fresh hs t).sides side).seat.spun n e
