-- Willing stretches of every length exist.
use lib.Dec.{leb-zero}
use Rattle.std.specs.Prelude.{None}
use mathlib.Core.Path.{◌≡◌, refl, sym, ap, ◌∙◌, subst}
use mathlib.Core.Bool.{Bool, true, false}
use mathlib.Core.List.{List, [], ◌∷◌, ◌++◌}
use mathlib.Core.Logic.{◌⊎◌, inl, inr}
use Prim.Native.Nat.{ℕ, zero, suc, ◌+◌, ◌^◌, ◌<◌, ◌≤◌}
use native.Mathlib.Omega.{arith}
use lib.ListN.{length, length-append}
use lib.Seq.{get_or-append_seam}
use Rattle.types.specs.declared.Side.{Side}
use Rattle.types.specs.declared.Side.TheVariants.{Sender, Recorder}
use Rattle.types.specs.declared.Party.{Party}
use Rattle.types.specs.declared.Event.TheVariants.{Turn, Spurious, Push, Pop}
use Rattle.types.specs.declared.Step.{Step}
use Rattle.types.specs.declared.Step.TheVariants.{Rest, Look, Epoch, Asleep}
use Rattle.layout.specs.Limits.{power_ok, slot_ok, payload_capacity}
use Rattle.layout.specs.Create.{created}
use Rattle.rules.specs.Take.{stance_of}
use Rattle.rules.specs.Next.{next_at}
use Rattle.rules.specs.Access.{buffer_of}
use Rattle.rules.specs.Calls.{sound, ready, at, named, push_spec, pop_spec, spurious_spec}
use Rattle.rules.specs.Bench.{settled, played, played_leaves}
use Rattle.rules.specs.Run.{Note, Trace, World, Happening, plays, party_in, takes, traced, happens, opened, rung_of}
use Rattle.rules.specs.Premises.{Typed, AllTyped, Fair, AllFair}
use Rattle.rules.specs.Stretch.{moves, tick_by, ticks, Wills, Willing, before_copy, holds_epoch}
use Rattle.rules.specs.Claims.{Fresh, reached, Lasts}
use Rattle.rules.specs.Phase.{phase}
use Rattle.rules.proofs.Leads.{Leads}
use Rattle.rules.proofs.Does.{does}
use Rattle.rules.proofs.Seats.{moved}
use Rattle.rules.proofs.RealTurn.{next-step, sight, leads-here, after_turn, turn-is-after, real-turned}
use Rattle.rules.proofs.RealCalls.{seat-one}
use Rattle.rules.proofs.RealRun.{power-fits, slot-fits, real-reached, real-happens}
use Rattle.rules.proofs.Own.{waits_on}
use Rattle.rules.proofs.Costs.{Calls, calls-on}
use Rattle.rules.proofs.Effects.{rung-own}
use Rattle.rules.proofs.Listening.{mover-is, trace-is, counts-anew}
use Rattle.rules.proofs.Views.{Kind, rests, dreams as asleep, acts, kind}
use Rattle.rules.proofs.Bound.{notes-kept, notes-own, no_store}
use Rattle.rules.proofs.Asks.{in-call, typed-both, fair-both}
use Rattle.rules.proofs.Sized.{blank_of, Sized, sized-turn, sized-happens, sized-run, sized-start, sound-here, takes-here}
use Rattle.rules.proofs.Real.{nth, blank, Real}
use Rattle.reached.proofs.Lasts.{BigFine, EpochFine, before_on, big-turn, both-notes, epoch-on, fair-turn, stays_open, under-way}

module _ (P S v : ℕ) (on : Bool) (power-ok : power_ok P ≡ true) (slot-ok : slot_ok S ≡ true) where
  record Able (side : Side) (w : World) : Type 0 where
    real : Real P S v on w
    sized : Sized w
    here : (party_in w side).own.attached ≡ true
    open-still : (party_in w side).closed ≡ false
    calls : Calls (phase (party_in w side).step)
    epoch-fine : EpochFine side w
    big-fine : BigFine side w

  -- one happening of a willing stretch, with its count
  record One (side : Side) (n : ℕ) (w : World) (h : Happening) : Type 0 where
    typed : Typed h
    fair : Fair side h w
    wills : Wills side h w
    count : tick_by moves h w ≡ n
    able : Able side (happens h w)

  module _ (side : Side) (w : World) (a : Able side w) where
    abbrev p : Party
    p = party_in w side

    abbrev s : Step
    s = p.step

    abbrev lent : List ℕ
    lent = blank_of p.length

    g : takes w side lent lent None ≡ true
    g = takes-here P S v on power-ok slot-ok w a.real a.sized side a.here

    abbrev next : Step
    next = next-step P S v on power-ok slot-ok w a.real side lent lent None g

    abbrev after : World
    after = after_turn P S v on power-ok slot-ok w a.real side lent lent None g

    abbrev buffer : List ℕ
    buffer = buffer_of w.region p.own (next_at s side p.counter) p.length lent

    abbrev told : Trace
    told = traced (next_at s side p.counter) p lent buffer w.trace

    me : party_in after side ≡ moved p s next
    me = mover-is P S v on power-ok slot-ok w a.real side lent lent None g

    trail : after.trace ≡ told
    trail = trace-is P S v on power-ok slot-ok w a.real side lent lent None g

    leads : Leads (sight P S v on power-ok slot-ok w a.real side lent lent None g) s next
    leads = leads-here P S v on power-ok slot-ok w a.real side lent lent None g

    epoch-after : EpochFine side after
    epoch-after e = by (epoch-on _ s next leads (rw me at e))
      where
        by : (s ≡ Epoch) ⊎ ((waits_on s ≡ true) × (holds_epoch s ≡ true)) → rung_of side after.trace < 2 ^ 32
        by (inl q) =
            let z : rung_of side told ≡ 0 = ap (λ (u : Step). rung_of side (traced (next_at u side p.counter) p lent buffer w.trace)) q ∙ counts-anew p lent buffer w.trace side in
            rw (trail, z) (omega arith)
        by (inr q) = rw (trail, rung-own p lent buffer w.trace side s q.0) (a.epoch-fine q.1)

    big-after : BigFine side after
    big-after r e n rest q =
        let b : before_copy s ≡ true = before_on _ s next leads (rw me at e) in
        let d = does side p.counter s in
        let same = both-notes side w.trace told (notes-own p lent buffer w.trace side p.counter s (next_at s side p.counter) d (no_store before_copy s b (λ l g. refl))) (notes-kept p lent buffer w.trace side p.counter s (next_at s side p.counter) d) in
        rw me (a.big-fine r b n rest (rw (trail, same.0, same.1) at q))

    able-after : Able side after
    able-after =
        record {
          real = subst (Real P S v on) (turn-is-after P S v on power-ok slot-ok w a.real side lent lent None g) (real-turned P S v on power-ok slot-ok w a.real side lent lent None);
          sized = subst Sized (turn-is-after P S v on power-ok slot-ok w a.real side lent lent None g) (sized-turn w side lent lent None a.sized);
          here = ap (λ (q : Party). q.own.attached) me ∙ a.here;
          open-still = ap (λ (q : Party). q.closed) me ∙ stays_open s a.calls p.closed ∙ a.open-still;
          calls = rw me (calls-on _ s next leads a.calls);
          epoch-fine = epoch-after;
          big-fine = big-after;
        }

    -- a turn counts, unless the party rests or sleeps
    turn-now : moves (stance_of s) ≡ true → One side 1 w (plays (Turn side) lent lent)
    unfolding happens played played_leaves settled
    turn-now move =
        record {
          typed = tt;
          fair = λ h. fair-turn side w a.epoch-fine;
          wills = (refl, big-turn side w a.big-fine);
          count = rw (g, move);
          able = subst (Able side) (sym (turn-is-after P S v on power-ok slot-ok w a.real side lent lent None g)) able-after;
        }

    is-sound : sound side p ≡ true
    is-sound = sound-here P S v on power-ok slot-ok w a.real a.sized side a.here

    is-ready : s ≡ Rest → ready side p ≡ true
    unfolding ready
    is-ready e = rw (is-sound, e)

    wake-party : s ≡ Asleep → party_in (happens (plays (Spurious side) [] []) w) side ≡ at Look p
    unfolding happens played played_leaves settled spurious_spec
    wake-party e =
        let q : (spurious_spec side p).party ≡ at Look p = rw (is-sound, e) in
        seat-one side w.bench (spurious_spec side p).party ∙ q

    -- a sleeper may return by itself
    wake-now : s ≡ Asleep → One side 0 w (plays (Spurious side) [] [])
    unfolding happens played played_leaves settled
    wake-now e =
        let seat-is = wake-party e in
        record {
          typed = tt;
          fair = tt;
          wills = refl;
          count = refl;
          able =
              record {
                real = real-happens P S v on power-ok slot-ok (plays (Spurious side) [] []) w tt a.real;
                sized = sized-happens (plays (Spurious side) [] []) w a.sized;
                here = ap (λ (x : Party). x.own.attached) seat-is ∙ a.here;
                open-still = ap (λ (x : Party). x.closed) seat-is ∙ a.open-still;
                calls = rw seat-is tt;
                epoch-fine = λ h. absurd (let u : false ≡ true = sym (ap (λ (x : Party). holds_epoch x.step) seat-is) ∙ h in let z : ◌≡◌ {A = ℕ} 0 1 = cc in omega arith);
                big-fine = λ r b n rest k. rw seat-is (a.big-fine r (ap before_copy e) n rest k);
              };
        }

  -- what a willing party asks for next: a note of no bytes, or one of any length
  abbrev asked : Side → ℕ
  asked Sender = 0
  asked Recorder = payload_capacity S

  abbrev ask : Side → Happening
  ask Sender = plays (Push false 0 0) [] []
  ask Recorder = plays (Pop false (payload_capacity S)) [] []

  -- a note that waits fits its slot
  body-most : (w : World) → Real P S v on w → (n : Note) (rest : List Note) → w.trace.sent ≡ w.trace.delivered ++ (n ∷ rest) → length n.body ≤ payload_capacity S
  body-most w real n rest q =
      let l : length w.trace.sent ≡ length w.trace.delivered + suc (length rest) = ap length q ∙ length-append w.trace.delivered (n ∷ rest) in
      let e : nth w.trace.sent (length w.trace.delivered) ≡ n = ap (λ (x : List Note). nth x (length w.trace.delivered)) q ∙ get_or-append_seam w.trace.delivered n rest blank in
      rw e at (real.queue.ring (length w.trace.delivered) (omega arith) (omega arith)).body-fits

  ask-party : (side : Side) (w : World) → Able side w → (party_in w side).step ≡ Rest → party_in (happens (ask side) w) side ≡ named false 0 (asked side) (party_in w side)
  unfolding happens played played_leaves settled push_spec pop_spec
  ask-party Sender w a e = rw (is-ready Sender w a e, a.open-still, leb-zero (payload_capacity (party_in w Sender).own.slot))
  ask-party Recorder w a e = rw (is-ready Recorder w a e, a.open-still)

  ask-trace : (side : Side) (w : World) → (happens (ask side) w).trace ≡ w.trace
  unfolding happens
  ask-trace Sender w = refl
  ask-trace Recorder w = refl

  ask-typed : (side : Side) → Typed (ask side)
  ask-typed Sender = omega arith
  ask-typed Recorder = tt

  ask-fair : (side : Side) (w : World) → Fair side (ask side) w
  ask-fair Sender w = tt
  ask-fair Recorder w = tt

  ask-wills : (side : Side) (w : World) → Wills side (ask side) w
  ask-wills Sender w = refl
  ask-wills Recorder w = refl

  ask-count : (side : Side) (w : World) → tick_by moves (ask side) w ≡ 0
  ask-count Sender w = refl
  ask-count Recorder w = refl

  asked-most : (side : Side) → side ≡ Recorder → asked side ≡ payload_capacity S
  asked-most side e = ap asked e

  ask-now : (side : Side) (w : World) → Able side w → (party_in w side).step ≡ Rest → One side 0 w (ask side)
  ask-now side w a e =
      let party-is = ask-party side w a e in
      let u = happens (ask side) w in
      record {
        typed = ask-typed side;
        fair = ask-fair side w;
        wills = ask-wills side w;
        count = ask-count side w;
        able =
            record {
              real = real-happens P S v on power-ok slot-ok (ask side) w (ask-typed side) a.real;
              sized = sized-happens (ask side) w a.sized;
              here = ap (λ (x : Party). x.own.attached) party-is ∙ a.here;
              open-still = ap (λ (x : Party). x.closed) party-is ∙ a.open-still;
              calls = rw party-is tt;
              epoch-fine = λ h. absurd (let z : false ≡ true = sym (ap (λ (x : Party). holds_epoch x.step) party-is) ∙ h in let y : ◌≡◌ {A = ℕ} 0 1 = cc in omega arith);
              big-fine = λ r b n rest k. rw (party-is, asked-most side r) (body-most w a.real n rest (rw (ask-trace side w) at k));
            };
      }

  -- so many turns, whatever the state
  record Stretch (side : Side) (n : ℕ) (w : World) : Type 0 where
    ms : List Happening
    typed : AllTyped ms
    fair : AllFair side ms w
    will : Willing side ms w
    count : n ≤ ticks ms w

  longer : (side : Side) (w : World) (n m : ℕ) (h : Happening) → One side m w h → Stretch side n (happens h w) → Stretch side (m + n) w
  longer side w n m h one more =
      record {
        ms = h ∷ more.ms;
        typed = (one.typed, more.typed);
        fair = (one.fair, more.fair);
        will = (one.wills, more.will);
        count = omega (arith, one.count, more.count);
      }

  -- from a step that turns count at, and from any other in two
  abbrev Goes : Side → ℕ → Type 0
  Goes side n = (w : World) → Able side w → Stretch side n w

  one_more : (side : Side) (n : ℕ) → Goes side n → (w : World) (a : Able side w) → moves (stance_of (party_in w side).step) ≡ true → Stretch side (suc n) w
  one_more side n go w a move =
      let one = turn-now side w a move in
      let e : 1 + n ≡ suc n = omega arith in
      subst (λ (m : ℕ). Stretch side m w) e (longer side w n 1 _ one (go _ one.able))

  two-more : (side : Side) (n : ℕ) → Goes side n → (w : World) (h : Happening) → One side 0 w h → moves (stance_of (party_in (happens h w) side).step) ≡ true → Stretch side (suc n) w
  two-more side n go w h one move =
      let e : 0 + suc n ≡ suc n = omega arith in
      subst (λ (m : ℕ). Stretch side m w) e (longer side w (suc n) 0 h one (one_more side n go (happens h w) one.able move))

  goes : (side : Side) (n : ℕ) → Goes side n
  goes side zero w a = record { ms = []; typed = tt; fair = tt; will = tt; count = omega arith }
  goes side (suc n) w a = by (party_in w side).step refl (kind (party_in w side).step) (goes side n)
    where
      by : (s : Step) → (party_in w side).step ≡ s → Kind s → Goes side n → Stretch side (suc n) w
      by s e rests go = two-more side n go w (ask side) (ask-now side w a e) (ap (λ (x : Party). moves (stance_of x.step)) (ask-party side w a e))
      by s e asleep go = two-more side n go w (plays (Spurious side) [] []) (wake-now side w a e) (ap (λ (x : Party). moves (stance_of x.step)) (wake-party side w a e))
      by s e (acts move) go = one_more side n go w a (ap (λ (x : Step). moves (stance_of x)) e ∙ move)

module _ (r : List ℕ) (P S : ℕ) (on : Bool) (v : ℕ) (fresh : Fresh r P S on v) where
  pub lasts : (side : Side) → Lasts r P S on v side
  lasts side hs t f quiet call here unclosed under n =
      let w = reached r P S on v hs in
      let fine = under-way side w under in
      let able : Able P S v on (power-fits r P S on v fresh) (slot-fits r P S on v fresh) side w =
      record {
        real = real-reached r P S on v fresh hs t;
        sized = sized-run hs (opened (created r P S on v)) (sized-start (created r P S on v));
        here = here;
        open-still = unclosed;
        calls = in-call (party_in w side).step call;
        epoch-fine = fine.0;
        big-fine = fine.1;
      } in
      let found = goes P S v on (power-fits r P S on v fresh) (slot-fits r P S on v fresh) side n w able in
      (found.ms, (((typed-both hs found.ms t found.typed, (quiet, (call, found.will))), fair-both side hs found.ms (opened (created r P S on v)) f found.fair), found.count))
