-- T13: a whole night. What is left to each party falls by one in every round.
use mathlib.Core.Path.{◌≡◌, refl, sym, ap, ◌∙◌, subst}
use mathlib.Core.Bool.{Bool, true, false}
use mathlib.Core.List.{List, [], ◌∷◌}
use mathlib.Core.Logic.{◌⊎◌, inl, inr, ⊎_elim}
use Prim.Native.Nat.{ℕ, zero, suc, ◌+◌, ◌*◌, ◌-◌, ◌<◌, ◌≤◌}
use native.Mathlib.Omega.{arith}
use lib.ListN.{length}
use lib.Seq.{take_all}
use Rattle.std.proofs.lemmas.Bool.{cases_lt}
use Rattle.words.specs.Le.{le_at}
use Rattle.types.specs.Pick.{pick}
use Rattle.types.specs.declared.Side.{Side}
use Rattle.types.specs.declared.Side.TheVariants.{Sender, Recorder}
use Rattle.types.specs.declared.Step.{Step}
use Rattle.types.specs.declared.Step.TheVariants.{Rest, Look, Asleep}
use Rattle.layout.specs.Limits.{power_ok, slot_ok, capacity}
use Rattle.layout.specs.Header.{flags_at}
use Rattle.layout.proofs.SizeLaws.{capacity-least}
use Rattle.rules.specs.Sides.{other, rings, same_side}
use Rattle.rules.specs.Take.{stance_of}
use Rattle.rules.specs.Run.{World, Happening, party_in, happens, run, rung_of}
use Rattle.rules.specs.Premises.{AllTyped, Fair, AllFair}
use Rattle.rules.specs.Stretch.{calling, tick_by, Wills}
use Rattle.rules.specs.Claims.{waiting, Fresh, reached}
use Rattle.rules.specs.Both.{done_by, turns_by, WillingAmid, TakesPart, Round, Rounds, played_out, Ringing, checking, raising, waking, close-raising, close-waking, shut-raising, shut-waking, shut-raising-ne, shut-waking-ne, shut-raising-nf, shut-waking-nf, WholeNight}
use Rattle.rules.specs.Phase.{sleeps, phase}
use Rattle.rules.proofs.Views.{kind}
use Rattle.rules.proofs.Leads.{Leads, stop_at}
use Rattle.rules.proofs.Does.{less}
use Rattle.rules.proofs.Heard.{Due, duty, room_by}
use Rattle.rules.proofs.Costs.{extra, ahead, cost, cost-le, cost-slack, Calls, own_room, calls-on}
use Rattle.rules.proofs.Listening.{ReadyAt}
use Rattle.rules.proofs.RealCalls.{Idle}
use Rattle.rules.proofs.Fairly.{Ready, ready-happens, idle-duty}
use Rattle.rules.proofs.RealRun.{power-fits, slot-fits, real-reached, real-happens, real-run, waiting-is}
use Rattle.rules.proofs.Causes.{ready-reached}
use Rattle.rules.proofs.Bound.{own-room-none, moves-call, by-calling, turn-cost}
use Rattle.rules.proofs.Asks.{Asked, asked-calls, asked-cost, in-call}
use Rattle.rules.proofs.Deeds.{Goes, Stays, Deed, deed, goes, stays, count-run}
use Rattle.rules.proofs.WaitFree.{Bright, bright-more, bright-on, rest-stays, sleep-stays, to_stores, stores-most, stride, asked-soon, which, own-most, rung-more}
use Rattle.rules.proofs.BeingRung.{ringing}
use Rattle.rules.proofs.Rousing.{rings-moves, rings-some, nearer-wake}
use Rattle.rules.proofs.NeverStill.{Few, few-deed, few-reached, due-calls, Dull, shine, tries-bright}
use Rattle.rules.proofs.Real.{count_of, room_in, Real}
use Rattle.rules.proofs.Dull.{dull-bright, dulls, dull-on, asked-dull, asked-same, dull-waits, ring-three, ring-two, stores-mono, cost-more, cost-filled, cost-some, cost-at, stores_at, stores_some, publish-least, publish-cost, slack-two, sent-leaves, taken-leaves, gives-room, stores-or, Poised, Looking, Onto, Dulls, at-gate, at-wait, at-sleep}

module _ (P S v : ℕ) (on : Bool) (goal : ℕ) where
  abbrev room : Side → World → ℕ
  room σ w = room_in P S v on σ w.trace

  abbrev step : Side → World → Step
  step σ w = (party_in w σ).step

  abbrev rung : Side → World → ℕ
  rung σ w = rung_of σ w.trace

  -- the notes that are left to a side
  abbrev left : Side → World → ℕ
  left σ w = goal - count_of σ w.trace

  -- how far a side is from its end, in its turns, where it presses on: the sender takes 6 for each note, and its last has yet to be taken; the
  -- recorder takes T2's, and 2 more for each note that is yet to be sent, which may find the ring full
  abbrev far : Side → World → ℕ
  far Sender w = to_stores (step Sender w) (left Sender w + 1)
  far Recorder w = cost (step Recorder w) (left Recorder w) (room Sender w) + 2 * left Sender w

  -- and where it may sleep, apart from the turns to its ring
  abbrev mass : Side → World → ℕ
  mass Sender w = 6 * left Sender w + 6
  mass Recorder w = 4 * left Recorder w + 2 * left Sender w + 2

  -- one that may sleep over its room, and what rings it
  record Dulled (σ τ : Side) (w : World) : Type 0 where
    dull : Dull (phase (step σ w)) (rung σ w)
    k : ℕ
    m : ℕ
    ring : Ringing k τ (step τ w) m
    two : (2 ≤ m) ⊎ (phase (step σ w) ≡ sleeps)
    one : 1 ≤ m
    single : room σ w ≤ 1

  abbrev Shape : (σ τ : Side) → World → Type 0
  Shape σ τ w = Bright (phase (step σ w)) (rung σ w) ⊎ Dulled σ τ w

  shape : (h : Bool) (σ τ : Side) (w : World) → ReadyAt P S v on h σ τ w → Calls (phase (step τ w)) → Few P S v on τ σ w → (k : ℕ) → room σ w ≡ suc k → Shape σ τ w
  shape false σ τ w y c f k e = inl (tries-bright (party_in w σ).blocking (phase (step σ w)) (rung σ w) y)
  shape true σ τ w y c f k e = by (shine (phase (step σ w)) (rung σ w) k (stop_at σ (le_at 4 w.region flags_at)) (duty τ (step τ w)) (rw e at y))
    where
      by : Bright (phase (step σ w)) (rung σ w) ⊎ (Dull (phase (step σ w)) (rung σ w) × (Due true (duty τ (step τ w)) (suc k) × (Due false (duty τ (step τ w)) (suc k) ⊎ (phase (step σ w) ≡ sleeps)))) → Shape σ τ w
      by (inl b) = inl b
      by (inr (d, (due, how))) =
          let g = ringing τ (step τ w) (suc k) due in
          inr record {
            dull = d;
            k = suc k;
            m = g.0;
            ring = g.1;
            two = ⊎_elim (λ q. inl (ring-two _ _ _ τ (step τ w) g.1 q)) (λ q. inr q) how;
            one = (rings-moves _ _ τ (step τ w) g.1).1.1;
            single = omega (arith, (due-calls τ (step τ w) (suc k) 0 due c (λ q. omega (arith, f q))).0);
          }

  -- what is left to a side, in rounds, n at most, with i for a turn of its own yet to come in this one, and j for one of the other's
  record Part (σ τ : Side) (n i j : ℕ) (w : World) : Type 0 where
    near : 0 < room σ w → count_of σ w.trace < goal → Bright (phase (step σ w)) (rung σ w) → far σ w ≤ n + i
    dim : 0 < room σ w → count_of σ w.trace < goal → Dull (phase (step σ w)) (rung σ w) → (k m : ℕ) → Ringing k τ (step τ w) m
        → (mass σ w + m ≤ n + j + 3) × (Poised (step σ w) → mass σ w + m ≤ n + i + 3)

  -- by where a side stands, its own way and its mass, with a slot that is free
  far_at : 2 ≤ capacity P → (σ : Side) (w : World) (a : ℕ) → count_of σ w.trace < goal → room σ w ≤ 1 → ((y : ℕ) → ahead (step σ w) y ≡ a + extra y) → far σ w + 5 ≡ mass σ w + a
  far_at cap Sender w a c l e = omega (arith, stores_at (step Sender w) (left Sender w + 1) a (omega arith) e)
  far_at cap Recorder w a c l e = omega (arith, cost-at (step Recorder w) (left Recorder w) (room Sender w) a (omega arith) (omega arith) e)

  less-some : (k : ℕ) → 1 ≤ k → less k + 1 ≡ k
  less-some zero h = absurd (omega arith)
  less-some (suc k) h = omega arith

  -- a turn of its own takes one off the way of a side that presses on
  own-far : (σ : Side) (h : Happening) (w u : World) (n : ℕ) → Goes P S v on h σ w u → Wills σ h w → Calls (phase (step σ w)) → Bright (phase (step σ w)) (rung σ w) → 0 < room σ w → count_of σ w.trace < goal → count_of σ u.trace < goal
      → far σ w ≤ tick_by calling h w + n → far σ u ≤ n
  own-far Sender h w u n d x c b r l l' f =
      omega (
        arith,
        stores-mono (step Sender u) (left Sender u + 1) (own_room (step Sender w) (left Sender w + 1)) (omega (arith, d.own-count (left Sender w + 1), d.own-count (left Sender w))),
        stride calling by-calling d.sight (left Sender w + 1) (λ a. omega (arith, d.room)) n (rung Sender w) (step Sender w) (step Sender u) d.leads (kind (step Sender w)) c (d.fits x) (λ e a. b) (omega (arith, d.tick calling)),
      )
  own-far Recorder h w u n d x c b r l l' f =
      let some = cost-some (step Recorder w) (left Recorder w) (room Sender w) (omega arith) in
      let t = d.tick calling in
      let most : tick_by calling h w ≤ 1 = omega (arith, one-most (calling (stance_of (step Recorder w)))) in
      let same : left Sender u ≡ left Sender w = ap (λ (k : ℕ). goal - k) d.other-count in
      let turn =
      turn-cost calling by-calling d.sight (left Recorder w) (λ a. omega (arith, d.room)) (n - 2 * left Sender w) (step Recorder w) (step Recorder u) d.leads (kind (step Recorder w)) c
      (λ e. rest-stays d.sight (step Recorder u) (subst (λ (s : Step). Leads d.sight s (step Recorder u)) e d.leads))
      (λ e. sleep-stays d.sight (step Recorder u) (subst (λ (s : Step). Leads d.sight s (step Recorder u)) e d.leads))
      (λ e a q. subst (λ (s : Step). Bright (phase s) (rung Recorder w)) q b) (λ a. d.fits x) (rw d.theirs (omega arith)) in
      omega (
        arith,
        subst (λ (k : ℕ). cost (step Recorder u) (own_room (step Recorder w) (left Recorder w)) k ≤ n - 2 * left Sender w) (ap (room_by (step Recorder w)) d.theirs ∙ sym d.other-room) turn,
        cost-more (step Recorder u) (left Recorder u) (own_room (step Recorder w) (left Recorder w)) (room Sender u) (omega (arith, d.own-count (left Recorder w))),
      )
    where
      one-most : (b : Bool) → pick b 1 0 ≤ 1
      one-most true = omega arith
      one-most false = omega arith

  -- to ask costs nothing
  own-asks : (σ : Side) (h : Happening) (w u : World) → Stays P S v on h σ w u → Asked (step σ w) (step σ u) → far σ u ≤ far σ w
  own-asks Sender h w u d a = rw d.trace (asked-soon (step Sender w) (step Sender u) (left Sender w + 1) a (which (step Sender w) (step Sender u) d.own-step))
  own-asks Recorder h w u d a = rw d.trace (by d.own-step)
    where
      by : (step Recorder u ≡ step Recorder w) ⊎ (((step Recorder w ≡ Rest) ⊎ (step Recorder w ≡ Asleep)) × Idle (step Recorder u))
          → cost (step Recorder u) (left Recorder w) (room Sender w) + 2 * left Sender w ≤ cost (step Recorder w) (left Recorder w) (room Sender w) + 2 * left Sender w
      by (inl e) = rw e (omega arith)
      by (inr e) = omega (arith, asked-cost (step Recorder w) (step Recorder u) (left Recorder w) (room Sender w) a e.0)

  -- a turn of the other's adds nothing: a slot that it fills is a note that it has sent
  their-far : (τ : Side) (h : Happening) (w u : World) → Goes P S v on h τ w u → count_of Sender u.trace ≤ goal → step (other τ) u ≡ step (other τ) w → far (other τ) u ≤ far (other τ) w
  their-far Recorder h w u d top e = rw (e, d.other-count) (omega arith)
  their-far Sender h w u d top e =
      rw e (subst (λ (k : ℕ). cost (step Recorder w) k (room Sender u) + 2 * left Sender u ≤ cost (step Recorder w) (left Recorder w) (room Sender w) + 2 * left Sender w)
      (sym (ap (λ (k : ℕ). goal - k) d.other-count)) (by (stores-or (step Sender w))))
    where
      by : ((k : ℕ) → own_room (step Sender w) k ≡ k) ⊎ ((k : ℕ) → own_room (step Sender w) k ≡ less k)
          → cost (step Recorder w) (left Recorder w) (room Sender u) + 2 * left Sender u ≤ cost (step Recorder w) (left Recorder w) (room Sender w) + 2 * left Sender w
      by (inl f) = rw (d.own-room ∙ f (room Sender w)) (omega (arith, d.own-count 0, f 0))
      by (inr f) =
          let sent : count_of Sender w.trace + 1 ≤ count_of Sender u.trace = omega (arith, d.own-count 1, f 1) in
          rw (d.own-room ∙ f (room Sender w)) (omega (arith, cost-filled (step Recorder w) (left Recorder w) (room Sender w)))

  own-mass : (σ : Side) (h : Happening) (w u : World) → Goes P S v on h σ w u → mass σ u ≤ mass σ w
  own-mass Sender h w u d = omega (arith, d.own-count 0, own-room-none (step Sender w))
  own-mass Recorder h w u d = omega (arith, d.own-count 0, own-room-none (step Recorder w), d.other-count)

  their-mass : (τ : Side) (h : Happening) (w u : World) → Goes P S v on h τ w u → mass (other τ) u ≤ mass (other τ) w
  their-mass Sender h w u d = omega (arith, d.own-count 0, own-room-none (step Sender w), d.other-count)
  their-mass Recorder h w u d = omega (arith, d.other-count)

  -- one that rings gives no room
  rings-room : (k m : ℕ) (τ : Side) (s : Step) → Ringing k τ s m → (j : ℕ) → room_by s j ≡ j
  rings-room k m τ s (checking e) j = refl
  rings-room k m τ s raising j = refl
  rings-room k m τ s waking j = refl
  rings-room k m τ s close-raising j = refl
  rings-room k m τ s close-waking j = refl
  rings-room k m τ s shut-raising j = refl
  rings-room k m τ s shut-waking j = refl
  rings-room k m τ s shut-raising-ne j = refl
  rings-room k m τ s shut-waking-ne j = refl
  rings-room k m τ s shut-raising-nf j = refl
  rings-room k m τ s shut-waking-nf j = refl

  -- a party's own doings
  module _ (cap : 2 ≤ capacity P) (n i j i' : ℕ) (few : j ≤ 1) (h : Happening) (w u : World) (σ : Side) (turn : i ≤ tick_by calling h w + i') (will : Wills σ h w) (x : Part σ (other σ) n i j w)
      (how : 0 < room σ w → Shape σ (other σ) w) where
    module _ (d : Goes P S v on h σ w u) (fair : Fair σ h w) (calls : Calls (phase (step σ w))) (room-left : 0 < room σ u) (short : count_of σ u.trace < goal) where
      room_was : 0 < room σ w
      room_was = omega (arith, d.own-room, own-most (step σ w) (room σ w))

      room-now : room σ u ≤ room σ w
      room-now = omega (arith, d.own-room, own-most (step σ w) (room σ w))

      short-was : count_of σ w.trace < goal
      short-was = omega (arith, d.own-count 0, own-room-none (step σ w))

      bright-then : Bright (phase (step σ w)) (rung σ w) → Bright (phase (step σ u)) (rung σ u)
      bright-then b = bright-on d.sight (omega (arith, d.room, room_was)) (step σ w) (step σ u) d.leads (rung σ w) (rung σ u) (d.unheard fair) d.own-rung b

      rung-then : Dulled σ (other σ) w → rung σ u ≡ rung σ w
      rung-then y = d.own-rung (dull-waits (step σ w) (dulls (step σ w) (rung σ w) y.dull))

      onto : Dulled σ (other σ) w → Onto (step σ w) (step σ u)
      onto y = dull-on d.sight (step σ w) (step σ u) d.leads (dulls (step σ w) (rung σ w) y.dull)

      own-near : Bright (phase (step σ u)) (rung σ u) → far σ u ≤ n + i'
      own-near b = by (how room_was)
        where
          by : Shape σ (other σ) w → far σ u ≤ n + i'
          by (inl c) = own-far σ h w u (n + i') d will calls c room_was short-was short (omega (arith, x.near room_was short-was c))
          by (inr y) = to (onto y).1
            where
              to : ((n : ℕ) → Dull (phase (step σ w)) n → Dull (phase (step σ u)) n) ⊎ Looking (step σ u) → far σ u ≤ n + i'
              to (inl f) = absurd (dull-bright (phase (step σ u)) (rung σ u) (rw (rung-then y) (f (rung σ w) y.dull)) b)
              to (inr e) = omega (arith, far_at cap σ u 2 short (omega (arith, y.single, room-now)) e, own-mass σ h w u d, (x.dim room_was short-was y.dull y.k y.m y.ring).0, y.one)

      own-dim : Dull (phase (step σ u)) (rung σ u) → (k m : ℕ) → Ringing k (other σ) (step (other σ) u) m → (mass σ u + m ≤ n + j + 3) × (Poised (step σ u) → mass σ u + m ≤ n + i' + 3)
      own-dim e k m r = by (how room_was)
        where
          same : (step (other σ) u ≡ step (other σ) w) ⊎ ((step (other σ) w ≡ Asleep) × (step (other σ) u ≡ Look)) → Ringing k (other σ) (step (other σ) w) m
          same (inl q) = rw q at r
          same (inr q) = absurd (rings-some k m (other σ) Look (rw q.1 at r) refl)

          by : Shape σ (other σ) w → (mass σ u + m ≤ n + j + 3) × (Poised (step σ u) → mass σ u + m ≤ n + i' + 3)
          by (inl c) = absurd (dull-bright (phase (step σ u)) (rung σ u) e (bright-then c))
          by (inr y) = (omega (arith, own-mass σ h w u d, (x.dim room_was short-was y.dull k m (same d.woken)).0), λ p. absurd ((onto y).0 p))

    own-goes : Goes P S v on h σ w u → Fair σ h w → Calls (phase (step σ w)) → Part σ (other σ) n i' j u
    own-goes d f c = record { near = λ a b q. own-near d f c a b q; dim = λ a b q k m r. own-dim d f c a b q k m r }

    module _ (d : Stays P S v on h σ w u) where
      asked : Asked (step σ w) (step σ u)
      asked = d.asked will

      same-mass : (σ : Side) → mass σ u ≡ mass σ w
      same-mass Sender = rw d.trace
      same-mass Recorder = rw d.trace

      asks-near : 0 < room σ w → count_of σ w.trace < goal → Bright (phase (step σ u)) (rung σ w) → far σ u ≤ n + i'
      asks-near a b q = by (how a)
        where
          by : Shape σ (other σ) w → far σ u ≤ n + i'
          by (inl c) = omega (arith, x.near a b c, own-asks σ h w u d asked, d.tick calling)
          by (inr y) =
              omega (arith, far_at cap σ u 2 (rw d.trace b) (rw d.trace y.single) (asked-dull (step σ w) (step σ u) (rung σ w) asked y.dull q), same-mass σ, (x.dim a b y.dull y.k y.m y.ring).0, y.one)

      asks-dim : 0 < room σ w → count_of σ w.trace < goal → Dull (phase (step σ u)) (rung σ w) → (k m : ℕ) → Ringing k (other σ) (step (other σ) w) m → (mass σ u + m ≤ n + j + 3) × (Poised (step σ u) → mass σ u + m ≤ n + i' + 3)
      asks-dim a b q k m r =
          let e = asked-same (step σ w) (step σ u) (rung σ w) asked q in
          let z = x.dim a b (rw e at q) k m r in
          (omega (arith, z.0, same-mass σ), λ p. omega (arith, z.1 (rw e at p), d.tick calling, same-mass σ))

      own-stays : Part σ (other σ) n i' j u
      own-stays =
          record {
            near = λ a b q. asks-near (rw d.trace at a) (rw d.trace at b) (rw d.trace at q);
            dim = λ a b q k m r. asks-dim (rw d.trace at a) (rw d.trace at b) (rw d.trace at q) k m (rw d.other_step at r);
          }

  -- the other's doings: here τ moves. `gives` is where it gives room to one without any
  module _ (cap : 2 ≤ capacity P) (n i j j' : ℕ) (few : j ≤ 1) (h : Happening) (w u : World) (τ : Side) (turn : j ≤ tick_by calling h w + j') (x : Part (other τ) τ n i j w)
      (how : (k : ℕ) → room (other τ) w ≡ suc k → Shape (other τ) τ w) where
    abbrev Woken : Type 0
    Woken = (step (other τ) u ≡ step (other τ) w) ⊎ ((step (other τ) w ≡ Asleep) × (step (other τ) u ≡ Look))

    module _ (d : Goes P S v on h τ w u) (top : count_of Sender u.trace ≤ goal) (calls : Calls (phase (step τ u))) (short : count_of (other τ) u.trace < goal)
        (gives : room (other τ) w ≡ 0 → (far (other τ) u ≤ n) × (mass (other τ) u ≤ n)) where
      short-before : count_of (other τ) w.trace < goal
      short-before = rw d.other-count at short

      rung-since : rung (other τ) w ≤ rung (other τ) u
      rung-since = omega (arith, d.other-rung, rung-more τ (step τ w) (rung (other τ) w))

      module _ (k : ℕ) (e : room (other τ) w ≡ suc k) where
        had-room : 0 < room (other τ) w
        had-room = omega arith

        bright-still : Bright (phase (step (other τ) w)) (rung (other τ) w) → Woken → (step (other τ) u ≡ step (other τ) w) × Bright (phase (step (other τ) u)) (rung (other τ) u)
        bright-still c (inl q) = (q, rw q (bright-more (phase (step (other τ) w)) (rung (other τ) w) (rung (other τ) u) rung-since c))
        bright-still c (inr q) = absurd (subst (λ (s : Step). Bright (phase s) (rung (other τ) w)) q.0 c)

        single-still : (y : Dulled (other τ) τ w) → room (other τ) u ≤ 1
        single-still y = omega (arith, y.single, d.other-room, rings-room _ _ τ (step τ w) y.ring (room (other τ) w))

        -- roused, it is three turns off; rung at its wait four, and before it five
        near-after : Bright (phase (step (other τ) u)) (rung (other τ) u) → Shape (other τ) τ w → Woken → far (other τ) u ≤ n + i
        near-after b (inl c) q = omega (arith, their-far τ h w u d top (bright-still c q).0, x.near had-room short-before c)
        near-after b (inr y) (inr q) =
            omega (arith, far_at cap (other τ) u 2 short (single-still y) (subst Looking (sym q.1) (λ z. refl)), their-mass τ h w u d, (x.dim had-room short-before y.dull y.k y.m y.ring).0, y.one)
        near-after b (inr y) (inl q) = by (step (other τ) w) refl (dulls (step (other τ) w) (rung (other τ) w) y.dull) y.two
          where
            bound : (mass (other τ) w + y.m ≤ n + j + 3) × (Poised (step (other τ) w) → mass (other τ) w + y.m ≤ n + i + 3)
            bound = x.dim had-room short-before y.dull y.k y.m y.ring

            by : (s : Step) → step (other τ) w ≡ s → Dulls s → (2 ≤ y.m) ⊎ (phase (step (other τ) w) ≡ sleeps) → far (other τ) u ≤ n + i
            by s at at-gate (inl t) = omega (arith, far_at cap (other τ) u 4 short (single-still y) (λ z. ap (λ (s : Step). ahead s z) (q ∙ at)), their-mass τ h w u d, bound.1 (_, at))
            by s at at-wait (inl t) = omega (arith, far_at cap (other τ) u 3 short (single-still y) (λ z. ap (λ (s : Step). ahead s z) (q ∙ at)), their-mass τ h w u d, bound.0)
            by s at at-sleep t = absurd (subst (λ (s : Step). Bright (phase s) (rung (other τ) u)) (q ∙ at) b)
            by s at at-gate (inr t) = absurd (let f = sym (ap phase at) ∙ t in let z : ◌≡◌ {A = ℕ} 0 1 = cc in omega arith)
            by s at at-wait (inr t) = absurd (let f = sym (ap phase at) ∙ t in let z : ◌≡◌ {A = ℕ} 0 1 = cc in omega arith)

        dim-after : Dull (phase (step (other τ) u)) (rung (other τ) u) → (k m : ℕ) → Ringing k τ (step τ u) m → Shape (other τ) τ w → Woken
            → (mass (other τ) u + m ≤ n + j' + 3) × (Poised (step (other τ) u) → mass (other τ) u + m ≤ n + i + 3)
        dim-after b k m r (inl c) q = absurd (dull-bright (phase (step (other τ) u)) (rung (other τ) u) b (bright-still c q).1)
        dim-after b k m r (inr y) (inr q) = absurd (subst (λ (s : Step). Dull (phase s) (rung (other τ) u)) q.1 b)
        dim-after b k m r (inr y) (inl q) =
            let z = x.dim had-room short-before y.dull y.k y.m y.ring in
            let f = nearer-wake d.sight y.k k y.m m τ (step τ w) (step τ u) y.ring d.leads r in
            let g = their-mass τ h w u d in
            let t : tick_by calling h w ≡ 1 = d.tick calling ∙ ap (λ (b : Bool). pick b 1 0) (moves-call (stance_of (step τ w)) (rings-moves _ _ τ (step τ w) y.ring).0) in
            (omega (arith, z.0), λ p. omega (arith, z.1 (rw q at p)))

      their-near : Bright (phase (step (other τ) u)) (rung (other τ) u) → far (other τ) u ≤ n + i
      their-near b = by (room (other τ) w) refl
        where
          by : (k : ℕ) → room (other τ) w ≡ k → far (other τ) u ≤ n + i
          by zero e = omega (arith, (gives e).0)
          by (suc k) e = near-after k e b (how k e) d.woken

      their-dim : Dull (phase (step (other τ) u)) (rung (other τ) u) → (k m : ℕ) → Ringing k τ (step τ u) m → (mass (other τ) u + m ≤ n + j' + 3) × (Poised (step (other τ) u) → mass (other τ) u + m ≤ n + i + 3)
      their-dim b k m r = by (room (other τ) w) refl
        where
          by : (k : ℕ) → room (other τ) w ≡ k → (mass (other τ) u + m ≤ n + j' + 3) × (Poised (step (other τ) u) → mass (other τ) u + m ≤ n + i + 3)
          by zero e = let three = ring-three k m τ (step τ u) r calls in (omega (arith, (gives e).1), λ p. omega (arith, (gives e).1))
          by (suc i) e = dim-after i e b k m r (how i e) d.woken

    their-goes : Goes P S v on h τ w u → count_of Sender u.trace ≤ goal → Calls (phase (step τ u)) → (count_of (other τ) u.trace < goal → 0 < room (other τ) u → room (other τ) w ≡ 0 → (far (other τ) u ≤ n) × (mass (other τ) u ≤ n)) → Part (other τ) τ n i j' u
    their-goes d t c g = record { near = λ a b q. their-near d t c b (g b a) q; dim = λ a b q k m r. their-dim d t c b (g b a) q k m r }

    same-far : (σ : Side) → u.trace ≡ w.trace → step σ u ≡ step σ w → (far σ u ≡ far σ w) × (mass σ u ≡ mass σ w)
    same-far Sender t e = (rw (t, e), rw t)
    same-far Recorder t e = (rw (t, e), rw t)

    their-stays : Stays P S v on h τ w u → Part (other τ) τ n i j' u
    their-stays d =
        record {
          near = λ a b q. omega (arith, (same-far (other τ) d.trace d.other_step).0, x.near (rw d.trace at a) (rw d.trace at b) (rw (d.trace, d.other_step) at q));
          dim = λ a b q k m r. by (rw d.trace at a) (rw d.trace at b) (rw (d.trace, d.other_step) at q) k m r d.own-step;
        }
      where
        same : mass (other τ) u ≡ mass (other τ) w
        same = (same-far (other τ) d.trace d.other_step).1

        by : 0 < room (other τ) w → count_of (other τ) w.trace < goal → Dull (phase (step (other τ) w)) (rung (other τ) w) → (k m : ℕ) → Ringing k τ (step τ u) m
            → (step τ u ≡ step τ w) ⊎ (((step τ w ≡ Rest) ⊎ (step τ w ≡ Asleep)) × Idle (step τ u)) → (mass (other τ) u + m ≤ n + j' + 3) × (Poised (step (other τ) u) → mass (other τ) u + m ≤ n + i + 3)
        by a b q k m r (inl e) = let z = x.dim a b q k m (rw e at r) in (omega (arith, z.0, d.tick calling, same), λ p. omega (arith, z.1 (rw d.other_step at p), same))
        by a b q k m r (inr e) = absurd (rings-some k m τ (step τ u) r (idle-duty τ (step τ u) e.1))

  part-more : (σ τ : Side) (n i j n' i' j' : ℕ) (w : World) → n + i ≤ n' + i' → n + j ≤ n' + j' → Part σ τ n i j w → Part σ τ n' i' j' w
  part-more σ τ n i j n' i' j' w a b x =
      record { near = λ r c q. omega (arith, x.near r c q); dim = λ r c q k m e. let z = x.dim r c q k m e in (omega (arith, z.0), λ p. omega (arith, z.1 p)) }

  -- with no round left nothing is
  some_left : (σ : Side) (w : World) → count_of σ w.trace < goal → (1 ≤ far σ w) × (6 ≤ mass σ w)
  some_left Sender w c = (omega (arith, stores_some (step Sender w) (left Sender w + 1) (omega arith)), omega arith)
  some_left Recorder w c = (omega (arith, cost-some (step Recorder w) (left Recorder w) (room Sender w) (omega arith)), omega arith)

  part_none : (σ τ : Side) (w : World) → Part σ τ 0 0 0 w → 0 < room σ w → count_of σ w.trace < goal → Shape σ τ w → ⊥
  part_none σ τ w x r c (inl b) = omega (arith, x.near r c b, (some_left σ w c).0)
  part_none σ τ w x r c (inr y) = omega (arith, (x.dim r c y.dull y.k y.m y.ring).0, (some_left σ w c).1)

  -- with rounds enough all is
  part-start : (σ τ : Side) (n : ℕ) (w : World) → far σ w ≤ n → mass σ w ≤ n → Calls (phase (step τ w)) → Part σ τ n 0 0 w
  part-start σ τ n w f l c =
      record { near = λ r s b. omega arith; dim = λ r s b k m e. let three = ring-three k m τ (step τ w) e c in (omega arith, λ p. omega arith) }

  -- what holds throughout
  record Night (w : World) : Type 0 where
    real : Real P S v on w
    ready : (side : Side) → Ready P S v on side w
    few : (side : Side) → Few P S v on side (other side) w
    calls : (side : Side) → Calls (phase (step side w))

  sender-shape : (w : World) → Night w → (k : ℕ) → room Sender w ≡ suc k → Shape Sender Recorder w
  sender-shape w y = shape (rings Recorder on) Sender Recorder w (y.ready Sender) (y.calls Recorder) (y.few Recorder)

  recorder-shape : (w : World) → Night w → (k : ℕ) → room Recorder w ≡ suc k → Shape Recorder Sender w
  recorder-shape w y = shape true Recorder Sender w (y.ready Recorder) (y.calls Sender) (y.few Sender)

  with-room : (σ τ : Side) (w : World) → ((k : ℕ) → room σ w ≡ suc k → Shape σ τ w) → 0 < room σ w → Shape σ τ w
  with-room σ τ w f l = by (room σ w) refl
    where
      by : (k : ℕ) → room σ w ≡ k → Shape σ τ w
      by zero e = absurd (omega arith)
      by (suc k) e = f k e

  -- both parts; s and r for a turn of the sender's and of the recorder's yet to come in this round
  record Both (n s r : ℕ) (w : World) : Type 0 where
    night : Night w
    sender : Part Sender Recorder n s r w
    recorder : Part Recorder Sender n r s w

  module _ (cap : 2 ≤ capacity P) (n : ℕ) (h : Happening) (w u : World) (then : Night u) (top : count_of Sender u.trace ≤ goal) where
    sender-deed : (s s' r : ℕ) → s ≤ 1 → r ≤ 1 → s ≤ tick_by calling h w + s' → Wills Sender h w → Fair Sender h w → Both n s r w → Deed P S v on h Sender w u → Both n s' r u
    sender-deed s s' r a b t x f y (stays d) =
        record {
          night = then;
          sender = own-stays cap n s r s' b h w u Sender t x y.sender (with-room Sender Recorder w (sender-shape w y.night)) d;
          recorder = their-stays cap n r s s' a h w u Sender t y.recorder (recorder-shape w y.night) d;
        }
    sender-deed s s' r a b t x f y (goes d) =
        record {
          night = then;
          sender = own-goes cap n s r s' b h w u Sender t x y.sender (with-room Sender Recorder w (sender-shape w y.night)) d f (y.night.calls Sender);
          recorder = their-goes cap n r s s' a h w u Sender t y.recorder (recorder-shape w y.night) d top (then.calls Sender) gives;
        }
      where
        gives : count_of Recorder u.trace < goal → 0 < room Recorder u → room Recorder w ≡ 0 → (far Recorder u ≤ n) × (mass Recorder u ≤ n)
        gives c p e =
            let g = gives-room (step Sender w) (subst (λ (k : ℕ). 0 < room_by (step Sender w) k) e (subst (λ (k : ℕ). 0 < k) d.other-room p)) in
            let at = g.1.1 in
            let q = y.night.real.queue.below in
            let o = d.other-count in
            let free : room Sender u ≡ less (room Sender w) = d.own-room ∙ ap (λ (z : Step). own_room z (room Sender w)) at in
            let slot = less-some (room Sender w) (omega arith) in
            let sent : count_of Sender w.trace + 1 ≤ count_of Sender u.trace = omega (arith, d.own-count 1, ap (λ (z : Step). own_room z 1) at) in
            let bright : Bright (phase (step Sender w)) (rung Sender w) = rw at tt in
            let enough = subst (λ (z : Step). to_stores z (left Sender w + 1) ≤ n + s) at (y.sender.near (omega arith) (omega arith) bright) in
            let taken : count_of Recorder u.trace ≡ count_of Sender w.trace = omega arith in
            sent-leaves (left Sender w) (left Sender u) (left Recorder u) _ n s _ _ (publish-least g.0 g.1.0 (left Sender w + 1)) enough a (ap (λ (k : ℕ). goal - k) taken) (omega arith)
            (slack-two (room Sender u) (omega arith)) (cost-slack (step Recorder u) (left Recorder u) (room Sender u))

    recorder-deed : (s r r' : ℕ) → s ≤ 1 → r ≤ 1 → r ≤ tick_by calling h w + r' → Wills Recorder h w → Fair Recorder h w → Both n s r w → Deed P S v on h Recorder w u → Both n s r' u
    recorder-deed s r r' a b t x f y (stays d) =
        record {
          night = then;
          sender = their-stays cap n s r r' b h w u Recorder t y.sender (sender-shape w y.night) d;
          recorder = own-stays cap n r s r' a h w u Recorder t x y.recorder (with-room Recorder Sender w (recorder-shape w y.night)) d;
        }
    recorder-deed s r r' a b t x f y (goes d) =
        record {
          night = then;
          sender = their-goes cap n s r r' b h w u Recorder t y.sender (sender-shape w y.night) d top (then.calls Recorder) gives;
          recorder = own-goes cap n r s r' a h w u Recorder t x y.recorder (with-room Recorder Sender w (recorder-shape w y.night)) d f (y.night.calls Recorder);
        }
      where
        gives : count_of Sender u.trace < goal → 0 < room Sender u → room Sender w ≡ 0 → (far Sender u ≤ n) × (mass Sender u ≤ n)
        gives c p e =
            let g = gives-room (step Recorder w) (subst (λ (k : ℕ). 0 < room_by (step Recorder w) k) e (subst (λ (k : ℕ). 0 < k) d.other-room p)) in
            let at = g.1.1 in
            let q = y.night.real.queue.above in
            let o = d.other-count in
            let bright : Bright (phase (step Recorder w)) (rung Recorder w) = rw at tt in
            let enough = subst (λ (z : Step). cost z (left Recorder w) (room Sender w) + 2 * left Sender w ≤ n + r) at (y.recorder.near (omega arith) (omega arith) bright) in
            let full : count_of Sender w.trace ≡ count_of Recorder w.trace + capacity P = omega arith in
            taken-leaves (left Sender w) (left Sender u) (left Recorder w) _ n r _ (publish-cost g.0 g.1.0 (left Recorder w) (room Sender w) e) enough b (omega arith) (ap (λ (k : ℕ). goal - k) o)
            (stores-most (step Sender u) (left Sender u + 1))

    one-deed : (s r : ℕ) → s ≤ 1 → r ≤ 1 → (m : Side) → Deed P S v on h m w u → ((side : Side) → m ≡ side → Wills side h w) → ((side : Side) → Fair side h w) → Both n s r w
        → Both n (s - pick (same_side Sender m) (tick_by calling h w) 0) (r - pick (same_side Recorder m) (tick_by calling h w) 0) u
    one-deed s r a b Sender d x f y = sender-deed s (s - tick_by calling h w) (r - 0) a (omega arith) (omega arith) (x Sender refl) (f Sender) (still s r (r - 0) (omega arith) y) d
      where
        still : (s r r' : ℕ) → r ≡ r' → Both n s r w → Both n s r' w
        still s r r' e y = subst (λ (z : ℕ). Both n s z w) e y
    one-deed s r a b Recorder d x f y = recorder-deed (s - 0) r (r - tick_by calling h w) (omega arith) b (omega arith) (x Recorder refl) (f Recorder) (still s (s - 0) r (omega arith) y) d
      where
        still : (s s' r : ℕ) → s ≡ s' → Both n s r w → Both n s' r w
        still s s' r e y = subst (λ (z : ℕ). Both n z r w) e y

  -- a willing party stays in its pushes and pops
  calls-own : (h : Happening) (w u : World) (m : Side) → Deed P S v on h m w u → Wills m h w → Calls (phase (party_in w m).step) → Calls (phase (party_in u m).step)
  calls-own h w u m (goes d) x c = calls-on d.sight (party_in w m).step (party_in u m).step d.leads c
  calls-own h w u m (stays d) x c = asked-calls (party_in w m).step (party_in u m).step (d.asked x) c

  calls-other : (h : Happening) (w u : World) (m : Side) → Deed P S v on h m w u → Calls (phase (party_in w (other m)).step) → Calls (phase (party_in u (other m)).step)
  calls-other h w u m (stays d) c = rw d.other_step c
  calls-other h w u m (goes d) c = by d.woken
    where
      by : ((party_in u (other m)).step ≡ (party_in w (other m)).step) ⊎ (((party_in w (other m)).step ≡ Asleep) × ((party_in u (other m)).step ≡ Look)) → Calls (phase (party_in u (other m)).step)
      by (inl e) = rw e c
      by (inr e) = rw e.1 tt

  calls-deed : (h : Happening) (w u : World) (side m : Side) → Deed P S v on h m w u → (m ≡ side → Wills side h w) → Calls (phase (party_in w side).step) → Calls (phase (party_in u side).step)
  calls-deed h w u Sender Sender d x c = calls-own h w u Sender d (x refl) c
  calls-deed h w u Sender Recorder d x c = calls-other h w u Recorder d c
  calls-deed h w u Recorder Sender d x c = calls-other h w u Sender d c
  calls-deed h w u Recorder Recorder d x c = calls-own h w u Recorder d (x refl) c

  module _ (power-ok : power_ok P ≡ true) (slot-ok : slot_ok S ≡ true) (cap : 2 ≤ capacity P) where
    -- a stretch, fair to both, in which both are willing
    abbrev Fit : List Happening → World → Type 0
    Fit ms w = AllTyped ms × ((side : Side) → AllFair side ms w × WillingAmid side ms w)

    tail-fits : (h : Happening) (ms : List Happening) (w : World) → Fit (h ∷ ms) w → Fit ms (happens h w)
    tail-fits h ms w f = (f.0.1, λ side. ((f.1 side).0.1, (f.1 side).1.1))

    deed-here : (h : Happening) (ms : List Happening) (w : World) → Fit (h ∷ ms) w → Night w → Deed P S v on h (done_by h) w (happens h w)
    deed-here h ms w f y = deed P S v on power-ok slot-ok h w f.0.0 y.real

    night-next : (h : Happening) (ms : List Happening) (w : World) → Fit (h ∷ ms) w → Night w → Night (happens h w)
    night-next h ms w f y =
        record {
          real = real-happens P S v on power-ok slot-ok h w f.0.0 y.real;
          ready = λ side. ready-happens P S v on power-ok slot-ok side h w f.0.0 (f.1 side).0.0 y.real (y.ready side);
          few = λ side. few-deed P S v on h w (happens h w) side (done_by h) (deed-here h ms w f y) (y.few side);
          calls = λ side. calls-deed h w (happens h w) side (done_by h) (deed-here h ms w f y) (f.1 side).1.0 (y.calls side);
        }

    -- along a round
    through : (n : ℕ) (ms : List Happening) (w : World) → Fit ms w → count_of Sender (run ms w).trace ≤ goal → (s r : ℕ) → s ≤ 1 → r ≤ 1 → s ≤ turns_by calling Sender ms w → r ≤ turns_by calling Recorder ms w → Both n s r w → Both n 0 0 (run ms w)
    unfolding run
    through n [] w f top s r a b p q y =
        record { night = y.night; sender = part-more Sender Recorder n s r n 0 0 w (omega arith) (omega arith) y.sender; recorder = part-more Recorder Sender n r s n 0 0 w (omega arith) (omega arith) y.recorder }
    through n (h ∷ ms) w f top s r a b p q y =
        let next = night-next h ms w f y.night in
        through n ms (happens h w) (tail-fits h ms w f) top (s - pick (same_side Sender (done_by h)) (tick_by calling h w) 0) (r - pick (same_side Recorder (done_by h)) (tick_by calling h w) 0) (omega arith) (omega arith) (omega arith) (omega arith)
        (one-deed cap n h w (happens h w) next (omega (arith, count-run P S v on power-ok slot-ok Sender ms (happens h w) f.0.1 next.real)) s r a b (done_by h) (deed-here h ms w f y.night) (λ side. (f.1 side).1.0) (λ side. (f.1 side).0.0) y)

    -- a round: one fewer
    round : (n : ℕ) (ms : List Happening) (w : World) → Round goal ms w → count_of Sender (run ms w).trace ≤ goal → Both (suc n) 0 0 w → (goal ≤ count_of Recorder w.trace) ⊎ Both n 0 0 (run ms w)
    round n ms w x top y = by (x.1 Sender).1.1 (x.1 Recorder).1.1
      where
        fit : Fit ms w
        fit = (x.0, λ side. ((x.1 side).0, (x.1 side).1.0))

        by : TakesPart goal Sender ms w → TakesPart goal Recorder ms w → (goal ≤ count_of Recorder w.trace) ⊎ Both n 0 0 (run ms w)
        by s (inr r) = inl r.1
        by (inl s) (inl r) =
            inr (through n ms w fit top 1 1 (omega arith) (omega arith) s r
            record { night = y.night; sender = part-more Sender Recorder (suc n) 0 0 n 1 1 w (omega arith) (omega arith) y.sender; recorder = part-more Recorder Sender (suc n) 0 0 n 1 1 w (omega arith) (omega arith) y.recorder })
        by (inr s) (inl r) =
            inr (through n ms w fit top 0 1 (omega arith) (omega arith) (omega arith) r
            record {
              night = y.night;
              sender = record { near = λ a c b. absurd (omega (arith, s.1)); dim = λ a c b k m e. absurd (omega (arith, s.1)) };
              recorder = record {
                near = λ a c b. omega (arith, y.recorder.near a c b);
                dim = λ a c b k m e. absurd (rings-some k m Sender (step Sender w) e (ap (duty Sender) s.0));
              };
            })

    none_left : (w : World) → Both 0 0 0 w → goal ≤ count_of Recorder w.trace
    none_left w y = by (cases_lt (count_of Recorder w.trace) goal)
      where
        short : count_of Recorder w.trace < goal → (k : ℕ) → room Recorder w ≡ k → ⊥
        short c (suc k) e = part_none Recorder Sender w y.recorder (omega arith) c (recorder-shape w y.night k e)
        short c zero e =
            let q = y.night.real.queue.below in
            part_none Sender Recorder w y.sender (omega arith) (omega arith) (with-room Sender Recorder w (sender-shape w y.night) (omega arith))

        by : (count_of Recorder w.trace < goal) ⊎ (goal ≤ count_of Recorder w.trace) → goal ≤ count_of Recorder w.trace
        by (inl c) = absurd (short c (room Recorder w) refl)
        by (inr l) = l

    -- what was published by then is published in the end
    in-the-end : (rounds : List (List Happening)) (w : World) → Real P S v on w → Rounds goal rounds w → Real P S v on (played_out rounds w) × ((side : Side) → count_of side w.trace ≤ count_of side (played_out rounds w).trace)
    in-the-end [] w y r = (y, λ side. omega arith)
    in-the-end (ms ∷ rounds) w y r =
        let z = in-the-end rounds (run ms w) (real-run P S v on power-ok slot-ok ms w r.0.0 y) r.1 in
        (z.0, λ side. omega (arith, count-run P S v on power-ok slot-ok side ms w r.0.0 y, z.1 side))

    all-night : (rounds : List (List Happening)) (w : World) (n : ℕ) → n ≤ length rounds → Rounds goal rounds w → count_of Sender (played_out rounds w).trace ≤ goal → Both n 0 0 w → goal ≤ count_of Recorder (played_out rounds w).trace
    all-night [] w zero l r top y = none_left w y
    all-night [] w (suc n) l r top y = absurd (omega arith)
    all-night (ms ∷ rounds) w zero l r top y = omega (arith, none_left w y, (in-the-end (ms ∷ rounds) w y.night.real r).1 Recorder)
    all-night (ms ∷ rounds) w (suc n) l r top y =
        ⊎_elim (λ z. omega (arith, (in-the-end (ms ∷ rounds) w y.night.real r).1 Recorder)) (all-night rounds (run ms w) n (omega arith) r.1 top)
        (round n ms w r.0 (omega (arith, (in-the-end rounds (run ms w) (real-run P S v on power-ok slot-ok ms w r.0.0 y.night.real) r.1).1 Sender)) y)

module _ (r : List ℕ) (P S : ℕ) (on : Bool) (v : ℕ) (fresh : Fresh r P S on v) where
  pub whole-night : WholeNight r P S on v
  whole-night hs t f c n rounds x top long longer =
      let w = reached r P S on v hs in
      let power-ok = power-fits r P S on v fresh in
      let slot-ok = slot-fits r P S on v fresh in
      let goal = length w.trace.sent + n in
      let cap = capacity-least P power-ok in
      let real = real-reached r P S on v fresh hs t in
      let calls : (side : Side) → Calls (phase (party_in w side).step) = λ side. in-call (party_in w side).step (c side) in
      let below = real.queue.below in
      let note = waiting-is r P S on v fresh hs t in
      let x' : length w.trace.sent + n - length w.trace.sent ≡ n = omega arith in
      let y' : length w.trace.sent + n - length w.trace.delivered ≡ n + waiting w = omega arith in
      let end = in-the-end P S v on goal power-ok slot-ok cap rounds w real x in
      let all =
      all-night P S v on goal power-ok slot-ok cap rounds w (length rounds) (omega arith) x top
      record {
        night = record { real = real; ready = λ side. ready-reached r P S on v fresh side hs t (f side); few = few-reached r P S on v fresh hs t; calls = calls };
        sender = part-start P S v on goal Sender Recorder (length rounds) w (omega (arith, stores-most (party_in w Sender).step (goal - length w.trace.sent + 1))) (omega arith) (calls Recorder);
        recorder = part-start P S v on goal Recorder Sender (length rounds) w (omega (arith, cost-le (party_in w Recorder).step (goal - length w.trace.delivered) (room_in P S v on Sender w.trace))) (omega arith) (calls Sender);
      } in
      (omega (arith, end.0.queue.below), end.0.queue.order ∙ take_all (length (played_out rounds w).trace.delivered) (played_out rounds w).trace.sent (omega arith))
