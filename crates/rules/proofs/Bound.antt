-- T2, one happening: what is left to a willing party falls by one at each turn that counts, and never rises.
use mathlib.Core.Path.{◌≡◌, refl, sym, ap, ◌∙◌, subst}
use mathlib.Core.Bool.{Bool, true, false, ◌&&◌}
use mathlib.Core.List.{List}
use Prim.Native.Nat.{ℕ, zero, suc, ◌+◌, ◌<◌, ◌≤◌}
use native.Mathlib.Omega.{arith}
use Rattle.types.specs.Pick.{pick}
use Rattle.types.specs.declared.Side.{Side}
use Rattle.types.specs.declared.Side.TheVariants.{Sender, Recorder}
use Rattle.types.specs.declared.Bell.TheVariants.{NotEmpty, NotFull}
use Rattle.types.specs.declared.Party.{Party}
use Rattle.types.specs.Faults.{Fault}
use Rattle.types.specs.declared.Step.{Step}
use Rattle.types.specs.declared.Step.TheVariants.{Rest, Copy, Publish, Asleep}
use Rattle.types.specs.declared.Stance.{Stance}
use Rattle.types.specs.declared.Stance.TheVariants.{Resting, Sleeping, Copying, Publishing, Closing, Moving}
use Rattle.types.specs.declared.Access.{Access}
use Rattle.layout.specs.Limits.{power_ok, slot_ok}
use Rattle.rules.specs.Sides.{other}
use Rattle.rules.specs.Take.{stance_of, step_after, move_at, move_of}
use Rattle.rules.specs.Next.{next_at, next_spec}
use Rattle.rules.specs.Access.{value_of, buffer_of}
use Rattle.rules.specs.Turn.{error_of}
use Rattle.rules.specs.Run.{Note, Trace, World, party_in, takes, traced}
use Rattle.rules.specs.Stretch.{moves, calling, counts_by, Big, notes_of}
use Rattle.rules.specs.Phase.{phase}
use Rattle.rules.proofs.Views.{Kind, rests, dreams, acts, kind}
use Rattle.rules.proofs.Leads.{Sight, Leads}
use Rattle.rules.proofs.Does.{own_after, Does, does, nothing, looks, flags, reads, writes, takes as read, stores, raises, closes, shuts, waits as wait, wakes}
use Rattle.rules.proofs.Taken.{turn_world, turn-refused}
use Rattle.rules.proofs.RealTurn.{own_is, counter-is, access-is, next-step, leads-here, after_turn, turn-is-after}
use Rattle.rules.proofs.Heard.{none, duty, room_by}
use Rattle.rules.proofs.Costs.{cost, Calls, own_room, fall, calls-on}
use Rattle.rules.proofs.Listening.{duty-kept, mover-is, waiter-is, trace-is, room_after, other-room-after}
use Rattle.rules.proofs.Fits.{no-spill}
use Rattle.rules.proofs.Real.{room_in, HasRoom, Real}

pub moves-off : (s u : Step) → moves (stance_of s) ≡ true → moves (stance_of u) ≡ false → s ≡ u → ⊥
moves-off s u a b e =
    let q : true ≡ false = sym a ∙ ap (λ (x : Step). moves (stance_of x)) e ∙ b in
    let z : ◌≡◌ {A = ℕ} 0 1 = cc in omega arith

pub moves-call : (s : Stance) → moves s ≡ true → calling s ≡ true
moves-call Resting e = e
moves-call Sleeping e = refl
moves-call Copying e = refl
moves-call Publishing e = refl
moves-call Closing e = refl
moves-call Moving e = refl

-- no room stays no room
pub own-room-none : (s : Step) → own_room s 0 ≡ 0
own-room-none s = by (stance_of s)
  where
    by : (u : Stance) → own_after u 0 ≡ 0
    by Resting = refl
    by Sleeping = refl
    by Copying = refl
    by Publishing = refl
    by Closing = refl
    by Moving = refl

cost-zero : (s next : Step) (x : ℕ) → cost next (own_room s 0) x ≡ 0
cost-zero s next x = ap (λ (k : ℕ). cost next k x) (own-room-none s)

-- a way to count turns: document 01's are all counted, and none at rest
pub record Count (counted : Stance → Bool) : Type 0 where
  pub all : (s : Stance) → moves s ≡ true → counted s ≡ true
  pub none-at-rest : counted Resting ≡ false

pub by-moves : Count moves
by-moves = record { all = λ s e. e; none-at-rest = refl }

pub by-calling : Count calling
by-calling = record { all = moves-call; none-at-rest = refl }

-- one turn: by the room, and by whether it counts. Where a sleeper's turns count, one with room does not sleep
pub turn-cost : (counted : Stance → Bool) → Count counted → (g : Sight) (k : ℕ) → (0 < k → 0 < g.room) → (n : ℕ) (s next : Step) → Leads g s next → Kind s → Calls (phase s) → (s ≡ Rest → next ≡ Rest) → (s ≡ Asleep → next ≡ Asleep)
    → (counted Sleeping ≡ true → 0 < k → s ≡ Asleep → ⊥) → (0 < k → s ≡ Copy → next ≡ Rest → ⊥) → cost s k g.theirs ≤ pick (counted (stance_of s)) 1 0 + n → cost next (own_room s k) (room_by s g.theirs) ≤ n
turn-cost counted count g zero u n s next leads kind c i a j f h = omega (arith, cost-zero s next (room_by s g.theirs))
turn-cost counted count g (suc k) u n s next leads rests c i a j f h =
    let l : cost Rest (suc k) g.theirs ≤ 0 + n = rw count.none-at-rest at h in
    rw (i refl) (omega arith)
turn-cost counted count g (suc k) u n s next leads dreams c i a j f h = rw (a refl) (by (counted Sleeping) refl)
  where
    by : (w : Bool) → counted Sleeping ≡ w → cost Asleep (suc k) g.theirs ≤ n
    by true e = absurd (j e (omega arith) refl)
    by false e = let l : cost Asleep (suc k) g.theirs ≤ 0 + n = rw e at h in omega arith
turn-cost counted count g (suc k) u n s next leads (acts move) c i a j f h =
    let l : cost s (suc k) g.theirs ≤ 1 + n = rw (count.all (stance_of s) move) at h in
    omega (arith, fall g k (u (omega arith)) s next leads c (moves-off s Rest move refl) (moves-off s Asleep move refl) (f (omega arith)))

-- a turn changes its own party's notes alone
module _ (p : Party) (payload buffer : List ℕ) (t : Trace) where
  pub notes-kept : (side : Side) (n : ℕ) (s : Step) (a : Access) → Does side n s a → notes_of (other side) (traced a p payload buffer t) ≡ notes_of (other side) t
  notes-kept side n s a (nothing l) = refl
  notes-kept side n s a (looks l) = refl
  notes-kept side n s a (flags l) = refl
  notes-kept Sender n s a reads = refl
  notes-kept Sender n s a (writes e) = refl
  notes-kept Sender n s a (read e) = refl
  notes-kept Sender n s a stores = refl
  notes-kept Sender n s a (raises l NotEmpty) = refl
  notes-kept Sender n s a (raises l NotFull) = refl
  notes-kept side n s a closes = refl
  notes-kept side n s a shuts = refl
  notes-kept side n s a wait = refl
  notes-kept side n s a (wakes l b m) = refl
  notes-kept Recorder n s a reads = refl
  notes-kept Recorder n s a (writes e) = refl
  notes-kept Recorder n s a (read e) = refl
  notes-kept Recorder n s a stores = refl
  notes-kept Recorder n s a (raises l NotEmpty) = refl
  notes-kept Recorder n s a (raises l NotFull) = refl

  -- and its own where it stores its counter alone
  pub notes-own : (side : Side) (n : ℕ) (s : Step) (a : Access) → Does side n s a → ((l g : ℕ) → s ≡ Publish l g → ⊥) → notes_of side (traced a p payload buffer t) ≡ notes_of side t
  notes-own side n s a (nothing l) h = refl
  notes-own side n s a (looks l) h = refl
  notes-own side n s a (flags l) h = refl
  notes-own Sender n s a reads h = refl
  notes-own Sender n s a (writes e) h = refl
  notes-own Sender n s a (read e) h = refl
  notes-own Sender n s a stores h = absurd (h _ _ refl)
  notes-own Sender n s a (raises l NotEmpty) h = refl
  notes-own Sender n s a (raises l NotFull) h = refl
  notes-own side n s a closes h = refl
  notes-own side n s a shuts h = refl
  notes-own side n s a wait h = refl
  notes-own side n s a (wakes l b m) h = refl
  notes-own Recorder n s a reads h = refl
  notes-own Recorder n s a (writes e) h = refl
  notes-own Recorder n s a (read e) h = refl
  notes-own Recorder n s a stores h = absurd (h _ _ refl)
  notes-own Recorder n s a (raises l NotEmpty) h = refl
  notes-own Recorder n s a (raises l NotFull) h = refl

-- a step that is told from a store by any test
pub no_store : (F : Step → Bool) (s : Step) → F s ≡ true → ((l g : ℕ) → F (Publish l g) ≡ false) → (l g : ℕ) → s ≡ Publish l g → ⊥
no_store F s e h l g q =
    let u : true ≡ false = sym e ∙ ap F q ∙ h l g in
    let z : ◌≡◌ {A = ℕ} 0 1 = cc in omega arith

module _ (P S v : ℕ) (on : Bool) where
  -- a stretch under way: the other owes nothing, the party is in a call or between calls, so many turns are left to it at
  -- most, and the other's notes are what they were
  pub record Stint (heed : Bool) (side : Side) (notes : List Note) (n : ℕ) (w : World) : Type 0 where
    pub quiet : heed ≡ true → duty (other side) (party_in w (other side)).step ≡ none
    pub calls : Calls (phase (party_in w side).step)
    pub left : cost (party_in w side).step (room_in P S v on side w.trace) (room_in P S v on (other side) w.trace) ≤ n
    pub same : notes_of (other side) w.trace ≡ notes

  -- where a sleeper's turns count, one with room does not sleep
  abbrev pub Awake : (counted : Stance → Bool) → Side → World → Type 0
  Awake counted side w = counted Sleeping ≡ true → 0 < room_in P S v on side w.trace → (party_in w side).step ≡ Asleep → ⊥

  module _ (power-ok : power_ok P ≡ true) (slot-ok : slot_ok S ≡ true) (w : World) (real : Real P S v on w) (side : Side) (payload lent : List ℕ) (fault : Fault) where
    abbrev p : Party
    p = party_in w side

    abbrev s : Step
    s = p.step

    abbrev t : Trace
    t = w.trace

    abbrev k : ℕ
    k = room_in P S v on side t

    module _ (g : takes w side payload lent fault ≡ true) where
      abbrev next : Step
      next = next-step P S v on power-ok slot-ok w real side payload lent fault g

      abbrev after : World
      after = after_turn P S v on power-ok slot-ok w real side payload lent fault g

      abbrev value : ℕ
      value = value_of w.region p.own (next_spec p)

      pub none_after : room_in P S v on side t ≡ 0 → room_in P S v on side after.trace ≡ 0
      none_after h = room_after P S v on power-ok slot-ok w real side payload lent fault g ∙ ap (own_room s) h ∙ own-room-none s

      pub stays-at-rest : s ≡ Rest → next ≡ Rest
      unfolding move_of
      stays-at-rest e = ap (λ (u : Step). step_after (move_at u p.own p.counter p.blocking p.length value (error_of fault)) u) e

      pub dreams-on : s ≡ Asleep → next ≡ Asleep
      unfolding move_of
      dreams-on e = ap (λ (u : Step). step_after (move_at u p.own p.counter p.blocking p.length value (error_of fault)) u) e

      pub fits-here : Big side w → s ≡ Copy → next ≡ Rest → ⊥
      unfolding move_of
      fits-here big e q =
          no-spill P S v on power-ok slot-ok w real side value (own_is P S v on power-ok slot-ok w real side payload lent fault g) (counter-is P S v on power-ok slot-ok w real side payload lent fault g)
          (ap (value_of w.region p.own) (access-is P S v on power-ok slot-ok w real side payload lent fault g ∙ ap (λ (u : Step). next_at u side p.counter) e))
          (subst (λ (u : Step). HasRoom (phase u) k) e (real.sides side).room) e big
          (sym (ap (λ (u : Step). step_after (move_at u p.own p.counter p.blocking p.length value (error_of fault)) u) e) ∙ q)

      going-taken : (heed : Bool) (counted : Stance → Bool) → Count counted → (notes : List Note) (n : ℕ) → Big side w → Awake counted side w → Stint heed side notes (pick (counted (stance_of s)) 1 0 + n) w → Stint heed side notes n after
      going-taken heed counted count notes n big awake go =
          let leads = leads-here P S v on power-ok slot-ok w real side payload lent fault g in
          let me = mover-is P S v on power-ok slot-ok w real side payload lent fault g in
          let them = waiter-is P S v on power-ok slot-ok w real side payload lent fault g in
          let trail = trace-is P S v on power-ok slot-ok w real side payload lent fault g in
          let buffer = buffer_of w.region p.own (next_at s side p.counter) p.length lent in
          record {
            quiet = λ h. ap (λ (q : Party). duty (other side) q.step) them ∙ duty-kept P S v on power-ok slot-ok w real side payload lent fault g ∙ go.quiet h;
            calls = rw me (calls-on _ s next leads go.calls);
            left = rw (me, room_after P S v on power-ok slot-ok w real side payload lent fault g, other-room-after P S v on power-ok slot-ok w real side payload lent fault g)
                (turn-cost counted count _ k (λ l. l) n s next leads (kind s) go.calls stays-at-rest dreams-on awake (λ h. fits-here big) go.left);
            same = ap (notes_of (other side)) trail ∙ notes-kept p payload buffer t side p.counter s (next_at s side p.counter) (does side p.counter s) ∙ go.same;
          }

    pub going-turned : (heed : Bool) (counted : Stance → Bool) → Count counted → (notes : List Note) (n : ℕ) → Big side w → Awake counted side w → Stint heed side notes (counts_by counted w side payload lent fault + n) w → Stint heed side notes n (turn_world w side payload lent fault)
    going-turned heed counted count notes n big awake go = by (takes w side payload lent fault) refl
      where
        by : (b : Bool) → takes w side payload lent fault ≡ b → Stint heed side notes n (turn_world w side payload lent fault)
        by true g =
            subst (Stint heed side notes n) (sym (turn-is-after P S v on power-ok slot-ok w real side payload lent fault g))
            (going-taken g heed counted count notes n big awake (subst (λ (b : Bool). Stint heed side notes (pick (b && counted (stance_of s)) 1 0 + n) w) g go))
        by false g =
            let e : 0 + n ≡ n = omega arith in
            subst (Stint heed side notes n) (sym (turn-refused w side payload lent fault g))
            (subst (λ (m : ℕ). Stint heed side notes m w) e (subst (λ (b : Bool). Stint heed side notes (pick (b && counted (stance_of s)) 1 0 + n) w) g go))
