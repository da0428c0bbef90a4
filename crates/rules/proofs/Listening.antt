-- What each side relies on holds along every run that is fair to it.
use mathlib.Core.Path.{◌≡◌, refl, sym, ap, ◌∙◌, subst}
use mathlib.Core.Bool.{Bool, true, false, not, ◌&&◌}
use mathlib.Core.List.{List}
use Prim.Native.Nat.{ℕ, ◌+◌, ◌%◌, ◌^◌, ◌<◌, ◌≤◌}
use native.Mathlib.Omega.{arith}
use native.Mathlib.Nat.{add-zero}
use borrow.Author.Tests.{le-ltb}
use lib.Dec.{ltb}
use Rattle.std.proofs.lemmas.Bool.{not_from_false}
use Rattle.words.specs.Le.{le_at}
use Rattle.words.specs.Wrap.{plus}
use Rattle.words.proofs.Wrapped.{plus-differ}
use Rattle.types.specs.declared.Side.{Side}
use Rattle.types.specs.declared.Side.TheVariants.{Sender, Recorder}
use Rattle.types.specs.declared.Party.{Party}
use Rattle.types.specs.Faults.{Fault}
use Rattle.types.specs.declared.Step.{Step}
use Rattle.types.specs.declared.Step.TheVariants.{Epoch, Wait, Asleep}
use Rattle.types.specs.declared.Access.{Access}
use Rattle.layout.specs.Limits.{power_ok, slot_ok}
use Rattle.layout.specs.Header.{flags_at, bell_at}
use Rattle.rules.specs.Sides.{other, rings, sleep_bell}
use Rattle.rules.specs.Next.{next_at, next_spec}
use Rattle.rules.specs.Access.{buffer_of}
use Rattle.rules.specs.Turn.{error_of, woke_of}
use Rattle.rules.specs.Bench.{wakened}
use Rattle.rules.specs.Run.{Trace, World, party_in, takes, traced, rung_of}
use Rattle.rules.specs.Stretch.{holds_epoch}
use Rattle.rules.specs.Phase.{phase, sleeps}
use Rattle.rules.proofs.Does.{Does, does, nothing, looks, flags, reads as epoch, writes, takes as take-slot, stores as store, raises as ring, closes as close, shuts as shut, waits as wait, wakes as wake}
use Rattle.rules.proofs.Views.{asleep-step}
use Rattle.rules.proofs.After.{flags_by}
use Rattle.rules.proofs.Kept.{flags-are}
use Rattle.rules.proofs.Seats.{moved, roused, roused-elim}
use Rattle.rules.proofs.Leads.{stop_at, stop-barred}
use Rattle.rules.proofs.Taken.{seat-own, seat-other}
use Rattle.rules.proofs.RealTurn.{access-is, next-step, leads-here, after_turn}
use Rattle.rules.proofs.Heard.{duty, Good, risen, rung_by, room_by, wakes_at, sets_none, theirs}
use Rattle.rules.proofs.Own.{waits_on, own, Tries, tries}
use Rattle.rules.proofs.Rings.{owing, pays, holds_on}
use Rattle.rules.proofs.Costs.{own_room}
use Rattle.rules.proofs.Effects.{rung-other, rung-own, room-own-is, room-other-is, flags-still, waits-still}
use Rattle.rules.proofs.Woken.{woken-phase}
use Rattle.rules.proofs.Real.{room_in, Since, Real}

-- heard: the other rings. The waiter, and then the other
module _ (P S v : ℕ) (on : Bool) where
  abbrev pub ReadyAt : (heard : Bool) → (waiter mover : Side) → World → Type 0
  ReadyAt true σ τ w =
      Good (phase (party_in w σ).step) (rung_of σ w.trace) (room_in P S v on σ w.trace) (stop_at σ (le_at 4 w.region flags_at)) (duty τ (party_in w τ).step)
  ReadyAt false σ τ w = Tries (party_in w σ).blocking (phase (party_in w σ).step)

  -- one that holds an epoch: the raises of its bell since, with those that the other can still make, are two and some more
  abbrev pub RungAt : (more : ℕ) → (waiter mover : Side) → World → Type 0
  RungAt more σ τ w =
      holds_epoch (party_in w σ).step ≡ true → rung_of σ w.trace + owing τ (party_in w τ).step (room_in P S v on σ w.trace) ≤ 2 + more

-- equal words are equal counts, where fewer than 2^32 raises lie between
pub unrung : (e b n : ℕ) → n < 2 ^ 32 → b % 2 ^ 32 ≡ plus 32 e n → b ≡ e → n ≡ 0
unfolding plus
unrung e b n l h q =
    let f : plus 32 e n ≡ plus 32 e 0 = sym h ∙ ap (λ (x : ℕ). x % 2 ^ 32) (q ∙ sym (add-zero e)) in
    plus-differ 32 e n 0 (omega arith) (omega arith) f

own-room-still : (s : Step) (k : ℕ) → waits_on s ≡ true → own_room s k ≡ k
own-room-still s k h = by s (next_at s Sender 0) (does Sender 0 s) h
  where
    by : (s : Step) (a : Access) → Does Sender 0 s a → waits_on s ≡ true → own_room s k ≡ k
    by s a (nothing l) h = l.own k
    by s a (looks l) h = l.own k
    by s a (flags l) h = l.own k
    by s a epoch h = refl
    by s a (writes q) h = refl
    by s a (take-slot q) h = refl
    by s a store h = absurd (let z : ◌≡◌ {A = ℕ} 0 1 = cc in omega arith)
    by s a (ring l b) h = l.own k
    by s a close h = refl
    by s a shut h = refl
    by s a wait h = refl
    by s a (wake l b m) h = l.own k

-- one that tries does not sleep
pub never : (b : Bool) → Tries b sleeps → ⊥
never true y = y
never false y = y

-- the epoch's turn counts anew
pub counts-anew : (p : Party) (payload buffer : List ℕ) (t : Trace) (side : Side) → rung_of side (traced (next_at Epoch side p.counter) p payload buffer t) ≡ 0
counts-anew p payload buffer t Sender = refl
counts-anew p payload buffer t Recorder = refl

module _ (P S v : ℕ) (on : Bool) (power-ok : power_ok P ≡ true) (slot-ok : slot_ok S ≡ true) (w : World) (real : Real P S v on w) (side : Side) (payload lent : List ℕ) (fault : Fault)
    (g : takes w side payload lent fault ≡ true) where
  abbrev p : Party
  p = party_in w side

  abbrev q : Party
  q = party_in w (other side)

  abbrev r : List ℕ
  r = w.region

  abbrev t : Trace
  t = w.trace

  abbrev s : Step
  s = p.step

  abbrev after : World
  after = after_turn P S v on power-ok slot-ok w real side payload lent fault g

  abbrev next : Step
  next = next-step P S v on power-ok slot-ok w real side payload lent fault g

  abbrev woken : Party
  woken = wakened (other side) q (woke_of (next_spec p) (error_of fault))

  abbrev a : Access
  a = next_at s side p.counter

  abbrev buffer : List ℕ
  buffer = buffer_of r p.own a p.length lent

  pub mover-is : party_in after side ≡ moved p s next
  unfolding after_turn
  mover-is = seat-own side w.bench (moved p s next) woken

  pub waiter-is : party_in after (other side) ≡ woken
  unfolding after_turn
  waiter-is = seat-other side w.bench (moved p s next) woken

  pub flags-left : le_at 4 after.region flags_at ≡ flags_by a (le_at 4 r flags_at)
  unfolding after_turn
  flags-left = flags-are P S v on r p payload real.fixed a

  pub trace-is : after.trace ≡ traced a p payload buffer t
  unfolding after_turn
  trace-is = refl

  -- the rooms after it; and the flags, where it sets none
  pub room_after : room_in P S v on side after.trace ≡ own_room s (room_in P S v on side t)
  room_after = ap (room_in P S v on side) trace-is ∙ room-own-is p payload buffer t P S v on r real.queue side s (real.sides side).room

  pub other-room-after : room_in P S v on (other side) after.trace ≡ room_by s (room_in P S v on (other side) t)
  other-room-after = ap (room_in P S v on (other side)) trace-is ∙ room-other-is p payload buffer t P S v on r real.queue side s (real.sides side).room

  pub flags-same : sets_none s ≡ true → le_at 4 after.region flags_at ≡ le_at 4 r flags_at
  flags-same u = flags-left ∙ flags-still side p.counter (le_at 4 r flags_at) s u

  -- the other's duty is not changed by a wake
  pub duty-kept : duty (other side) woken.step ≡ duty (other side) q.step
  duty-kept =
      roused-elim (roused (other side) q (woke_of (next_spec p) (error_of fault))) (λ u. duty (other side) u ≡ duty (other side) q.step) refl (λ e. sym (ap (duty (other side)) e))

  -- a turn of one's own
  pub ready-own : (h : Bool) → ((e : ℕ) → s ≡ Wait e → rung_of side t < 2 ^ 32) → ReadyAt P S v on h side (other side) w → ReadyAt P S v on h side (other side) after
  ready-own true timely y =
      rw (mover-is, waiter-is, duty-kept)
      (own _ s next (leads-here P S v on power-ok slot-ok w real side payload lent fault g) (rung_of side t) (duty (other side) q.step)
      (λ e at b. unrung e (le_at 4 r (bell_at (sleep_bell side))) (rung_of side t) (timely e at) (subst (λ (u : Step). Since (phase u) (le_at 4 r (bell_at (sleep_bell side))) (rung_of side t)) at (real.sides side).since) b)
      (rung_of side after.trace) (room_in P S v on side after.trace) (stop_at side (le_at 4 after.region flags_at))
      (λ u. (
        ap (rung_of side) trace-is ∙ rung-own p payload buffer t side s u,
        room_after ∙ own-room-still s _ u,
        ap (stop_at side) (flags-same (waits-still s u)) ∙ sym (stop-barred side (le_at 4 r flags_at)),
      ))
      (rw (stop-barred side (le_at 4 r flags_at)) y))
  ready-own false timely y =
      rw mover-is (tries _ _ refl s next (leads-here P S v on power-ok slot-ok w real side payload lent fault g) y)

  -- a turn of the other's: here `side` moves, and the other waits
  pub ready-other : (h : Bool) → rings side on ≡ h → (wakes_at side s ≡ true → q.step ≡ Asleep → error_of fault ≡ 0) → ReadyAt P S v on h (other side) side w → ReadyAt P S v on h (other side) side after
  ready-other true rung lands y =
      let e : phase woken.step ≡ risen (wakes_at side s && not (ltb 0 (error_of fault))) (phase q.step) =
      ap (λ (x : Access). phase (wakened (other side) q (woke_of x (error_of fault))).step) (access-is P S v on power-ok slot-ok w real side payload lent fault g) ∙ woken-phase side q p.counter (error_of fault) s in
      rw (mover-is, waiter-is, trace-is, e, rung-other p payload buffer t side s, room-other-is p payload buffer t P S v on r real.queue side s (real.sides side).room)
      (theirs side _ s next (leads-here P S v on power-ok slot-ok w real side payload lent fault g) rung (not (ltb 0 (error_of fault))) (phase q.step) (rung_of (other side) t)
      (stop_at (other side) (le_at 4 r flags_at)) (stop_at (other side) (le_at 4 after.region flags_at))
      (λ u. ap (stop_at (other side)) (flags-same u))
      (λ u z. not_from_false (ltb 0 (error_of fault)) (le-ltb 0 (error_of fault) (omega (arith, lands u (asleep-step q.step z)))))
      y)
  ready-other false rung lands y =
      rw (waiter-is, (roused (other side) q (woke_of (next_spec p) (error_of fault))).blocking)
      (roused-elim (roused (other side) q (woke_of (next_spec p) (error_of fault))) (λ u. Tries q.blocking (phase u)) y (λ e. absurd (never q.blocking (subst (λ (u : Step). Tries q.blocking (phase u)) e y))))

  -- the same two turns, and how often a bell is raised
  owing-kept : (k : ℕ) → owing (other side) woken.step k ≡ owing (other side) q.step k
  owing-kept k =
      roused-elim (roused (other side) q (woke_of (next_spec p) (error_of fault))) (λ u. owing (other side) u k ≡ owing (other side) q.step k) refl (λ e. sym (ap (λ (u : Step). owing (other side) u k) e))

  epoch-zero : s ≡ Epoch → rung_of side after.trace ≡ 0
  epoch-zero e = ap (rung_of side) trace-is ∙ rw e (counts-anew p payload buffer t side)

  pub rung-mine : (more : ℕ) → RungAt P S v on more side (other side) w → RungAt P S v on more side (other side) after
  rung-mine more y =
      rw (mover-is, waiter-is, owing-kept)
      (holds_on (other side) _ s next (leads-here P S v on power-ok slot-ok w real side payload lent fault g) q.step (rung_of side t)
      (rung_of side after.trace) (room_in P S v on side after.trace) more epoch-zero
      (λ u. (
        ap (rung_of side) trace-is ∙ rung-own p payload buffer t side s u,
        room_after ∙ own-room-still s _ u,
      ))
      y)

  pub rung-theirs : (more : ℕ) → RungAt P S v on more (other side) side w → RungAt P S v on more (other side) side after
  rung-theirs more y =
      rw (mover-is, waiter-is, trace-is, rung-other p payload buffer t side s, room-other-is p payload buffer t P S v on r real.queue side s (real.sides side).room)
      (roused-elim (roused (other side) q (woke_of (next_spec p) (error_of fault)))
      (λ u. holds_epoch u ≡ true → rung_by side s (rung_of (other side) t) + owing side next (room_by s (room_in P S v on (other side) t)) ≤ 2 + more)
      (λ h. omega (arith, pays side _ s next (leads-here P S v on power-ok slot-ok w real side payload lent fault g) (rung_of (other side) t), y h))
      (λ e h. absurd (let z : ◌≡◌ {A = ℕ} 0 1 = cc in omega arith)))
