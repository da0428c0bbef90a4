-- A turn keeps the rooms and what is in hand, of the party that moves and of the other, and the queue between them.
use mathlib.Core.Path.{◌≡◌, refl, sym, ap, ◌∙◌}
use mathlib.Core.Bool.{Bool, true}
use mathlib.Core.List.{List, [], ◌∷◌, ◌++◌}
use Prim.Native.Nat.{ℕ, ◌+◌, ◌<◌, ◌≤◌}
use native.Mathlib.Omega.{arith}
use lib.Dec.{T}
use lib.ListN.{length, take, get_or-append}
use Rattle.words.specs.Wrap.{plus, next}
use Rattle.types.specs.declared.Side.{Side}
use Rattle.types.specs.declared.Side.TheVariants.{Sender, Recorder}
use Rattle.types.specs.declared.Bell.TheVariants.{NotEmpty, NotFull}
use Rattle.types.specs.declared.Party.{Party}
use Rattle.types.specs.declared.Step.{Step}
use Rattle.types.specs.declared.Step.TheVariants.{Copy, Publish, Raise}
use Rattle.types.specs.declared.Stance.{Stance}
use Rattle.types.specs.declared.Stance.TheVariants.{Resting, Sleeping, Copying, Publishing, Closing, Moving}
use Rattle.types.specs.declared.Access.{Access}
use Rattle.types.specs.declared.Access.TheVariants.{StoreCounter}
use Rattle.layout.specs.Limits.{slot_head_bytes, power_ok, slot_ok, capacity}
use Rattle.rules.specs.Sides.{other}
use Rattle.rules.specs.Take.{stance_of}
use Rattle.rules.specs.Next.{next_at}
use Rattle.rules.specs.Access.{leaves_of}
use Rattle.rules.specs.Run.{Note, Trace, Carried, published, carried, traced}
use Rattle.rules.specs.Phase.{Phase, resting, looking, copying, publishing, telling, asking, armed, poised, waits, sleeps as asleep, glancing, leaving, phase}
use Rattle.rules.proofs.Effects.{room-other-is}
use Rattle.rules.proofs.Does.{other_after, Does, nothing, looks, flags, reads as epoch, writes, takes, stores as store, raises as ring, closes as close, shuts as shut, waits as wait, wakes as wake}
use Rattle.rules.proofs.Leads.{Sight, asks, Leads, idles, finds, blocks, gives_up, copies, spills, tells, stores, owes, passes, raises, wakes, enters, stops, finds-spin, spins, reads, finds-again, stays, enters-again, stops-again, sleeps, returns, ends, dreams, glances, glances-again, times-out, finds-last, finds-none, closes, closes-alone, close-raises, close-wakes, shuts, shut-raises, shut-wakes, shut-raises-again, shut-wakes-again}
use Rattle.rules.proofs.Ring.{holds_kept, written-elsewhere, queue-still, queue-quiet, queue-sent, queue-got}
use Rattle.rules.proofs.Real.{count_of, HasRoom, sizes, room_in, nth, blank, HoldsAt, InHand, Fixed, Queue, has_more, free}

module _ (P S v : ℕ) (on : Bool) where
  pub in-hand-none : (side : Side) (ph : Phase) (r : List ℕ) (t : Trace) → T (free ph) → InHand P S v on side ph r t
  in-hand-none Sender resting r t h = tt
  in-hand-none Sender looking r t h = tt
  in-hand-none Sender copying r t h = tt
  in-hand-none Sender (publishing l g) r t h = absurd h
  in-hand-none Sender (telling l g) r t h = absurd h
  in-hand-none Sender asking r t h = tt
  in-hand-none Sender (armed e) r t h = tt
  in-hand-none Sender (poised e) r t h = tt
  in-hand-none Sender (waits e) r t h = tt
  in-hand-none Sender asleep r t h = tt
  in-hand-none Sender glancing r t h = tt
  in-hand-none Sender leaving r t h = tt
  in-hand-none Recorder resting r t h = tt
  in-hand-none Recorder looking r t h = tt
  in-hand-none Recorder copying r t h = tt
  in-hand-none Recorder (publishing l g) r t h = absurd h
  in-hand-none Recorder (telling l g) r t h = absurd h
  in-hand-none Recorder asking r t h = tt
  in-hand-none Recorder (armed e) r t h = tt
  in-hand-none Recorder (poised e) r t h = tt
  in-hand-none Recorder (waits e) r t h = tt
  in-hand-none Recorder asleep r t h = tt
  in-hand-none Recorder glancing r t h = tt
  in-hand-none Recorder leaving r t h = tt

module _ (P S v : ℕ) (on : Bool) (power-ok : power_ok P ≡ true) (slot-ok : slot_ok S ≡ true) (r : List ℕ) (p : Party) (payload : List ℕ) (fixed : Fixed P S v on r)
    (t : Trace) (buffer : List ℕ) (queue : Queue P S v on r t) where
  abbrev left : Access → List ℕ
  left a = leaves_of r p.own a p.tag payload

  abbrev told : Access → Trace
  told a = traced a p payload buffer t

  -- at a push's copy the payload fits the slot
  abbrev pub Fits : Side → Step → Type 0
  Fits side s = side ≡ Sender → s ≡ Copy → slot_head_bytes + length payload ≤ S

  sender-room : 0 < room_in P S v on Sender t → length t.sent < length t.delivered + capacity P
  sender-room h = omega (arith, queue.below)

  pub queue-kept : (side : Side) (s : Step) (a : Access) → p.step ≡ s → p.own ≡ sizes P S v on side p.own.spins → p.counter ≡ plus 64 v (count_of side t) → Does side p.counter s a
      → Fits side s → HasRoom (phase s) (room_in P S v on side t) → InHand P S v on side (phase s) r t → Queue P S v on (left a) (told a)
  queue-kept side s a at o c (nothing q) f h x = queue-quiet P S v on power-ok slot-ok r p payload fixed t buffer queue a (λ i. tt) refl refl
  queue-kept side s a at o c (looks q) f h x = queue-quiet P S v on power-ok slot-ok r p payload fixed t buffer queue a (λ i. tt) refl refl
  queue-kept side s a at o c (flags q) f h x = queue-quiet P S v on power-ok slot-ok r p payload fixed t buffer queue a (λ i. tt) refl refl
  queue-kept Sender s a at o c epoch f h x = queue-quiet P S v on power-ok slot-ok r p payload fixed t buffer queue a (λ i. tt) refl refl
  queue-kept Recorder s a at o c epoch f h x = queue-quiet P S v on power-ok slot-ok r p payload fixed t buffer queue a (λ i. tt) refl refl
  queue-kept Sender s a at o c (writes q) f h x =
      queue-still P S v on power-ok slot-ok r p payload fixed t buffer queue (left a) (told a) refl refl
      (λ i n k l. holds_kept P S v on power-ok slot-ok r p payload fixed i n a
      (written-elsewhere P S v on power-ok slot-ok r p payload fixed p.counter i (length t.sent) o c l (omega (arith, sender-room h)) (f refl refl)))
  queue-kept Recorder s a at o c (writes q) f h x = absurd (let z : ◌≡◌ {A = ℕ} 0 1 = cc in omega arith)
  queue-kept side s a at o c (takes q) f h x = queue-quiet P S v on power-ok slot-ok r p payload fixed t buffer queue a (λ i. tt) refl refl
  queue-kept Sender s a at o c store f h x = queue-sent P S v on power-ok slot-ok r p payload fixed t buffer queue (next 64 p.counter) (sender-room h) x
  queue-kept Recorder s a at o c (store {l = l} {t = g}) f h x =
      rw (ap carried at) (queue-got P S v on power-ok slot-ok r p payload fixed t buffer queue (next 64 p.counter) (record { length = l; tag = g })
      (ap (λ (u : Step). published Recorder (carried u) t) (sym at)) (omega arith) x.1)
  queue-kept side s a at o c (ring q NotEmpty) f h x = queue-quiet P S v on power-ok slot-ok r p payload fixed t buffer queue a (λ i. tt) refl refl
  queue-kept side s a at o c (ring q NotFull) f h x = queue-quiet P S v on power-ok slot-ok r p payload fixed t buffer queue a (λ i. tt) refl refl
  queue-kept side s a at o c close f h x = queue-quiet P S v on power-ok slot-ok r p payload fixed t buffer queue a (λ i. tt) refl refl
  queue-kept side s a at o c shut f h x = queue-quiet P S v on power-ok slot-ok r p payload fixed t buffer queue a (λ i. tt) refl refl
  queue-kept side s a at o c wait f h x = queue-quiet P S v on power-ok slot-ok r p payload fixed t buffer queue a (λ i. tt) refl refl
  queue-kept side s a at o c (wake q b m) f h x = queue-quiet P S v on power-ok slot-ok r p payload fixed t buffer queue a (λ i. tt) refl refl

  -- the other's room is at least what it was
  pub room-other : (side : Side) (s : Step) (ph : Phase) → HasRoom (phase s) (room_in P S v on side t) → HasRoom ph (room_in P S v on (other side) t)
      → HasRoom ph (room_in P S v on (other side) (told (next_at s side p.counter)))
  room-other side s ph y h = rw (room-other-is p payload buffer t P S v on r queue side s y) (has_more ph _ _ (more (stance_of s) (room_in P S v on (other side) t)) h)
    where
      more : (u : Stance) (k : ℕ) → k ≤ other_after u k
      more Resting k = omega arith
      more Sleeping k = omega arith
      more Copying k = omega arith
      more Publishing k = omega arith
      more Closing k = omega arith
      more Moving k = omega arith

  copy-room : (side : Side) → room_in P S v on side (told (next_at Copy side p.counter)) ≡ room_in P S v on side t
  copy-room Sender = refl
  copy-room Recorder = refl

  pub room-own : (side : Side) (g : Sight) → g.room ≡ room_in P S v on side t → (s next : Step) → Leads g s next → HasRoom (phase s) (room_in P S v on side t)
      → HasRoom (phase next) (room_in P S v on side (told (next_at s side p.counter)))
  room-own side g at s next idles y = tt
  room-own side g at s next (finds h) y = rw (sym at) h
  room-own side g at s next (blocks h q) y = tt
  room-own side g at s next (gives_up h q) y = tt
  room-own side g at s next copies y = rw (copy-room side) y
  room-own side g at s next spills y = tt
  room-own side g at s next (tells h) y = tt
  room-own side g at s next (stores h) y = tt
  room-own side g at s next (owes h) y = tt
  room-own side g at s next (passes h) y = tt
  room-own side g at s next raises y = tt
  room-own side g at s next wakes y = tt
  room-own side g at s next (enters h o) y = rw (asks _ _ o) tt
  room-own side g at s next (finds-spin h) y = rw (sym at) h
  room-own side g at s next (spins h o) y = rw (asks _ _ o) tt
  room-own side g at s next (stops h i) y = tt
  room-own side g at s next reads y = tt
  room-own side g at s next (finds-again h) y = rw (sym at) h
  room-own side g at s next (stays h) y = tt
  room-own side g at s next (enters-again h) y = tt
  room-own side g at s next (stops-again h i) y = tt
  room-own side g at s next (sleeps h) y = tt
  room-own side g at s next returns y = tt
  room-own side g at s next ends y = tt
  room-own side g at s next dreams y = tt
  room-own side g at s next (glances h u) y = tt
  room-own side g at s next (glances-again h u) y = tt
  room-own side g at s next times-out y = tt
  room-own side g at s next (finds-last h) y = rw (sym at) h
  room-own side g at s next (finds-none h) y = tt
  room-own side g at s next (closes h) y = tt
  room-own side g at s next (closes-alone h) y = tt
  room-own side g at s next close-raises y = tt
  room-own side g at s next close-wakes y = tt
  room-own side g at s next shuts y = tt
  room-own side g at s next shut-raises y = tt
  room-own side g at s next shut-wakes y = tt
  room-own side g at s next shut-raises-again y = tt
  room-own side g at s next shut-wakes-again y = tt

  -- what the mover has in hand, but for a copy
  told-hand : (side : Side) (l g : ℕ) → p.step ≡ Publish l g → InHand P S v on side (publishing l g) r t
      → InHand P S v on side (telling l g) (left (StoreCounter side (next 64 p.counter))) (told (StoreCounter side (next 64 p.counter)))
  told-hand Sender l g at y = tt
  told-hand Recorder l g at y = (y.0, (t.delivered, ap (λ (c : Carried). t.delivered ++ (record { tag = c.tag; body = take c.length t.buffer } ∷ [])) (ap carried at)))

  still-hand : (side : Side) (l g : ℕ) (r' : List ℕ) → InHand P S v on side (telling l g) r t → InHand P S v on side (telling l g) r' t
  still-hand Sender l g r' y = tt
  still-hand Recorder l g r' y = y

  rung-hand : (side : Side) (l g : ℕ) (r' : List ℕ) → InHand P S v on side (telling l g) r t → InHand P S v on side (telling l g) r' (told (next_at (Raise l g) side p.counter))
  rung-hand Sender l g r' y = tt
  rung-hand Recorder l g r' y = y

  pub hand-own : (side : Side) (g : Sight) (s next : Step) → p.step ≡ s → (s ≡ Copy → ⊥) → Leads g s next → InHand P S v on side (phase s) r t
      → InHand P S v on side (phase next) (left (next_at s side p.counter)) (told (next_at s side p.counter))
  hand-own side g s next at u idles y = in-hand-none P S v on side (phase next) (left (next_at s side p.counter)) (told (next_at s side p.counter)) tt
  hand-own side g s next at u (finds h) y = in-hand-none P S v on side (phase next) (left (next_at s side p.counter)) (told (next_at s side p.counter)) tt
  hand-own side g s next at u (blocks h q) y = in-hand-none P S v on side (phase next) (left (next_at s side p.counter)) (told (next_at s side p.counter)) tt
  hand-own side g s next at u (gives_up h q) y = in-hand-none P S v on side (phase next) (left (next_at s side p.counter)) (told (next_at s side p.counter)) tt
  hand-own side g s next at u copies y = absurd (u refl)
  hand-own side g s next at u spills y = absurd (u refl)
  hand-own side g s next at u (tells {l = l} {t = i} h) y = told-hand side l i at y
  hand-own side g s next at u (stores h) y = in-hand-none P S v on side (phase next) (left (next_at s side p.counter)) (told (next_at s side p.counter)) tt
  hand-own side g s next at u (owes {l = l} {t = i} h) y = still-hand side l i (left (next_at s side p.counter)) y
  hand-own side g s next at u (passes h) y = in-hand-none P S v on side (phase next) (left (next_at s side p.counter)) (told (next_at s side p.counter)) tt
  hand-own side g s next at u (raises {l = l} {t = i}) y = rung-hand side l i (left (next_at s side p.counter)) y
  hand-own side g s next at u wakes y = in-hand-none P S v on side (phase next) (left (next_at s side p.counter)) (told (next_at s side p.counter)) tt
  hand-own side g s next at u (enters h o) y = in-hand-none P S v on side (phase next) (left (next_at s side p.counter)) (told (next_at s side p.counter)) (rw (asks _ _ o) tt)
  hand-own side g s next at u (finds-spin h) y = in-hand-none P S v on side (phase next) (left (next_at s side p.counter)) (told (next_at s side p.counter)) tt
  hand-own side g s next at u (spins h o) y = in-hand-none P S v on side (phase next) (left (next_at s side p.counter)) (told (next_at s side p.counter)) (rw (asks _ _ o) tt)
  hand-own side g s next at u (stops h i) y = in-hand-none P S v on side (phase next) (left (next_at s side p.counter)) (told (next_at s side p.counter)) tt
  hand-own side g s next at u reads y = in-hand-none P S v on side (phase next) (left (next_at s side p.counter)) (told (next_at s side p.counter)) tt
  hand-own side g s next at u (finds-again h) y = in-hand-none P S v on side (phase next) (left (next_at s side p.counter)) (told (next_at s side p.counter)) tt
  hand-own side g s next at u (stays h) y = in-hand-none P S v on side (phase next) (left (next_at s side p.counter)) (told (next_at s side p.counter)) tt
  hand-own side g s next at u (enters-again h) y = in-hand-none P S v on side (phase next) (left (next_at s side p.counter)) (told (next_at s side p.counter)) tt
  hand-own side g s next at u (stops-again h i) y = in-hand-none P S v on side (phase next) (left (next_at s side p.counter)) (told (next_at s side p.counter)) tt
  hand-own side g s next at u (sleeps h) y = in-hand-none P S v on side (phase next) (left (next_at s side p.counter)) (told (next_at s side p.counter)) tt
  hand-own side g s next at u returns y = in-hand-none P S v on side (phase next) (left (next_at s side p.counter)) (told (next_at s side p.counter)) tt
  hand-own side g s next at u ends y = in-hand-none P S v on side (phase next) (left (next_at s side p.counter)) (told (next_at s side p.counter)) tt
  hand-own side g s next at u dreams y = in-hand-none P S v on side (phase next) (left (next_at s side p.counter)) (told (next_at s side p.counter)) tt
  hand-own side g s next at u (glances h i) y = in-hand-none P S v on side (phase next) (left (next_at s side p.counter)) (told (next_at s side p.counter)) tt
  hand-own side g s next at u (glances-again h i) y = in-hand-none P S v on side (phase next) (left (next_at s side p.counter)) (told (next_at s side p.counter)) tt
  hand-own side g s next at u times-out y = in-hand-none P S v on side (phase next) (left (next_at s side p.counter)) (told (next_at s side p.counter)) tt
  hand-own side g s next at u (finds-last h) y = in-hand-none P S v on side (phase next) (left (next_at s side p.counter)) (told (next_at s side p.counter)) tt
  hand-own side g s next at u (finds-none h) y = in-hand-none P S v on side (phase next) (left (next_at s side p.counter)) (told (next_at s side p.counter)) tt
  hand-own side g s next at u (closes h) y = in-hand-none P S v on side (phase next) (left (next_at s side p.counter)) (told (next_at s side p.counter)) tt
  hand-own side g s next at u (closes-alone h) y = in-hand-none P S v on side (phase next) (left (next_at s side p.counter)) (told (next_at s side p.counter)) tt
  hand-own side g s next at u close-raises y = in-hand-none P S v on side (phase next) (left (next_at s side p.counter)) (told (next_at s side p.counter)) tt
  hand-own side g s next at u close-wakes y = in-hand-none P S v on side (phase next) (left (next_at s side p.counter)) (told (next_at s side p.counter)) tt
  hand-own side g s next at u shuts y = in-hand-none P S v on side (phase next) (left (next_at s side p.counter)) (told (next_at s side p.counter)) tt
  hand-own side g s next at u shut-raises y = in-hand-none P S v on side (phase next) (left (next_at s side p.counter)) (told (next_at s side p.counter)) tt
  hand-own side g s next at u shut-wakes y = in-hand-none P S v on side (phase next) (left (next_at s side p.counter)) (told (next_at s side p.counter)) tt
  hand-own side g s next at u shut-raises-again y = in-hand-none P S v on side (phase next) (left (next_at s side p.counter)) (told (next_at s side p.counter)) tt
  hand-own side g s next at u shut-wakes-again y = in-hand-none P S v on side (phase next) (left (next_at s side p.counter)) (told (next_at s side p.counter)) tt

  -- a sender's turn touches no buffer and takes no note away
  pub record SenderKeeps (u : Trace) : Type 0 where
    pub lent : u.buffer ≡ t.buffer
    pub delivered : u.delivered ≡ t.delivered
    pub sent : (i : ℕ) → i < length t.sent → nth u.sent i ≡ nth t.sent i

  sender-keeps : (s : Step) (a : Access) → Does Sender p.counter s a → SenderKeeps (told a)
  sender-keeps s a (nothing q) = record { lent = refl; delivered = refl; sent = λ i h. refl }
  sender-keeps s a (looks q) = record { lent = refl; delivered = refl; sent = λ i h. refl }
  sender-keeps s a (flags q) = record { lent = refl; delivered = refl; sent = λ i h. refl }
  sender-keeps s a epoch = record { lent = refl; delivered = refl; sent = λ i h. refl }
  sender-keeps s a (writes q) = record { lent = refl; delivered = refl; sent = λ i h. refl }
  sender-keeps s a (takes q) = absurd (let z : ◌≡◌ {A = ℕ} 0 1 = cc in omega arith)
  sender-keeps s a store = record { lent = refl; delivered = refl; sent = λ i h. get_or-append t.sent (t.hand ∷ []) blank i h }
  sender-keeps s a (ring q NotEmpty) = record { lent = refl; delivered = refl; sent = λ i h. refl }
  sender-keeps s a (ring q NotFull) = record { lent = refl; delivered = refl; sent = λ i h. refl }
  sender-keeps s a close = record { lent = refl; delivered = refl; sent = λ i h. refl }
  sender-keeps s a shut = record { lent = refl; delivered = refl; sent = λ i h. refl }
  sender-keeps s a wait = record { lent = refl; delivered = refl; sent = λ i h. refl }
  sender-keeps s a (wake q b m) = record { lent = refl; delivered = refl; sent = λ i h. refl }

  -- a recorder's turn sends nothing and writes no slot
  record RecorderKeeps (a : Access) : Type 0 where
    sent : (told a).sent ≡ t.sent
    hand : (told a).hand ≡ t.hand
    slots : (i : ℕ) (n : Note) → HoldsAt P S v on r i n → HoldsAt P S v on (left a) i n

  recorder-keeps : (s : Step) (a : Access) → Does Recorder p.counter s a → RecorderKeeps a
  recorder-keeps s a (nothing q) = record { sent = refl; hand = refl; slots = λ i n. holds_kept P S v on power-ok slot-ok r p payload fixed i n a tt }
  recorder-keeps s a (looks q) = record { sent = refl; hand = refl; slots = λ i n. holds_kept P S v on power-ok slot-ok r p payload fixed i n a tt }
  recorder-keeps s a (flags q) = record { sent = refl; hand = refl; slots = λ i n. holds_kept P S v on power-ok slot-ok r p payload fixed i n a tt }
  recorder-keeps s a epoch = record { sent = refl; hand = refl; slots = λ i n. holds_kept P S v on power-ok slot-ok r p payload fixed i n a tt }
  recorder-keeps s a (writes q) = absurd (let z : ◌≡◌ {A = ℕ} 0 1 = cc in omega arith)
  recorder-keeps s a (takes q) = record { sent = refl; hand = refl; slots = λ i n. holds_kept P S v on power-ok slot-ok r p payload fixed i n a tt }
  recorder-keeps s a store = record { sent = refl; hand = refl; slots = λ i n. holds_kept P S v on power-ok slot-ok r p payload fixed i n a tt }
  recorder-keeps s a (ring q NotEmpty) = record { sent = refl; hand = refl; slots = λ i n. holds_kept P S v on power-ok slot-ok r p payload fixed i n a tt }
  recorder-keeps s a (ring q NotFull) = record { sent = refl; hand = refl; slots = λ i n. holds_kept P S v on power-ok slot-ok r p payload fixed i n a tt }
  recorder-keeps s a close = record { sent = refl; hand = refl; slots = λ i n. holds_kept P S v on power-ok slot-ok r p payload fixed i n a tt }
  recorder-keeps s a shut = record { sent = refl; hand = refl; slots = λ i n. holds_kept P S v on power-ok slot-ok r p payload fixed i n a tt }
  recorder-keeps s a wait = record { sent = refl; hand = refl; slots = λ i n. holds_kept P S v on power-ok slot-ok r p payload fixed i n a tt }
  recorder-keeps s a (wake q b m) = record { sent = refl; hand = refl; slots = λ i n. holds_kept P S v on power-ok slot-ok r p payload fixed i n a tt }

  recorder-hand : (u : Trace) → SenderKeeps u → (ph : Phase) → HasRoom ph (room_in P S v on Recorder t) → InHand P S v on Recorder ph r t → (r' : List ℕ) → InHand P S v on Recorder ph r' u
  recorder-hand u k resting h y r' = tt
  recorder-hand u k looking h y r' = tt
  recorder-hand u k copying h y r' = tt
  recorder-hand u k (publishing l g) h y r' = rw (k.lent, k.delivered) (y.0, k.sent (length t.delivered) (omega arith) ∙ y.1)
  recorder-hand u k (telling l g) h y r' = rw (k.lent, k.delivered) y
  recorder-hand u k asking h y r' = tt
  recorder-hand u k (armed e) h y r' = tt
  recorder-hand u k (poised e) h y r' = tt
  recorder-hand u k (waits e) h y r' = tt
  recorder-hand u k asleep h y r' = tt
  recorder-hand u k glancing h y r' = tt
  recorder-hand u k leaving h y r' = tt

  sender-hand : (a : Access) → RecorderKeeps a → (ph : Phase) → InHand P S v on Sender ph r t → InHand P S v on Sender ph (left a) (told a)
  sender-hand a k resting y = tt
  sender-hand a k looking y = tt
  sender-hand a k copying y = tt
  sender-hand a k (publishing l g) y = rw (k.sent, k.hand) (k.slots (length t.sent) t.hand y)
  sender-hand a k (telling l g) y = tt
  sender-hand a k asking y = tt
  sender-hand a k (armed e) y = tt
  sender-hand a k (poised e) y = tt
  sender-hand a k (waits e) y = tt
  sender-hand a k asleep y = tt
  sender-hand a k glancing y = tt
  sender-hand a k leaving y = tt

  -- what the other has in hand
  pub hand-other : (side : Side) (s : Step) (a : Access) (ph : Phase) → Does side p.counter s a
      → HasRoom ph (room_in P S v on (other side) t) → InHand P S v on (other side) ph r t → InHand P S v on (other side) ph (left a) (told a)
  hand-other Sender s a ph d h y = recorder-hand (told a) (sender-keeps s a d) ph h y (left a)
  hand-other Recorder s a ph d h y = sender-hand a (recorder-keeps s a d) ph y
