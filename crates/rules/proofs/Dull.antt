-- One that may sleep over its room, and the turns that are left to it. Numbers and steps alone.
use mathlib.Core.Path.{◌≡◌, refl}
use mathlib.Core.Bool.{true, false}
use mathlib.Core.Logic.{◌⊎◌, inl, inr}
use Prim.Native.Nat.{ℕ, zero, suc, ◌+◌, ◌*◌, ◌<◌, ◌≤◌}
use native.Mathlib.Omega.{arith}
use Rattle.types.specs.declared.Side.{Side}
use Rattle.types.specs.declared.Side.TheVariants.{Sender}
use Rattle.types.specs.declared.Step.{Step}
use Rattle.types.specs.declared.Step.TheVariants.{Rest, Look, Copy, Publish, Check, Raise, Wake, Gate, Spin, Epoch, Again, GateAgain, Wait, Asleep, LastLook, CloseSet, CloseRaise, CloseWake, ShutSet, ShutRaiseNe, ShutWakeNe, ShutRaiseNf, ShutWakeNf}
use Rattle.rules.specs.Take.{stance_of}
use Rattle.rules.specs.Next.{next_at}
use Rattle.types.specs.declared.Access.{Access}
use Rattle.types.specs.declared.Stance.{Stance}
use Rattle.types.specs.declared.Stance.TheVariants.{Resting, Sleeping, Copying, Publishing, Closing, Moving}
use Rattle.rules.specs.Stretch.{slack}
use Rattle.rules.specs.Both.{Ringing, checking, raising, waking, close-raising, close-waking, shut-raising, shut-waking, shut-raising-ne, shut-waking-ne, shut-raising-nf, shut-waking-nf}
use Rattle.rules.specs.Phase.{Phase, resting, looking, copying, publishing, telling, asking, armed, poised, waits, sleeps, glancing, leaving, phase}
use Rattle.rules.proofs.Leads.{Sight, Leads, enters-again, stops-again, glances-again, returns, ends, times-out, dreams, sleeps as falls-asleep}
use Rattle.rules.proofs.Does.{less, own_after, Does, does, nothing, flags, reads, writes, takes, stores, raises, closes, shuts, wakes, looks as looks-at, waits as waiting-at}
use Rattle.rules.proofs.Heard.{Due, duty, room_by}
use Rattle.rules.proofs.Own.{waits_on}
use Rattle.rules.proofs.Costs.{extra, extra-le, ahead, cost, Calls, own_room}
use Rattle.rules.proofs.Asks.{Asked, stayed, looks, glances as glanced}
use Rattle.rules.proofs.WaitFree.{Bright, to_stores}
use Rattle.rules.proofs.NeverStill.{Dull}

-- nobody is both
pub dull-bright : (ph : Phase) (n : ℕ) → Dull ph n → Bright ph n → ⊥
dull-bright resting n d b = d
dull-bright looking n d b = d
dull-bright copying n d b = d
dull-bright (publishing l t) n d b = d
dull-bright (telling l t) n d b = d
dull-bright asking n d b = d
dull-bright (armed e) n d b = d
dull-bright (poised e) n d b = omega arith
dull-bright (waits e) n d b = omega arith
dull-bright sleeps n d b = b
dull-bright glancing n d b = d
dull-bright leaving n d b = d

-- its steps
pub data Dulls : Step → Type 0 where
  at-gate : {e : ℕ} → Dulls (GateAgain e)
  at-wait : {e : ℕ} → Dulls (Wait e)
  at-sleep : Dulls Asleep

pub dulls : (s : Step) (n : ℕ) → Dull (phase s) n → Dulls s
dulls Rest n d = absurd d
dulls Look n d = absurd d
dulls Copy n d = absurd d
dulls (Publish l t) n d = absurd d
dulls (Check l t) n d = absurd d
dulls (Raise l t) n d = absurd d
dulls (Wake l t) n d = absurd d
dulls Gate n d = absurd d
dulls (Spin i) n d = absurd d
dulls Epoch n d = absurd d
dulls (Again e) n d = absurd d
dulls (GateAgain e) n d = at-gate
dulls (Wait e) n d = at-wait
dulls Asleep n d = at-sleep
dulls (LastLook c) n d = absurd d
dulls CloseSet n d = absurd d
dulls CloseRaise n d = absurd d
dulls CloseWake n d = absurd d
dulls (ShutSet c) n d = absurd d
dulls (ShutRaiseNe c) n d = absurd d
dulls (ShutWakeNe c) n d = absurd d
dulls (ShutRaiseNf c f) n d = absurd d
dulls (ShutWakeNf c f) n d = absurd d

-- at the look at the flags, where two turns are still before it
abbrev pub Poised : Step → Type 0
Poised s = (e : ℕ) × (s ≡ GateAgain e)

-- two turns from its store, and those that a ring takes
abbrev pub Looking : Step → Type 0
Looking s = (x : ℕ) → ahead s x ≡ 2 + extra x

-- where its own turn leaves it: no more at that look, and as dull as before; or two turns from its store
abbrev pub Onto : (s next : Step) → Type 0
Onto s next = (Poised next → ⊥) × (((n : ℕ) → Dull (phase s) n → Dull (phase next) n) ⊎ Looking next)

pub dull-on : (g : Sight) (s next : Step) → Leads g s next → Dulls s → Onto s next
dull-on g s next (enters-again h) at-gate = (λ p. let e = p.1 in let z : ◌≡◌ {A = ℕ} 0 1 = cc in omega arith, inl (λ n d. d))
dull-on g s next (stops-again h u) at-gate = (λ p. let e = p.1 in let z : ◌≡◌ {A = ℕ} 0 1 = cc in omega arith, inr (λ x. refl))
dull-on g s next (glances-again h u) at-gate = (λ p. let e = p.1 in let z : ◌≡◌ {A = ℕ} 0 1 = cc in omega arith, inr (λ x. refl))
dull-on g s next (falls-asleep h) at-wait = (λ p. let e = p.1 in let z : ◌≡◌ {A = ℕ} 0 1 = cc in omega arith, inl (λ n d. tt))
dull-on g s next returns at-wait = (λ p. let e = p.1 in let z : ◌≡◌ {A = ℕ} 0 1 = cc in omega arith, inr (λ x. refl))
dull-on g s next ends at-wait = (λ p. let e = p.1 in let z : ◌≡◌ {A = ℕ} 0 1 = cc in omega arith, inr (λ x. refl))
dull-on g s next times-out at-wait = (λ p. let e = p.1 in let z : ◌≡◌ {A = ℕ} 0 1 = cc in omega arith, inr (λ x. refl))
dull-on g s next dreams at-sleep = (λ p. let e = p.1 in let z : ◌≡◌ {A = ℕ} 0 1 = cc in omega arith, inl (λ n d. tt))
dull-on g s next l d = elim d [ ]

-- and what it asks for
pub asked-dull : (s u : Step) (n : ℕ) → Asked s u → Dull (phase s) n → Bright (phase u) n → Looking u
asked-dull s u n stayed d b x = absurd (dull-bright (phase s) n d b)
asked-dull s u n looks d b x = refl
asked-dull s u n glanced d b x = refl

pub asked-same : (s u : Step) (n : ℕ) → Asked s u → Dull (phase u) n → u ≡ s
asked-same s u n stayed d = refl
asked-same s u n looks d = absurd d
asked-same s u n glanced d = absurd d

pub dull-waits : (s : Step) → Dulls s → waits_on s ≡ true
dull-waits s at-gate = refl
dull-waits s at-wait = refl
dull-waits s at-sleep = refl

-- how far it is from its ring: a push or a pop rings in three turns, and one that has yet to raise in two at least
pub ring-three : (k m : ℕ) (τ : Side) (s : Step) → Ringing k τ s m → Calls (phase s) → m ≤ 3
ring-three k m τ s (checking e) c = omega arith
ring-three k m τ s raising c = omega arith
ring-three k m τ s waking c = omega arith
ring-three k m τ s close-raising c = absurd c
ring-three k m τ s close-waking c = absurd c
ring-three k m τ s shut-raising c = absurd c
ring-three k m τ s shut-waking c = absurd c
ring-three k m τ s shut-raising-ne c = absurd c
ring-three k m τ s shut-waking-ne c = absurd c
ring-three k m τ s shut-raising-nf c = absurd c
ring-three k m τ s shut-waking-nf c = absurd c

pub ring-two : (k j m : ℕ) (τ : Side) (s : Step) → Ringing k τ s m → Due false (duty τ s) j → 2 ≤ m
ring-two k j m τ s (checking e) d = omega arith
ring-two k j m τ s raising d = omega arith
ring-two k j m τ s waking d = absurd d
ring-two k j m τ s close-raising d = omega arith
ring-two k j m τ s close-waking d = absurd d
ring-two k j m τ s shut-raising d = omega arith
ring-two k j m τ s shut-waking d = absurd d
ring-two k j m τ s shut-raising-ne d = omega arith
ring-two k j m τ s shut-waking-ne d = omega arith
ring-two k j m τ s shut-raising-nf d = omega arith
ring-two k j m τ s shut-waking-nf d = absurd d

pub stores-mono : (s : Step) (j k : ℕ) → j ≤ k → to_stores s j ≤ to_stores s k
stores-mono s zero k h = omega arith
stores-mono s (suc j) zero h = absurd (omega arith)
stores-mono s (suc j) (suc k) h = omega arith

-- the laws of T2's cost that are wanted here: more notes cost more, and a slot that the other fills two turns at most
pub cost-more : (s : Step) (j k x : ℕ) → j ≤ k → cost s j x ≤ cost s k x
cost-more s zero k x h = omega arith
cost-more s (suc j) zero x h = absurd (omega arith)
cost-more s (suc j) (suc k) x h = omega arith

pub ahead-filled : (s : Step) (x : ℕ) → ahead s x ≤ ahead s (suc x) + 2
ahead-filled Rest x = omega (arith, extra-le x)
ahead-filled Look x = omega (arith, extra-le x)
ahead-filled Copy x = omega (arith, extra-le x)
ahead-filled (Publish l t) x = omega (arith, extra-le x)
ahead-filled (Check l t) zero = omega arith
ahead-filled (Check l t) (suc x) = omega (arith, extra-le x)
ahead-filled (Raise l t) x = omega (arith, extra-le x)
ahead-filled (Wake l t) x = omega (arith, extra-le x)
ahead-filled Gate x = omega (arith, extra-le x)
ahead-filled (Spin n) x = omega (arith, extra-le x)
ahead-filled Epoch x = omega (arith, extra-le x)
ahead-filled (Again e) x = omega (arith, extra-le x)
ahead-filled (GateAgain e) x = omega (arith, extra-le x)
ahead-filled (Wait e) x = omega (arith, extra-le x)
ahead-filled Asleep x = omega (arith, extra-le x)
ahead-filled (LastLook c) x = omega (arith, extra-le x)
ahead-filled CloseSet x = omega arith
ahead-filled CloseRaise x = omega arith
ahead-filled CloseWake x = omega arith
ahead-filled (ShutSet c) x = omega arith
ahead-filled (ShutRaiseNe c) x = omega arith
ahead-filled (ShutWakeNe c) x = omega arith
ahead-filled (ShutRaiseNf c f) x = omega arith
ahead-filled (ShutWakeNf c f) x = omega arith

pub cost-filled : (s : Step) (k x : ℕ) → cost s k (less x) ≤ cost s k x + 2
cost-filled s zero x = omega arith
cost-filled s (suc k) zero = omega arith
cost-filled s (suc k) (suc x) = omega (arith, ahead-filled s x)

pub cost-some : (s : Step) (k x : ℕ) → 1 ≤ k → 1 ≤ cost s k x
cost-some s zero x h = absurd (omega arith)
cost-some s (suc k) x h = omega arith

-- with a free slot, by where it stands: two turns and the store; three at its wait; four before it
pub cost-at : (s : Step) (k x a : ℕ) → 1 ≤ k → 1 ≤ x → ((y : ℕ) → ahead s y ≡ a + extra y) → cost s k x + 3 ≡ 4 * k + a
cost-at s zero x a h l e = absurd (omega arith)
cost-at s (suc k) zero a h l e = absurd (omega arith)
cost-at s (suc k) (suc x) a h l e = omega (arith, e (suc x))

pub stores_at : (s : Step) (k a : ℕ) → 1 ≤ k → ((y : ℕ) → ahead s y ≡ a + extra y) → to_stores s k + 5 ≡ 6 * k + a
stores_at s zero a h e = absurd (omega arith)
stores_at s (suc k) a h e = omega (arith, e 1)

pub stores_some : (s : Step) (k : ℕ) → 1 ≤ k → 1 ≤ to_stores s k
stores_some s zero h = absurd (omega arith)
stores_some s (suc k) h = omega arith

-- at its store
pub publish-least : (l t k : ℕ) → 6 * k ≤ to_stores (Publish l t) k + 5
publish-least l t zero = omega arith
publish-least l t (suc k) = omega arith

pub publish-cost : (l t k x : ℕ) → x ≡ 0 → 4 * k ≤ cost (Publish l t) k x + 1
publish-cost l t zero x e = omega arith
publish-cost l t (suc k) zero e = omega arith
publish-cost l t (suc k) (suc x) e = absurd (omega arith)

pub slack-two : (x : ℕ) → 1 ≤ x → slack x ≤ 2
slack-two zero h = absurd (omega arith)
slack-two (suc zero) h = omega arith
slack-two (suc (suc x)) h = omega arith

-- the first note into an empty ring leaves the recorder rounds enough, and the first out of a full one the sender
pub sent-leaves : (x x' y t n i k c : ℕ) → 6 * (x + 1) ≤ t + 5 → t ≤ n + i → i ≤ 1 → y ≡ x → x' + 1 ≤ x → k ≤ 2 → c ≤ 4 * y + k → (c + 2 * x' ≤ n) × (4 * y + 2 * x' + 2 ≤ n)
sent-leaves x x' y t n i k c a b d e f g h = (omega arith, omega arith)

pub taken-leaves : (x x' y t n i c : ℕ) → 4 * y ≤ c + 1 → c + 2 * x ≤ n + i → i ≤ 1 → x + 2 ≤ y → x' ≡ x → t ≤ 6 * (x' + 1) → (t ≤ n) × (6 * x' + 6 ≤ n)
taken-leaves x x' y t n i c a b d e f g = (omega arith, omega arith)

-- whoever gives room stores
pub gives-room : (s : Step) → 0 < room_by s 0 → (l : ℕ) × ((t : ℕ) × (s ≡ Publish l t))
gives-room s h = by s (next_at s Sender 0) (does Sender 0 s) h
  where
    by : (s : Step) (a : Access) → Does Sender 0 s a → 0 < room_by s 0 → (l : ℕ) × ((t : ℕ) × (s ≡ Publish l t))
    by s a (nothing l) h = absurd (omega (arith, l.other-room 0))
    by s a (looks-at l) h = absurd (omega (arith, l.other-room 0))
    by s a (flags l) h = absurd (omega (arith, l.other-room 0))
    by s a reads h = absurd (omega arith)
    by s a (writes e) h = absurd (omega arith)
    by s a (takes e) h = absurd (omega arith)
    by s a stores h = (_, (_, refl))
    by s a (raises l b) h = absurd (omega (arith, l.other-room 0))
    by s a closes h = absurd (omega arith)
    by s a shuts h = absurd (omega arith)
    by s a waiting-at h = absurd (omega arith)
    by s a (wakes l b m) h = absurd (omega (arith, l.other-room 0))

-- a turn stores, or it takes no room
pub stores-or : (s : Step) → ((k : ℕ) → own_room s k ≡ k) ⊎ ((k : ℕ) → own_room s k ≡ less k)
stores-or s = by (stance_of s)
  where
    by : (u : Stance) → ((k : ℕ) → own_after u k ≡ k) ⊎ ((k : ℕ) → own_after u k ≡ less k)
    by Resting = inl (λ k. refl)
    by Sleeping = inl (λ k. refl)
    by Copying = inl (λ k. refl)
    by Publishing = inr (λ k. refl)
    by Closing = inl (λ k. refl)
    by Moving = inl (λ k. refl)
