-- The turns that are left to a store: the cost falls by one at each.
use mathlib.Core.Path.{◌≡◌, refl}
use Prim.Native.Nat.{ℕ, zero, suc, ◌+◌, ◌*◌, ◌<◌, ◌≤◌}
use native.Mathlib.Omega.{arith}
use lib.Dec.{T}
use Rattle.types.specs.declared.Step.{Step}
use Rattle.types.specs.declared.Step.TheVariants.{Rest, Look, Copy, Publish, Check, Raise, Wake, Gate, Spin, Epoch, Again, GateAgain, Wait, Asleep, LastLook, CloseSet, CloseRaise, CloseWake, ShutSet, ShutRaiseNe, ShutWakeNe, ShutRaiseNf, ShutWakeNf}
use Rattle.rules.specs.Take.{stance_of}
use Rattle.rules.specs.Stretch.{in_call_at, slack}
use Rattle.rules.specs.Phase.{Phase, phase}
use Rattle.rules.proofs.Does.{less, own_after}
use Rattle.rules.proofs.Leads.{Sight, Onward, straight, around, asks, Leads, idles, finds, blocks, gives_up, copies, spills, tells, stores, owes, passes, raises, wakes, enters, stops, finds-spin, spins, reads, finds-again, stays, enters-again, stops-again, returns, ends, dreams, glances, glances-again, times-out, finds-last, finds-none, closes, closes-alone, close-raises, close-wakes, shuts, shut-raises, shut-wakes, shut-raises-again, shut-wakes-again, sleeps as falls-asleep}
use Rattle.rules.proofs.Heard.{room_by}

-- two turns more for the one store that finds the other blocked
abbrev pub extra : ℕ → ℕ
extra zero = 2
extra (suc x) = 0

-- the turns before the next store; x is the other's room
abbrev pub ahead : Step → ℕ → ℕ
ahead Rest x = 2 + extra x
ahead Look x = 2 + extra x
ahead Copy x = 1 + extra x
ahead (Publish l g) x = extra x
ahead (Check l g) x = 3 + extra (less x)
ahead (Raise l g) x = 4 + extra x
ahead (Wake l g) x = 3 + extra x
ahead Gate x = 4 + extra x
ahead (Spin n) x = 2 + extra x
ahead Epoch x = 3 + extra x
ahead (Again e) x = 2 + extra x
ahead (GateAgain e) x = 4 + extra x
ahead (Wait e) x = 3 + extra x
ahead Asleep x = 2 + extra x
ahead (LastLook c) x = 2 + extra x
ahead CloseSet x = 0
ahead CloseRaise x = 0
ahead CloseWake x = 0
ahead (ShutSet c) x = 0
ahead (ShutRaiseNe c) x = 0
ahead (ShutWakeNe c) x = 0
ahead (ShutRaiseNf c f) x = 0
ahead (ShutWakeNf c f) x = 0

-- the turns that are left, with room k
abbrev pub cost : Step → (k x : ℕ) → ℕ
cost s zero x = 0
cost s (suc k) x = 4 * k + 1 + ahead s x

pub extra-le : (x : ℕ) → extra x ≤ 2
extra-le zero = omega arith
extra-le (suc x) = omega arith

ahead-le : (s : Step) (x : ℕ) → extra x ≤ 2 → extra (less x) ≤ 2 → ahead s x ≤ 6
ahead-le Rest x h g = omega arith
ahead-le Look x h g = omega arith
ahead-le Copy x h g = omega arith
ahead-le (Publish l t) x h g = omega arith
ahead-le (Check l t) x h g = omega arith
ahead-le (Raise l t) x h g = omega arith
ahead-le (Wake l t) x h g = omega arith
ahead-le Gate x h g = omega arith
ahead-le (Spin n) x h g = omega arith
ahead-le Epoch x h g = omega arith
ahead-le (Again e) x h g = omega arith
ahead-le (GateAgain e) x h g = omega arith
ahead-le (Wait e) x h g = omega arith
ahead-le Asleep x h g = omega arith
ahead-le (LastLook c) x h g = omega arith
ahead-le CloseSet x h g = omega arith
ahead-le CloseRaise x h g = omega arith
ahead-le CloseWake x h g = omega arith
ahead-le (ShutSet c) x h g = omega arith
ahead-le (ShutRaiseNe c) x h g = omega arith
ahead-le (ShutWakeNe c) x h g = omega arith
ahead-le (ShutRaiseNf c f) x h g = omega arith
ahead-le (ShutWakeNf c f) x h g = omega arith

ahead-most : (s : Step) (x m : ℕ) → 4 + extra x ≤ m → 3 + extra (less x) ≤ m → ahead s x ≤ m
ahead-most Rest x m h g = omega arith
ahead-most Look x m h g = omega arith
ahead-most Copy x m h g = omega arith
ahead-most (Publish l t) x m h g = omega arith
ahead-most (Check l t) x m h g = omega arith
ahead-most (Raise l t) x m h g = omega arith
ahead-most (Wake l t) x m h g = omega arith
ahead-most Gate x m h g = omega arith
ahead-most (Spin n) x m h g = omega arith
ahead-most Epoch x m h g = omega arith
ahead-most (Again e) x m h g = omega arith
ahead-most (GateAgain e) x m h g = omega arith
ahead-most (Wait e) x m h g = omega arith
ahead-most Asleep x m h g = omega arith
ahead-most (LastLook c) x m h g = omega arith
ahead-most CloseSet x m h g = omega arith
ahead-most CloseRaise x m h g = omega arith
ahead-most CloseWake x m h g = omega arith
ahead-most (ShutSet c) x m h g = omega arith
ahead-most (ShutRaiseNe c) x m h g = omega arith
ahead-most (ShutWakeNe c) x m h g = omega arith
ahead-most (ShutRaiseNf c f) x m h g = omega arith
ahead-most (ShutWakeNf c f) x m h g = omega arith

pub ahead-slack : (s : Step) (x : ℕ) → ahead s x ≤ 3 + slack x
ahead-slack s zero = ahead-most s zero 6 (omega arith) (omega arith)
ahead-slack s (suc zero) = ahead-most s 1 5 (omega arith) (omega arith)
ahead-slack s (suc (suc x)) = ahead-most s (suc (suc x)) 4 (omega arith) (omega arith)

pub slack-most : (x : ℕ) → slack x ≤ 3
slack-most zero = omega arith
slack-most (suc zero) = omega arith
slack-most (suc (suc x)) = omega arith

pub cost-slack : (s : Step) (k x : ℕ) → cost s k x ≤ 4 * k + slack x
cost-slack s zero x = omega arith
cost-slack s (suc k) x = omega (arith, ahead-slack s x)

pub cost-le : (s : Step) (k x : ℕ) → cost s k x ≤ 4 * k + 3
cost-le s zero x = omega arith
cost-le s (suc k) x = omega (arith, ahead-le s x (extra-le x) (extra-le (less x)))

pub cost-none : (s : Step) (k x : ℕ) → cost s k x ≤ 0 → k ≡ 0
cost-none s zero x h = refl
cost-none s (suc k) x h = absurd (omega arith)

-- in a push or a pop, or between calls
abbrev pub Calls : Phase → Type 0
Calls ph = T (in_call_at ph)

-- the own room after a turn
abbrev pub own_room : Step → ℕ → ℕ
own_room s k = own_after (stance_of s) k

stored-cost : (l t k x : ℕ) → suc (cost (Check l t) k (suc x)) ≤ cost (Publish l t) (suc k) x
stored-cost l t zero x = omega arith
stored-cost l t (suc k) zero = omega arith
stored-cost l t (suc k) (suc x) = omega arith

alone-cost : (l t k x : ℕ) → suc (cost Rest k (suc x)) ≤ cost (Publish l t) (suc k) x
alone-cost l t zero x = omega arith
alone-cost l t (suc k) x = omega arith

owed-cost : (l t k x : ℕ) → x ≡ 1 → suc (cost (Raise l t) (suc k) x) ≤ cost (Check l t) (suc k) x
owed-cost l t k zero h = absurd (omega arith)
owed-cost l t k (suc zero) h = omega arith
owed-cost l t k (suc (suc x)) h = absurd (omega arith)

passed-cost : (l t k x : ℕ) → (x ≡ 1 → ⊥) → suc (cost Rest (suc k) x) ≤ cost (Check l t) (suc k) x
passed-cost l t k zero h = omega arith
passed-cost l t k (suc zero) h = absurd (h refl)
passed-cost l t k (suc (suc x)) h = omega arith

ahead-on : (n : ℕ) (t : Step) (x : ℕ) → Onward n t → ahead t x ≤ 3 + extra x
ahead-on n t x straight = omega arith
ahead-on n t x (around m) = omega arith

-- with room, a turn of a call takes one off the cost, where a pop's copy fits
pub fall : (g : Sight) (k : ℕ) → 0 < g.room → (s next : Step) → Leads g s next → Calls (phase s) → (s ≡ Rest → ⊥) → (s ≡ Asleep → ⊥) → (s ≡ Copy → next ≡ Rest → ⊥)
    → suc (cost next (own_room s (suc k)) (room_by s g.theirs)) ≤ cost s (suc k) g.theirs
fall g k e s next idles c i j f = absurd (i refl)
fall g k e s next (finds h) c i j f = omega arith
fall g k e s next (blocks h q) c i j f = absurd (omega arith)
fall g k e s next (gives_up h q) c i j f = absurd (omega arith)
fall g k e s next copies c i j f = omega arith
fall g k e s next spills c i j f = absurd (f refl refl)
fall g k e s next (tells {l = l} {t = t} h) c i j f = stored-cost l t k g.theirs
fall g k e s next (stores {l = l} {t = t} h) c i j f = alone-cost l t k g.theirs
fall g k e s next (owes {l = l} {t = t} h) c i j f = owed-cost l t k g.theirs h
fall g k e s next (passes {l = l} {t = t} h) c i j f = passed-cost l t k g.theirs h
fall g k e s next raises c i j f = omega arith
fall g k e s next wakes c i j f = omega arith
fall g k e s next (enters h o) c i j f = omega (arith, ahead-on _ next g.theirs o)
fall g k e s next (finds-spin h) c i j f = omega arith
fall g k e s next (spins h o) c i j f = absurd (omega arith)
fall g k e s next (stops h u) c i j f = omega arith
fall g k e s next reads c i j f = omega arith
fall g k e s next (finds-again h) c i j f = omega arith
fall g k e s next (stays h) c i j f = absurd (omega arith)
fall g k e s next (enters-again h) c i j f = omega arith
fall g k e s next (stops-again h u) c i j f = omega arith
fall g k e s next (falls-asleep h) c i j f = omega arith
fall g k e s next returns c i j f = omega arith
fall g k e s next ends c i j f = omega arith
fall g k e s next dreams c i j f = absurd (j refl)
fall g k e s next (glances h u) c i j f = omega arith
fall g k e s next (glances-again h u) c i j f = omega arith
fall g k e s next times-out c i j f = omega arith
fall g k e s next (finds-last h) c i j f = omega arith
fall g k e s next (finds-none h) c i j f = absurd (omega arith)
fall g k e s next (closes h) c i j f = absurd c
fall g k e s next (closes-alone h) c i j f = absurd c
fall g k e s next close-raises c i j f = absurd c
fall g k e s next close-wakes c i j f = absurd c
fall g k e s next shuts c i j f = absurd c
fall g k e s next shut-raises c i j f = absurd c
fall g k e s next shut-wakes c i j f = absurd c
fall g k e s next shut-raises-again c i j f = absurd c
fall g k e s next shut-wakes-again c i j f = absurd c

-- a turn stays in the call or ends it
pub calls-on : (g : Sight) (s next : Step) → Leads g s next → Calls (phase s) → Calls (phase next)
calls-on g s next idles c = tt
calls-on g s next (finds h) c = tt
calls-on g s next (blocks h q) c = tt
calls-on g s next (gives_up h q) c = tt
calls-on g s next copies c = tt
calls-on g s next spills c = tt
calls-on g s next (tells h) c = tt
calls-on g s next (stores h) c = tt
calls-on g s next (owes h) c = tt
calls-on g s next (passes h) c = tt
calls-on g s next raises c = tt
calls-on g s next wakes c = tt
calls-on g s next (enters h o) c = rw (asks _ _ o) tt
calls-on g s next (finds-spin h) c = tt
calls-on g s next (spins h o) c = rw (asks _ _ o) tt
calls-on g s next (stops h u) c = tt
calls-on g s next reads c = tt
calls-on g s next (finds-again h) c = tt
calls-on g s next (stays h) c = tt
calls-on g s next (enters-again h) c = tt
calls-on g s next (stops-again h u) c = tt
calls-on g s next (falls-asleep h) c = tt
calls-on g s next returns c = tt
calls-on g s next ends c = tt
calls-on g s next dreams c = tt
calls-on g s next (glances h u) c = tt
calls-on g s next (glances-again h u) c = tt
calls-on g s next times-out c = tt
calls-on g s next (finds-last h) c = tt
calls-on g s next (finds-none h) c = tt
calls-on g s next (closes h) c = absurd c
calls-on g s next (closes-alone h) c = tt
calls-on g s next close-raises c = absurd c
calls-on g s next close-wakes c = tt
calls-on g s next shuts c = absurd c
calls-on g s next shut-raises c = absurd c
calls-on g s next shut-wakes c = absurd c
calls-on g s next shut-raises-again c = absurd c
calls-on g s next shut-wakes-again c = tt
