-- The turns that are left to a call's end where a flag is up.
use mathlib.Core.Path.{◌≡◌, refl, sym, ap, ◌∙◌}
use mathlib.Core.Bool.{Bool, true, false}
use Prim.Native.Nat.{ℕ, zero, suc, ◌+◌, ◌<◌, ◌≤◌}
use native.Mathlib.Omega.{arith}
use Rattle.types.specs.declared.Step.{Step}
use Rattle.types.specs.declared.Step.TheVariants.{Rest, Look, Copy, Publish, Check, Raise, Wake, Gate, Spin, Epoch, Again, GateAgain, Wait, Asleep, LastLook, CloseSet, CloseRaise, CloseWake, ShutSet, ShutRaiseNe, ShutWakeNe, ShutRaiseNf, ShutWakeNf}
use Rattle.rules.specs.Phase.{Phase, resting, looking, copying, publishing, telling, asking, armed, poised, waits, sleeps, glancing, leaving, phase}
use Rattle.rules.proofs.Leads.{Sight, Onward, straight, around, asks, last_at, barred, Leads, idles, finds, blocks, gives_up, copies, spills, tells, stores, owes, passes, raises, wakes, enters, stops, finds-spin, spins, reads, finds-again, stays, enters-again, stops-again, returns, ends, dreams, glances, glances-again, times-out, finds-last, finds-none, closes, closes-alone, close-raises, close-wakes, shuts, shut-raises, shut-wakes, shut-raises-again, shut-wakes-again, sleeps as falls-asleep}
use Rattle.rules.proofs.Does.{less, under, less_one}
use Rattle.rules.proofs.Costs.{own_room}

-- a look that finds room copies and goes on to a store; one that finds none comes to the flags, and to a last look at most
abbrev pub by_room : ℕ → (none some : ℕ) → ℕ
by_room zero none some = none
by_room (suc k) none some = some

-- the turns that are left to a call, where each look at the flags is its last; l of them are a last look after it, k is its room
abbrev pub to_rest : (l : ℕ) → Step → (k : ℕ) → ℕ
to_rest l Rest k = 0
to_rest l Look k = by_room k (2 + l) 6
to_rest l Copy k = 5
to_rest l (Publish u g) k = 4
to_rest l (Check u g) k = 3
to_rest l (Raise u g) k = 2
to_rest l (Wake u g) k = 1
to_rest l Gate k = by_room k (1 + l) 7
to_rest l (Spin n) k = by_room k (n + 4 + l) 6
to_rest l Epoch k = by_room k (3 + l) 7
to_rest l (Again e) k = by_room k (2 + l) 6
to_rest l (GateAgain e) k = by_room k (1 + l) 7
to_rest l (Wait e) k = 7
to_rest l Asleep k = 6
to_rest l (LastLook c) k = by_room k 1 6
to_rest l CloseSet k = 3
to_rest l CloseRaise k = 2
to_rest l CloseWake k = 1
to_rest l (ShutSet c) k = 5
to_rest l (ShutRaiseNe c) k = 4
to_rest l (ShutWakeNe c) k = 3
to_rest l (ShutRaiseNf c f) k = 2
to_rest l (ShutWakeNf c f) k = 1

pub room-le : (k none some most : ℕ) → none ≤ most → some ≤ most → by_room k none some ≤ most
room-le zero none some most h g = h
room-le (suc k) none some most h g = g

pub room-not : (k none some : ℕ) → 0 < none → 0 < some → by_room k none some ≤ 0 → ⊥
room-not zero none some h g l = omega arith
room-not (suc k) none some h g l = omega arith

-- at most seven are left, or those after the spins that follow; and none at rest alone
pub record Near (l : ℕ) (s : Step) (k : ℕ) : Type 0 where
  pub most : (n : ℕ) → 7 ≤ n → ((m : ℕ) → s ≡ Spin m → m + 4 + l ≤ n) → to_rest l s k ≤ n
  pub rested : to_rest l s k ≤ 0 → s ≡ Rest

pub near : (l : ℕ) → l ≤ 1 → (s : Step) (k : ℕ) → Near l s k
near l q Rest k = record { most = λ n h f. omega arith; rested = λ h. refl }
near l q Look k = record { most = λ n h f. room-le k (2 + l) 6 n (omega arith) (omega arith); rested = λ h. absurd (room-not k (2 + l) 6 (omega arith) (omega arith) h) }
near l q Copy k = record { most = λ n h f. omega arith; rested = λ h. absurd (omega arith) }
near l q (Publish u g) k = record { most = λ n h f. omega arith; rested = λ h. absurd (omega arith) }
near l q (Check u g) k = record { most = λ n h f. omega arith; rested = λ h. absurd (omega arith) }
near l q (Raise u g) k = record { most = λ n h f. omega arith; rested = λ h. absurd (omega arith) }
near l q (Wake u g) k = record { most = λ n h f. omega arith; rested = λ h. absurd (omega arith) }
near l q Gate k = record { most = λ n h f. room-le k (1 + l) 7 n (omega arith) (omega arith); rested = λ h. absurd (room-not k (1 + l) 7 (omega arith) (omega arith) h) }
near l q (Spin m) k = record { most = λ n h f. room-le k (m + 4 + l) 6 n (f m refl) (omega arith); rested = λ h. absurd (room-not k (m + 4 + l) 6 (omega arith) (omega arith) h) }
near l q Epoch k = record { most = λ n h f. room-le k (3 + l) 7 n (omega arith) (omega arith); rested = λ h. absurd (room-not k (3 + l) 7 (omega arith) (omega arith) h) }
near l q (Again e) k = record { most = λ n h f. room-le k (2 + l) 6 n (omega arith) (omega arith); rested = λ h. absurd (room-not k (2 + l) 6 (omega arith) (omega arith) h) }
near l q (GateAgain e) k = record { most = λ n h f. room-le k (1 + l) 7 n (omega arith) (omega arith); rested = λ h. absurd (room-not k (1 + l) 7 (omega arith) (omega arith) h) }
near l q (Wait e) k = record { most = λ n h f. omega arith; rested = λ h. absurd (omega arith) }
near l q Asleep k = record { most = λ n h f. omega arith; rested = λ h. absurd (omega arith) }
near l q (LastLook c) k = record { most = λ n h f. room-le k 1 6 n (omega arith) (omega arith); rested = λ h. absurd (room-not k 1 6 (omega arith) (omega arith) h) }
near l q CloseSet k = record { most = λ n h f. omega arith; rested = λ h. absurd (omega arith) }
near l q CloseRaise k = record { most = λ n h f. omega arith; rested = λ h. absurd (omega arith) }
near l q CloseWake k = record { most = λ n h f. omega arith; rested = λ h. absurd (omega arith) }
near l q (ShutSet c) k = record { most = λ n h f. omega arith; rested = λ h. absurd (omega arith) }
near l q (ShutRaiseNe c) k = record { most = λ n h f. omega arith; rested = λ h. absurd (omega arith) }
near l q (ShutWakeNe c) k = record { most = λ n h f. omega arith; rested = λ h. absurd (omega arith) }
near l q (ShutRaiseNf c f) k = record { most = λ n h f. omega arith; rested = λ h. absurd (omega arith) }
near l q (ShutWakeNf c f) k = record { most = λ n h f. omega arith; rested = λ h. absurd (omega arith) }

-- a turn with room and one without each take one off
pub room-down : (k a b c d : ℕ) → (k ≡ 0 → a ≤ less c) → (0 < k → b ≤ less d) → by_room k a b ≤ less (by_room k c d)
room-down zero a b c d h g = h refl
room-down (suc k) a b c d h g = g (omega arith)

room-found : (k none : ℕ) → 0 < k → 5 ≤ less (by_room k none 6)
room-found zero none h = absurd (omega arith)
room-found (suc k) none h = omega arith

-- a spin that finds no room
spun : (l n k : ℕ) (t : Step) → k ≡ 0 → Onward n t → to_rest l t k ≡ less (by_room k (n + 4 + l) 6)
spun l n zero t e straight = less_one (3 + l) (0 + 4 + l) (omega arith)
spun l n zero t e (around m) = less_one (m + 4 + l) (suc m + 4 + l) (omega arith)
spun l n (suc k) t e o = absurd (omega arith)

spun-under : (l n k : ℕ) (t : Step) → k ≡ 0 → Onward n t → to_rest l t k ≤ less (by_room k (n + 4 + l) 6)
spun-under l n k t e o = omega (arith, spun l n k t e o)

-- with a flag up, a turn takes one off them, but for a sleeper's
pub nearer : (g : Sight) (l : ℕ) → l ≤ 1 → last_at g.side g.door ≤ l → (s next : Step) → Leads g s next → barred g.door ≡ true → (s ≡ Asleep → ⊥) → to_rest l next (own_room s g.room) ≤ less (to_rest l s g.room)
nearer g l q a s next idles y d = omega arith
nearer g l q a s next (finds h) y d = room-found g.room _ h
nearer g l q a s next (blocks h c) y d = room-down g.room (1 + l) 7 (2 + l) 6 (λ e. under (1 + l) (2 + l) (omega arith)) (λ e. omega arith)
nearer g l q a s next (gives_up h c) y d = omega arith
nearer g l q a s next copies y d = omega arith
nearer g l q a s next spills y d = omega arith
nearer g l q a s next (tells h) y d = omega arith
nearer g l q a s next (stores h) y d = omega arith
nearer g l q a s next (owes h) y d = omega arith
nearer g l q a s next (passes h) y d = omega arith
nearer g l q a s next raises y d = omega arith
nearer g l q a s next wakes y d = omega arith
nearer g l q a s next (enters h o) y d = absurd (let q = sym y ∙ ap barred h in let u : ◌≡◌ {A = ℕ} 0 1 = cc in omega arith)
nearer g l q a s next (finds-spin h) y d = room-found g.room _ h
nearer g l q a s next (spins h o) y d = spun-under l _ g.room next h o
nearer g l q a s next (stops h u) y d = omega arith
nearer g l q a s next reads y d = room-down g.room (2 + l) 6 (3 + l) 7 (λ e. under (2 + l) (3 + l) (omega arith)) (λ e. omega arith)
nearer g l q a s next (finds-again h) y d = room-found g.room _ h
nearer g l q a s next (stays h) y d = room-down g.room (1 + l) 7 (2 + l) 6 (λ e. under (1 + l) (2 + l) (omega arith)) (λ e. omega arith)
nearer g l q a s next (enters-again h) y d = absurd (let q = sym y ∙ ap barred h in let u : ◌≡◌ {A = ℕ} 0 1 = cc in omega arith)
nearer g l q a s next (stops-again h u) y d = omega arith
nearer g l q a s next (falls-asleep h) y d = omega arith
nearer g l q a s next returns y d = room-le g.room (2 + l) 6 6 (omega arith) (omega arith)
nearer g l q a s next ends y d = omega arith
nearer g l q a s next dreams y d = absurd (d refl)
nearer g l q a s next (glances h u) y d = room-down g.room 1 6 (1 + l) 7 (λ e. under 1 (1 + l) (omega arith)) (λ e. omega arith)
nearer g l q a s next (glances-again h u) y d = room-down g.room 1 6 (1 + l) 7 (λ e. under 1 (1 + l) (omega arith)) (λ e. omega arith)
nearer g l q a s next times-out y d = room-le g.room 1 6 6 (omega arith) (omega arith)
nearer g l q a s next (finds-last h) y d = room-found g.room _ h
nearer g l q a s next (finds-none h) y d = omega arith
nearer g l q a s next (closes h) y d = omega arith
nearer g l q a s next (closes-alone h) y d = omega arith
nearer g l q a s next close-raises y d = omega arith
nearer g l q a s next close-wakes y d = omega arith
nearer g l q a s next shuts y d = omega arith
nearer g l q a s next shut-raises y d = omega arith
nearer g l q a s next shut-wakes y d = omega arith
nearer g l q a s next shut-raises-again y d = omega arith
nearer g l q a s next shut-wakes-again y d = omega arith

-- between a spin and its end, with a flag up and no room, it takes exactly one off
abbrev stopping_at : Phase → Bool
stopping_at resting = true
stopping_at looking = false
stopping_at copying = false
stopping_at (publishing l t) = false
stopping_at (telling l t) = false
stopping_at asking = true
stopping_at (armed e) = true
stopping_at (poised e) = true
stopping_at (waits e) = false
stopping_at sleeps = false
stopping_at glancing = true
stopping_at leaving = false

abbrev pub stopping : Step → Bool
stopping s = stopping_at (phase s)

pub nears : (g : Sight) → g.room ≡ 0 → barred g.door ≡ true → (s next : Step) → Leads g s next → stopping s ≡ true
    → (stopping next ≡ true) × (to_rest (last_at g.side g.door) next 0 ≡ less (to_rest (last_at g.side g.door) s 0))
nears g e y s next idles d = (refl, refl)
nears g e y s next (finds h) d = absurd (let u : ◌≡◌ {A = ℕ} 0 1 = cc in omega arith)
nears g e y s next (blocks h c) d = absurd (let u : ◌≡◌ {A = ℕ} 0 1 = cc in omega arith)
nears g e y s next (gives_up h c) d = absurd (let u : ◌≡◌ {A = ℕ} 0 1 = cc in omega arith)
nears g e y s next copies d = absurd (let u : ◌≡◌ {A = ℕ} 0 1 = cc in omega arith)
nears g e y s next spills d = absurd (let u : ◌≡◌ {A = ℕ} 0 1 = cc in omega arith)
nears g e y s next (tells h) d = absurd (let u : ◌≡◌ {A = ℕ} 0 1 = cc in omega arith)
nears g e y s next (stores h) d = absurd (let u : ◌≡◌ {A = ℕ} 0 1 = cc in omega arith)
nears g e y s next (owes h) d = absurd (let u : ◌≡◌ {A = ℕ} 0 1 = cc in omega arith)
nears g e y s next (passes h) d = absurd (let u : ◌≡◌ {A = ℕ} 0 1 = cc in omega arith)
nears g e y s next raises d = absurd (let u : ◌≡◌ {A = ℕ} 0 1 = cc in omega arith)
nears g e y s next wakes d = absurd (let u : ◌≡◌ {A = ℕ} 0 1 = cc in omega arith)
nears g e y s next (enters h o) d = absurd (let q = sym y ∙ ap barred h in let u : ◌≡◌ {A = ℕ} 0 1 = cc in omega arith)
nears g e y s next (finds-spin h) d = absurd (omega arith)
nears g e y s next (spins h o) d = (rw (asks _ _ o) refl, spun (last_at g.side g.door) _ 0 next refl o)
nears g e y s next (stops h u) d = (refl, rw u refl)
nears g e y s next reads d = (refl, less_one (2 + last_at g.side g.door) (3 + last_at g.side g.door) (omega arith))
nears g e y s next (finds-again h) d = absurd (omega arith)
nears g e y s next (stays h) d = (refl, less_one (1 + last_at g.side g.door) (2 + last_at g.side g.door) (omega arith))
nears g e y s next (enters-again h) d = absurd (let q = sym y ∙ ap barred h in let u : ◌≡◌ {A = ℕ} 0 1 = cc in omega arith)
nears g e y s next (stops-again h u) d = (refl, rw u refl)
nears g e y s next (falls-asleep h) d = absurd (let u : ◌≡◌ {A = ℕ} 0 1 = cc in omega arith)
nears g e y s next returns d = absurd (let u : ◌≡◌ {A = ℕ} 0 1 = cc in omega arith)
nears g e y s next ends d = absurd (let u : ◌≡◌ {A = ℕ} 0 1 = cc in omega arith)
nears g e y s next dreams d = absurd (let u : ◌≡◌ {A = ℕ} 0 1 = cc in omega arith)
nears g e y s next (glances h u) d = (refl, rw u refl)
nears g e y s next (glances-again h u) d = (refl, rw u refl)
nears g e y s next times-out d = absurd (let u : ◌≡◌ {A = ℕ} 0 1 = cc in omega arith)
nears g e y s next (finds-last h) d = absurd (omega arith)
nears g e y s next (finds-none h) d = (refl, refl)
nears g e y s next (closes h) d = absurd (let u : ◌≡◌ {A = ℕ} 0 1 = cc in omega arith)
nears g e y s next (closes-alone h) d = absurd (let u : ◌≡◌ {A = ℕ} 0 1 = cc in omega arith)
nears g e y s next close-raises d = absurd (let u : ◌≡◌ {A = ℕ} 0 1 = cc in omega arith)
nears g e y s next close-wakes d = absurd (let u : ◌≡◌ {A = ℕ} 0 1 = cc in omega arith)
nears g e y s next shuts d = absurd (let u : ◌≡◌ {A = ℕ} 0 1 = cc in omega arith)
nears g e y s next shut-raises d = absurd (let u : ◌≡◌ {A = ℕ} 0 1 = cc in omega arith)
nears g e y s next shut-wakes d = absurd (let u : ◌≡◌ {A = ℕ} 0 1 = cc in omega arith)
nears g e y s next shut-raises-again d = absurd (let u : ◌≡◌ {A = ℕ} 0 1 = cc in omega arith)
nears g e y s next shut-wakes-again d = absurd (let u : ◌≡◌ {A = ℕ} 0 1 = cc in omega arith)
