-- The turns that are left to a call's end where a flag is up, and the other may still give room.
use mathlib.Core.Path.{◌≡◌, refl, sym, ap, ◌∙◌}
use mathlib.Core.Bool.{true}
use Prim.Native.Nat.{ℕ, zero, suc, ◌+◌, ◌*◌, ◌<◌, ◌≤◌}
use native.Mathlib.Omega.{arith}
use Rattle.types.specs.declared.Step.{Step}
use Rattle.types.specs.declared.Step.TheVariants.{Rest, Look, Copy, Publish, Check, Raise, Wake, Gate, Spin, Epoch, Again, GateAgain, Wait, Asleep, LastLook, CloseSet, CloseRaise, CloseWake, ShutSet, ShutRaiseNe, ShutWakeNe, ShutRaiseNf, ShutWakeNf}
use Rattle.rules.proofs.Leads.{Sight, Onward, straight, around, last_at, barred, Leads, idles, finds, blocks, gives_up, copies, spills, tells, stores, owes, passes, raises, wakes, enters, stops, finds-spin, spins, reads, finds-again, stays, enters-again, stops-again, returns, ends, dreams, glances, glances-again, times-out, finds-last, finds-none, closes, closes-alone, close-raises, close-wakes, shuts, shut-raises, shut-wakes, shut-raises-again, shut-wakes-again, sleeps as falls-asleep}
use Rattle.rules.proofs.Does.{less, under, less_one}
use Rattle.rules.proofs.Costs.{own_room}
use Rattle.rules.proofs.Nearer.{by_room, room-le, room-not, room-down}

-- the room that a look may find: where more comes while the call runs, c is one, and it is some
abbrev pub seen : (c k : ℕ) → ℕ
seen zero k = k
seen (suc c) k = 1

-- and it may come after the last spin
abbrev late : (c n : ℕ) → ℕ
late zero n = 0
late (suc c) n = n + 2

-- the turns that are left to a call, where each look at the flags is its last; l of them are a last look after it, k is the
-- room that its looks may find
abbrev pub to_rest : (l c : ℕ) → Step → (k : ℕ) → ℕ
to_rest l c Rest k = 0
to_rest l c Look k = by_room k (2 + l) 6
to_rest l c Copy k = 5
to_rest l c (Publish u g) k = 4
to_rest l c (Check u g) k = 3
to_rest l c (Raise u g) k = 2
to_rest l c (Wake u g) k = 1
to_rest l c Gate k = by_room k (1 + l) (1 + 6 * l)
to_rest l c (Spin n) k = by_room k (n + 4 + l) (6 + late c n)
to_rest l c Epoch k = by_room k (3 + l) 7
to_rest l c (Again e) k = by_room k (2 + l) 6
to_rest l c (GateAgain e) k = by_room k (1 + l) (1 + 6 * l)
to_rest l c (Wait e) k = 7
to_rest l c Asleep k = 6
to_rest l c (LastLook t) k = by_room k 1 6
to_rest l c CloseSet k = 3
to_rest l c CloseRaise k = 2
to_rest l c CloseWake k = 1
to_rest l c (ShutSet t) k = 5
to_rest l c (ShutRaiseNe t) k = 4
to_rest l c (ShutWakeNe t) k = 3
to_rest l c (ShutRaiseNf t f) k = 2
to_rest l c (ShutWakeNf t f) k = 1

-- at most seven are left, or those after the spins that follow; and none at rest alone
pub record Near (l c : ℕ) (s : Step) (k : ℕ) : Type 0 where
  pub most : (n : ℕ) → 7 ≤ n → ((m : ℕ) → s ≡ Spin m → (m + 4 + l ≤ n) × (6 + late c m ≤ n)) → to_rest l c s k ≤ n
  pub rested : to_rest l c s k ≤ 0 → s ≡ Rest

pub near : (l c : ℕ) → l ≤ 1 → (s : Step) (k : ℕ) → Near l c s k
near l c q Rest k = record { most = λ n h f. omega arith; rested = λ h. refl }
near l c q Look k = record { most = λ n h f. room-le k (2 + l) 6 n (omega arith) (omega arith); rested = λ h. absurd (room-not k (2 + l) 6 (omega arith) (omega arith) h) }
near l c q Copy k = record { most = λ n h f. omega arith; rested = λ h. absurd (omega arith) }
near l c q (Publish u g) k = record { most = λ n h f. omega arith; rested = λ h. absurd (omega arith) }
near l c q (Check u g) k = record { most = λ n h f. omega arith; rested = λ h. absurd (omega arith) }
near l c q (Raise u g) k = record { most = λ n h f. omega arith; rested = λ h. absurd (omega arith) }
near l c q (Wake u g) k = record { most = λ n h f. omega arith; rested = λ h. absurd (omega arith) }
near l c q Gate k = record { most = λ n h f. room-le k (1 + l) (1 + 6 * l) n (omega arith) (omega arith); rested = λ h. absurd (room-not k (1 + l) (1 + 6 * l) (omega arith) (omega arith) h) }
near l c q (Spin m) k = record { most = λ n h f. room-le k (m + 4 + l) (6 + late c m) n (f m refl).0 (f m refl).1; rested = λ h. absurd (room-not k (m + 4 + l) (6 + late c m) (omega arith) (omega arith) h) }
near l c q Epoch k = record { most = λ n h f. room-le k (3 + l) 7 n (omega arith) (omega arith); rested = λ h. absurd (room-not k (3 + l) 7 (omega arith) (omega arith) h) }
near l c q (Again e) k = record { most = λ n h f. room-le k (2 + l) 6 n (omega arith) (omega arith); rested = λ h. absurd (room-not k (2 + l) 6 (omega arith) (omega arith) h) }
near l c q (GateAgain e) k = record { most = λ n h f. room-le k (1 + l) (1 + 6 * l) n (omega arith) (omega arith); rested = λ h. absurd (room-not k (1 + l) (1 + 6 * l) (omega arith) (omega arith) h) }
near l c q (Wait e) k = record { most = λ n h f. omega arith; rested = λ h. absurd (omega arith) }
near l c q Asleep k = record { most = λ n h f. omega arith; rested = λ h. absurd (omega arith) }
near l c q (LastLook t) k = record { most = λ n h f. room-le k 1 6 n (omega arith) (omega arith); rested = λ h. absurd (room-not k 1 6 (omega arith) (omega arith) h) }
near l c q CloseSet k = record { most = λ n h f. omega arith; rested = λ h. absurd (omega arith) }
near l c q CloseRaise k = record { most = λ n h f. omega arith; rested = λ h. absurd (omega arith) }
near l c q CloseWake k = record { most = λ n h f. omega arith; rested = λ h. absurd (omega arith) }
near l c q (ShutSet t) k = record { most = λ n h f. omega arith; rested = λ h. absurd (omega arith) }
near l c q (ShutRaiseNe t) k = record { most = λ n h f. omega arith; rested = λ h. absurd (omega arith) }
near l c q (ShutWakeNe t) k = record { most = λ n h f. omega arith; rested = λ h. absurd (omega arith) }
near l c q (ShutRaiseNf t u) k = record { most = λ n h f. omega arith; rested = λ h. absurd (omega arith) }
near l c q (ShutWakeNf t u) k = record { most = λ n h f. omega arith; rested = λ h. absurd (omega arith) }

-- room that is there is found; and where there was none, it came
room-found : (c k none more : ℕ) → 0 < k → 5 ≤ less (by_room (seen c k) none (6 + more))
room-found zero zero none more h = absurd (omega arith)
room-found zero (suc k) none more h = under 5 (6 + more) (omega arith)
room-found (suc c) k none more h = under 5 (6 + more) (omega arith)

came : (c k : ℕ) → k ≡ 0 → 0 < seen c k → 0 < c
came zero k e h = absurd (omega arith)
came (suc c) k e h = omega arith

-- a look at the counter that finds none, before one at the flags
past : (l c k none some : ℕ) → l + c ≤ 1 → k ≡ 0 → 1 + l ≤ less none → 1 ≤ less some → by_room (seen c k) (1 + l) (1 + 6 * l) ≤ less (by_room (seen c k) none some)
past l c k none some q e n m = room-down (seen c k) (1 + l) (1 + 6 * l) none some (λ z. n) (λ z. omega (arith, came c k e z))

-- a spin that finds no room
spun : (l n k : ℕ) (t : Step) → k ≡ 0 → Onward n t → to_rest l 0 t k ≡ less (by_room k (n + 4 + l) 6)
spun l n zero t e straight = less_one (3 + l) (0 + 4 + l) (omega arith)
spun l n zero t e (around m) = less_one (m + 4 + l) (suc m + 4 + l) (omega arith)
spun l n (suc k) t e o = absurd (omega arith)

spun-under : (l c n k : ℕ) (t : Step) → k ≡ 0 → Onward n t → to_rest l c t (seen c k) ≤ less (to_rest l c (Spin n) (seen c k))
spun-under l zero n zero t e o = omega (arith, spun l n zero t e o)
spun-under l zero n (suc k) t e o = absurd (omega arith)
spun-under l (suc c) n k t e straight = omega arith
spun-under l (suc c) n k t e (around m) = under (6 + (m + 2)) (6 + (suc m + 2)) (omega arith)

-- with a flag up, a turn takes one off them, but for a sleeper's
pub nearer : (g : Sight) (l c : ℕ) → l + c ≤ 1 → last_at g.side g.door ≤ l → (s next : Step) → Leads g s next → barred g.door ≡ true → (s ≡ Asleep → ⊥)
    → to_rest l c next (seen c (own_room s g.room)) ≤ less (to_rest l c s (seen c g.room))
nearer g l c q a s next idles y d = omega arith
nearer g l c q a s next (finds h) y d = room-found c g.room _ 0 h
nearer g l c q a s next (blocks h b) y d = past l c g.room (2 + l) 6 q h (under (1 + l) (2 + l) (omega arith)) (omega arith)
nearer g l c q a s next (gives_up h b) y d = omega arith
nearer g l c q a s next copies y d = omega arith
nearer g l c q a s next spills y d = omega arith
nearer g l c q a s next (tells h) y d = omega arith
nearer g l c q a s next (stores h) y d = omega arith
nearer g l c q a s next (owes h) y d = omega arith
nearer g l c q a s next (passes h) y d = omega arith
nearer g l c q a s next raises y d = omega arith
nearer g l c q a s next wakes y d = omega arith
nearer g l c q a s next (enters h o) y d = absurd (let q = sym y ∙ ap barred h in let u : ◌≡◌ {A = ℕ} 0 1 = cc in omega arith)
nearer g l c q a s next (finds-spin h) y d = room-found c g.room _ (late c _) h
nearer g l c q a s next (spins h o) y d = spun-under l c _ g.room next h o
nearer g l c q a s next (stops h u) y d = omega arith
nearer g l c q a s next reads y d = room-down (seen c g.room) (2 + l) 6 (3 + l) 7 (λ e. under (2 + l) (3 + l) (omega arith)) (λ e. omega arith)
nearer g l c q a s next (finds-again h) y d = room-found c g.room _ 0 h
nearer g l c q a s next (stays h) y d = past l c g.room (2 + l) 6 q h (under (1 + l) (2 + l) (omega arith)) (omega arith)
nearer g l c q a s next (enters-again h) y d = absurd (let q = sym y ∙ ap barred h in let u : ◌≡◌ {A = ℕ} 0 1 = cc in omega arith)
nearer g l c q a s next (stops-again h u) y d = omega arith
nearer g l c q a s next (falls-asleep h) y d = omega arith
nearer g l c q a s next returns y d = room-le (seen c g.room) (2 + l) 6 6 (omega arith) (omega arith)
nearer g l c q a s next ends y d = omega arith
nearer g l c q a s next dreams y d = absurd (d refl)
nearer g l c q a s next (glances h u) y d = room-down (seen c g.room) 1 6 (1 + l) (1 + 6 * l) (λ e. under 1 (1 + l) (omega arith)) (λ e. under 6 (1 + 6 * l) (omega arith))
nearer g l c q a s next (glances-again h u) y d = room-down (seen c g.room) 1 6 (1 + l) (1 + 6 * l) (λ e. under 1 (1 + l) (omega arith)) (λ e. under 6 (1 + 6 * l) (omega arith))
nearer g l c q a s next times-out y d = room-le (seen c g.room) 1 6 6 (omega arith) (omega arith)
nearer g l c q a s next (finds-last h) y d = room-found c g.room _ 0 h
nearer g l c q a s next (finds-none h) y d = omega arith
nearer g l c q a s next (closes h) y d = omega arith
nearer g l c q a s next (closes-alone h) y d = omega arith
nearer g l c q a s next close-raises y d = omega arith
nearer g l c q a s next close-wakes y d = omega arith
nearer g l c q a s next shuts y d = omega arith
nearer g l c q a s next shut-raises y d = omega arith
nearer g l c q a s next shut-wakes y d = omega arith
nearer g l c q a s next shut-raises-again y d = omega arith
nearer g l c q a s next shut-wakes-again y d = omega arith
