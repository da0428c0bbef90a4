-- What a step is, apart from its turn: one view, for every law that asks which step this is.
use mathlib.Core.Path.{◌≡◌, refl, sym, ap, ◌∙◌}
use mathlib.Core.Bool.{Bool, true, false}
use mathlib.Core.Logic.{◌⊎◌, inl, inr}
use Prim.Native.Nat.{ℕ}
use native.Mathlib.Omega.{arith}
use Rattle.types.specs.declared.Step.{Step}
use Rattle.types.specs.declared.Step.TheVariants.{Rest, Look, Copy, Publish, Check, Raise, Wake, Gate, Spin, Epoch, Again, GateAgain, Wait, Asleep, LastLook, CloseSet, CloseRaise, CloseWake, ShutSet, ShutRaiseNe, ShutWakeNe, ShutRaiseNf, ShutWakeNf}
use Rattle.types.specs.declared.Stance.{Stance}
use Rattle.types.specs.declared.Stance.TheVariants.{Resting, Sleeping, Copying, Publishing, Closing, Moving}
use Rattle.rules.specs.Take.{stance_of}
use Rattle.rules.specs.Calls.{is_resting, is_sleeping}
use Rattle.rules.specs.Stretch.{moves}
use Rattle.rules.specs.Phase.{Phase, resting, looking, copying, publishing, telling, asking, armed, poised, waits, sleeps, glancing, leaving, phase}

-- a step with a turn of its own that is no copy
abbrev pub acting : Stance → Bool
acting Resting = false
acting Sleeping = false
acting Copying = false
acting Publishing = true
acting Closing = true
acting Moving = true

abbrev pub awake : Phase → Bool
awake resting = true
awake looking = true
awake copying = true
awake (publishing l t) = true
awake (telling l t) = true
awake asking = true
awake (armed e) = true
awake (poised e) = true
awake (waits e) = true
awake sleeps = false
awake glancing = true
awake leaving = true

-- rest, the copy, sleep, and the others
pub data View : Step → Type 0 where
  at_rest : View Rest
  at_copy : View Copy
  asleep : View Asleep
  elsewhere : {s : Step} → acting (stance_of s) ≡ true → awake (phase s) ≡ true → View s

pub view : (s : Step) → View s
view Rest = at_rest
view Look = elsewhere refl refl
view Copy = at_copy
view (Publish l t) = elsewhere refl refl
view (Check l t) = elsewhere refl refl
view (Raise l t) = elsewhere refl refl
view (Wake l t) = elsewhere refl refl
view Gate = elsewhere refl refl
view (Spin n) = elsewhere refl refl
view Epoch = elsewhere refl refl
view (Again e) = elsewhere refl refl
view (GateAgain e) = elsewhere refl refl
view (Wait e) = elsewhere refl refl
view Asleep = asleep
view (LastLook c) = elsewhere refl refl
view CloseSet = elsewhere refl refl
view CloseRaise = elsewhere refl refl
view CloseWake = elsewhere refl refl
view (ShutSet c) = elsewhere refl refl
view (ShutRaiseNe c) = elsewhere refl refl
view (ShutWakeNe c) = elsewhere refl refl
view (ShutRaiseNf c e) = elsewhere refl refl
view (ShutWakeNf c e) = elsewhere refl refl

acting-moves : (s : Stance) → acting s ≡ true → (moves s ≡ true) × ((is_resting s ≡ false) × (is_sleeping s ≡ false))
acting-moves Resting e = absurd (let z : ◌≡◌ {A = ℕ} 0 1 = cc in omega arith)
acting-moves Sleeping e = absurd (let z : ◌≡◌ {A = ℕ} 0 1 = cc in omega arith)
acting-moves Copying e = absurd (let z : ◌≡◌ {A = ℕ} 0 1 = cc in omega arith)
acting-moves Publishing e = (refl, (refl, refl))
acting-moves Closing e = (refl, (refl, refl))
acting-moves Moving e = (refl, (refl, refl))

pub acting-awake : (s : Stance) → acting s ≡ true → is_sleeping s ≡ false
acting-awake s a = (acting-moves s a).1.1

-- the two steps that no turn leads on from, and the others
pub data Kind : Step → Type 0 where
  rests : Kind Rest
  dreams : Kind Asleep
  acts : {s : Step} → moves (stance_of s) ≡ true → Kind s

pub kind : (s : Step) → Kind s
kind s = by s (view s)
  where
    by : (s : Step) → View s → Kind s
    by s at_rest = rests
    by s at_copy = acts refl
    by s asleep = dreams
    by s (elsewhere a w) = acts (acting-moves (stance_of s) a).0

-- one that is neither at rest nor asleep moves
pub moves-else : (s : Step) → (s ≡ Rest → ⊥) → (s ≡ Asleep → ⊥) → moves (stance_of s) ≡ true
moves-else s r d = by s (kind s) r d
  where
    by : (s : Step) → Kind s → (s ≡ Rest → ⊥) → (s ≡ Asleep → ⊥) → moves (stance_of s) ≡ true
    by s rests r d = absurd (r refl)
    by s dreams r d = absurd (d refl)
    by s (acts move) r d = move

pub resting-step : (s : Step) → is_resting (stance_of s) ≡ true → s ≡ Rest
resting-step s e = by s (view s) e
  where
    by : (s : Step) → View s → is_resting (stance_of s) ≡ true → s ≡ Rest
    by s at_rest e = refl
    by s at_copy e = absurd (let z : ◌≡◌ {A = ℕ} 0 1 = cc in omega arith)
    by s asleep e = absurd (let z : ◌≡◌ {A = ℕ} 0 1 = cc in omega arith)
    by s (elsewhere a w) e = absurd (let f = sym e ∙ (acting-moves (stance_of s) a).1.0 in let z : ◌≡◌ {A = ℕ} 0 1 = cc in omega arith)

pub sleeping-step : (s : Step) → is_sleeping (stance_of s) ≡ true → s ≡ Asleep
sleeping-step s e = by s (view s) e
  where
    by : (s : Step) → View s → is_sleeping (stance_of s) ≡ true → s ≡ Asleep
    by s at_rest e = absurd (let z : ◌≡◌ {A = ℕ} 0 1 = cc in omega arith)
    by s at_copy e = absurd (let z : ◌≡◌ {A = ℕ} 0 1 = cc in omega arith)
    by s asleep e = refl
    by s (elsewhere a w) e = absurd (let f = sym e ∙ (acting-moves (stance_of s) a).1.1 in let z : ◌≡◌ {A = ℕ} 0 1 = cc in omega arith)

pub copying-step : (s : Step) → stance_of s ≡ Copying → s ≡ Copy
copying-step s e = by s (view s) e
  where
    by : (s : Step) → View s → stance_of s ≡ Copying → s ≡ Copy
    by s at_rest e = absurd (let z : ◌≡◌ {A = ℕ} 0 1 = cc in omega arith)
    by s at_copy e = refl
    by s asleep e = absurd (let z : ◌≡◌ {A = ℕ} 0 1 = cc in omega arith)
    by s (elsewhere a w) e = absurd (let f = rw e at a in let z : ◌≡◌ {A = ℕ} 0 1 = cc in omega arith)

pub asleep-step : (s : Step) → phase s ≡ sleeps → s ≡ Asleep
asleep-step s e = by s (view s) e
  where
    by : (s : Step) → View s → phase s ≡ sleeps → s ≡ Asleep
    by s at_rest e = absurd (let z : ◌≡◌ {A = ℕ} 0 1 = cc in omega arith)
    by s at_copy e = absurd (let z : ◌≡◌ {A = ℕ} 0 1 = cc in omega arith)
    by s asleep e = refl
    by s (elsewhere a w) e = absurd (let f = sym w ∙ ap awake e in let z : ◌≡◌ {A = ℕ} 0 1 = cc in omega arith)

pub is-copy : (s : Step) → (s ≡ Copy) ⊎ (s ≡ Copy → ⊥)
is-copy s = by s (view s)
  where
    by : (s : Step) → View s → (s ≡ Copy) ⊎ (s ≡ Copy → ⊥)
    by s at_rest = inr (λ e. let z : ◌≡◌ {A = ℕ} 0 1 = cc in omega arith)
    by s at_copy = inl refl
    by s asleep = inr (λ e. let z : ◌≡◌ {A = ℕ} 0 1 = cc in omega arith)
    by s (elsewhere a w) = inr (λ e. let f = sym a ∙ ap (λ (u : Step). acting (stance_of u)) e in let z : ◌≡◌ {A = ℕ} 0 1 = cc in omega arith)

pub is-asleep : (s : Step) → (s ≡ Asleep) ⊎ (s ≡ Asleep → ⊥)
is-asleep s = by s (view s)
  where
    by : (s : Step) → View s → (s ≡ Asleep) ⊎ (s ≡ Asleep → ⊥)
    by s at_rest = inr (λ e. let z : ◌≡◌ {A = ℕ} 0 1 = cc in omega arith)
    by s at_copy = inr (λ e. let z : ◌≡◌ {A = ℕ} 0 1 = cc in omega arith)
    by s asleep = inl refl
    by s (elsewhere a w) = inr (λ e. let f = sym w ∙ ap (λ (u : Step). awake (phase u)) e in let z : ◌≡◌ {A = ℕ} 0 1 = cc in omega arith)
