-- The turns to so many stores, whatever the other does.
use mathlib.Core.Path.{◌≡◌, refl, sym, ap, ◌∙◌}
use mathlib.Core.Bool.{Bool, true, false}
use mathlib.Core.Logic.{◌⊎◌, inl, inr}
use Prim.Native.Nat.{ℕ, zero, suc, ◌+◌, ◌*◌, ◌<◌, ◌≤◌}
use native.Mathlib.Omega.{arith}
use Rattle.types.specs.Pick.{pick}
use Rattle.types.specs.declared.Step.{Step}
use Rattle.types.specs.declared.Step.TheVariants.{Rest, Copy, Check, Asleep}
use Rattle.types.specs.declared.Stance.{Stance}
use Rattle.types.specs.declared.Stance.TheVariants.{Resting, Sleeping, Copying, Publishing, Closing, Moving}
use Rattle.rules.specs.Take.{stance_of}
use Rattle.rules.specs.Phase.{phase}
use Rattle.rules.proofs.Views.{Kind, rests, dreams, acts}
use Rattle.rules.proofs.Leads.{Sight, Onward, straight, around, Leads, idles, finds, blocks, gives_up, copies, spills, tells, stores, owes, passes, raises, wakes, enters, stops, finds-spin, spins, reads, finds-again, stays, enters-again, stops-again, returns, ends, glances, glances-again, times-out, finds-last, finds-none, closes, closes-alone, close-raises, close-wakes, shuts, shut-raises, shut-wakes, shut-raises-again, shut-wakes-again, dreams as dreams-on, sleeps as falls-asleep}
use Rattle.rules.proofs.Does.{less, own_after, other_after}
use Rattle.rules.proofs.Heard.{room_by}
use Rattle.rules.proofs.Bright.{Bright}
use Rattle.rules.proofs.Costs.{extra, ahead, ahead-slack, Calls, own_room}
use Rattle.rules.proofs.Bound.{moves-off, own-room-none, Count}
use Rattle.rules.proofs.Asks.{Asked, stayed, looks, glances as glanced}

-- no turns more where the other has room
pub extra-none : (x : ℕ) → 0 < x → extra x ≡ 0
extra-none zero h = absurd (omega arith)
extra-none (suc x) h = refl

-- the turns to each later store: one that rings may check, raise and wake before it looks
abbrev pub later : (rings : Bool) → (j : ℕ) → ℕ
later true j = 6 * j
later false j = 3 * j

-- the turns to so many stores, by T2's for the first. The other's room is put to 1 where it may come to that, so that it is
-- rung, else to 2
abbrev pub to_stores_by : (rings : Bool) → (x : ℕ) → Step → (left : ℕ) → ℕ
to_stores_by r x s zero = 0
to_stores_by r x s (suc j) = later r j + 1 + ahead s x

-- a store of one that rings gives the other room
abbrev pub x_after : (rings : Bool) → Stance → (x : ℕ) → ℕ
x_after r Resting x = x
x_after r Sleeping x = x
x_after r Copying x = x
x_after r Publishing x = pick r 1 2
x_after r Closing x = x
x_after r Moving x = x

-- the worst of all
abbrev pub to_stores : Step → (left : ℕ) → ℕ
to_stores s left = to_stores_by true 1 s left

pub worst-stays : (u : Stance) → x_after true u 1 ≡ 1
worst-stays Resting = refl
worst-stays Sleeping = refl
worst-stays Copying = refl
worst-stays Publishing = refl
worst-stays Closing = refl
worst-stays Moving = refl

pub stores-most : (s : Step) (k : ℕ) → to_stores s k ≤ 6 * k
stores-most s zero = omega arith
stores-most s (suc k) = omega (arith, ahead-slack s 1)

-- a store: it rings, or it does not
stored : (l t j : ℕ) → to_stores_by true 1 (Check l t) j ≤ 6 * j
stored l t zero = omega arith
stored l t (suc j) = omega arith

stored-alone : (r : Bool) (j : ℕ) → to_stores_by r (pick r 1 2) Rest j ≤ later r j
stored-alone r zero = omega arith
stored-alone true (suc j) = omega arith
stored-alone false (suc j) = omega arith

on-spin : (x n : ℕ) (t : Step) → Onward n t → ahead t x ≤ 3 + extra x
on-spin x n t straight = omega arith
on-spin x n t (around m) = omega arith

passed : (x : ℕ) → 0 < x → extra x ≤ extra (less x)
passed x h = omega (arith, extra-none x h)

owed : (x : ℕ) → x ≡ 1 → 2 + extra x ≤ extra (less x)
owed x e = rw e (omega arith)

-- what these numbers count on: one that is said not to ring does not, and where x is 2 the other is not to be rung
pub record Sure (g : Sight) (r : Bool) (x : ℕ) (s : Step) : Type 0 where
  pub mute : r ≡ false → g.rings ≡ false
  pub some : 0 < x
  pub rung : (l t : ℕ) → s ≡ Check l t → g.theirs ≡ 1 → x ≡ 1

told-not : (g : Sight) (r : Bool) (l t j : ℕ) → g.rings ≡ true → (r ≡ false → g.rings ≡ false) → to_stores_by r (pick r 1 2) (Check l t) j ≤ later r j
told-not g true l t j h m = stored l t j
told-not g false l t j h m = absurd (let q = sym h ∙ m refl in let z : ◌≡◌ {A = ℕ} 0 1 = cc in omega arith)

-- with room, a turn of a call takes one off, where a pop's copy fits
strides : (g : Sight) → 0 < g.room → (r : Bool) (x j : ℕ) (s next : Step) → Leads g s next → Sure g r x s → Calls (phase s) → (s ≡ Rest → ⊥) → (s ≡ Asleep → ⊥) → (s ≡ Copy → next ≡ Rest → ⊥)
    → suc (to_stores_by r (x_after r (stance_of s) x) next (own_room s (suc j))) ≤ to_stores_by r x s (suc j)
strides g k r x j s next idles y c i a f = absurd (i refl)
strides g k r x j s next (finds h) y c i a f = omega arith
strides g k r x j s next (blocks h q) y c i a f = absurd (omega arith)
strides g k r x j s next (gives_up h q) y c i a f = absurd (omega arith)
strides g k r x j s next copies y c i a f = omega arith
strides g k r x j s next spills y c i a f = absurd (f refl refl)
strides g k r x j s next (tells {l = l} {t = t} h) y c i a f = omega (arith, told-not g r l t j h y.mute)
strides g k r x j s next (stores h) y c i a f = omega (arith, stored-alone r j)
strides g k r x j s next (owes {l = l} {t = t} h) y c i a f = omega (arith, owed x (y.rung l t refl h))
strides g k r x j s next (passes h) y c i a f = omega (arith, passed x y.some)
strides g k r x j s next raises y c i a f = omega arith
strides g k r x j s next wakes y c i a f = omega arith
strides g k r x j s next (enters h o) y c i a f = omega (arith, on-spin x _ next o)
strides g k r x j s next (finds-spin h) y c i a f = omega arith
strides g k r x j s next (spins h o) y c i a f = absurd (omega arith)
strides g k r x j s next (stops h u) y c i a f = omega arith
strides g k r x j s next reads y c i a f = omega arith
strides g k r x j s next (finds-again h) y c i a f = omega arith
strides g k r x j s next (stays h) y c i a f = absurd (omega arith)
strides g k r x j s next (enters-again h) y c i a f = omega arith
strides g k r x j s next (stops-again h u) y c i a f = omega arith
strides g k r x j s next (falls-asleep h) y c i a f = omega arith
strides g k r x j s next returns y c i a f = omega arith
strides g k r x j s next ends y c i a f = omega arith
strides g k r x j s next dreams-on y c i a f = absurd (a refl)
strides g k r x j s next (glances h u) y c i a f = omega arith
strides g k r x j s next (glances-again h u) y c i a f = omega arith
strides g k r x j s next times-out y c i a f = omega arith
strides g k r x j s next (finds-last h) y c i a f = omega arith
strides g k r x j s next (finds-none h) y c i a f = absurd (omega arith)
strides g k r x j s next (closes h) y c i a f = absurd c
strides g k r x j s next (closes-alone h) y c i a f = absurd c
strides g k r x j s next close-raises y c i a f = absurd c
strides g k r x j s next close-wakes y c i a f = absurd c
strides g k r x j s next shuts y c i a f = absurd c
strides g k r x j s next shut-raises y c i a f = absurd c
strides g k r x j s next shut-wakes y c i a f = absurd c
strides g k r x j s next shut-raises-again y c i a f = absurd c
strides g k r x j s next shut-wakes-again y c i a f = absurd c

-- rest and sleep lead nowhere
pub rest-stays : (g : Sight) (next : Step) → Leads g Rest next → next ≡ Rest
rest-stays g next idles = refl

pub sleep-stays : (g : Sight) (next : Step) → Leads g Asleep next → next ≡ Asleep
sleep-stays g next dreams-on = refl

-- the other's turns give room, and take none
pub room-more : (s : Step) (k : ℕ) → k ≤ room_by s k
room-more s k = by (stance_of s)
  where
    by : (u : Stance) → k ≤ other_after u k
    by Resting = omega arith
    by Sleeping = omega arith
    by Copying = omega arith
    by Publishing = omega arith
    by Closing = omega arith
    by Moving = omega arith

pub own-less : (s : Step) (j k : ℕ) → j ≤ k → own_room s j ≤ own_room s k
own-less s j k h = by (stance_of s)
  where
    lower : (j k : ℕ) → j ≤ k → less j ≤ less k
    lower zero k h = omega arith
    lower (suc j) zero h = absurd (omega arith)
    lower (suc j) (suc k) h = omega arith

    by : (u : Stance) → own_after u j ≤ own_after u k
    by Resting = h
    by Sleeping = h
    by Copying = h
    by Publishing = lower j k h
    by Closing = h
    by Moving = h

pub own-most : (s : Step) (j : ℕ) → own_room s j ≤ j
own-most s j = by (stance_of s)
  where
    lower : (j : ℕ) → less j ≤ j
    lower zero = omega arith
    lower (suc j) = omega arith

    by : (u : Stance) → own_after u j ≤ j
    by Resting = omega arith
    by Sleeping = omega arith
    by Copying = omega arith
    by Publishing = lower j
    by Closing = omega arith
    by Moving = omega arith

-- a turn that counts takes one off, and any other nothing
pub stride-by : (counted : Stance → Bool) → Count counted → (g : Sight) → (r : Bool) (x left : ℕ) → (0 < left → 0 < g.room) → (n rung : ℕ) (s next : Step) → Leads g s next → Sure g r x s → Kind s → Calls (phase s) → (s ≡ Copy → next ≡ Rest → ⊥)
    → (counted Sleeping ≡ true → 0 < left → Bright (phase s) rung) → to_stores_by r x s left ≤ pick (counted (stance_of s)) 1 0 + n → to_stores_by r (x_after r (stance_of s) x) next (own_room s left) ≤ n
stride-by counted count g r x zero k n m s next l u kd c f y h = omega (arith, ap (to_stores_by r (x_after r (stance_of s) x) next) (own-room-none s))
stride-by counted count g r x (suc j) k n m s next l u rests c f y h =
    let b : to_stores_by r x Rest (suc j) ≤ 0 + n = rw count.none-at-rest at h in
    rw (rest-stays g next l) (omega arith)
stride-by counted count g r x (suc j) k n m s next l u dreams c f y h = rw (sleep-stays g next l) (by (counted Sleeping) refl)
  where
    by : (b : Bool) → counted Sleeping ≡ b → to_stores_by r x Asleep (suc j) ≤ n
    by true e = absurd (y e (omega arith))
    by false e = let b : to_stores_by r x Asleep (suc j) ≤ 0 + n = rw e at h in omega arith
stride-by counted count g r x (suc j) k n m s next l u (acts move) c f y h =
    let b : to_stores_by r x s (suc j) ≤ 1 + n = rw (count.all (stance_of s) move) at h in
    omega (arith, strides g (k (omega arith)) r x j s next l u c (moves-off s Rest move refl) (moves-off s Asleep move refl) f)

-- the worst counts on nothing
pub sure-worst : (g : Sight) (s : Step) → Sure g true 1 s
sure-worst g s = record { mute = λ e. absurd (let z : ◌≡◌ {A = ℕ} 0 1 = cc in omega arith); some = omega arith; rung = λ l t e h. refl }

pub stride : (counted : Stance → Bool) → Count counted → (g : Sight) → (left : ℕ) → (0 < left → 0 < g.room) → (n rung : ℕ) (s next : Step) → Leads g s next → Kind s → Calls (phase s) → (s ≡ Copy → next ≡ Rest → ⊥)
    → (counted Sleeping ≡ true → 0 < left → Bright (phase s) rung) → to_stores s left ≤ pick (counted (stance_of s)) 1 0 + n → to_stores next (own_room s left) ≤ n
stride counted count g left k n m s next l kd c f y h = rw (worst-stays (stance_of s)) at (stride-by counted count g true 1 left k n m s next l (sure-worst g s) kd c f y h)

-- to ask costs nothing
pub asked-soon-by : (r : Bool) (x : ℕ) (s u : Step) (k : ℕ) → Asked s u → (s ≡ u) ⊎ ((s ≡ Rest) ⊎ (s ≡ Asleep)) → to_stores_by r x u k ≤ to_stores_by r x s k
asked-soon-by r x s u zero a f = omega arith
asked-soon-by r x s u (suc k) stayed f = omega arith
asked-soon-by r x s u (suc k) looks (inl e) = rw e (omega arith)
asked-soon-by r x s u (suc k) glanced (inl e) = rw e (omega arith)
asked-soon-by r x s u (suc k) looks (inr (inl e)) = rw e (omega arith)
asked-soon-by r x s u (suc k) looks (inr (inr e)) = rw e (omega arith)
asked-soon-by r x s u (suc k) glanced (inr (inl e)) = rw e (omega arith)
asked-soon-by r x s u (suc k) glanced (inr (inr e)) = rw e (omega arith)

pub asked-soon : (s u : Step) (k : ℕ) → Asked s u → (s ≡ u) ⊎ ((s ≡ Rest) ⊎ (s ≡ Asleep)) → to_stores u k ≤ to_stores s k
asked-soon = asked-soon-by true 1

pub which : {A : Type 0} → (s u : Step) → (u ≡ s) ⊎ (((s ≡ Rest) ⊎ (s ≡ Asleep)) × A) → (s ≡ u) ⊎ ((s ≡ Rest) ⊎ (s ≡ Asleep))
which s u (inl e) = inl (sym e)
which s u (inr e) = inr e.0
