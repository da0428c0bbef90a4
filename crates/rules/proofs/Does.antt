-- Which access a turn makes, with what that says of its party: one row a kind of access.
use mathlib.Core.Path.{◌≡◌, refl}
use mathlib.Core.Bool.{Bool, true, false}
use Prim.Native.Nat.{ℕ, zero, suc, ◌≤◌}
use native.Mathlib.Omega.{arith}
use Rattle.words.specs.Wrap.{next}
use Rattle.types.specs.declared.Side.{Side}
use Rattle.types.specs.declared.Side.TheVariants.{Sender, Recorder}
use Rattle.types.specs.declared.Bell.{Bell}
use Rattle.types.specs.declared.Bell.TheVariants.{NotEmpty, NotFull}
use Rattle.types.specs.declared.Mark.TheVariants.{Shutdown}
use Rattle.types.specs.declared.Step.{Step}
use Rattle.types.specs.declared.Step.TheVariants.{Rest, Look, Copy, Publish, Check, Raise, Wake, Gate, Spin, Epoch, Again, GateAgain, Wait, Asleep, LastLook, CloseSet, CloseRaise, CloseWake, ShutSet, ShutRaiseNe, ShutWakeNe, ShutRaiseNf, ShutWakeNf}
use Rattle.types.specs.declared.Stance.{Stance}
use Rattle.types.specs.declared.Stance.TheVariants.{Resting, Sleeping, Copying, Publishing, Closing, Moving}
use Rattle.types.specs.declared.Access.{Access}
use Rattle.types.specs.declared.Access.TheVariants.{None, LoadCounter, LoadFlags, LoadBell, WriteSlot, ReadSlot, StoreCounter, RaiseBell, SetFlag, WaitBell, WakeBell}
use Rattle.layout.specs.Flags.{close_mark}
use Rattle.rules.specs.Sides.{other, ring_bell, sleep_bell}
use Rattle.rules.specs.Take.{stance_of, counter_after, closed_after}
use Rattle.rules.specs.Next.{one, all, slot_access, next_at}

-- what a store of the own counter takes of the own room, and gives of the other's
abbrev pub less : ℕ → ℕ
less zero = zero
less (suc x) = x

pub under : (x y : ℕ) → suc x ≤ y → x ≤ less y
under x zero h = absurd (omega arith)
under x (suc y) h = omega arith

pub less_one : (x y : ℕ) → suc x ≡ y → x ≡ less y
less_one x zero h = absurd (omega arith)
less_one x (suc y) h = omega arith

abbrev pub own_after : Stance → ℕ → ℕ
own_after Resting k = k
own_after Sleeping k = k
own_after Copying k = k
own_after Publishing k = less k
own_after Closing k = k
own_after Moving k = k

abbrev pub other_after : Stance → ℕ → ℕ
other_after Resting k = k
other_after Sleeping k = k
other_after Copying k = k
other_after Publishing k = suc k
other_after Closing k = k
other_after Moving k = k

-- a step that neither publishes nor closes
abbrev keeps : Stance → Bool
keeps Resting = true
keeps Sleeping = true
keeps Copying = true
keeps Publishing = false
keeps Closing = false
keeps Moving = true

pub record Plain (s : Stance) : Type 0 where
  pub counter : (n : ℕ) → counter_after s n ≡ n
  pub closed : (b : Bool) → closed_after s b ≡ b
  pub own : (k : ℕ) → own_after s k ≡ k
  pub other-room : (k : ℕ) → other_after s k ≡ k

plain : (s : Stance) → keeps s ≡ true → Plain s
plain Resting e = record { counter = λ n. refl; closed = λ b. refl; own = λ k. refl; other-room = λ k. refl }
plain Sleeping e = record { counter = λ n. refl; closed = λ b. refl; own = λ k. refl; other-room = λ k. refl }
plain Copying e = record { counter = λ n. refl; closed = λ b. refl; own = λ k. refl; other-room = λ k. refl }
plain Publishing e = absurd (let z : ◌≡◌ {A = ℕ} 0 1 = cc in omega arith)
plain Closing e = absurd (let z : ◌≡◌ {A = ℕ} 0 1 = cc in omega arith)
plain Moving e = record { counter = λ n. refl; closed = λ b. refl; own = λ k. refl; other-room = λ k. refl }

pub data Does (side : Side) (n : ℕ) : Step → Access → Type 0 where
  nothing : {s : Step} → Plain (stance_of s) → Does side n s None
  looks : {s : Step} → Plain (stance_of s) → Does side n s (LoadCounter (other side))
  flags : {s : Step} → Plain (stance_of s) → Does side n s LoadFlags
  reads : Does side n Epoch (LoadBell (sleep_bell side))
  writes : side ≡ Sender → Does side n Copy (WriteSlot n)
  takes : side ≡ Recorder → Does side n Copy (ReadSlot n)
  stores : {l t : ℕ} → Does side n (Publish l t) (StoreCounter side (next 64 n))
  raises : {s : Step} → Plain (stance_of s) → (b : Bell) → Does side n s (RaiseBell b)
  closes : Does side n CloseSet (SetFlag (close_mark side))
  shuts : {c : Bool} → Does side n (ShutSet c) (SetFlag Shutdown)
  waits : {e : ℕ} → Does side n (Wait e) (WaitBell (sleep_bell side) e)
  wakes : {s : Step} → Plain (stance_of s) → (b : Bell) (m : ℕ) → Does side n s (WakeBell b m)

copying : (side : Side) (n : ℕ) → Does side n Copy (slot_access side n)
copying Sender n = writes refl
copying Recorder n = takes refl

pub does : (side : Side) (n : ℕ) (s : Step) → Does side n s (next_at s side n)
does side n Rest = nothing (plain Resting refl)
does side n Look = looks (plain Moving refl)
does side n Copy = copying side n
does side n (Publish l t) = stores
does side n (Check l t) = looks (plain Moving refl)
does side n (Raise l t) = raises (plain Moving refl) (ring_bell side)
does side n (Wake l t) = wakes (plain Moving refl) (ring_bell side) one
does side n Gate = flags (plain Moving refl)
does side n (Spin i) = looks (plain Moving refl)
does side n Epoch = reads
does side n (Again e) = looks (plain Moving refl)
does side n (GateAgain e) = flags (plain Moving refl)
does side n (Wait e) = waits
does side n Asleep = nothing (plain Sleeping refl)
does side n (LastLook c) = looks (plain Moving refl)
does side n CloseSet = closes
does side n CloseRaise = raises (plain Moving refl) (ring_bell side)
does side n CloseWake = wakes (plain Moving refl) (ring_bell side) all
does side n (ShutSet c) = shuts
does side n (ShutRaiseNe c) = raises (plain Moving refl) NotEmpty
does side n (ShutWakeNe c) = wakes (plain Moving refl) NotEmpty all
does side n (ShutRaiseNf c e) = raises (plain Moving refl) NotFull
does side n (ShutWakeNf c e) = wakes (plain Moving refl) NotFull all
