-- The one shared access of a party's next turn, with its word and its value.
use Rattle.std.specs.Prelude.{ℕ}
use Rattle.words.specs.Wrap.{next}
use Rattle.types.specs.declared.Side.{Side}
use Rattle.types.specs.declared.Side.TheVariants.{Sender, Recorder}
use Rattle.types.specs.declared.Bell.TheVariants.{NotEmpty, NotFull}
use Rattle.types.specs.declared.Mark.TheVariants.{Shutdown}
use Rattle.types.specs.declared.Party.{Party}
use Rattle.types.specs.declared.Step.{Step}
use Rattle.types.specs.declared.Step.TheVariants.{Rest, Look, Copy, Publish, Check, Raise, Wake, Gate, Spin, Epoch, Again, GateAgain, Wait, Asleep, LastLook, CloseSet, CloseRaise, CloseWake, ShutSet, ShutRaiseNe, ShutWakeNe, ShutRaiseNf, ShutWakeNf}
use Rattle.types.specs.declared.Access.{Access}
use Rattle.types.specs.declared.Access.TheVariants.{None, LoadCounter, LoadFlags, LoadBell, WriteSlot, ReadSlot, StoreCounter, RaiseBell, SetFlag, WaitBell, WakeBell}
use Rattle.layout.specs.Flags.{close_mark}
use Rattle.rules.specs.Sides.{other, ring_bell, sleep_bell}

-- P6 and C6 wake one; close, shutdown and corruption wake all
abbrev pub one : ℕ
one = 1

abbrev pub all : ℕ
all = 2147483647

-- a push writes its slot, a pop reads it
abbrev pub slot_access : Side → (counter : ℕ) → Access
slot_access Sender counter = WriteSlot counter
slot_access Recorder counter = ReadSlot counter

abbrev pub next_at : Step → Side → (counter : ℕ) → Access
next_at Rest side n = None
next_at Look side n = LoadCounter (other side)
next_at Copy side n = slot_access side n
next_at (Publish len tag) side n = StoreCounter side (next 64 n)
next_at (Check len tag) side n = LoadCounter (other side)
next_at (Raise len tag) side n = RaiseBell (ring_bell side)
next_at (Wake len tag) side n = WakeBell (ring_bell side) one
next_at Gate side n = LoadFlags
next_at (Spin left) side n = LoadCounter (other side)
next_at Epoch side n = LoadBell (sleep_bell side)
next_at (Again e) side n = LoadCounter (other side)
next_at (GateAgain e) side n = LoadFlags
next_at (Wait e) side n = WaitBell (sleep_bell side) e
next_at Asleep side n = None
next_at (LastLook timed) side n = LoadCounter (other side)
next_at CloseSet side n = SetFlag (close_mark side)
next_at CloseRaise side n = RaiseBell (ring_bell side)
next_at CloseWake side n = WakeBell (ring_bell side) all
next_at (ShutSet c) side n = SetFlag Shutdown
next_at (ShutRaiseNe c) side n = RaiseBell NotEmpty
next_at (ShutWakeNe c) side n = WakeBell NotEmpty all
next_at (ShutRaiseNf c e) side n = RaiseBell NotFull
next_at (ShutWakeNf c e) side n = WakeBell NotFull all

unfoldable pub next_spec : Party → Access
next_spec p = next_at p.step p.own.side p.counter
