-- A step, as far as the statements care.
use Rattle.std.specs.Prelude.{ℕ}
use Rattle.types.specs.declared.Step.{Step}
use Rattle.types.specs.declared.Step.TheVariants.{Rest, Look, Copy, Publish, Check, Raise, Wake, Gate, Spin, Epoch, Again, GateAgain, Wait, Asleep, LastLook, CloseSet, CloseRaise, CloseWake, ShutSet, ShutRaiseNe, ShutWakeNe, ShutRaiseNf, ShutWakeNf}

-- telling follows a store, asking comes before an epoch, at a spin too, armed to waits hold one, glancing is the last look before 11 or 13
pub data Phase : Type 0 where
  resting looking copying : Phase
  publishing telling : (length tag : ℕ) → Phase
  asking : Phase
  armed poised waits : (epoch : ℕ) → Phase
  sleeps glancing leaving : Phase

abbrev pub phase : Step → Phase
phase Rest = resting
phase Look = looking
phase Copy = copying
phase (Publish l t) = publishing l t
phase (Check l t) = telling l t
phase (Raise l t) = telling l t
phase (Wake l t) = telling l t
phase Gate = asking
phase (Spin left) = asking
phase Epoch = asking
phase (Again e) = armed e
phase (GateAgain e) = poised e
phase (Wait e) = waits e
phase Asleep = sleeps
phase (LastLook timed) = glancing
phase CloseSet = leaving
phase CloseRaise = leaving
phase CloseWake = leaving
phase (ShutSet c) = leaving
phase (ShutRaiseNe c) = leaving
phase (ShutWakeNe c) = leaving
phase (ShutRaiseNf c e) = leaving
phase (ShutWakeNf c e) = leaving
