-- Who does not fall asleep over its room.
use mathlib.Core.Path.{◌≡◌, refl}
use mathlib.Core.Bool.{true}
use Prim.Native.Nat.{ℕ, ◌<◌, ◌≤◌}
use native.Mathlib.Omega.{arith}
use Rattle.types.specs.declared.Side.{Side}
use Rattle.types.specs.declared.Side.TheVariants.{Sender, Recorder}
use Rattle.types.specs.declared.Step.{Step}
use Rattle.types.specs.declared.Step.TheVariants.{Rest, Look, Copy, Publish, Check, Raise, Wake, Gate, Spin, Epoch, Again, GateAgain, Wait, Asleep, LastLook, CloseSet, CloseRaise, CloseWake, ShutSet, ShutRaiseNe, ShutWakeNe, ShutRaiseNf, ShutWakeNf}
use Rattle.rules.specs.Phase.{Phase, resting, looking, copying, publishing, telling, asking, armed, poised, waits, sleeps, glancing, leaving, phase}
use Rattle.rules.proofs.Leads.{Sight, asks, Leads, idles, finds, blocks, gives_up, copies, spills, tells, stores, owes, passes, raises, wakes, enters, stops, finds-spin, spins, reads, finds-again, stays, enters-again, stops-again, returns, ends, glances, glances-again, times-out, finds-last, finds-none, closes, closes-alone, close-raises, close-wakes, shuts, shut-raises, shut-wakes, shut-raises-again, shut-wakes-again, dreams as dreams-on, sleeps as falls-asleep}
use Rattle.rules.proofs.Heard.{rung_by}
use Rattle.rules.proofs.Own.{waits_on}
use Rattle.rules.proofs.Asks.{Asked, stayed, looks, glances as glanced}

-- one that does not fall asleep over its room: where it holds an epoch and has looked, its bell has been raised since
abbrev pub Bright : Phase → (rung : ℕ) → Type 0
Bright resting n = Unit
Bright looking n = Unit
Bright copying n = Unit
Bright (publishing l t) n = Unit
Bright (telling l t) n = Unit
Bright asking n = Unit
Bright (armed e) n = Unit
Bright (poised e) n = 0 < n
Bright (waits e) n = 0 < n
Bright sleeps n = ⊥
Bright glancing n = Unit
Bright leaving n = Unit

pub bright-more : (ph : Phase) (n m : ℕ) → n ≤ m → Bright ph n → Bright ph m
bright-more resting n m h y = tt
bright-more looking n m h y = tt
bright-more copying n m h y = tt
bright-more (publishing l t) n m h y = tt
bright-more (telling l t) n m h y = tt
bright-more asking n m h y = tt
bright-more (armed e) n m h y = tt
bright-more (poised e) n m h y = omega arith
bright-more (waits e) n m h y = omega arith
bright-more sleeps n m h y = y
bright-more glancing n m h y = tt
bright-more leaving n m h y = tt

pub bright-on : (g : Sight) → 0 < g.room → (s next : Step) → Leads g s next → (n n' : ℕ) → ((e : ℕ) → s ≡ Wait e → g.bell ≡ e → n ≡ 0) → (waits_on s ≡ true → n' ≡ n) → Bright (phase s) n → Bright (phase next) n'
bright-on g k s next idles n n' p f y = tt
bright-on g k s next (finds h) n n' p f y = tt
bright-on g k s next (blocks h q) n n' p f y = tt
bright-on g k s next (gives_up h q) n n' p f y = tt
bright-on g k s next copies n n' p f y = tt
bright-on g k s next spills n n' p f y = tt
bright-on g k s next (tells h) n n' p f y = tt
bright-on g k s next (stores h) n n' p f y = tt
bright-on g k s next (owes h) n n' p f y = tt
bright-on g k s next (passes h) n n' p f y = tt
bright-on g k s next raises n n' p f y = tt
bright-on g k s next wakes n n' p f y = tt
bright-on g k s next (enters h o) n n' p f y = rw (asks _ _ o) tt
bright-on g k s next (finds-spin h) n n' p f y = tt
bright-on g k s next (spins h o) n n' p f y = rw (asks _ _ o) tt
bright-on g k s next (stops h u) n n' p f y = tt
bright-on g k s next reads n n' p f y = tt
bright-on g k s next (finds-again h) n n' p f y = tt
bright-on g k s next (stays h) n n' p f y = absurd (omega arith)
bright-on g k s next (enters-again h) n n' p f y = omega (arith, f refl)
bright-on g k s next (stops-again h u) n n' p f y = tt
bright-on g k s next (falls-asleep h) n n' p f y = absurd (omega (arith, p _ refl h))
bright-on g k s next returns n n' p f y = tt
bright-on g k s next ends n n' p f y = tt
bright-on g k s next dreams-on n n' p f y = absurd y
bright-on g k s next (glances h u) n n' p f y = tt
bright-on g k s next (glances-again h u) n n' p f y = tt
bright-on g k s next times-out n n' p f y = tt
bright-on g k s next (finds-last h) n n' p f y = tt
bright-on g k s next (finds-none h) n n' p f y = tt
bright-on g k s next (closes h) n n' p f y = tt
bright-on g k s next (closes-alone h) n n' p f y = tt
bright-on g k s next close-raises n n' p f y = tt
bright-on g k s next close-wakes n n' p f y = tt
bright-on g k s next shuts n n' p f y = tt
bright-on g k s next shut-raises n n' p f y = tt
bright-on g k s next shut-wakes n n' p f y = tt
bright-on g k s next shut-raises-again n n' p f y = tt
bright-on g k s next shut-wakes-again n n' p f y = tt

-- the other's turns raise a bell, and never lower it
pub rung-more : (side : Side) (s : Step) (n : ℕ) → n ≤ rung_by side s n
rung-more side Rest n = omega arith
rung-more side Look n = omega arith
rung-more side Copy n = omega arith
rung-more side (Publish l t) n = omega arith
rung-more side (Check l t) n = omega arith
rung-more side (Raise l t) n = omega arith
rung-more side (Wake l t) n = omega arith
rung-more side Gate n = omega arith
rung-more side (Spin i) n = omega arith
rung-more side Epoch n = omega arith
rung-more side (Again e) n = omega arith
rung-more side (GateAgain e) n = omega arith
rung-more side (Wait e) n = omega arith
rung-more side Asleep n = omega arith
rung-more side (LastLook c) n = omega arith
rung-more side CloseSet n = omega arith
rung-more side CloseRaise n = omega arith
rung-more side CloseWake n = omega arith
rung-more side (ShutSet c) n = omega arith
rung-more Sender (ShutRaiseNe c) n = omega arith
rung-more Recorder (ShutRaiseNe c) n = omega arith
rung-more side (ShutWakeNe c) n = omega arith
rung-more Sender (ShutRaiseNf c f) n = omega arith
rung-more Recorder (ShutRaiseNf c f) n = omega arith
rung-more side (ShutWakeNf c f) n = omega arith

-- nor does asking dull it
pub asked-bright : (s u : Step) (n : ℕ) → Asked s u → Bright (phase s) n → Bright (phase u) n
asked-bright s u n stayed y = y
asked-bright s u n looks y = tt
asked-bright s u n glanced y = tt
