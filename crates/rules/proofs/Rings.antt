-- How often a waiter's bell may yet be raised. Numbers and steps alone.
use mathlib.Core.Path.{◌≡◌, refl, sym, ap, ◌∙◌}
use mathlib.Core.Bool.{true}
use Prim.Native.Nat.{ℕ, zero, suc, ◌+◌, ◌≤◌}
use native.Mathlib.Omega.{arith}
use Rattle.types.specs.declared.Side.{Side}
use Rattle.types.specs.declared.Side.TheVariants.{Sender, Recorder}
use Rattle.types.specs.declared.Step.{Step}
use Rattle.types.specs.declared.Step.TheVariants.{Rest, Look, Copy, Publish, Check, Raise, Wake, Gate, Spin, Epoch, Again, GateAgain, Wait, Asleep, LastLook, CloseSet, CloseRaise, CloseWake, ShutSet, ShutRaiseNe, ShutWakeNe, ShutRaiseNf, ShutWakeNf}
use Rattle.rules.specs.Stretch.{holds_epoch_at, holds_epoch}
use Rattle.rules.proofs.Leads.{Sight, Onward, straight, around, asks, Leads, idles, finds, blocks, gives_up, copies, spills, tells, stores, owes, passes, raises, wakes, enters, stops, finds-spin, spins, reads, finds-again, stays, enters-again, stops-again, returns, ends, dreams, glances, glances-again, times-out, finds-last, finds-none, closes, closes-alone, close-raises, close-wakes, shuts, shut-raises, shut-wakes, shut-raises-again, shut-wakes-again, sleeps as falls-asleep}
use Rattle.rules.proofs.Heard.{if_sender, rung_by, room_by}
use Rattle.rules.proofs.Own.{waits_on}

-- one with room k whose other stores a note, or takes one, is rung for it only where it had none
abbrev spare : ℕ → ℕ
spare zero = 1
spare (suc k) = 0

-- after the store
abbrev checked : ℕ → ℕ
checked zero = 1
checked (suc k) = spare k

-- the raises of the other's bell that a side at a step can still make, the other with room k and taking none of it, until the
-- side asks for a close or a shutdown
abbrev pub owing : Side → Step → (room : ℕ) → ℕ
owing side Rest k = spare k
owing side Look k = spare k
owing side Copy k = spare k
owing side (Publish l g) k = spare k
owing side (Check l g) k = checked k
owing side (Raise l g) k = suc (spare k)
owing side (Wake l g) k = spare k
owing side Gate k = spare k
owing side (Spin n) k = spare k
owing side Epoch k = spare k
owing side (Again e) k = spare k
owing side (GateAgain e) k = spare k
owing side (Wait e) k = spare k
owing side Asleep k = spare k
owing side (LastLook c) k = spare k
owing side CloseSet k = suc (spare k)
owing side CloseRaise k = suc (spare k)
owing side CloseWake k = spare k
owing side (ShutSet c) k = suc (spare k)
owing side (ShutRaiseNe c) k = suc (spare k)
owing side (ShutWakeNe c) k = if_sender side (spare k) (suc (spare k))
owing side (ShutRaiseNf c f) k = if_sender side (spare k) (suc (spare k))
owing side (ShutWakeNf c f) k = spare k

spare-small : (k : ℕ) → spare k ≤ 1
spare-small zero = omega arith
spare-small (suc k) = omega arith

checked-small : (k : ℕ) → checked k ≤ 1
checked-small zero = omega arith
checked-small (suc k) = spare-small k

spare-checked : (k : ℕ) → spare k ≤ checked k
spare-checked zero = omega arith
spare-checked (suc k) = omega arith

checked-one : (k : ℕ) → k ≡ 1 → suc (spare k) ≤ checked k
checked-one k h = rw h (omega arith)

pub owing-small : (side : Side) (s : Step) (k : ℕ) → owing side s k ≤ 2
owing-small side Rest k = omega (arith, spare-small k)
owing-small side Look k = omega (arith, spare-small k)
owing-small side Copy k = omega (arith, spare-small k)
owing-small side (Publish l g) k = omega (arith, spare-small k)
owing-small side (Check l g) k = omega (arith, checked-small k)
owing-small side (Raise l g) k = omega (arith, spare-small k)
owing-small side (Wake l g) k = omega (arith, spare-small k)
owing-small side Gate k = omega (arith, spare-small k)
owing-small side (Spin n) k = omega (arith, spare-small k)
owing-small side Epoch k = omega (arith, spare-small k)
owing-small side (Again e) k = omega (arith, spare-small k)
owing-small side (GateAgain e) k = omega (arith, spare-small k)
owing-small side (Wait e) k = omega (arith, spare-small k)
owing-small side Asleep k = omega (arith, spare-small k)
owing-small side (LastLook c) k = omega (arith, spare-small k)
owing-small side CloseSet k = omega (arith, spare-small k)
owing-small side CloseRaise k = omega (arith, spare-small k)
owing-small side CloseWake k = omega (arith, spare-small k)
owing-small side (ShutSet c) k = omega (arith, spare-small k)
owing-small side (ShutRaiseNe c) k = omega (arith, spare-small k)
owing-small Sender (ShutWakeNe c) k = omega (arith, spare-small k)
owing-small Recorder (ShutWakeNe c) k = omega (arith, spare-small k)
owing-small Sender (ShutRaiseNf c f) k = omega (arith, spare-small k)
owing-small Recorder (ShutRaiseNf c f) k = omega (arith, spare-small k)
owing-small side (ShutWakeNf c f) k = omega (arith, spare-small k)

-- at a spin it owes what it owes at rest
owing-on : (side : Side) (n : ℕ) (t : Step) (k : ℕ) → Onward n t → owing side t k ≡ spare k
owing-on side n t k straight = refl
owing-on side n t k (around m) = refl

-- a turn of the side that rings pays for each raise
pub pays : (side : Side) (g : Sight) (s next : Step) → Leads g s next → (n : ℕ) → rung_by side s n + owing side next (room_by s g.theirs) ≤ n + owing side s g.theirs
pays side g s next idles n = omega arith
pays side g s next (finds h) n = omega arith
pays side g s next (blocks h q) n = omega arith
pays side g s next (gives_up h q) n = omega arith
pays side g s next copies n = omega arith
pays side g s next spills n = omega arith
pays side g s next (tells h) n = omega arith
pays side g s next (stores h) n = omega arith
pays side g s next (owes h) n = omega (arith, checked-one g.theirs h)
pays side g s next (passes h) n = omega (arith, spare-checked g.theirs)
pays side g s next raises n = omega arith
pays side g s next wakes n = omega arith
pays side g s next (enters h o) n = rw (owing-on side _ next g.theirs o) (omega arith)
pays side g s next (finds-spin h) n = omega arith
pays side g s next (spins h o) n = rw (owing-on side _ next g.theirs o) (omega arith)
pays side g s next (stops h w) n = omega arith
pays side g s next reads n = omega arith
pays side g s next (finds-again h) n = omega arith
pays side g s next (stays h) n = omega arith
pays side g s next (enters-again h) n = omega arith
pays side g s next (stops-again h w) n = omega arith
pays side g s next (falls-asleep h) n = omega arith
pays side g s next returns n = omega arith
pays side g s next ends n = omega arith
pays side g s next dreams n = omega arith
pays side g s next (glances h w) n = omega arith
pays side g s next (glances-again h w) n = omega arith
pays side g s next times-out n = omega arith
pays side g s next (finds-last h) n = omega arith
pays side g s next (finds-none h) n = omega arith
pays side g s next (closes h) n = omega arith
pays side g s next (closes-alone h) n = omega arith
pays side g s next close-raises n = omega arith
pays side g s next close-wakes n = omega arith
pays side g s next shuts n = omega arith
pays Sender g s next shut-raises n = omega arith
pays Recorder g s next shut-raises n = omega arith
pays Sender g s next shut-wakes n = omega arith
pays Recorder g s next shut-wakes n = omega arith
pays Sender g s next shut-raises-again n = omega arith
pays Recorder g s next shut-raises-again n = omega arith
pays Sender g s next shut-wakes-again n = omega arith
pays Recorder g s next shut-wakes-again n = omega arith

-- a turn of the waiter's own: it counts anew at its epoch, and from there on it changes nothing
pub holds_on : (side : Side) (g : Sight) (s next : Step) → Leads g s next → (u : Step) (n n' k' more : ℕ)
    → (s ≡ Epoch → n' ≡ 0) → (waits_on s ≡ true → (n' ≡ n) × (k' ≡ g.room)) → (holds_epoch s ≡ true → n + owing side u g.room ≤ 2 + more)
    → holds_epoch next ≡ true → n' + owing side u k' ≤ 2 + more
holds_on side g s next idles u n n' k' more zeroed still y o = absurd (let z : ◌≡◌ {A = ℕ} 0 1 = cc in omega arith)
holds_on side g s next (finds h) u n n' k' more zeroed still y o = absurd (let z : ◌≡◌ {A = ℕ} 0 1 = cc in omega arith)
holds_on side g s next (blocks h q) u n n' k' more zeroed still y o = absurd (let z : ◌≡◌ {A = ℕ} 0 1 = cc in omega arith)
holds_on side g s next (gives_up h q) u n n' k' more zeroed still y o = absurd (let z : ◌≡◌ {A = ℕ} 0 1 = cc in omega arith)
holds_on side g s next copies u n n' k' more zeroed still y o = absurd (let z : ◌≡◌ {A = ℕ} 0 1 = cc in omega arith)
holds_on side g s next spills u n n' k' more zeroed still y o = absurd (let z : ◌≡◌ {A = ℕ} 0 1 = cc in omega arith)
holds_on side g s next (tells h) u n n' k' more zeroed still y o = absurd (let z : ◌≡◌ {A = ℕ} 0 1 = cc in omega arith)
holds_on side g s next (stores h) u n n' k' more zeroed still y o = absurd (let z : ◌≡◌ {A = ℕ} 0 1 = cc in omega arith)
holds_on side g s next (owes h) u n n' k' more zeroed still y o = absurd (let z : ◌≡◌ {A = ℕ} 0 1 = cc in omega arith)
holds_on side g s next (passes h) u n n' k' more zeroed still y o = absurd (let z : ◌≡◌ {A = ℕ} 0 1 = cc in omega arith)
holds_on side g s next raises u n n' k' more zeroed still y o = absurd (let z : ◌≡◌ {A = ℕ} 0 1 = cc in omega arith)
holds_on side g s next wakes u n n' k' more zeroed still y o = absurd (let z : ◌≡◌ {A = ℕ} 0 1 = cc in omega arith)
holds_on side g s next (enters h w) u n n' k' more zeroed still y o = absurd (let q = sym (ap holds_epoch_at (asks _ _ w)) ∙ o in let z : ◌≡◌ {A = ℕ} 0 1 = cc in omega arith)
holds_on side g s next (finds-spin h) u n n' k' more zeroed still y o = absurd (let z : ◌≡◌ {A = ℕ} 0 1 = cc in omega arith)
holds_on side g s next (spins h w) u n n' k' more zeroed still y o = absurd (let q = sym (ap holds_epoch_at (asks _ _ w)) ∙ o in let z : ◌≡◌ {A = ℕ} 0 1 = cc in omega arith)
holds_on side g s next (stops h w) u n n' k' more zeroed still y o = absurd (let z : ◌≡◌ {A = ℕ} 0 1 = cc in omega arith)
holds_on side g s next reads u n n' k' more zeroed still y o = rw (zeroed refl) (omega (arith, owing-small side u k'))
holds_on side g s next (finds-again h) u n n' k' more zeroed still y o = absurd (let z : ◌≡◌ {A = ℕ} 0 1 = cc in omega arith)
holds_on side g s next (stays h) u n n' k' more zeroed still y o = rw ((still refl).0, (still refl).1) (y refl)
holds_on side g s next (enters-again h) u n n' k' more zeroed still y o = rw ((still refl).0, (still refl).1) (y refl)
holds_on side g s next (stops-again h w) u n n' k' more zeroed still y o = absurd (let z : ◌≡◌ {A = ℕ} 0 1 = cc in omega arith)
holds_on side g s next (falls-asleep h) u n n' k' more zeroed still y o = absurd (let z : ◌≡◌ {A = ℕ} 0 1 = cc in omega arith)
holds_on side g s next returns u n n' k' more zeroed still y o = absurd (let z : ◌≡◌ {A = ℕ} 0 1 = cc in omega arith)
holds_on side g s next ends u n n' k' more zeroed still y o = absurd (let z : ◌≡◌ {A = ℕ} 0 1 = cc in omega arith)
holds_on side g s next dreams u n n' k' more zeroed still y o = absurd (let z : ◌≡◌ {A = ℕ} 0 1 = cc in omega arith)
holds_on side g s next (glances h w) u n n' k' more zeroed still y o = absurd (let z : ◌≡◌ {A = ℕ} 0 1 = cc in omega arith)
holds_on side g s next (glances-again h w) u n n' k' more zeroed still y o = absurd (let z : ◌≡◌ {A = ℕ} 0 1 = cc in omega arith)
holds_on side g s next times-out u n n' k' more zeroed still y o = absurd (let z : ◌≡◌ {A = ℕ} 0 1 = cc in omega arith)
holds_on side g s next (finds-last h) u n n' k' more zeroed still y o = absurd (let z : ◌≡◌ {A = ℕ} 0 1 = cc in omega arith)
holds_on side g s next (finds-none h) u n n' k' more zeroed still y o = absurd (let z : ◌≡◌ {A = ℕ} 0 1 = cc in omega arith)
holds_on side g s next (closes h) u n n' k' more zeroed still y o = absurd (let z : ◌≡◌ {A = ℕ} 0 1 = cc in omega arith)
holds_on side g s next (closes-alone h) u n n' k' more zeroed still y o = absurd (let z : ◌≡◌ {A = ℕ} 0 1 = cc in omega arith)
holds_on side g s next close-raises u n n' k' more zeroed still y o = absurd (let z : ◌≡◌ {A = ℕ} 0 1 = cc in omega arith)
holds_on side g s next close-wakes u n n' k' more zeroed still y o = absurd (let z : ◌≡◌ {A = ℕ} 0 1 = cc in omega arith)
holds_on side g s next shuts u n n' k' more zeroed still y o = absurd (let z : ◌≡◌ {A = ℕ} 0 1 = cc in omega arith)
holds_on side g s next shut-raises u n n' k' more zeroed still y o = absurd (let z : ◌≡◌ {A = ℕ} 0 1 = cc in omega arith)
holds_on side g s next shut-wakes u n n' k' more zeroed still y o = absurd (let z : ◌≡◌ {A = ℕ} 0 1 = cc in omega arith)
holds_on side g s next shut-raises-again u n n' k' more zeroed still y o = absurd (let z : ◌≡◌ {A = ℕ} 0 1 = cc in omega arith)
holds_on side g s next shut-wakes-again u n n' k' more zeroed still y o = absurd (let z : ◌≡◌ {A = ℕ} 0 1 = cc in omega arith)
