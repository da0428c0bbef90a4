-- A party that has closed stays out of push and pop, and only the other's close leads to the last look for it.
use mathlib.Core.Path.{◌≡◌, refl, sym, ap, ◌∙◌}
use mathlib.Core.Bool.{Bool, true, false}
use mathlib.Core.Logic.{◌⊎◌, inl, inr}
use Prim.Native.Nat.{ℕ, ◌<◌}
use native.Mathlib.Omega.{arith}
use Rattle.types.specs.declared.Side.{Side}
use Rattle.types.specs.declared.Door.TheVariants.{Left}
use Rattle.types.specs.declared.Step.{Step}
use Rattle.types.specs.declared.Step.TheVariants.{Spin, LastLook, CloseSet}
use Rattle.types.specs.declared.Access.{Access}
use Rattle.rules.specs.Take.{stance_of, closed_after}
use Rattle.rules.specs.Phase.{phase}
use Rattle.rules.proofs.Does.{Does, nothing, looks, flags, reads as epoch, writes, takes, stores as store, raises as ring, closes as close, shuts as shut, waits as wait, wakes as wake}
use Rattle.rules.proofs.Leads.{Sight, Onward, straight, around, asks, Leads, idles, finds, blocks, gives_up, copies, spills, tells, stores, owes, passes, raises, wakes, enters, stops, finds-spin, spins, reads, finds-again, stays, enters-again, stops-again, returns, ends, dreams, glances, glances-again, times-out, finds-last, finds-none, closes, closes-alone, close-raises, close-wakes, shuts, shut-raises, shut-wakes, shut-raises-again, shut-wakes-again, sleeps as falls-asleep}
use Rattle.rules.proofs.Real.{parts}

-- a turn leads out of push and pop, not into them
pub parts-on : (g : Sight) (s next : Step) → Leads g s next → parts (phase s) ≡ true → parts (phase next) ≡ true
parts-on g s next idles e = refl
parts-on g s next (finds h) e = absurd (let u : ◌≡◌ {A = ℕ} 0 1 = cc in omega arith)
parts-on g s next (blocks h q) e = absurd (let u : ◌≡◌ {A = ℕ} 0 1 = cc in omega arith)
parts-on g s next (gives_up h q) e = absurd (let u : ◌≡◌ {A = ℕ} 0 1 = cc in omega arith)
parts-on g s next copies e = absurd (let u : ◌≡◌ {A = ℕ} 0 1 = cc in omega arith)
parts-on g s next spills e = absurd (let u : ◌≡◌ {A = ℕ} 0 1 = cc in omega arith)
parts-on g s next (tells h) e = absurd (let u : ◌≡◌ {A = ℕ} 0 1 = cc in omega arith)
parts-on g s next (stores h) e = absurd (let u : ◌≡◌ {A = ℕ} 0 1 = cc in omega arith)
parts-on g s next (owes h) e = absurd (let u : ◌≡◌ {A = ℕ} 0 1 = cc in omega arith)
parts-on g s next (passes h) e = absurd (let u : ◌≡◌ {A = ℕ} 0 1 = cc in omega arith)
parts-on g s next raises e = absurd (let u : ◌≡◌ {A = ℕ} 0 1 = cc in omega arith)
parts-on g s next wakes e = absurd (let u : ◌≡◌ {A = ℕ} 0 1 = cc in omega arith)
parts-on g s next (enters h o) e = absurd (let u : ◌≡◌ {A = ℕ} 0 1 = cc in omega arith)
parts-on g s next (finds-spin h) e = absurd (let u : ◌≡◌ {A = ℕ} 0 1 = cc in omega arith)
parts-on g s next (spins h o) e = absurd (let u : ◌≡◌ {A = ℕ} 0 1 = cc in omega arith)
parts-on g s next (stops h u) e = absurd (let u : ◌≡◌ {A = ℕ} 0 1 = cc in omega arith)
parts-on g s next reads e = absurd (let u : ◌≡◌ {A = ℕ} 0 1 = cc in omega arith)
parts-on g s next (finds-again h) e = absurd (let u : ◌≡◌ {A = ℕ} 0 1 = cc in omega arith)
parts-on g s next (stays h) e = absurd (let u : ◌≡◌ {A = ℕ} 0 1 = cc in omega arith)
parts-on g s next (enters-again h) e = absurd (let u : ◌≡◌ {A = ℕ} 0 1 = cc in omega arith)
parts-on g s next (stops-again h u) e = absurd (let u : ◌≡◌ {A = ℕ} 0 1 = cc in omega arith)
parts-on g s next (falls-asleep h) e = absurd (let u : ◌≡◌ {A = ℕ} 0 1 = cc in omega arith)
parts-on g s next returns e = absurd (let u : ◌≡◌ {A = ℕ} 0 1 = cc in omega arith)
parts-on g s next ends e = absurd (let u : ◌≡◌ {A = ℕ} 0 1 = cc in omega arith)
parts-on g s next dreams e = absurd (let u : ◌≡◌ {A = ℕ} 0 1 = cc in omega arith)
parts-on g s next (glances h u) e = absurd (let u : ◌≡◌ {A = ℕ} 0 1 = cc in omega arith)
parts-on g s next (glances-again h u) e = absurd (let u : ◌≡◌ {A = ℕ} 0 1 = cc in omega arith)
parts-on g s next times-out e = absurd (let u : ◌≡◌ {A = ℕ} 0 1 = cc in omega arith)
parts-on g s next (finds-last h) e = absurd (let u : ◌≡◌ {A = ℕ} 0 1 = cc in omega arith)
parts-on g s next (finds-none h) e = absurd (let u : ◌≡◌ {A = ℕ} 0 1 = cc in omega arith)
parts-on g s next (closes h) e = refl
parts-on g s next (closes-alone h) e = refl
parts-on g s next close-raises e = refl
parts-on g s next close-wakes e = refl
parts-on g s next shuts e = refl
parts-on g s next shut-raises e = refl
parts-on g s next shut-wakes e = refl
parts-on g s next shut-raises-again e = refl
parts-on g s next shut-wakes-again e = refl

pub glances-left : (g : Sight) (s next : Step) → Leads g s next → next ≡ LastLook false → g.door ≡ Left
glances-left g s next idles e = absurd (let u : ◌≡◌ {A = ℕ} 0 1 = cc in omega arith)
glances-left g s next (finds h) e = absurd (let u : ◌≡◌ {A = ℕ} 0 1 = cc in omega arith)
glances-left g s next (blocks h q) e = absurd (let u : ◌≡◌ {A = ℕ} 0 1 = cc in omega arith)
glances-left g s next (gives_up h q) e = absurd (let u : ◌≡◌ {A = ℕ} 0 1 = cc in omega arith)
glances-left g s next copies e = absurd (let u : ◌≡◌ {A = ℕ} 0 1 = cc in omega arith)
glances-left g s next spills e = absurd (let u : ◌≡◌ {A = ℕ} 0 1 = cc in omega arith)
glances-left g s next (tells h) e = absurd (let u : ◌≡◌ {A = ℕ} 0 1 = cc in omega arith)
glances-left g s next (stores h) e = absurd (let u : ◌≡◌ {A = ℕ} 0 1 = cc in omega arith)
glances-left g s next (owes h) e = absurd (let u : ◌≡◌ {A = ℕ} 0 1 = cc in omega arith)
glances-left g s next (passes h) e = absurd (let u : ◌≡◌ {A = ℕ} 0 1 = cc in omega arith)
glances-left g s next raises e = absurd (let u : ◌≡◌ {A = ℕ} 0 1 = cc in omega arith)
glances-left g s next wakes e = absurd (let u : ◌≡◌ {A = ℕ} 0 1 = cc in omega arith)
glances-left g s next (enters h o) e = absurd (let q = sym (asks _ _ o) ∙ ap phase e in let u : ◌≡◌ {A = ℕ} 0 1 = cc in omega arith)
glances-left g s next (finds-spin h) e = absurd (let u : ◌≡◌ {A = ℕ} 0 1 = cc in omega arith)
glances-left g s next (spins h o) e = absurd (let q = sym (asks _ _ o) ∙ ap phase e in let u : ◌≡◌ {A = ℕ} 0 1 = cc in omega arith)
glances-left g s next (stops h u) e = absurd (let u : ◌≡◌ {A = ℕ} 0 1 = cc in omega arith)
glances-left g s next reads e = absurd (let u : ◌≡◌ {A = ℕ} 0 1 = cc in omega arith)
glances-left g s next (finds-again h) e = absurd (let u : ◌≡◌ {A = ℕ} 0 1 = cc in omega arith)
glances-left g s next (stays h) e = absurd (let u : ◌≡◌ {A = ℕ} 0 1 = cc in omega arith)
glances-left g s next (enters-again h) e = absurd (let u : ◌≡◌ {A = ℕ} 0 1 = cc in omega arith)
glances-left g s next (stops-again h u) e = absurd (let u : ◌≡◌ {A = ℕ} 0 1 = cc in omega arith)
glances-left g s next (falls-asleep h) e = absurd (let u : ◌≡◌ {A = ℕ} 0 1 = cc in omega arith)
glances-left g s next returns e = absurd (let u : ◌≡◌ {A = ℕ} 0 1 = cc in omega arith)
glances-left g s next ends e = absurd (let u : ◌≡◌ {A = ℕ} 0 1 = cc in omega arith)
glances-left g s next dreams e = absurd (let u : ◌≡◌ {A = ℕ} 0 1 = cc in omega arith)
glances-left g s next (glances h u) e = h
glances-left g s next (glances-again h u) e = h
glances-left g s next times-out e = absurd (let u : ◌≡◌ {A = ℕ} 0 1 = cc in omega arith)
glances-left g s next (finds-last h) e = absurd (let u : ◌≡◌ {A = ℕ} 0 1 = cc in omega arith)
glances-left g s next (finds-none h) e = absurd (let u : ◌≡◌ {A = ℕ} 0 1 = cc in omega arith)
glances-left g s next (closes h) e = absurd (let u : ◌≡◌ {A = ℕ} 0 1 = cc in omega arith)
glances-left g s next (closes-alone h) e = absurd (let u : ◌≡◌ {A = ℕ} 0 1 = cc in omega arith)
glances-left g s next close-raises e = absurd (let u : ◌≡◌ {A = ℕ} 0 1 = cc in omega arith)
glances-left g s next close-wakes e = absurd (let u : ◌≡◌ {A = ℕ} 0 1 = cc in omega arith)
glances-left g s next shuts e = absurd (let u : ◌≡◌ {A = ℕ} 0 1 = cc in omega arith)
glances-left g s next shut-raises e = absurd (let u : ◌≡◌ {A = ℕ} 0 1 = cc in omega arith)
glances-left g s next shut-wakes e = absurd (let u : ◌≡◌ {A = ℕ} 0 1 = cc in omega arith)
glances-left g s next shut-raises-again e = absurd (let u : ◌≡◌ {A = ℕ} 0 1 = cc in omega arith)
glances-left g s next shut-wakes-again e = absurd (let u : ◌≡◌ {A = ℕ} 0 1 = cc in omega arith)

fewer : (m : ℕ) (t : Step) → Onward m t → (n : ℕ) → t ≡ Spin n → n < m
fewer m t straight n e = absurd (let u : ◌≡◌ {A = ℕ} 0 1 = cc in omega arith)
fewer m t (around i) n e = let q : i ≡ n = cc in omega arith

-- a turn leads to a spin that fewer follow than it spins
pub spins-on : (g : Sight) (s next : Step) → Leads g s next → ((i : ℕ) → s ≡ Spin i → i < g.spins) → (n : ℕ) → next ≡ Spin n → n < g.spins
spins-on g s next idles f n e = absurd (let u : ◌≡◌ {A = ℕ} 0 1 = cc in omega arith)
spins-on g s next (finds h) f n e = absurd (let u : ◌≡◌ {A = ℕ} 0 1 = cc in omega arith)
spins-on g s next (blocks h q) f n e = absurd (let u : ◌≡◌ {A = ℕ} 0 1 = cc in omega arith)
spins-on g s next (gives_up h q) f n e = absurd (let u : ◌≡◌ {A = ℕ} 0 1 = cc in omega arith)
spins-on g s next copies f n e = absurd (let u : ◌≡◌ {A = ℕ} 0 1 = cc in omega arith)
spins-on g s next spills f n e = absurd (let u : ◌≡◌ {A = ℕ} 0 1 = cc in omega arith)
spins-on g s next (tells h) f n e = absurd (let u : ◌≡◌ {A = ℕ} 0 1 = cc in omega arith)
spins-on g s next (stores h) f n e = absurd (let u : ◌≡◌ {A = ℕ} 0 1 = cc in omega arith)
spins-on g s next (owes h) f n e = absurd (let u : ◌≡◌ {A = ℕ} 0 1 = cc in omega arith)
spins-on g s next (passes h) f n e = absurd (let u : ◌≡◌ {A = ℕ} 0 1 = cc in omega arith)
spins-on g s next raises f n e = absurd (let u : ◌≡◌ {A = ℕ} 0 1 = cc in omega arith)
spins-on g s next wakes f n e = absurd (let u : ◌≡◌ {A = ℕ} 0 1 = cc in omega arith)
spins-on g s next (enters h o) f n e = fewer _ next o n e
spins-on g s next (finds-spin h) f n e = absurd (let u : ◌≡◌ {A = ℕ} 0 1 = cc in omega arith)
spins-on g s next (spins {n = i} h o) f n e = omega (arith, fewer _ next o n e, f i refl)
spins-on g s next (stops h u) f n e = absurd (let u : ◌≡◌ {A = ℕ} 0 1 = cc in omega arith)
spins-on g s next reads f n e = absurd (let u : ◌≡◌ {A = ℕ} 0 1 = cc in omega arith)
spins-on g s next (finds-again h) f n e = absurd (let u : ◌≡◌ {A = ℕ} 0 1 = cc in omega arith)
spins-on g s next (stays h) f n e = absurd (let u : ◌≡◌ {A = ℕ} 0 1 = cc in omega arith)
spins-on g s next (enters-again h) f n e = absurd (let u : ◌≡◌ {A = ℕ} 0 1 = cc in omega arith)
spins-on g s next (stops-again h u) f n e = absurd (let u : ◌≡◌ {A = ℕ} 0 1 = cc in omega arith)
spins-on g s next (falls-asleep h) f n e = absurd (let u : ◌≡◌ {A = ℕ} 0 1 = cc in omega arith)
spins-on g s next returns f n e = absurd (let u : ◌≡◌ {A = ℕ} 0 1 = cc in omega arith)
spins-on g s next ends f n e = absurd (let u : ◌≡◌ {A = ℕ} 0 1 = cc in omega arith)
spins-on g s next dreams f n e = absurd (let u : ◌≡◌ {A = ℕ} 0 1 = cc in omega arith)
spins-on g s next (glances h u) f n e = absurd (let u : ◌≡◌ {A = ℕ} 0 1 = cc in omega arith)
spins-on g s next (glances-again h u) f n e = absurd (let u : ◌≡◌ {A = ℕ} 0 1 = cc in omega arith)
spins-on g s next times-out f n e = absurd (let u : ◌≡◌ {A = ℕ} 0 1 = cc in omega arith)
spins-on g s next (finds-last h) f n e = absurd (let u : ◌≡◌ {A = ℕ} 0 1 = cc in omega arith)
spins-on g s next (finds-none h) f n e = absurd (let u : ◌≡◌ {A = ℕ} 0 1 = cc in omega arith)
spins-on g s next (closes h) f n e = absurd (let u : ◌≡◌ {A = ℕ} 0 1 = cc in omega arith)
spins-on g s next (closes-alone h) f n e = absurd (let u : ◌≡◌ {A = ℕ} 0 1 = cc in omega arith)
spins-on g s next close-raises f n e = absurd (let u : ◌≡◌ {A = ℕ} 0 1 = cc in omega arith)
spins-on g s next close-wakes f n e = absurd (let u : ◌≡◌ {A = ℕ} 0 1 = cc in omega arith)
spins-on g s next shuts f n e = absurd (let u : ◌≡◌ {A = ℕ} 0 1 = cc in omega arith)
spins-on g s next shut-raises f n e = absurd (let u : ◌≡◌ {A = ℕ} 0 1 = cc in omega arith)
spins-on g s next shut-wakes f n e = absurd (let u : ◌≡◌ {A = ℕ} 0 1 = cc in omega arith)
spins-on g s next shut-raises-again f n e = absurd (let u : ◌≡◌ {A = ℕ} 0 1 = cc in omega arith)
spins-on g s next shut-wakes-again f n e = absurd (let u : ◌≡◌ {A = ℕ} 0 1 = cc in omega arith)

-- one's own close is counted by its own turn alone
pub closed-by : (side : Side) (n : ℕ) (s : Step) (a : Access) → Does side n s a → (b : Bool) → (closed_after (stance_of s) b ≡ b) ⊎ (s ≡ CloseSet)
closed-by side n s a (nothing l) b = inl (l.closed b)
closed-by side n s a (looks l) b = inl (l.closed b)
closed-by side n s a (flags l) b = inl (l.closed b)
closed-by side n s a epoch b = inl refl
closed-by side n s a (writes q) b = inl refl
closed-by side n s a (takes q) b = inl refl
closed-by side n s a store b = inl refl
closed-by side n s a (ring l c) b = inl (l.closed b)
closed-by side n s a close b = inr refl
closed-by side n s a shut b = inl refl
closed-by side n s a wait b = inl refl
closed-by side n s a (wake l c m) b = inl (l.closed b)
