-- What a willing stretch needs of each turn: a call under way stays under way.
use Rattle.std.specs.Prelude.{None}
use mathlib.Core.Path.{◌≡◌, refl, ap, subst}
use mathlib.Core.Bool.{Bool, true}
use mathlib.Core.List.{List, ◌∷◌, ◌++◌}
use mathlib.Core.Logic.{◌⊎◌, inl, inr, ⊎_elim}
use Prim.Native.Nat.{ℕ, ◌^◌, ◌<◌, ◌≤◌}
use native.Mathlib.Omega.{arith}
use lib.ListN.{length}
use Rattle.types.specs.declared.Side.{Side}
use Rattle.types.specs.declared.Side.TheVariants.{Sender, Recorder}
use Rattle.types.specs.declared.Step.{Step}
use Rattle.types.specs.declared.Step.TheVariants.{Epoch}
use Rattle.rules.specs.Sides.{other}
use Rattle.rules.specs.Take.{stance_of, closed_after}
use Rattle.rules.specs.Next.{next_at}
use Rattle.rules.specs.Run.{Note, Trace, World, party_in, rung_of}
use Rattle.rules.specs.Premises.{FairTurn}
use Rattle.rules.specs.Stretch.{Big, notes_of, before_copy, holds_epoch, Underway}
use Rattle.rules.specs.Phase.{phase}
use Rattle.rules.proofs.Leads.{Sight, Onward, straight, around, Leads, idles, finds, blocks, gives_up, copies, spills, tells, stores, owes, passes, raises, wakes, enters, stops, finds-spin, spins, reads, finds-again, stays, enters-again, stops-again, returns, ends, dreams, glances, glances-again, times-out, finds-last, finds-none, closes, closes-alone, close-raises, close-wakes, shuts, shut-raises, shut-wakes, shut-raises-again, shut-wakes-again, sleeps as falls-asleep}
use Rattle.rules.proofs.Does.{does}
use Rattle.rules.proofs.Parting.{closed-by}
use Rattle.rules.proofs.Own.{waits_on}
use Rattle.rules.proofs.Costs.{Calls}

-- a turn to a step before the copy comes from one
pub before_on : (g : Sight) (s next : Step) → Leads g s next → before_copy next ≡ true → before_copy s ≡ true
before_on g s next idles e = absurd (let u : ◌≡◌ {A = ℕ} 0 1 = cc in omega arith)
before_on g s next (finds h) e = refl
before_on g s next (blocks h q) e = refl
before_on g s next (gives_up h q) e = absurd (let u : ◌≡◌ {A = ℕ} 0 1 = cc in omega arith)
before_on g s next copies e = absurd (let u : ◌≡◌ {A = ℕ} 0 1 = cc in omega arith)
before_on g s next spills e = absurd (let u : ◌≡◌ {A = ℕ} 0 1 = cc in omega arith)
before_on g s next (tells h) e = absurd (let u : ◌≡◌ {A = ℕ} 0 1 = cc in omega arith)
before_on g s next (stores h) e = absurd (let u : ◌≡◌ {A = ℕ} 0 1 = cc in omega arith)
before_on g s next (owes h) e = absurd (let u : ◌≡◌ {A = ℕ} 0 1 = cc in omega arith)
before_on g s next (passes h) e = absurd (let u : ◌≡◌ {A = ℕ} 0 1 = cc in omega arith)
before_on g s next raises e = absurd (let u : ◌≡◌ {A = ℕ} 0 1 = cc in omega arith)
before_on g s next wakes e = absurd (let u : ◌≡◌ {A = ℕ} 0 1 = cc in omega arith)
before_on g s next (enters h o) e = refl
before_on g s next (stops h l) e = absurd (let u : ◌≡◌ {A = ℕ} 0 1 = cc in omega arith)
before_on g s next (finds-spin h) e = refl
before_on g s next (spins h o) e = refl
before_on g s next reads e = refl
before_on g s next (finds-again h) e = refl
before_on g s next (stays h) e = refl
before_on g s next (enters-again h) e = refl
before_on g s next (stops-again h l) e = absurd (let u : ◌≡◌ {A = ℕ} 0 1 = cc in omega arith)
before_on g s next (falls-asleep h) e = refl
before_on g s next returns e = refl
before_on g s next ends e = absurd (let u : ◌≡◌ {A = ℕ} 0 1 = cc in omega arith)
before_on g s next dreams e = refl
before_on g s next (glances h l) e = refl
before_on g s next (glances-again h l) e = refl
before_on g s next times-out e = refl
before_on g s next (finds-last h) e = refl
before_on g s next (finds-none h) e = absurd (let u : ◌≡◌ {A = ℕ} 0 1 = cc in omega arith)
before_on g s next (closes h) e = absurd (let u : ◌≡◌ {A = ℕ} 0 1 = cc in omega arith)
before_on g s next (closes-alone h) e = absurd (let u : ◌≡◌ {A = ℕ} 0 1 = cc in omega arith)
before_on g s next close-raises e = absurd (let u : ◌≡◌ {A = ℕ} 0 1 = cc in omega arith)
before_on g s next close-wakes e = absurd (let u : ◌≡◌ {A = ℕ} 0 1 = cc in omega arith)
before_on g s next shuts e = absurd (let u : ◌≡◌ {A = ℕ} 0 1 = cc in omega arith)
before_on g s next shut-raises e = absurd (let u : ◌≡◌ {A = ℕ} 0 1 = cc in omega arith)
before_on g s next shut-wakes e = absurd (let u : ◌≡◌ {A = ℕ} 0 1 = cc in omega arith)
before_on g s next shut-raises-again e = absurd (let u : ◌≡◌ {A = ℕ} 0 1 = cc in omega arith)
before_on g s next shut-wakes-again e = absurd (let u : ◌≡◌ {A = ℕ} 0 1 = cc in omega arith)

-- none is held before the look at the bell
none_yet : (n : ℕ) (t : Step) → Onward n t → holds_epoch t ≡ true → ⊥
none_yet n t straight e = let u : ◌≡◌ {A = ℕ} 0 1 = cc in omega arith
none_yet n t (around m) e = let u : ◌≡◌ {A = ℕ} 0 1 = cc in omega arith

-- an epoch that is held was just read, or was held before
pub epoch-on : (g : Sight) (s next : Step) → Leads g s next → holds_epoch next ≡ true → (s ≡ Epoch) ⊎ ((waits_on s ≡ true) × (holds_epoch s ≡ true))
epoch-on g s next idles e = absurd (let u : ◌≡◌ {A = ℕ} 0 1 = cc in omega arith)
epoch-on g s next (finds h) e = absurd (let u : ◌≡◌ {A = ℕ} 0 1 = cc in omega arith)
epoch-on g s next (blocks h q) e = absurd (let u : ◌≡◌ {A = ℕ} 0 1 = cc in omega arith)
epoch-on g s next (gives_up h q) e = absurd (let u : ◌≡◌ {A = ℕ} 0 1 = cc in omega arith)
epoch-on g s next copies e = absurd (let u : ◌≡◌ {A = ℕ} 0 1 = cc in omega arith)
epoch-on g s next spills e = absurd (let u : ◌≡◌ {A = ℕ} 0 1 = cc in omega arith)
epoch-on g s next (tells h) e = absurd (let u : ◌≡◌ {A = ℕ} 0 1 = cc in omega arith)
epoch-on g s next (stores h) e = absurd (let u : ◌≡◌ {A = ℕ} 0 1 = cc in omega arith)
epoch-on g s next (owes h) e = absurd (let u : ◌≡◌ {A = ℕ} 0 1 = cc in omega arith)
epoch-on g s next (passes h) e = absurd (let u : ◌≡◌ {A = ℕ} 0 1 = cc in omega arith)
epoch-on g s next raises e = absurd (let u : ◌≡◌ {A = ℕ} 0 1 = cc in omega arith)
epoch-on g s next wakes e = absurd (let u : ◌≡◌ {A = ℕ} 0 1 = cc in omega arith)
epoch-on g s next (enters h o) e = absurd (none_yet _ next o e)
epoch-on g s next (stops h l) e = absurd (let u : ◌≡◌ {A = ℕ} 0 1 = cc in omega arith)
epoch-on g s next (finds-spin h) e = absurd (let u : ◌≡◌ {A = ℕ} 0 1 = cc in omega arith)
epoch-on g s next (spins h o) e = absurd (none_yet _ next o e)
epoch-on g s next reads e = inl refl
epoch-on g s next (finds-again h) e = absurd (let u : ◌≡◌ {A = ℕ} 0 1 = cc in omega arith)
epoch-on g s next (stays h) e = inr (refl, refl)
epoch-on g s next (enters-again h) e = inr (refl, refl)
epoch-on g s next (stops-again h l) e = absurd (let u : ◌≡◌ {A = ℕ} 0 1 = cc in omega arith)
epoch-on g s next (falls-asleep h) e = absurd (let u : ◌≡◌ {A = ℕ} 0 1 = cc in omega arith)
epoch-on g s next returns e = absurd (let u : ◌≡◌ {A = ℕ} 0 1 = cc in omega arith)
epoch-on g s next ends e = absurd (let u : ◌≡◌ {A = ℕ} 0 1 = cc in omega arith)
epoch-on g s next dreams e = absurd (let u : ◌≡◌ {A = ℕ} 0 1 = cc in omega arith)
epoch-on g s next (glances h l) e = absurd (let u : ◌≡◌ {A = ℕ} 0 1 = cc in omega arith)
epoch-on g s next (glances-again h l) e = absurd (let u : ◌≡◌ {A = ℕ} 0 1 = cc in omega arith)
epoch-on g s next times-out e = absurd (let u : ◌≡◌ {A = ℕ} 0 1 = cc in omega arith)
epoch-on g s next (finds-last h) e = absurd (let u : ◌≡◌ {A = ℕ} 0 1 = cc in omega arith)
epoch-on g s next (finds-none h) e = absurd (let u : ◌≡◌ {A = ℕ} 0 1 = cc in omega arith)
epoch-on g s next (closes h) e = absurd (let u : ◌≡◌ {A = ℕ} 0 1 = cc in omega arith)
epoch-on g s next (closes-alone h) e = absurd (let u : ◌≡◌ {A = ℕ} 0 1 = cc in omega arith)
epoch-on g s next close-raises e = absurd (let u : ◌≡◌ {A = ℕ} 0 1 = cc in omega arith)
epoch-on g s next close-wakes e = absurd (let u : ◌≡◌ {A = ℕ} 0 1 = cc in omega arith)
epoch-on g s next shuts e = absurd (let u : ◌≡◌ {A = ℕ} 0 1 = cc in omega arith)
epoch-on g s next shut-raises e = absurd (let u : ◌≡◌ {A = ℕ} 0 1 = cc in omega arith)
epoch-on g s next shut-wakes e = absurd (let u : ◌≡◌ {A = ℕ} 0 1 = cc in omega arith)
epoch-on g s next shut-raises-again e = absurd (let u : ◌≡◌ {A = ℕ} 0 1 = cc in omega arith)
epoch-on g s next shut-wakes-again e = absurd (let u : ◌≡◌ {A = ℕ} 0 1 = cc in omega arith)

-- a push or a pop does not close its party
pub stays_open : (s : Step) → Calls (phase s) → (b : Bool) → closed_after (stance_of s) b ≡ b
stays_open s y b = ⊎_elim (λ q. q) (λ q. absurd (subst (λ (u : Step). Calls (phase u)) q y)) (closed-by Sender 0 s (next_at s Sender 0) (does Sender 0 s) b)

pub both-notes : (side : Side) (t u : Trace) → notes_of side u ≡ notes_of side t → notes_of (other side) u ≡ notes_of (other side) t → (u.sent ≡ t.sent) × (u.delivered ≡ t.delivered)
both-notes Sender t u a b = (a, b)
both-notes Recorder t u a b = (b, a)

-- the premises on a call under way, over the side
abbrev pub EpochFine : Side → World → Type 0
EpochFine side w = holds_epoch (party_in w side).step ≡ true → rung_of side w.trace < 2 ^ 32

abbrev pub BigFine : Side → World → Type 0
BigFine side w =
    side ≡ Recorder → before_copy (party_in w side).step ≡ true → (n : Note) (rest : List Note) → w.trace.sent ≡ w.trace.delivered ++ (n ∷ rest) → length n.body ≤ (party_in w side).length

pub under-way : (side : Side) (w : World) → Underway side w → EpochFine side w × BigFine side w
under-way Sender w u = (u, λ e. absurd (let z : ◌≡◌ {A = ℕ} 0 1 = cc in omega arith))
under-way Recorder w u = (u.0, λ e. u.1)

pub fair-turn : (side : Side) (w : World) → EpochFine side w → FairTurn side side None w
fair-turn Sender w f = λ e q. f (ap holds_epoch q)
fair-turn Recorder w f = λ e q. f (ap holds_epoch q)

pub big-turn : (side : Side) (w : World) → BigFine side w → Big side w
big-turn Sender w f = tt
big-turn Recorder w f = λ q. f refl (ap before_copy q)
