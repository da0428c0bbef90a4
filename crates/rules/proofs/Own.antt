-- A turn of one's own: what a waiter may rely on after it.
use mathlib.Core.Path.{◌≡◌, refl, sym, ap, ◌∙◌}
use mathlib.Core.Bool.{Bool, true, false, not, ◌||◌}
use Prim.Native.Nat.{ℕ}
use native.Mathlib.Omega.{arith}
use Rattle.types.specs.declared.Step.{Step}
use Rattle.types.specs.declared.Step.TheVariants.{Wait}
use Rattle.rules.specs.Phase.{Phase, resting, looking, copying, publishing, telling, asking, armed, poised, waits, sleeps, glancing, leaving, phase}
use Rattle.rules.specs.Stretch.{holds_epoch_at}
use Rattle.rules.proofs.Views.{awake}
use Rattle.rules.proofs.Leads.{Sight, asks, barred, Leads, idles, finds, blocks, gives_up, copies, spills, tells, stores, owes, passes, raises, wakes, enters, stops, finds-spin, spins, reads, finds-again, stays, enters-again, stops-again, returns, ends, dreams, glances, glances-again, times-out, finds-last, finds-none, closes, closes-alone, close-raises, close-wakes, shuts, shut-raises, shut-wakes, shut-raises-again, shut-wakes-again, sleeps as falls-asleep}
use Rattle.rules.proofs.Heard.{Duty, none, checking, raising, waking, Due, Good}

-- a step of a wait, which holds an epoch or sleeps: its turn changes nothing that the waiter relies on
abbrev pub waits_on_at : Phase → Bool
waits_on_at ph = holds_epoch_at ph || not (awake ph)

abbrev pub waits_on : Step → Bool
waits_on s = waits_on_at (phase s)

pub later : (d : Duty) (k : ℕ) → Due false d k → Due true d k
later none k x = x
later checking k x = x
later raising k x = tt
later waking k x = tt

-- the wait goes on only over what was seen: no room, no flag, no raise
pub own : (g : Sight) (s next : Step) → Leads g s next → (n : ℕ) (d : Duty) → ((e : ℕ) → s ≡ Wait e → g.bell ≡ e → n ≡ 0)
    → (n' k' : ℕ) (z' : Bool) → (waits_on s ≡ true → (n' ≡ n) × (k' ≡ g.room) × (z' ≡ barred g.door)) → Good (phase s) n g.room (barred g.door) d → Good (phase next) n' k' z' d
own g s next idles n d p n' k' z' f y = tt
own g s next (finds h) n d p n' k' z' f y = tt
own g s next (blocks h q) n d p n' k' z' f y = tt
own g s next (gives_up h q) n d p n' k' z' f y = tt
own g s next copies n d p n' k' z' f y = tt
own g s next spills n d p n' k' z' f y = tt
own g s next (tells h) n d p n' k' z' f y = tt
own g s next (stores h) n d p n' k' z' f y = tt
own g s next (owes h) n d p n' k' z' f y = tt
own g s next (passes h) n d p n' k' z' f y = tt
own g s next raises n d p n' k' z' f y = tt
own g s next wakes n d p n' k' z' f y = tt
own g s next (enters h o) n d p n' k' z' f y = rw (asks _ _ o) tt
own g s next (finds-spin h) n d p n' k' z' f y = tt
own g s next (spins h o) n d p n' k' z' f y = rw (asks _ _ o) tt
own g s next (stops h u) n d p n' k' z' f y = tt
own g s next reads n d p n' k' z' f y = tt
own g s next (finds-again h) n d p n' k' z' f y = tt
own g s next (stays h) n d p n' k' z' f y = λ q. rw ((f refl).1 ∙ h) (λ c. absurd c)
own g s next (enters-again h) n d p n' k' z' f y = λ q c. rw (f refl).1 (y (sym (f refl).0 ∙ q) (rw ((f refl).1, (f refl).2 ∙ ap barred h) at c))
own g s next (stops-again h u) n d p n' k' z' f y = tt
own g s next (falls-asleep h) n d p n' k' z' f y = λ c. rw (f refl).1 (later d g.room (y (p _ refl h) (rw ((f refl).1, (f refl).2) at c)))
own g s next returns n d p n' k' z' f y = tt
own g s next ends n d p n' k' z' f y = tt
own g s next dreams n d p n' k' z' f y = λ c. rw (f refl).1 (y (rw ((f refl).1, (f refl).2) at c))
own g s next (glances h u) n d p n' k' z' f y = tt
own g s next (glances-again h u) n d p n' k' z' f y = tt
own g s next times-out n d p n' k' z' f y = tt
own g s next (finds-last h) n d p n' k' z' f y = tt
own g s next (finds-none h) n d p n' k' z' f y = tt
own g s next (closes h) n d p n' k' z' f y = tt
own g s next (closes-alone h) n d p n' k' z' f y = tt
own g s next close-raises n d p n' k' z' f y = tt
own g s next close-wakes n d p n' k' z' f y = tt
own g s next shuts n d p n' k' z' f y = tt
own g s next shut-raises n d p n' k' z' f y = tt
own g s next shut-wakes n d p n' k' z' f y = tt
own g s next shut-raises-again n d p n' k' z' f y = tt
own g s next shut-wakes-again n d p n' k' z' f y = tt

-- one whose other never rings does not wait
abbrev pub Tries : (blocking : Bool) → Phase → Type 0
Tries true ph = ⊥
Tries false resting = Unit
Tries false looking = Unit
Tries false copying = Unit
Tries false (publishing u t) = Unit
Tries false (telling u t) = Unit
Tries false asking = ⊥
Tries false (armed e) = ⊥
Tries false (poised e) = ⊥
Tries false (waits e) = ⊥
Tries false sleeps = ⊥
Tries false glancing = Unit
Tries false leaving = Unit

pub tries : (g : Sight) (m : Bool) → g.blocking ≡ m → (s next : Step) → Leads g s next → Tries m (phase s) → Tries m (phase next)
tries g true e s next l y = y
tries g false e s next idles y = tt
tries g false e s next (finds h) y = tt
tries g false e s next (blocks h q) y = absurd (let u : ◌≡◌ {A = ℕ} 0 1 = cc in omega arith)
tries g false e s next (gives_up h q) y = tt
tries g false e s next copies y = tt
tries g false e s next spills y = tt
tries g false e s next (tells h) y = tt
tries g false e s next (stores h) y = tt
tries g false e s next (owes h) y = tt
tries g false e s next (passes h) y = tt
tries g false e s next raises y = tt
tries g false e s next wakes y = tt
tries g false e s next (enters h o) y = absurd y
tries g false e s next (finds-spin h) y = absurd y
tries g false e s next (spins h o) y = absurd y
tries g false e s next (stops h u) y = absurd y
tries g false e s next reads y = absurd y
tries g false e s next (finds-again h) y = absurd y
tries g false e s next (stays h) y = absurd y
tries g false e s next (enters-again h) y = absurd y
tries g false e s next (stops-again h u) y = absurd y
tries g false e s next (falls-asleep h) y = absurd y
tries g false e s next returns y = absurd y
tries g false e s next ends y = absurd y
tries g false e s next dreams y = absurd y
tries g false e s next (glances h u) y = absurd y
tries g false e s next (glances-again h u) y = absurd y
tries g false e s next times-out y = absurd y
tries g false e s next (finds-last h) y = tt
tries g false e s next (finds-none h) y = tt
tries g false e s next (closes h) y = tt
tries g false e s next (closes-alone h) y = tt
tries g false e s next close-raises y = tt
tries g false e s next close-wakes y = tt
tries g false e s next shuts y = tt
tries g false e s next shut-raises y = tt
tries g false e s next shut-wakes y = tt
tries g false e s next shut-raises-again y = tt
tries g false e s next shut-wakes-again y = tt
