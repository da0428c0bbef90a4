-- 7 has one cause: a look that found more used than there are slots.
use mathlib.Core.Path.{◌≡◌, refl, ap, subst, ◌∙◌}
use mathlib.Core.Bool.{Bool, true, false}
use mathlib.Core.List.{List}
use mathlib.Core.Logic.{◌⊎◌, inl, inr}
use Prim.Native.Nat.{ℕ, ◌<◌}
use native.Mathlib.Omega.{arith}
use borrow.Author.Tests.{ltb-true}
use lib.Dec.{ltb, eqb}
use Rattle.words.specs.Le.{le_at}
use Rattle.types.specs.Pick.{pick}
use Rattle.types.specs.declared.Side.{Side}
use Rattle.types.specs.declared.Party.{Party}
use Rattle.types.specs.Faults.{Fault}
use Rattle.types.specs.declared.Room.TheVariants.{Corrupt, Blocked, Free}
use Rattle.types.specs.declared.Move.{Move}
use Rattle.types.specs.declared.Move.TheVariants.{Still, To, End}
use Rattle.types.specs.declared.Step.{Step}
use Rattle.types.specs.declared.Step.TheVariants.{Rest, Look, Spin, Again, LastLook}
use Rattle.layout.specs.Limits.{capacity}
use Rattle.layout.specs.Header.{counter_at}
use Rattle.rules.specs.Sides.{other, used, limit}
use Rattle.rules.specs.Looks.{room_with, room_of, room_here}
use Rattle.rules.specs.Take.{step_after, move_of}
use Rattle.rules.specs.Next.{next_spec}
use Rattle.rules.specs.Access.{value_of}
use Rattle.rules.specs.Turn.{error_of, taken, turn_spec}
use Rattle.rules.specs.Rows.{Looking, looks, looks_on, looks-again, looks-last, RunsOn, too_many, shut-set, shut-raised-ne, shut-woke-ne, shut-raised-nf, StandsThere}
use Rattle.rules.specs.Anywhere.{Corrupting, sets, raises-ne, wakes-ne, raises-nf, wakes-nf, CorruptSeen}
use Rattle.rules.proofs.TurnRows.{runs_to, runs-first}
use Rattle.rules.proofs.Leaving.{made, party-is}

-- where a turn runs on, its party stands at the step of its row
pub stands-there : StandsThere
unfolding made
stands-there side r p i o f s g row =
    ap (λ (q : Party). q.step) (party-is side r p i o f g) ∙ ap (λ (m : Move). step_after m p.step) (runs_to p (value_of r p.own (next_spec p)) (error_of f) row)

module _ (p : Party) (v e : ℕ) where
  -- a row of 255 that leads into corruption's shutdown comes from it, or from a look
  from_row : {s : Step} → RunsOn p v e s → Corrupting s → Corrupting p.step ⊎ (Looking p.step × (room_here p.own p.counter v ≡ Corrupt))
  from_row (too_many l h) sets = inr (l, h)
  from_row (shut-set s) raises-ne = inl (rw s sets)
  from_row (shut-raised-ne s) wakes-ne = inl (rw s raises-ne)
  from_row (shut-woke-ne s) raises-nf = inl (rw s wakes-ne)
  from_row (shut-raised-nf s) wakes-nf = inl (rw s raises-nf)
  from_row l c = elim c [ ]

  not-resting : Corrupting Rest → ⊥
  not-resting = elim [ ]

  by_move : (m : Move) → move_of p v e ≡ m → Corrupting (step_after m p.step) → Corrupting p.step ⊎ (Looking p.step × (room_here p.own p.counter v ≡ Corrupt))
  by_move Still q c = inl c
  by_move (End a) q c = absurd (not-resting c)
  by_move (To s) q c = from_row (runs-first p v e q) c

-- more than there are slots
above : (used capacity limit : ℕ) → room_with used capacity limit ≡ Corrupt → capacity < used
above used capacity limit e = by (ltb capacity used) refl (eqb used limit) e
  where
    by : (b : Bool) → ltb capacity used ≡ b → (c : Bool) → pick b Corrupt (pick c Blocked Free) ≡ Corrupt → capacity < used
    by true q c e = ltb-true capacity used q
    by false q true e = absurd (let z : ◌≡◌ {A = ℕ} 0 1 = cc in omega arith)
    by false q false e = absurd (let z : ◌≡◌ {A = ℕ} 0 1 = cc in omega arith)

-- a look loads the other side's counter
loads : (r : List ℕ) (p : Party) (s : Step) → p.step ≡ s → Looking s → value_of r p.own (next_spec p) ≡ le_at 8 r (counter_at (other p.own.side))
unfolding value_of next_spec
loads r p Look q looks = rw q
loads r p (Spin n) q looks_on = rw q
loads r p (Again n) q looks-again = rw q
loads r p (LastLook b) q looks-last = rw q
loads r p s q l = elim l [ ]

module _ (side : Side) (r : List ℕ) (p : Party) (i o : List ℕ) (f : Fault) where
  abbrev value : ℕ
  value = value_of r p.own (next_spec p)

  abbrev Cause : Type 0
  Cause = Corrupting p.step ⊎ (Looking p.step × (capacity p.own.power < used p.own.side p.counter (le_at 8 r (counter_at (other p.own.side)))))

  found : Corrupting p.step ⊎ (Looking p.step × (room_here p.own p.counter value ≡ Corrupt)) → Cause
  unfolding room_of
  found (inl h) = inl h
  found (inr (l, h)) = inr (l, above _ _ _ (subst (λ (x : ℕ). room_here p.own p.counter x ≡ Corrupt) (loads r p p.step refl l) h))

  cause : (b : Bool) → taken side r p i o f ≡ b → Corrupting (turn_spec side r p i o f).party.step → Cause
  unfolding made turn_spec
  cause true g c =
      found (by_move p value (error_of f) (move_of p value (error_of f)) refl (subst Corrupting (ap (λ (q : Party). q.step) (party-is side r p i o f g)) c))
  cause false g c = inl (rw g at c)

pub corrupt-seen : CorruptSeen
corrupt-seen side r p i o f c = cause side r p i o f (taken side r p i o f) refl c
