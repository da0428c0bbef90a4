-- 20 is answered exactly where one of its grounds holds.
use Rattle.std.proofs.lemmas.Bool.{and_left, and_right}
use Rattle.std.specs.Cmp.{first_so, second_so}
use Rattle.std.specs.Prelude.{None, Some}
use mathlib.Core.Path.{◌≡◌, refl, sym, ap, subst, ◌∙◌}
use mathlib.Core.Bool.{Bool, true, false, not, ◌&&◌}
use mathlib.Core.List.{List, [], ◌∷◌}
use Prim.Native.Nat.{ℕ, zero, suc, ◌%◌, ◌<◌}
use native.Mathlib.Omega.{arith}
use borrow.Author.Tests.{eqb-false, ne_eqb, ltb-false, leb-false, lt-leb}
use lib.Dec.{eqb, leb}
use lib.ListN.{length}
use Rattle.types.specs.Answers.{Test, test, first_of, number}
use Rattle.types.specs.declared.Side.{Side}
use Rattle.types.specs.declared.Side.TheVariants.{Sender, Recorder}
use Rattle.types.specs.declared.Own.{Own}
use Rattle.types.specs.declared.Party.{Party}
use Rattle.types.specs.Faults.{Fault}
use Rattle.types.specs.declared.Stance.{Stance}
use Rattle.types.specs.declared.Stance.TheVariants.{Resting, Sleeping, Copying, Publishing, Closing, Moving}
use Rattle.types.specs.declared.Step.{Step}
use Rattle.types.specs.declared.Answer.TheVariants.{BadCall}
use Rattle.layout.specs.Limits.{least_power, most_power, least_slot, most_slot, slot_step, most_spins, power_ok, slot_ok, spins_ok, payload_capacity, total_bytes}
use Rattle.layout.specs.Create.{create_checks, create_answer}
use Rattle.layout.specs.Attach.{flag_checks, ring_checks, region_checks, attach_answer, attach_reply}
use Rattle.layout.proofs.Accepted.{spins-refused, spins-taken}
use Rattle.rules.specs.Sides.{other, same_side}
use Rattle.rules.specs.Take.{stance_of}
use Rattle.rules.specs.Calls.{is_resting, length_ok, sound, ready}
use Rattle.rules.specs.Turn.{fault_ok, lent_to, lent_ok, goes, taken}
use Rattle.rules.specs.Given.{Ask, create, attach, push, pop, close, shutdown, spurious, timeout, turn, answered, Given, push-bad, pop-bad, close-bad, shutdown-bad, spurious-bad, timeout-bad, turn-bad, created, attached, turn-taken}
use Rattle.rules.specs.Asked.{lent_of}
use Rattle.rules.specs.Grounds.{Unsound, not-attached, of_other, power-low, power-high, slot-low, slot-high, slot-uneven, spins-high, push-long, Unready, unready, runs, Untaken, untaken, region-length, copy-lent, error-0, Grounds, BadExactly}
use Rattle.rules.proofs.Views.{resting-step, copying-step}
use Rattle.rules.proofs.Answered.{given-only, given-first}

-- where a whole test does not hold, a part of it does not
either : {A : Type 0} (a b : Bool) → (a && b) ≡ false → (a ≡ false → A) → (b ≡ false → A) → A
either true b e f g = g e
either false b e f g = f refl

sides-differ : (side own : Side) → same_side side own ≡ false → own ≡ other side
sides-differ Sender Sender e = absurd (let z : ◌≡◌ {A = ℕ} 0 1 = cc in omega arith)
sides-differ Sender Recorder e = refl
sides-differ Recorder Sender e = refl
sides-differ Recorder Recorder e = absurd (let z : ◌≡◌ {A = ℕ} 0 1 = cc in omega arith)

same-other : (side : Side) → same_side side (other side) ≡ false
same-other Sender = refl
same-other Recorder = refl

-- the grounds in the record
module _ (side : Side) (p : Party) where
  abbrev o : Own
  o = p.own

  long-length : (side : Side) → length_ok side p.length o.slot ≡ false → Unsound side p
  long-length Sender e = push-long refl (leb-false p.length (payload_capacity o.slot) e)
  long-length Recorder e = absurd (let z : ◌≡◌ {A = ℕ} 0 1 = cc in omega arith)

  power-unsound : power_ok o.power ≡ false → Unsound side p
  unfolding power_ok
  power-unsound e = either (leb least_power o.power) (leb o.power most_power) e (λ q. power-low (leb-false least_power o.power q)) (λ q. power-high (leb-false o.power most_power q))

  slot-unsound : slot_ok o.slot ≡ false → Unsound side p
  unfolding slot_ok
  slot-unsound e =
      either (leb least_slot o.slot && leb o.slot most_slot) (eqb (o.slot % slot_step) 0) e
      (λ f. either (leb least_slot o.slot) (leb o.slot most_slot) f (λ q. slot-low (leb-false least_slot o.slot q)) (λ q. slot-high (leb-false o.slot most_slot q)))
      (λ q. slot-uneven (eqb-false (o.slot % slot_step) 0 q))

  spins-unsound : spins_ok o.spins ≡ false → Unsound side p
  unfolding spins_ok
  spins-unsound e = spins-high (leb-false o.spins most_spins e)

  unsound-of : sound side p ≡ false → Unsound side p
  unfolding sound
  unsound-of e =
      either o.attached _ e not-attached
      (λ f. either (same_side side o.side) _ f (λ q. of_other (sides-differ side o.side q))
      (λ f. either (power_ok o.power) _ f power-unsound
      (λ f. either (slot_ok o.slot) _ f slot-unsound
      (λ f. either (spins_ok o.spins) _ f spins-unsound (long-length side)))))

  -- what each ground makes of the test
  after-side : (b : Bool) → b ≡ false → (o.attached && (same_side side o.side && b)) ≡ false
  after-side b e = and_right o.attached _ (and_right (same_side side o.side) b e)

  by-power : power_ok o.power ≡ false → sound side p ≡ false
  unfolding sound
  by-power e = after-side _ (and_left (power_ok o.power) _ e)

  by-slot : slot_ok o.slot ≡ false → sound side p ≡ false
  unfolding sound
  by-slot e = after-side _ (and_right (power_ok o.power) _ (and_left (slot_ok o.slot) _ e))

  by-rest : (spins_ok o.spins && length_ok side p.length o.slot) ≡ false → sound side p ≡ false
  unfolding sound
  by-rest e = after-side _ (and_right (power_ok o.power) _ (and_right (slot_ok o.slot) _ e))

  sound-off : Unsound side p → sound side p ≡ false
  unfolding sound power_ok slot_ok spins_ok
  sound-off (not-attached e) = and_left o.attached _ e
  sound-off (of_other e) = and_right o.attached _ (and_left (same_side side o.side) _ (rw (e, same-other side)))
  sound-off (power-low h) = by-power (and_left (leb least_power o.power) _ (lt-leb least_power o.power h))
  sound-off (power-high h) = by-power (and_right (leb least_power o.power) _ (lt-leb o.power most_power h))
  sound-off (slot-low h) = by-slot (and_left (leb least_slot o.slot && leb o.slot most_slot) _ (and_left (leb least_slot o.slot) _ (lt-leb least_slot o.slot h)))
  sound-off (slot-high h) = by-slot (and_left (leb least_slot o.slot && leb o.slot most_slot) _ (and_right (leb least_slot o.slot) _ (lt-leb o.slot most_slot h)))
  sound-off (slot-uneven n) = by-slot (and_right (leb least_slot o.slot && leb o.slot most_slot) _ (ne_eqb (o.slot % slot_step) 0 n))
  sound-off (spins-high h) = by-rest (and_left (spins_ok o.spins) _ (lt-leb o.spins most_spins h))
  sound-off (push-long e h) = by-rest (and_right (spins_ok o.spins) _ (rw e (lt-leb p.length (payload_capacity o.slot) h)))

  -- a begin
  unready-of : ready side p ≡ false → Unready side p
  unfolding ready
  unready-of e = either (sound side p) _ e (λ q. unready (unsound-of q)) (λ q. runs (λ s. absurd (let h = sym q ∙ ap (λ (x : Step). is_resting (stance_of x)) s in let z : ◌≡◌ {A = ℕ} 0 1 = cc in omega arith)))

  ready-off : Unready side p → ready side p ≡ false
  unfolding ready
  ready-off (unready u) = and_left (sound side p) _ (sound-off u)
  ready-off (runs n) = and_right (sound side p) _ (by (is_resting (stance_of p.step)) refl)
    where
      by : (b : Bool) → is_resting (stance_of p.step) ≡ b → b ≡ false
      by true e = absurd (n (resting-step p.step e))
      by false e = refl

pub lent_is : (payload lent : List ℕ) (side : Side) → lent_to side (length payload) (length lent) ≡ length (lent_of side payload lent)
lent_is payload lent Sender = refl
lent_is payload lent Recorder = refl

-- a turn
module _ (side : Side) (r : List ℕ) (p : Party) (i o : List ℕ) (f : Fault) where
  lent-bad : (s : Stance) (lent named : ℕ) → lent_ok s lent named ≡ false → (s ≡ Copying) × (lent ≡ named → ⊥)
  lent-bad Copying lent named e = (refl, eqb-false lent named e)
  lent-bad Resting lent named e = absurd (let z : ◌≡◌ {A = ℕ} 0 1 = cc in omega arith)
  lent-bad Sleeping lent named e = absurd (let z : ◌≡◌ {A = ℕ} 0 1 = cc in omega arith)
  lent-bad Publishing lent named e = absurd (let z : ◌≡◌ {A = ℕ} 0 1 = cc in omega arith)
  lent-bad Closing lent named e = absurd (let z : ◌≡◌ {A = ℕ} 0 1 = cc in omega arith)
  lent-bad Moving lent named e = absurd (let z : ◌≡◌ {A = ℕ} 0 1 = cc in omega arith)

  fault-bad : (f : Fault) → fault_ok f ≡ false → f ≡ Some 0
  fault-bad None e = absurd (let z : ◌≡◌ {A = ℕ} 0 1 = cc in omega arith)
  fault-bad (Some zero) e = refl
  fault-bad (Some (suc n)) e = absurd (let h = ltb-false 0 (suc n) e in omega arith)

  untaken-of : taken side r p i o f ≡ false → Untaken side r p i o f
  unfolding goes
  untaken-of e =
      either (sound side p) _ e (λ q. untaken (unsound-of side p q))
      (λ e. either (eqb (length r) (total_bytes p.own.power p.own.slot)) _ e (λ q. region-length (eqb-false (length r) (total_bytes p.own.power p.own.slot) q))
      (λ e. either (lent_ok (stance_of p.step) (lent_to side (length i) (length o)) p.length) _ e
      (λ q. let b = lent-bad (stance_of p.step) (lent_to side (length i) (length o)) p.length q in copy-lent (copying-step p.step b.0) (λ h. b.1 (lent_is i o side ∙ h)))
      (λ q. error-0 (fault-bad f q))))

  taken-off : Untaken side r p i o f → taken side r p i o f ≡ false
  unfolding goes
  taken-off (untaken u) = and_left (sound side p) _ (sound-off side p u)
  taken-off (region-length n) = and_right (sound side p) _ (and_left _ _ (ne_eqb (length r) (total_bytes p.own.power p.own.slot) n))
  taken-off (copy-lent s n) =
      and_right (sound side p) _ (and_right (eqb (length r) (total_bytes p.own.power p.own.slot)) _
      (and_left (lent_ok (stance_of p.step) (lent_to side (length i) (length o)) p.length) _ (rw s (ne_eqb (lent_to side (length i) (length o)) p.length (λ h. n (sym (lent_is i o side) ∙ h))))))
  taken-off (error-0 e) = and_right (sound side p) _ (and_right (eqb (length r) (total_bytes p.own.power p.own.slot)) _ (and_right (lent_ok (stance_of p.step) (lent_to side (length i) (length o)) p.length) _ (rw e)))

-- no check of a region is answered by 20
abbrev none-bad : List Test → Bool
none-bad [] = true
none-bad (test b a ∷ cs) = not (eqb (number a) 20) && none-bad cs

never-bad : (cs : List Test) → none-bad cs ≡ true → first_of cs ≡ BadCall → ⊥
never-bad [] h e = let z : ◌≡◌ {A = ℕ} 0 1 = cc in omega arith
never-bad (test true a ∷ cs) h e = never-bad cs (second_so (not (eqb (number a) 20)) _ h) e
never-bad (test false a ∷ cs) h e = let q = first_so (not (eqb (number a) 20)) _ h in let z = rw e at q in let x : ◌≡◌ {A = ℕ} 0 1 = cc in omega arith

spins-bad : (r : List ℕ) (side : Side) (spins : ℕ) (b : Bool) → spins_ok spins ≡ b → attach_answer r side spins ≡ BadCall → most_spins < spins
unfolding spins_ok region_checks ring_checks flag_checks
spins-bad r side spins true h e = absurd (never-bad (region_checks r side) refl (sym (spins-taken r side spins h) ∙ e))
spins-bad r side spins false h e = leb-false spins most_spins h

from_row : {a : Ask} → Given a BadCall → answered a ≡ BadCall → Grounds a
unfolding create_answer attach_reply spins_ok
from_row (created {r = r} {power = P} {slot = S} c) e = never-bad (create_checks (length r) P S) refl e
from_row (attached {r = r} {side = side} {spins = n} c) e = spins-bad r side n (spins_ok n) refl e
from_row (push-bad {p = p} h) e = unready-of Sender p h
from_row (pop-bad {p = p} h) e = unready-of Recorder p h
from_row (close-bad {side = side} {p = p} h) e = unready-of side p h
from_row (shutdown-bad {side = side} {p = p} h) e = unready-of side p h
from_row (spurious-bad {side = side} {p = p} h) e = unsound-of side p h
from_row (timeout-bad {side = side} {p = p} h) e = unsound-of side p h
from_row (turn-bad {side = side} {r = r} {p = p} {i = i} {o = o} {f = f} h) e = untaken-of side r p i o f h
from_row (turn-taken x c) e = elim c [ ]

to-answer : (a : Ask) → Grounds a → answered a ≡ BadCall
unfolding attach_reply spins_ok
to-answer (attach r side n) h = spins-refused r side n (lt-leb n most_spins h)
to-answer (push p b t l) h = given-only (push-bad (ready-off Sender p h))
to-answer (pop p b l) h = given-only (pop-bad (ready-off Recorder p h))
to-answer (close side p) h = given-only (close-bad (ready-off side p h))
to-answer (shutdown side p) h = given-only (shutdown-bad (ready-off side p h))
to-answer (spurious side p) h = given-only (spurious-bad (sound-off side p h))
to-answer (timeout side p) h = given-only (timeout-bad (sound-off side p h))
to-answer (turn side r p i o f) h = given-only (turn-bad (taken-off side r p i o f h))
to-answer (create r power slot notfull start) h = elim h [ ]

pub bad-exactly : BadExactly
bad-exactly a = (to-answer a, λ e. from_row (subst (Given a) e (given-first a)) e)
