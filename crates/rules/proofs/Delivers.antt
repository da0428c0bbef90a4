-- The Done that ends a pop carries what the pop delivered; and a willing recorder gets all that was sent.
use Rattle.std.specs.Prelude.{None, Some}
use mathlib.Core.Path.{◌≡◌, refl, sym, ap, ◌∙◌, subst}
use mathlib.Core.Bool.{Bool, true, false}
use mathlib.Core.List.{List, [], ◌∷◌, ◌++◌, append-nil}
use Prim.Native.Nat.{ℕ}
use native.Mathlib.Omega.{arith}
use lib.Dec.{eqb}
use lib.ListN.{length, take}
use lib.Seq.{length-take-le}
use Rattle.types.specs.Pick.{pick}
use Rattle.types.specs.declared.Side.{Side}
use Rattle.types.specs.declared.Side.TheVariants.{Recorder}
use Rattle.types.specs.declared.Own.{Own}
use Rattle.types.specs.declared.Party.{Party}
use Rattle.types.specs.declared.Turned.{Turned}
use Rattle.types.specs.Faults.{Fault}
use Rattle.types.specs.declared.Step.{Step}
use Rattle.types.specs.declared.Step.TheVariants.{Check, Raise}
use Rattle.types.specs.declared.Move.TheVariants.{To, End}
use Rattle.types.specs.declared.Answer.TheVariants.{Done, Syscall}
use Rattle.layout.specs.Limits.{capacity}
use Rattle.rules.specs.Sides.{rings, wake_op, ring_bell}
use Rattle.rules.specs.Looks.{was_blocked}
use Rattle.rules.specs.Steps.{publish_move, check_move, wake_move}
use Rattle.rules.specs.Take.{move_at, move_of, answer_of, take_spec}
use Rattle.rules.specs.Next.{next_at, next_spec}
use Rattle.rules.specs.Access.{value_of, buffer_of}
use Rattle.rules.specs.Turn.{error_of, act_spec}
use Rattle.rules.specs.Bench.{settled, played, played_leaves}
use Rattle.rules.specs.Premises.{AllTyped}
use Rattle.rules.specs.Run.{Note, Trace, World, Happening, plays, party_in, carried, traced, happens}
use Rattle.rules.specs.Claims.{waiting, turn_of, Delivering, publishes, checks, wakes, Carries, Fresh, reached, DoneCarries, GetsAll}
use Rattle.rules.specs.Phase.{phase}
use Rattle.rules.proofs.Leaving.{turn_is}
use Rattle.rules.proofs.Taken.{turn_world}
use Rattle.rules.proofs.RealTurn.{turn-is-after}
use Rattle.rules.proofs.RealRun.{power-fits, slot-fits, real-reached, in_order}
use Rattle.rules.proofs.Listening.{trace-is}
use Rattle.rules.proofs.Real.{InHand}

-- such a Done names what the step carries
module _ (x y : ℕ) where
  abbrev Names : (length tag : ℕ) → Type 0
  Names l t = (l ≡ x) × (t ≡ y)

  done-named : (l t : ℕ) → Done l t ≡ Done x y → Names l t
  done-named l t e = (cc, cc)

  or-goes : (b : Bool) (s : Step) (l t : ℕ) → answer_of (pick b (To s) (End (Done l t))) ≡ Done x y → Names l t
  or-goes true s l t e = absurd (let z : ◌≡◌ {A = ℕ} 0 1 = cc in omega arith)
  or-goes false s l t e = done-named l t e

  or-fails : (b : Bool) (op f l t : ℕ) → pick b (Done l t) (Syscall op f) ≡ Done x y → Names l t
  or-fails true op f l t e = done-named l t e
  or-fails false op f l t e = absurd (let z : ◌≡◌ {A = ℕ} 0 1 = cc in omega arith)

  names : (s : Step) → Delivering s → (own : Own) (n : ℕ) (b : Bool) (l v f : ℕ) → answer_of (move_at s own n b l v f) ≡ Done x y → Names (carried s).length (carried s).tag
  unfolding publish_move check_move wake_move
  names s (publishes {l = m} {t = t}) own n b l v f e = or-goes (rings own.side own.notfull) (Check m t) m t e
  names s (checks {l = m} {t = t}) own n b l v f e = or-goes (was_blocked own.side (capacity own.power) n v) (Raise m t) m t e
  names s (wakes {l = m} {t = t}) own n b l v f e = or-fails (eqb f 0) (wake_op (ring_bell own.side)) f m t e

-- and the trace holds it
module _ (P S v : ℕ) (on : Bool) (r : List ℕ) (p : Party) (payload buffer : List ℕ) (t : Trace) where
  carries : (s : Step) → Delivering s → p.step ≡ s → InHand P S v on Recorder (phase s) r t → Carries (carried s).length (carried s).tag (traced (next_at s Recorder p.counter) p payload buffer t)
  carries s (publishes {l = l} {t = g}) e h =
      rw e (t.delivered, (record { tag = g; body = take l t.buffer }, (refl, (refl, (length-take-le l t.buffer h.0, refl)))))
  carries s (checks {l = l} {t = g}) e h = (h.1.0, (record { tag = g; body = take l t.buffer }, (h.1.1, (refl, (length-take-le l t.buffer h.0, refl)))))
  carries s (wakes {l = l} {t = g}) e h = (h.1.0, (record { tag = g; body = take l t.buffer }, (h.1.1, (refl, (length-take-le l t.buffer h.0, refl)))))

pub turn-happens : (side : Side) (payload lent : List ℕ) (fault : Fault) (w : World) → happens (plays (turn_of side fault) payload lent) w ≡ turn_world w side payload lent fault
unfolding happens played played_leaves settled
turn-happens side payload lent None w = refl
turn-happens side payload lent (Some e) w = refl

module _ (r : List ℕ) (P S : ℕ) (on : Bool) (v : ℕ) (fresh : Fresh r P S on v) where
  pub done-carries : DoneCarries r P S on v
  unfolding act_spec take_spec move_of
  done-carries hs typed payload lent fault l t g d e =
      let w = reached r P S on v hs in
      let p = party_in w Recorder in
      let real = real-reached r P S on v fresh hs typed in
      let power-ok = power-fits r P S on v fresh in
      let slot-ok = slot-fits r P S on v fresh in
      let value = value_of w.region p.own (next_spec p) in
      let a : answer_of (move_at p.step p.own p.counter p.blocking p.length value (error_of fault)) ≡ Done l t =
      sym (ap (λ (x : Turned). x.answer) (turn_is Recorder w.region p payload lent fault g)) ∙ e in
      let n = names l t p.step d p.own p.counter p.blocking p.length value (error_of fault) a in
      let buffer = buffer_of w.region p.own (next_at p.step Recorder p.counter) p.length lent in
      let held = carries P S v on w.region p payload buffer w.trace p.step d refl (real.sides Recorder).hand in
      let last : (happens (plays (turn_of Recorder fault) payload lent) w).trace ≡ traced (next_at p.step Recorder p.counter) p payload buffer w.trace =
      ap (λ (u : World). u.trace) (turn-happens Recorder payload lent fault w ∙ turn-is-after P S v on power-ok slot-ok w real Recorder payload lent fault g) ∙ trace-is P S v on power-ok slot-ok w real Recorder payload lent fault g in
      subst (Carries l t) (sym last) (rw (← n.0, ← n.1) held)

  -- where nothing waits, all that was sent has been delivered
  empty-list : (rest : List Note) → length rest ≡ 0 → rest ≡ []
  empty-list [] e = refl
  empty-list (n ∷ rest) e = absurd (omega arith)

  pub all-delivered : (hs : List Happening) → AllTyped hs → waiting (reached r P S on v hs) ≡ 0 → (reached r P S on v hs).trace.sent ≡ (reached r P S on v hs).trace.delivered
  all-delivered hs t b =
      let u = reached r P S on v hs in
      let o = in_order r P S on v fresh hs t in
      let e : o.1.0 ≡ [] = empty-list o.1.0 (o.1.2 ∙ b) in
      o.1.1 ∙ ap (λ (x : List Note). u.trace.delivered ++ x) e ∙ append-nil u.trace.delivered

  pub gets-all : GetsAll r P S on v
  gets-all hs ms t b = sym (all-delivered (hs ++ ms) t b.0) ∙ b.1
