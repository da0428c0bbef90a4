-- Whom a wake call wakes, what a wait names, and how a wait fails.
use Rattle.std.specs.Prelude.{Some}
use mathlib.Core.Path.{◌≡◌, refl, sym, ap, ◌∙◌, subst}
use mathlib.Core.Bool.{Bool, true, false}
use mathlib.Core.List.{List}
use mathlib.Core.Logic.{◌⊎◌, inl, inr}
use Prim.Native.Nat.{ℕ, ◌%◌, ◌^◌, ◌<◌}
use native.Mathlib.Omega.{arith}
use borrow.Author.Tests.{ne_eqb}
use lib.Dec.{eqb}
use Rattle.words.specs.Le.{le_at}
use Rattle.words.specs.Wrap.{plus}
use Rattle.types.specs.Pick.{pick}
use Rattle.types.specs.declared.Side.{Side}
use Rattle.types.specs.declared.Side.TheVariants.{Sender, Recorder}
use Rattle.types.specs.declared.Bell.{Bell}
use Rattle.types.specs.declared.Bell.TheVariants.{NotEmpty, NotFull}
use Rattle.types.specs.declared.Own.{Own}
use Rattle.types.specs.declared.Party.{Party}
use Rattle.types.specs.declared.Access.TheVariants.{WaitBell, WakeBell}
use Rattle.types.specs.declared.Nap.TheVariants.{Returns, Fails}
use Rattle.types.specs.declared.Step.{Step}
use Rattle.types.specs.declared.Step.TheVariants.{Rest, Look, Copy, Publish, Check, Raise, Wake, Gate, Spin, Epoch, Again, GateAgain, Wait, Asleep, LastLook, CloseSet, CloseRaise, CloseWake, ShutSet, ShutRaiseNe, ShutWakeNe, ShutRaiseNf, ShutWakeNf}
use Rattle.types.specs.declared.Answer.TheVariants.{Syscall}
use Rattle.layout.specs.Header.{bell_at}
use Rattle.rules.specs.Sides.{ring_bell, sleep_bell, wait_op}
use Rattle.rules.specs.Looks.{nap_of}
use Rattle.rules.specs.Steps.{wait_move}
use Rattle.rules.specs.Take.{step_after, move_at, move_of}
use Rattle.rules.specs.Next.{next_at, next_spec}
use Rattle.rules.specs.Access.{value_of}
use Rattle.rules.specs.Given.{wait-failed, turn-taken}
use Rattle.rules.specs.Run.{Trace, World, party_in}
use Rattle.rules.specs.Premises.{rung}
use Rattle.rules.specs.Phase.{phase}
use Rattle.rules.specs.Stretch.{in_call}
use Rattle.rules.specs.Claims.{Fresh, reached}
use Rattle.rules.specs.Asked.{Call}
use Rattle.rules.specs.Anywhere.{wait_no, WakesSoMany, WakesOn, after_note, after_close, shut_ne, shut_nf, WakesThere, WaitFails}
use Rattle.rules.specs.Meaning.{Published, WaitsAsRead, NeverTwo}
use Rattle.rules.proofs.Answered.{given-only}
use Rattle.rules.proofs.Taken.{is-sound, turn-taken as taken_is, seat-own}
use Rattle.rules.proofs.RealRun.{real-reached}
use Rattle.rules.proofs.Corruption.{side-is, fault-above}
use Rattle.rules.proofs.Meant.{Under, meant-reached}
use Rattle.rules.proofs.Delivers.{turn-happens}
use Rattle.rules.proofs.Real.{Seated, Since}

wakes-at : (s : Step) (σ : Side) (k : ℕ) (b : Bell) (n : ℕ) → next_at s σ k ≡ WakeBell b n → (n ≡ pick (in_call s) 1 2147483647) × WakesOn σ s b
wakes-at Rest σ k b n e = absurd (let z : ◌≡◌ {A = ℕ} 0 1 = cc in omega arith)
wakes-at Look σ k b n e = absurd (let z : ◌≡◌ {A = ℕ} 0 1 = cc in omega arith)
wakes-at Copy Sender k b n e = absurd (let z : ◌≡◌ {A = ℕ} 0 1 = cc in omega arith)
wakes-at Copy Recorder k b n e = absurd (let z : ◌≡◌ {A = ℕ} 0 1 = cc in omega arith)
wakes-at (Publish l t) σ k b n e = absurd (let z : ◌≡◌ {A = ℕ} 0 1 = cc in omega arith)
wakes-at (Check l t) σ k b n e = absurd (let z : ◌≡◌ {A = ℕ} 0 1 = cc in omega arith)
wakes-at (Raise l t) σ k b n e = absurd (let z : ◌≡◌ {A = ℕ} 0 1 = cc in omega arith)
wakes-at (Wake l t) σ k b n e = (cc, let z : ring_bell σ ≡ b = cc in subst (WakesOn σ (Wake l t)) z after_note)
wakes-at Gate σ k b n e = absurd (let z : ◌≡◌ {A = ℕ} 0 1 = cc in omega arith)
wakes-at (Spin i) σ k b n e = absurd (let z : ◌≡◌ {A = ℕ} 0 1 = cc in omega arith)
wakes-at Epoch σ k b n e = absurd (let z : ◌≡◌ {A = ℕ} 0 1 = cc in omega arith)
wakes-at (Again i) σ k b n e = absurd (let z : ◌≡◌ {A = ℕ} 0 1 = cc in omega arith)
wakes-at (GateAgain i) σ k b n e = absurd (let z : ◌≡◌ {A = ℕ} 0 1 = cc in omega arith)
wakes-at (Wait i) σ k b n e = absurd (let z : ◌≡◌ {A = ℕ} 0 1 = cc in omega arith)
wakes-at Asleep σ k b n e = absurd (let z : ◌≡◌ {A = ℕ} 0 1 = cc in omega arith)
wakes-at (LastLook c) σ k b n e = absurd (let z : ◌≡◌ {A = ℕ} 0 1 = cc in omega arith)
wakes-at CloseSet σ k b n e = absurd (let z : ◌≡◌ {A = ℕ} 0 1 = cc in omega arith)
wakes-at CloseRaise σ k b n e = absurd (let z : ◌≡◌ {A = ℕ} 0 1 = cc in omega arith)
wakes-at CloseWake σ k b n e = (cc, let z : ring_bell σ ≡ b = cc in subst (WakesOn σ (CloseWake)) z after_close)
wakes-at (ShutSet c) σ k b n e = absurd (let z : ◌≡◌ {A = ℕ} 0 1 = cc in omega arith)
wakes-at (ShutRaiseNe c) σ k b n e = absurd (let z : ◌≡◌ {A = ℕ} 0 1 = cc in omega arith)
wakes-at (ShutWakeNe c) σ k b n e = (cc, let z : NotEmpty ≡ b = cc in subst (WakesOn σ (ShutWakeNe c)) z shut_ne)
wakes-at (ShutRaiseNf c i) σ k b n e = absurd (let z : ◌≡◌ {A = ℕ} 0 1 = cc in omega arith)
wakes-at (ShutWakeNf c i) σ k b n e = (cc, let z : NotFull ≡ b = cc in subst (WakesOn σ (ShutWakeNf c i)) z shut_nf)

pub wakes-so-many : WakesSoMany
unfolding next_spec
wakes-so-many p b n e = (wakes-at p.step p.own.side p.counter b n e).0

pub wakes-there : WakesThere
unfolding next_spec
wakes-there p b n e = (wakes-at p.step p.own.side p.counter b n e).1

waits-at : (s : Step) (σ : Side) (k : ℕ) (b : Bell) (n : ℕ) → next_at s σ k ≡ WaitBell b n → (s ≡ Wait n) × (b ≡ sleep_bell σ)
waits-at Rest σ k b n e = absurd (let z : ◌≡◌ {A = ℕ} 0 1 = cc in omega arith)
waits-at Look σ k b n e = absurd (let z : ◌≡◌ {A = ℕ} 0 1 = cc in omega arith)
waits-at Copy Sender k b n e = absurd (let z : ◌≡◌ {A = ℕ} 0 1 = cc in omega arith)
waits-at Copy Recorder k b n e = absurd (let z : ◌≡◌ {A = ℕ} 0 1 = cc in omega arith)
waits-at (Publish l t) σ k b n e = absurd (let z : ◌≡◌ {A = ℕ} 0 1 = cc in omega arith)
waits-at (Check l t) σ k b n e = absurd (let z : ◌≡◌ {A = ℕ} 0 1 = cc in omega arith)
waits-at (Raise l t) σ k b n e = absurd (let z : ◌≡◌ {A = ℕ} 0 1 = cc in omega arith)
waits-at (Wake l t) σ k b n e = absurd (let z : ◌≡◌ {A = ℕ} 0 1 = cc in omega arith)
waits-at Gate σ k b n e = absurd (let z : ◌≡◌ {A = ℕ} 0 1 = cc in omega arith)
waits-at (Spin i) σ k b n e = absurd (let z : ◌≡◌ {A = ℕ} 0 1 = cc in omega arith)
waits-at Epoch σ k b n e = absurd (let z : ◌≡◌ {A = ℕ} 0 1 = cc in omega arith)
waits-at (Again i) σ k b n e = absurd (let z : ◌≡◌ {A = ℕ} 0 1 = cc in omega arith)
waits-at (GateAgain i) σ k b n e = absurd (let z : ◌≡◌ {A = ℕ} 0 1 = cc in omega arith)
waits-at (Wait i) σ k b n e = (ap Wait cc, cc)
waits-at Asleep σ k b n e = absurd (let z : ◌≡◌ {A = ℕ} 0 1 = cc in omega arith)
waits-at (LastLook c) σ k b n e = absurd (let z : ◌≡◌ {A = ℕ} 0 1 = cc in omega arith)
waits-at CloseSet σ k b n e = absurd (let z : ◌≡◌ {A = ℕ} 0 1 = cc in omega arith)
waits-at CloseRaise σ k b n e = absurd (let z : ◌≡◌ {A = ℕ} 0 1 = cc in omega arith)
waits-at CloseWake σ k b n e = absurd (let z : ◌≡◌ {A = ℕ} 0 1 = cc in omega arith)
waits-at (ShutSet c) σ k b n e = absurd (let z : ◌≡◌ {A = ℕ} 0 1 = cc in omega arith)
waits-at (ShutRaiseNe c) σ k b n e = absurd (let z : ◌≡◌ {A = ℕ} 0 1 = cc in omega arith)
waits-at (ShutWakeNe c) σ k b n e = absurd (let z : ◌≡◌ {A = ℕ} 0 1 = cc in omega arith)
waits-at (ShutRaiseNf c i) σ k b n e = absurd (let z : ◌≡◌ {A = ℕ} 0 1 = cc in omega arith)
waits-at (ShutWakeNf c i) σ k b n e = absurd (let z : ◌≡◌ {A = ℕ} 0 1 = cc in omega arith)

waits-here : (P S v : ℕ) (on : Bool) (side : Side) (p : Party) (t : Trace) (flags : ℕ) → Seated P S v on side p t flags → (n : ℕ) → p.step ≡ Wait n → p.own.side ≡ side
waits-here P S v on side p t flags h n e = by p.own.attached refl
  where
    by : (x : Bool) → p.own.attached ≡ x → p.own.side ≡ side
    by true q = ap (λ (o : Own). o.side) (h.in_place q).0
    by false q = absurd (let f = sym (h.empty q).0 ∙ e in let z : ◌≡◌ {A = ℕ} 0 1 = cc in omega arith)

module _ (r : List ℕ) (P S : ℕ) (on : Bool) (v : ℕ) (fresh : Fresh r P S on v) where
  pub waits-as-read : (side : Side) → WaitsAsRead r P S on v side
  unfolding next_spec
  waits-as-read side hs t b epoch e =
      let w = reached r P S on v hs in
      let p = party_in w side in
      let good = (real-reached r P S on v fresh hs t).sides side in
      let k = waits-at p.step p.own.side p.counter b epoch e in
      let o : b ≡ sleep_bell side = k.1 ∙ ap sleep_bell (waits-here P S v on side p w.trace _ good.seat epoch k.0) in
      let h : le_at 4 w.region (bell_at (sleep_bell side)) % 2 ^ 32 ≡ plus 32 epoch (rung side w) = subst (λ (s : Step). Since (phase s) (le_at 4 w.region (bell_at (sleep_bell side))) (rung side w)) k.0 good.since in
      (o, rw o h)

  two_at : (side : Side) (s : Step) (c : Call) (w : World) → (s ≡ Rest → ⊥) → c.last ≡ true → Under side (phase s) c w.trace → Published false side c w ⊎ Published true side c w
  two_at side Rest d w n k y = absurd (n refl)
  two_at side Look d w n k y = inl y.same
  two_at side Copy d w n k y = inl y.same
  two_at side (Publish l t) d w n k y = inl y.same
  two_at side (Check l t) d w n k y = inr (y.note, (y.more, y.as-named))
  two_at side (Raise l t) d w n k y = inr (y.note, (y.more, y.as-named))
  two_at side (Wake l t) d w n k y = inr (y.note, (y.more, y.as-named))
  two_at side Gate d w n k y = inl y.same
  two_at side (Spin i) d w n k y = inl y.same
  two_at side Epoch d w n k y = inl y.same
  two_at side (Again i) d w n k y = inl y.same
  two_at side (GateAgain i) d w n k y = inl y.same
  two_at side (Wait i) d w n k y = inl y.same
  two_at side Asleep d w n k y = inl y.same
  two_at side (LastLook c) d w n k y = inl y.same
  two_at side CloseSet d w n k y = absurd (let h = sym y ∙ k in let z : ◌≡◌ {A = ℕ} 0 1 = cc in omega arith)
  two_at side CloseRaise d w n k y = absurd (let h = sym y ∙ k in let z : ◌≡◌ {A = ℕ} 0 1 = cc in omega arith)
  two_at side CloseWake d w n k y = absurd (let h = sym y ∙ k in let z : ◌≡◌ {A = ℕ} 0 1 = cc in omega arith)
  two_at side (ShutSet c) d w n k y = absurd (let h = sym y ∙ k in let z : ◌≡◌ {A = ℕ} 0 1 = cc in omega arith)
  two_at side (ShutRaiseNe c) d w n k y = absurd (let h = sym y ∙ k in let z : ◌≡◌ {A = ℕ} 0 1 = cc in omega arith)
  two_at side (ShutWakeNe c) d w n k y = absurd (let h = sym y ∙ k in let z : ◌≡◌ {A = ℕ} 0 1 = cc in omega arith)
  two_at side (ShutRaiseNf c i) d w n k y = absurd (let h = sym y ∙ k in let z : ◌≡◌ {A = ℕ} 0 1 = cc in omega arith)
  two_at side (ShutWakeNf c i) d w n k y = absurd (let h = sym y ∙ k in let z : ◌≡◌ {A = ℕ} 0 1 = cc in omega arith)

  pub never-two : (side : Side) → NeverTwo r P S on v side
  never-two side hs t k n = two_at side (party_in (reached r P S on v hs) side).step _ (reached r P S on v hs) n k (meant-reached r P S on v fresh side hs t).under

-- how an error ends a wait
nap-returns : (e : ℕ) (same : Bool) → (e ≡ 4) ⊎ (e ≡ 11) → nap_of e same ≡ Returns
unfolding nap_of
nap-returns e same (inl q) = rw q refl
nap-returns e same (inr q) = rw q refl

nap-fails : (e : ℕ) (same : Bool) → 0 < e → (e ≡ 4 → ⊥) → (e ≡ 11 → ⊥) → (e ≡ 110 → ⊥) → nap_of e same ≡ Fails
unfolding nap_of
nap-fails e same z a b c = rw (ne_eqb e 0 (λ q. omega arith), ne_eqb e 4 a, ne_eqb e 11 b, ne_eqb e 110 c)

pub wait-fails : (side : Side) → WaitFails side
unfolding wait_move move_of
wait-fails side w epoch n payload lent s g =
    let p = party_in w side in
    let value = value_of w.region p.own (next_spec p) in (
      λ q.
          ap (λ (x : World). (party_in x side).step) (turn-happens side payload lent (Some n) w ∙ taken_is w side payload lent (Some n) g)
          ∙ ap (λ (x : Party). x.step) (seat-own side w.bench _ _)
          ∙ ap (λ (x : Step). step_after (move_at x p.own p.counter p.blocking p.length value n) x) s
          ∙ rw (nap-returns n (eqb value epoch) q) refl,
      λ a b c.
          given-only (turn-taken g (wait-failed s (nap-fails n (eqb value epoch) (fault-above side p _ _ _ n g) a b c)))
          ∙ ap (λ (τ : Side). Syscall (wait_op (sleep_bell τ)) n) (side-is side p (is-sound w side payload lent (Some n) g))
          ∙ ap (λ (m : ℕ). Syscall m n) (numbered side),
    )
  where
    numbered : (side : Side) → wait_op (sleep_bell side) ≡ wait_no side
    numbered Sender = refl
    numbered Recorder = refl
