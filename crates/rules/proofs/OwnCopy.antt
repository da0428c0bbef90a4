-- A party's own copy of sizes and option is the ring's, its counter and its close stand in the region, and its spin count is what
-- its attach named, for good.
use mathlib.Core.Path.{◌≡◌, refl, sym, ap, ◌∙◌}
use mathlib.Core.Bool.{Bool, true, false}
use mathlib.Core.List.{List, [], ◌∷◌}
use mathlib.Core.Logic.{inl, inr}
use Prim.Native.Nat.{ℕ}
use native.Mathlib.Omega.{arith}
use lib.Dec.{eqb}
use Rattle.types.specs.Answers.{number}
use Rattle.types.specs.declared.Side.{Side}
use Rattle.types.specs.declared.Side.TheVariants.{Sender, Recorder}
use Rattle.types.specs.declared.Own.{Own}
use Rattle.types.specs.declared.Party.{Party}
use Rattle.types.specs.Faults.{Fault}
use Rattle.layout.specs.Limits.{power_ok, slot_ok}
use Rattle.layout.specs.Create.{created}
use Rattle.layout.specs.Attach.{attached, attach_answer, attach_reply}
use Rattle.rules.specs.Sides.{other}
use Rattle.rules.specs.Next.{next_spec}
use Rattle.rules.specs.Turn.{error_of, woke_of}
use Rattle.rules.specs.Bench.{party_of, seat}
use Rattle.rules.specs.Run.{World, Happening, attaches, party_in, takes, happens, run, opened}
use Rattle.rules.specs.Premises.{Typed, AllTyped}
use Rattle.rules.specs.Claims.{Fresh, reached, OwnCopy, SpinsNamed}
use Rattle.rules.proofs.Real.{Real}
use Rattle.rules.proofs.Seats.{roused}
use Rattle.rules.proofs.Taken.{turn_world, turn-refused}
use Rattle.rules.proofs.RealTurn.{both-sides, after_turn, turn-is-after}
use Rattle.rules.proofs.RealCalls.{Changed, seated, seat-one, seat-two}
use Rattle.rules.proofs.RealAttach.{attach_world, bit-clear}
use Rattle.rules.proofs.RealRun.{happens-by, real-happens, real-reached, power-fits, slot-fits}
use Rattle.rules.proofs.Listening.{mover-is, waiter-is}
use Rattle.rules.proofs.Asks.{run-parts}

-- whatever happens, whoever is attached keeps its own copy
abbrev Same : World → World → Side → Type 0
Same w u side = (party_in w side).own.attached ≡ true → (party_in u side).own ≡ (party_in w side).own

module _ (P S v : ℕ) (on : Bool) (power-ok : power_ok P ≡ true) (slot-ok : slot_ok S ≡ true) where
  own-stays : (h : Happening) (w : World) → Typed h → Real P S v on w → (side : Side) → Same w (happens h w) side
  unfolding attach_reply
  own-stays h w y real = happens-by P S v on power-ok slot-ok (λ u. (side : Side) → Same w u side) h w y real attach turn call
    where
      attach : (mover : Side) (n : ℕ) (side : Side) → Same w (attach_world P S v on power-ok slot-ok w real mover n) side
      attach mover n = by (eqb (number (attach_answer w.region mover n)) 0) refl
        where
          seats : (mover side : Side) → (party_in w mover).own.attached ≡ false → (party_in w side).own.attached ≡ true
              → (party_of (seat w.bench mover (attached w.region mover n)) side).own ≡ (party_in w side).own
          seats Sender Sender f h = absurd (let q = sym f ∙ h in let z : ◌≡◌ {A = ℕ} 0 1 = cc in omega arith)
          seats Sender Recorder f h = refl
          seats Recorder Sender f h = refl
          seats Recorder Recorder f h = absurd (let q = sym f ∙ h in let z : ◌≡◌ {A = ℕ} 0 1 = cc in omega arith)

          by : (b : Bool) → eqb (number (attach_answer w.region mover n)) 0 ≡ b → (side : Side) → Same w (attach_world P S v on power-ok slot-ok w real mover n) side
          by true e side h = rw e (seats mover side (sym (real.sides mover).seat.attached-bit ∙ bit-clear w.region mover n e) h)
          by false e side h = rw e refl

      turn : (mover : Side) (payload lent : List ℕ) (fault : Fault) (side : Side) → Same w (turn_world w mover payload lent fault) side
      turn mover payload lent fault side h = by (takes w mover payload lent fault) refl
        where
          by : (b : Bool) → takes w mover payload lent fault ≡ b → (party_in (turn_world w mover payload lent fault) side).own ≡ (party_in w side).own
          by false g = ap (λ (u : World). (party_in u side).own) (turn-refused w mover payload lent fault g)
          by true g =
              ap (λ (u : World). (party_in u side).own) (turn-is-after P S v on power-ok slot-ok w real mover payload lent fault g)
              ∙ both-sides mover (λ τ. (party_in (after_turn P S v on power-ok slot-ok w real mover payload lent fault g) τ).own ≡ (party_in w τ).own)
              (rw (mover-is P S v on power-ok slot-ok w real mover payload lent fault g) refl)
              (rw (waiter-is P S v on power-ok slot-ok w real mover payload lent fault g) (roused (other mover) (party_in w (other mover)) (woke_of (next_spec (party_in w mover)) (error_of fault))).own)
              side

      call : (mover : Side) (q : Party) → Changed mover (party_in w mover) q → (side : Side) → Same w (seated P S v on w mover q) side
      call mover q c side h =
          both-sides mover (λ τ. (party_in (seated P S v on w mover q) τ).own ≡ (party_in w τ).own)
          (rw (seat-one mover w.bench q) (by c)) (rw (seat-two mover w.bench q) refl) side
        where
          by : Changed mover (party_in w mover) q → q.own ≡ (party_in w mover).own
          by (inl e) = ap (λ (x : Party). x.own) e
          by (inr b) = b.own

  own-kept : (hs : List Happening) (w : World) → AllTyped hs → Real P S v on w → (side : Side) → Same w (run hs w) side
  unfolding run
  own-kept [] w t real side h = refl
  own-kept (x ∷ hs) w t real side h =
      let e = own-stays x w t.0 real side h in
      own-kept hs (happens x w) t.1 (real-happens P S v on power-ok slot-ok x w t.0 real) side (ap (λ (o : Own). o.attached) e ∙ h) ∙ e

module _ (r : List ℕ) (P S : ℕ) (on : Bool) (v : ℕ) (fresh : Fresh r P S on v) where
  pub own-copy : (side : Side) → OwnCopy r P S on v side
  own-copy side hs t =
      let s = (real-reached r P S on v fresh hs t).sides side in
      (sym s.seat.attached-bit, (sym s.seat.closed-bit, λ h. ((s.seat.in_place h).0, (s.seat.in_place h).1 ∙ sym s.word)))

  pub spins-named : (side : Side) → SpinsNamed r P S on v side
  unfolding happens attach_reply run
  spins-named side hs n t e ms y =
      let w = reached r P S on v hs in
      let u = happens (attaches side n) w in
      let here : party_in u side ≡ attached w.region side n = rw e (seat-one side w.bench (attached w.region side n)) in
      let power-ok = power-fits r P S on v fresh in
      let slot-ok = slot-fits r P S on v fresh in
      let real = real-happens P S v on power-ok slot-ok (attaches side n) w tt (real-reached r P S on v fresh hs t) in
      ap (λ (x : World). (party_in x side).own.spins) (run-parts hs (attaches side n ∷ ms) (opened (created r P S on v)))
      ∙ ap (λ (o : Own). o.spins) (own-kept P S v on power-ok slot-ok ms u y real side (ap (λ (p : Party). p.own.attached) here))
      ∙ ap (λ (p : Party). p.own.spins) here
