-- T3, the other way round: whoever sleeps with cause is being rung.
use mathlib.Core.Path.{◌≡◌, sym, subst}
use mathlib.Core.Bool.{Bool, true, false}
use mathlib.Core.List.{List}
use mathlib.Core.Logic.{◌⊎◌}
use Prim.Native.Nat.{ℕ, ◌<◌}
use Rattle.words.specs.Le.{le_at}
use Rattle.types.specs.declared.Side.{Side}
use Rattle.types.specs.declared.Side.TheVariants.{Sender, Recorder}
use Rattle.types.specs.declared.Step.{Step}
use Rattle.types.specs.declared.Step.TheVariants.{Rest, Look, Copy, Publish, Check, Raise, Wake, Gate, Spin, Epoch, Again, GateAgain, Wait, Asleep, LastLook, CloseSet, CloseRaise, CloseWake, ShutSet, ShutRaiseNe, ShutWakeNe, ShutRaiseNf, ShutWakeNf}
use Rattle.layout.specs.Header.{flags_at}
use Rattle.rules.specs.Sides.{other, rings}
use Rattle.rules.specs.Run.{World, party_in}
use Rattle.rules.specs.Claims.{Fresh, reached}
use Rattle.rules.specs.Both.{Ringing, checking, raising, waking, close-raising, close-waking, shut-raising, shut-waking, shut-raising-ne, shut-waking-ne, shut-raising-nf, shut-waking-nf, BeingRung}
use Rattle.rules.proofs.Heard.{Cause, Due, duty, has-cause}
use Rattle.rules.proofs.Listening.{ReadyAt, never}
use Rattle.rules.proofs.Leads.{stop_at}
use Rattle.rules.proofs.Causes.{room-is, ready-reached}
use Rattle.rules.proofs.Real.{room_in}

pub ringing : (τ : Side) (s : Step) (k : ℕ) → Due true (duty τ s) k → (n : ℕ) × Ringing k τ s n
ringing τ Rest k d = absurd d
ringing τ Look k d = absurd d
ringing τ Copy k d = absurd d
ringing τ (Publish l t) k d = absurd d
ringing τ (Check l t) k d = (3, checking d)
ringing τ (Raise l t) k d = (2, raising)
ringing τ (Wake l t) k d = (1, waking)
ringing τ Gate k d = absurd d
ringing τ (Spin n) k d = absurd d
ringing τ Epoch k d = absurd d
ringing τ (Again e) k d = absurd d
ringing τ (GateAgain e) k d = absurd d
ringing τ (Wait e) k d = absurd d
ringing τ Asleep k d = absurd d
ringing τ (LastLook c) k d = absurd d
ringing τ CloseSet k d = absurd d
ringing τ CloseRaise k d = (2, close-raising)
ringing τ CloseWake k d = (1, close-waking)
ringing τ (ShutSet c) k d = absurd d
ringing Sender (ShutRaiseNe c) k d = (2, shut-raising)
ringing Recorder (ShutRaiseNe c) k d = (4, shut-raising-ne)
ringing Sender (ShutWakeNe c) k d = (1, shut-waking)
ringing Recorder (ShutWakeNe c) k d = (3, shut-waking-ne)
ringing Sender (ShutRaiseNf c f) k d = absurd d
ringing Recorder (ShutRaiseNf c f) k d = (2, shut-raising-nf)
ringing Sender (ShutWakeNf c f) k d = absurd d
ringing Recorder (ShutWakeNf c f) k d = (1, shut-waking-nf)

pub due : (P S v : ℕ) (on h : Bool) (σ τ : Side) (w : World) → (party_in w σ).step ≡ Asleep → ReadyAt P S v on h σ τ w
    → Cause (room_in P S v on σ w.trace) (stop_at σ (le_at 4 w.region flags_at)) → Due true (duty τ (party_in w τ).step) (room_in P S v on σ w.trace)
due P S v on true σ τ w e y = rw e at y
due P S v on false σ τ w e y = λ c. absurd (never (party_in w σ).blocking (rw e at y))

module _ (r : List ℕ) (P S : ℕ) (on : Bool) (v : ℕ) (fresh : Fresh r P S on v) where
  pub being-rung : (side : Side) → BeingRung r P S on v side
  being-rung side hs o =
      let w = reached r P S on v hs in
      let e = room-is r P S on v fresh side hs o.0 in
      subst (λ (k : ℕ). (n : ℕ) × Ringing k (other side) (party_in w (other side)).step n) (sym e)
      (ringing (other side) (party_in w (other side)).step (room_in P S v on side w.trace)
      (due P S v on (rings (other side) on) side (other side) w o.1.1.0 (ready-reached r P S on v fresh side hs o.0 o.1.0)
      (has-cause (room_in P S v on side w.trace) (stop_at side (le_at 4 w.region flags_at))
      (subst (λ (k : ℕ). (0 < k) ⊎ (stop_at side (le_at 4 w.region flags_at) ≡ true)) e o.1.1.1))))
