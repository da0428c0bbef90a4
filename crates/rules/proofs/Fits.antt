-- A willing party's copy never ends its call: what lies in the slot fits the slot, and the buffer is big enough.
use mathlib.Core.Path.{◌≡◌, refl, sym, ap, ◌∙◌}
use mathlib.Core.Bool.{Bool, true}
use mathlib.Core.List.{List, ◌∷◌, ◌++◌}
use Prim.Native.Nat.{ℕ, suc, ◌<◌, ◌≤◌}
use native.Mathlib.Omega.{arith}
use lib.ListN.{length, drop, take-append-drop}
use lib.Seq.{drop-cons}
use Rattle.words.specs.Wrap.{plus}
use Rattle.types.specs.declared.Side.{Side}
use Rattle.types.specs.declared.Side.TheVariants.{Sender, Recorder}
use Rattle.types.specs.declared.Own.{Own}
use Rattle.types.specs.declared.Fit.TheVariants.{Fits}
use Rattle.types.specs.declared.Step.TheVariants.{Rest, Copy}
use Rattle.types.specs.declared.Move.{Move}
use Rattle.layout.specs.Limits.{power_ok, slot_ok, payload_capacity}
use Rattle.layout.specs.Slots.{head_of}
use Rattle.rules.specs.Looks.{fit_of}
use Rattle.rules.specs.Steps.{copy_move}
use Rattle.rules.specs.Take.{step_after}
use Rattle.rules.specs.Next.{slot_access}
use Rattle.rules.specs.Access.{value_of}
use Rattle.rules.specs.Run.{Note, Trace, World, party_in}
use Rattle.rules.specs.Stretch.{Big}
use Rattle.rules.proofs.FitLaws.{fit_is, copy-by}
use Rattle.rules.proofs.Copies.{head-is}
use Rattle.rules.proofs.Real.{count_of, sizes, room_in, nth, blank, note_head, Real}

module _ (P S v : ℕ) (on : Bool) (power-ok : power_ok P ≡ true) (slot-ok : slot_ok S ≡ true) (w : World) (real : Real P S v on w) where
  abbrev t : Trace
  t = w.trace

  -- the note that a pop comes to is the first that waits
  pub first-waits : 0 < room_in P S v on Recorder t → t.sent ≡ t.delivered ++ (nth t.sent (length t.delivered) ∷ drop (suc (length t.delivered)) t.sent)
  first-waits h =
      sym (take-append-drop (length t.delivered) t.sent)
      ∙ ap (λ (x : List Note). x ++ drop (length t.delivered) t.sent) (sym real.queue.order)
      ∙ ap (λ (x : List Note). t.delivered ++ x) (drop-cons t.sent (length t.delivered) blank (omega arith))

  pub good-fit : (own : Own) (c named : ℕ) → own ≡ sizes P S v on Recorder own.spins → c ≡ plus 64 v (length t.delivered) → 0 < room_in P S v on Recorder t
      → ((n : Note) (rest : List Note) → t.sent ≡ t.delivered ++ (n ∷ rest) → length n.body ≤ named)
      → fit_of (head_of (value_of w.region own (slot_access Recorder c))) (payload_capacity own.slot) named ≡ Fits
  good-fit own c named o e h big =
      let n : Note = nth t.sent (length t.delivered) in
      let holds = real.queue.ring (length t.delivered) (omega arith) (omega arith) in
      rw (head-is P S v on power-ok slot-ok w.region real.fixed t own c o e n holds, o)
      (fit_is (note_head n) (payload_capacity S) named holds.body-fits (omega arith) refl (big n _ (first-waits h)))

  pub no-spill : (σ : Side) (val : ℕ) → (party_in w σ).own ≡ sizes P S v on σ (party_in w σ).own.spins → (party_in w σ).counter ≡ plus 64 v (count_of σ t)
      → val ≡ value_of w.region (party_in w σ).own (slot_access σ (party_in w σ).counter) → 0 < room_in P S v on σ t → (party_in w σ).step ≡ Copy → Big σ w
      → step_after (copy_move (party_in w σ).own (party_in w σ).length val) Copy ≡ Rest → ⊥
  no-spill Sender val o e q h at big rest =
      let u = sym (ap (λ (m : Move). step_after m Copy) (copy-by (party_in w Sender).own (party_in w Sender).length val Sender (ap (λ (x : Own). x.side) o))) ∙ rest in
      let z : ◌≡◌ {A = ℕ} 0 1 = cc in omega arith
  no-spill Recorder val o e q h at big rest =
      let f = good-fit (party_in w Recorder).own (party_in w Recorder).counter (party_in w Recorder).length o e h (big at) in
      let u = rw (q, f) at (sym (ap (λ (m : Move). step_after m Copy) (copy-by (party_in w Recorder).own (party_in w Recorder).length val Recorder (ap (λ (x : Own). x.side) o))) ∙ rest) in
      let z : ◌≡◌ {A = ℕ} 0 1 = cc in omega arith
