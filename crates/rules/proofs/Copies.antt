-- A copy turn: a push's slot holds its note, and a pop that fits has the first waiting note in its buffer.
use mathlib.Core.Path.{◌≡◌, refl, sym, ap, ◌∙◌}
use mathlib.Core.Bool.{Bool, true}
use mathlib.Core.List.{List, ◌++◌}
use Prim.Native.Nat.{ℕ, ◌+◌, ◌^◌, ◌<◌, ◌≤◌}
use native.Mathlib.Omega.{arith}
use lib.ListN.{length, drop, length-append}
use lib.Seq.{take_at}
use Rattle.words.specs.Wrap.{plus}
use Rattle.types.specs.declared.Side.TheVariants.{Sender, Recorder}
use Rattle.types.specs.declared.Step.TheVariants.{Copy}
use Rattle.types.specs.declared.SlotHead.{SlotHead}
use Rattle.types.specs.declared.Own.{Own}
use Rattle.types.specs.declared.Fit.{Fit}
use Rattle.types.specs.declared.Fit.TheVariants.{Bad, Small, Fits}
use Rattle.types.specs.declared.Access.TheVariants.{WriteSlot, ReadSlot}
use Rattle.layout.specs.Limits.{power_ok, slot_ok, payload_capacity}
use Rattle.layout.specs.Slots.{slot_at, head_word, head_of, buffer_put}
use Rattle.layout.proofs.SizeLaws.{slot-within, payload-in, payload-short}
use Rattle.layout.proofs.SlotLaws.{put-head, put_payload}
use Rattle.rules.specs.Looks.{fit_of}
use Rattle.rules.specs.Steps.{fit_move}
use Rattle.rules.specs.Take.{step_after}
use Rattle.rules.specs.Access.{slot_of, value_of, leaves_of, buffer_of}
use Rattle.rules.specs.Run.{Note, Trace, buffered}
use Rattle.rules.specs.Phase.{phase}
use Rattle.rules.proofs.FitLaws.{fit-good}
use Rattle.rules.proofs.Real.{sizes, nth, note_head, HoldsAt, InHand, Fixed}

module _ (P S v : ℕ) (on : Bool) (power-ok : power_ok P ≡ true) (slot-ok : slot_ok S ≡ true) (r : List ℕ) (fixed : Fixed P S v on r) (t : Trace) where
  slot-in : (c : ℕ) → slot_at P S c + S ≤ length r
  slot-in c = omega (arith, slot-within P power-ok S c, fixed.long)

  -- P2
  pub copy_written : (own : Own) (c tag : ℕ) (payload : List ℕ) → own ≡ sizes P S v on Sender own.spins → c ≡ plus 64 v (length t.sent) → tag < 2 ^ 16 → length payload ≤ payload_capacity S
      → HoldsAt P S v on (leaves_of r own (WriteSlot c) tag payload) (length t.sent) (record { tag = tag; body = payload })
  unfolding leaves_of
  copy_written own c tag payload o e g f =
      rw (o, e) record {
        head = put-head r (slot_at P S (plus 64 v (length t.sent))) S tag payload (slot-in (plus 64 v (length t.sent))) (payload-in S slot-ok (length payload) f) (payload-short S slot-ok (length payload) f) g;
        payload = put_payload r (slot_at P S (plus 64 v (length t.sent))) S tag payload (slot-in (plus 64 v (length t.sent))) (payload-in S slot-ok (length payload) f);
        body-fits = f;
      }

  -- C2
  module _ (own : Own) (c : ℕ) (o : own ≡ sizes P S v on Recorder own.spins) (e : c ≡ plus 64 v (length t.delivered)) (n : Note) (holds : HoldsAt P S v on r (length t.delivered) n) where
    abbrev slot : List ℕ
    slot = slot_of r own c

    slot_is : slot ≡ slot_of r (sizes P S v on Sender 0) (plus 64 v (length t.delivered))
    slot_is = rw (o, e)

    abbrev head : SlotHead
    head = head_of (value_of r own (ReadSlot c))

    pub head-is : head ≡ note_head n
    unfolding value_of
    head-is = ap (λ (s : List ℕ). head_of (head_word s)) slot_is ∙ holds.head

    -- what a copy that fits leaves in the buffer
    pub filled : (named : ℕ) (lent : List ℕ) → fit_of (note_head n) (payload_capacity own.slot) named ≡ Fits → buffer_of r own (ReadSlot c) named lent ≡ n.body ++ drop (length n.body) lent
    unfolding value_of buffer_of buffer_put
    filled named lent g = rw (head-is, g, slot_is, holds.payload)

    -- the next step and the hand, by how it fits
    pub copy_read : (named : ℕ) (lent : List ℕ) → length lent ≡ named → (f : Fit) → fit_of head (payload_capacity own.slot) named ≡ f → nth t.sent (length t.delivered) ≡ n
        → (r' : List ℕ) → InHand P S v on Recorder (phase (step_after (fit_move f head.length head.tag) Copy)) r' (buffered (buffer_of r own (ReadSlot c) named lent) t)
    copy_read named lent long Bad g first r' = tt
    copy_read named lent long Small g first r' = tt
    copy_read named lent long Fits g first r' =
        let k : fit_of (note_head n) (payload_capacity own.slot) named ≡ Fits = rw head-is at g in
        let s = fit-good (note_head n) (payload_capacity own.slot) named k in
        rw (head-is, filled named lent k)
        (rw length-append (omega arith), first ∙ ap (λ (b : List ℕ). record { tag = n.tag; body = b }) (sym (take_at n.body (drop (length n.body) lent) (length n.body) refl)))
