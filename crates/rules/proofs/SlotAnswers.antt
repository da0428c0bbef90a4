-- What a pop's copy answers, and copies, goes by the four words of its slot's header.
use mathlib.Core.Path.{◌≡◌, refl, ap, ◌∙◌}
use mathlib.Core.Bool.{true}
use mathlib.Core.List.{List}
use Prim.Native.Nat.{ℕ, ◌+◌, ◌<◌, ◌≤◌}
use native.Mathlib.Decide.{dec_lt}
use native.Mathlib.Omega.{arith}
use lib.ListN.{length, get_or, length-take, get_or-eq_default}
use Rattle.words.specs.Bytes.{part}
use Rattle.words.proofs.Sets.{get_d_part}
use Rattle.types.specs.declared.Side.{Side}
use Rattle.types.specs.declared.Side.TheVariants.{Recorder}
use Rattle.types.specs.declared.Party.{Party}
use Rattle.types.specs.declared.Turned.{Turned}
use Rattle.types.specs.declared.SlotHead.{SlotHead}
use Rattle.types.specs.Faults.{Fault}
use Rattle.types.specs.declared.Fit.{Fit}
use Rattle.types.specs.declared.Fit.TheVariants.{Bad, Small, Fits}
use Rattle.types.specs.declared.Step.TheVariants.{Copy}
use Rattle.types.specs.declared.Access.{Access}
use Rattle.types.specs.declared.Access.TheVariants.{ReadSlot}
use Rattle.layout.specs.Limits.{payload_capacity}
use Rattle.layout.specs.Slots.{head_word, head_of, buffer_put}
use Rattle.layout.proofs.SlotLaws.{head-fields}
use Rattle.rules.specs.Looks.{fit_of}
use Rattle.rules.specs.Steps.{fit_move}
use Rattle.rules.specs.Take.{step_after, answer_of, move_of, take_spec}
use Rattle.rules.specs.Next.{slot_access, next_spec}
use Rattle.rules.specs.Access.{place_of, slot_of, value_of, buffer_of}
use Rattle.rules.specs.Turn.{error_of, taken, act_spec, act_buffer}
use Rattle.rules.specs.SlotAnswers.{word, Answers, AnswersBySlot, FillsBySlot}
use Rattle.rules.proofs.FitLaws.{fit-bad, fit_small, fit_is, copy-by}
use Rattle.rules.proofs.Leaving.{turn_is, buffer-is, next-is}

part_bytes : (r : List ℕ) (i n : ℕ) → ((k : ℕ) → get_or r k 0 < 256) → (k : ℕ) → get_or (part r i n) k 0 < 256
part_bytes r i n h k = by (dec_lt k n)
  where
    by : Dec (k < n) → get_or (part r i n) k 0 < 256
    by (yes l) = rw (get_d_part r i n k 0 l) (h (i + k))
    by (no l) =
        let m : length (part r i n) ≤ k = simp length-take (omega arith) in
        rw (get_or-eq_default (part r i n) 0 m) (omega arith)

-- where a pop's copy leads
pop-move : (p : Party) (v e : ℕ) → p.own.side ≡ Recorder → p.step ≡ Copy → move_of p v e ≡ fit_move (fit_of (head_of v) (payload_capacity p.own.slot) p.length) (head_of v).length (head_of v).tag
unfolding move_of
pop-move p v e q s = rw s (copy-by p.own p.length v Recorder q)

module _ (side : Side) (r : List ℕ) (p : Party) (i o : List ℕ) (f : Fault) (bytes : (k : ℕ) → get_or r k 0 < 256) (g : taken side r p i o f ≡ true) (q : p.own.side ≡ Recorder) (s : p.step ≡ Copy) where
  abbrev value : ℕ
  value = value_of r p.own (next_spec p)

  abbrev header : SlotHead
  header = record { length = word r p 0; tag = word r p 2; flags = word r p 4; zero = word r p 6 }

  header_is : head_of value ≡ header
  unfolding value_of
  header_is =
      let n : next_spec p ≡ ReadSlot p.counter = next-is side r p i o f g Copy s ∙ ap (λ (x : Side). slot_access x p.counter) q in
      ap (λ (a : Access). head_of (value_of r p.own a)) n ∙ head-fields (slot_of r p.own p.counter) (part_bytes r (place_of p.own p.counter) p.own.slot bytes)

  -- answer and step, by how the note fits
  told : (t : Fit) → fit_of header (payload_capacity p.own.slot) p.length ≡ t
      → Answers side r p i o f (answer_of (fit_move t header.length header.tag)) (step_after (fit_move t header.length header.tag) Copy)
  unfolding act_spec take_spec
  told t h =
      let m : move_of p value (error_of f) ≡ fit_move t header.length header.tag = pop-move p value (error_of f) q s ∙ rw (header_is, h) in
      (ap (λ (x : Turned). x.answer) (turn_is side r p i o f g) ∙ ap answer_of m, ap (λ (x : Turned). x.party.step) (turn_is side r p i o f g) ∙ rw (m, s))

pub by-slot : (side : Side) (r : List ℕ) (p : Party) (i o : List ℕ) (f : Fault) → AnswersBySlot side r p i o f
by-slot side r p i o f bytes g q s =
    let w : SlotHead = header side r p i o f bytes g q s in
    let most : ℕ = payload_capacity p.own.slot in
    let say = told side r p i o f bytes g q s in
    record {
      bad = λ b. say Bad (fit-bad w most p.length b);
      small = λ k n. say Small (fit_small w most p.length k.0 k.1 k.2 n);
      fits = λ k n. say Fits (fit_is w most p.length k.0 k.1 k.2 n);
    }

pub fills-by-slot : (side : Side) (r : List ℕ) (p : Party) (i o : List ℕ) (f : Fault) → FillsBySlot side r p i o f
unfolding act_buffer buffer_of buffer_put
fills-by-slot side r p i o f bytes g q s k n =
    let w : SlotHead = header side r p i o f bytes g q s in
    let slot : List ℕ = slot_of r p.own p.counter in
    let at : next_spec p ≡ ReadSlot p.counter = next-is side r p i o f g Copy s ∙ ap (λ (x : Side). slot_access x p.counter) q in
    let h : head_of (head_word slot) ≡ w = head-fields slot (part_bytes r (place_of p.own p.counter) p.own.slot bytes) in
    let fit : fit_of w (payload_capacity p.own.slot) p.length ≡ Fits = fit_is w (payload_capacity p.own.slot) p.length k.0 k.1 k.2 n in
    buffer-is side r p i o f g ∙ ap (λ (a : Access). buffer_of r p.own a p.length o) at ∙ rw (h, fit) refl
