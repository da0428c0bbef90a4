-- C2 over the bytes: what a pop's copy answers by the four words of its slot's header, and what it copies.
use Rattle.std.specs.Prelude.{◌≡◌, true, List, ◌++◌, ◌⊎◌, ℕ, ◌<◌, ◌≤◌, get_or, take, drop}
use Rattle.words.specs.Le.{le_at}
use Rattle.types.specs.declared.Side.{Side}
use Rattle.types.specs.declared.Side.TheVariants.{Recorder}
use Rattle.types.specs.declared.Party.{Party}
use Rattle.types.specs.Faults.{Fault}
use Rattle.types.specs.declared.Step.{Step}
use Rattle.types.specs.declared.Step.TheVariants.{Rest, Copy, Publish}
use Rattle.types.specs.declared.Answer.{Answer}
use Rattle.types.specs.declared.Answer.TheVariants.{CorruptSlot, OutputTooSmall, GoesOn}
use Rattle.layout.specs.Limits.{slot_head_bytes, payload_capacity}
use Rattle.rules.specs.Access.{slot_of}
use Rattle.rules.specs.Turn.{taken, turn_spec, turn_buffer}

module _ (r : List ℕ) (p : Party) where
  -- the 16 bits at a place of the party's slot: length at 0, tag at 2, slot flags at 4, the zero word at 6
  abbrev pub word : ℕ → ℕ
  word at = le_at 2 (slot_of r p.own p.counter) at

  -- a length above the payload capacity, a slot flag but flag 0, a bit of the zero word
  abbrev pub SlotBad : Type 0
  SlotBad = (payload_capacity p.own.slot < word 0) ⊎ ((1 < word 4) ⊎ (0 < word 6))

  abbrev pub SlotGood : Type 0
  SlotGood = (word 0 ≤ payload_capacity p.own.slot) × (word 4 ≤ 1) × (word 6 ≡ 0)

module _ (side : Side) (r : List ℕ) (p : Party) (payload buffer : List ℕ) (fault : Fault) where
  abbrev pub Answers : Answer → Step → Type 0
  Answers answer step = ((turn_spec side r p payload buffer fault).answer ≡ answer) × ((turn_spec side r p payload buffer fault).party.step ≡ step)

  -- 8 on any ground, then 15, else length and tag are handed on
  pub record SlotAnswers : Type 0 where
    pub bad : SlotBad r p → Answers CorruptSlot Rest
    pub small : SlotGood r p → p.length < word r p 0 → Answers (OutputTooSmall (word r p 0)) Rest
    pub fits : SlotGood r p → word r p 0 ≤ p.length → Answers GoesOn (Publish (word r p 0) (word r p 2))

  -- a pop at its copy that 20 does not refuse, over any region of bytes
  abbrev pub AnswersBySlot : Type 0
  AnswersBySlot = ((k : ℕ) → get_or r k 0 < 256) → taken side r p payload buffer fault ≡ true → p.own.side ≡ Recorder → p.step ≡ Copy → SlotAnswers

  -- a note that fits, flag 0 set or not, then stands at the buffer's start, and the rest of the buffer is as it was
  abbrev pub FillsBySlot : Type 0
  FillsBySlot = ((k : ℕ) → get_or r k 0 < 256) → taken side r p payload buffer fault ≡ true → p.own.side ≡ Recorder → p.step ≡ Copy → SlotGood r p → word r p 0 ≤ p.length
      → turn_buffer side r p payload buffer fault ≡ take (word r p 0) (drop slot_head_bytes (slot_of r p.own p.counter)) ++ drop (word r p 0) buffer
