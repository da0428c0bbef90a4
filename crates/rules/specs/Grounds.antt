-- 20's grounds, in document 01's words: where one of them holds 20 is answered, and nowhere else.
use Rattle.std.specs.Prelude.{◌≡◌, false, List, ℕ, ◌%◌, ◌<◌, length, Some}
use Rattle.types.specs.declared.Side.{Side}
use Rattle.types.specs.declared.Side.TheVariants.{Sender, Recorder}
use Rattle.types.specs.declared.Party.{Party}
use Rattle.types.specs.Faults.{Fault}
use Rattle.types.specs.declared.Step.TheVariants.{Rest, Copy}
use Rattle.types.specs.declared.Answer.TheVariants.{BadCall}
use Rattle.layout.specs.Limits.{least_power, most_power, least_slot, most_slot, slot_step, most_spins, payload_capacity, total_bytes}
use Rattle.rules.specs.Sides.{other}
use Rattle.rules.specs.Given.{Ask, create, attach, push, pop, close, shutdown, spurious, timeout, turn, answered}
use Rattle.rules.specs.Asked.{lent_of}

-- a party not attached, or of the other side; a record with sizes, a spin count or a push length outside the limits
pub data Unsound (side : Side) (p : Party) : Type 0 where
  not-attached : p.own.attached ≡ false → Unsound side p
  of_other : p.own.side ≡ other side → Unsound side p
  power-low : p.own.power < least_power → Unsound side p
  power-high : most_power < p.own.power → Unsound side p
  slot-low : p.own.slot < least_slot → Unsound side p
  slot-high : most_slot < p.own.slot → Unsound side p
  slot-uneven : (p.own.slot % slot_step ≡ 0 → ⊥) → Unsound side p
  spins-high : most_spins < p.own.spins → Unsound side p
  push-long : side ≡ Sender → payload_capacity p.own.slot < p.length → Unsound side p

-- at a begin also: a call runs
pub data Unready (side : Side) (p : Party) : Type 0 where
  unready : Unsound side p → Unready side p
  runs : (p.step ≡ Rest → ⊥) → Unready side p

-- at a turn also: a region of another length, a copy lent another length than its call named, a failure announced as 0
pub data Untaken (side : Side) (r : List ℕ) (p : Party) (payload buffer : List ℕ) (fault : Fault) : Type 0 where
  untaken : Unsound side p → Untaken side r p payload buffer fault
  region-length : (length r ≡ total_bytes p.own.power p.own.slot → ⊥) → Untaken side r p payload buffer fault
  copy-lent : p.step ≡ Copy → (length (lent_of side payload buffer) ≡ p.length → ⊥) → Untaken side r p payload buffer fault
  error-0 : fault ≡ Some 0 → Untaken side r p payload buffer fault

abbrev pub Grounds : Ask → Type 0
Grounds (create r power slot notfull start) = ⊥
Grounds (attach r side spins) = most_spins < spins
Grounds (push p blocking tag length) = Unready Sender p
Grounds (pop p blocking length) = Unready Recorder p
Grounds (close side p) = Unready side p
Grounds (shutdown side p) = Unready side p
Grounds (spurious side p) = Unsound side p
Grounds (timeout side p) = Unsound side p
Grounds (turn side r p payload buffer fault) = Untaken side r p payload buffer fault

-- over any region and any record
abbrev pub BadExactly : Type 0
BadExactly = (a : Ask) → (Grounds a → answered a ≡ BadCall) × (answered a ≡ BadCall → Grounds a)
