-- A turn over a lent region: the next access, that access, and what becomes of the party. 20 is tested before all else.
use Rattle.std.specs.Prelude.{Bool, true, false, ◌&&◌, List, ℕ, eqb, ltb, length, None, Some}
use Rattle.types.specs.Pick.{pick}
use Rattle.types.specs.declared.Side.{Side}
use Rattle.types.specs.declared.Side.TheVariants.{Sender, Recorder}
use Rattle.types.specs.declared.Bell.{Bell}
use Rattle.types.specs.declared.Party.{Party}
use Rattle.types.specs.declared.Turned.{Turned}
use Rattle.types.specs.Faults.{Fault}
use Rattle.types.specs.Faults.{Woke}
use Rattle.types.specs.declared.Stance.{Stance}
use Rattle.types.specs.declared.Stance.TheVariants.{Resting, Sleeping, Copying, Publishing, Closing, Moving}
use Rattle.types.specs.declared.Answer.TheVariants.{BadCall}
use Rattle.types.specs.declared.Access.{Access}
use Rattle.types.specs.declared.Access.TheVariants.{None as NoAccess, LoadCounter, LoadFlags, LoadBell, WriteSlot, ReadSlot, StoreCounter, RaiseBell, SetFlag, WaitBell, WakeBell}
use Rattle.layout.specs.Limits.{total_bytes}
use Rattle.rules.specs.Take.{stance_of, take_spec}
use Rattle.rules.specs.Next.{next_spec}
use Rattle.rules.specs.Calls.{sound}
use Rattle.rules.specs.Access.{value_of, leaves_of, buffer_of}

-- the announced error; 0 is none, so none may be announced as 0
abbrev pub error_of : Fault → ℕ
error_of None = 0
error_of (Some e) = e

abbrev pub fault_ok : Fault → Bool
fault_ok None = true
fault_ok (Some e) = ltb 0 e

-- a copy turn is lent a buffer of the length that the call named: a push's payload, a pop's buffer
abbrev pub lent_to : Side → (payload buffer : ℕ) → ℕ
lent_to Sender payload buffer = payload
lent_to Recorder payload buffer = buffer

abbrev pub lent_ok : Stance → (lent named : ℕ) → Bool
lent_ok Resting lent named = true
lent_ok Sleeping lent named = true
lent_ok Copying lent named = eqb lent named
lent_ok Publishing lent named = true
lent_ok Closing lent named = true
lent_ok Moving lent named = true

-- 20's grounds at a turn
unfoldable pub goes : Side → Party → (region payload buffer : ℕ) → Fault → Bool
goes side p region payload buffer fault =
    sound side p
    && (eqb region (total_bytes p.own.power p.own.slot)
    && (lent_ok (stance_of p.step) (lent_to side payload buffer) p.length && fault_ok fault))

-- a wake that does not fail wakes a sleeper on its bell
abbrev pub woke_with : (failed : Bool) → Bell → Woke
woke_with false b = Some b
woke_with true b = None

abbrev pub woke_of : Access → (error : ℕ) → Woke
woke_of NoAccess error = None
woke_of (LoadCounter side) error = None
woke_of LoadFlags error = None
woke_of (LoadBell b) error = None
woke_of (WriteSlot n) error = None
woke_of (ReadSlot n) error = None
woke_of (StoreCounter side n) error = None
woke_of (RaiseBell b) error = None
woke_of (SetFlag m) error = None
woke_of (WaitBell b e) error = None
woke_of (WakeBell b n) error = woke_with (ltb 0 error) b

-- a turn that goes
unfoldable pub act_spec : List ℕ → Party → (error : ℕ) → Turned
act_spec region p error =
    record {
      party = (take_spec p (value_of region p.own (next_spec p)) error).party;
      answer = (take_spec p (value_of region p.own (next_spec p)) error).answer;
      woke = woke_of (next_spec p) error;
    }

unfoldable pub act_leaves : List ℕ → Party → (payload : List ℕ) → List ℕ
act_leaves region p payload = leaves_of region p.own (next_spec p) p.tag payload

unfoldable pub act_buffer : List ℕ → Party → (buffer : List ℕ) → List ℕ
act_buffer region p buffer = buffer_of region p.own (next_spec p) p.length buffer

abbrev pub refused : Party → Turned
refused p = record { party = p; answer = BadCall; woke = None }

module _ (side : Side) (region : List ℕ) (p : Party) (payload buffer : List ℕ) (fault : Fault) where
  abbrev pub taken : Bool
  taken = goes side p (length region) (length payload) (length buffer) fault

  unfoldable pub turn_spec : Turned
  turn_spec = pick taken (act_spec region p (error_of fault)) (refused p)

  unfoldable pub turn_leaves : List ℕ
  turn_leaves = pick taken (act_leaves region p payload) region

  unfoldable pub turn_buffer : List ℕ
  turn_buffer = pick taken (act_buffer region p buffer) buffer
