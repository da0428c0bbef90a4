-- T17: what holds of turns over any region and any record, whoever made them: corruption, shutdown, close, wakes, and waits that fail.
use Rattle.std.specs.Prelude.{◌≡◌, Bool, true, false, List, [], ◌∷◌, ◌⊎◌, ℕ, ◌<◌, length, None, Some}
use Rattle.words.specs.Le.{le_at, put_le}
use Rattle.words.specs.Wrap.{next}
use Rattle.types.specs.Pick.{pick}
use Rattle.types.specs.declared.Side.{Side}
use Rattle.types.specs.declared.Side.TheVariants.{Sender, Recorder}
use Rattle.types.specs.declared.Bell.{Bell}
use Rattle.types.specs.declared.Bell.TheVariants.{NotEmpty, NotFull}
use Rattle.types.specs.declared.Mark.TheVariants.{Shutdown as ShutMark}
use Rattle.types.specs.declared.Party.{Party}
use Rattle.types.specs.declared.Access.TheVariants.{WakeBell}
use Rattle.types.specs.Faults.{Fault}
use Rattle.types.specs.declared.Step.{Step}
use Rattle.types.specs.declared.Step.TheVariants.{Rest, Look, Wake, Wait, CloseSet, CloseWake, ShutSet, ShutRaiseNe, ShutWakeNe, ShutRaiseNf, ShutWakeNf}
use Rattle.types.specs.declared.Event.TheVariants.{Failing}
use Rattle.types.specs.declared.Answer.{Answer}
use Rattle.types.specs.declared.Answer.TheVariants.{Done, CorruptIndices, Syscall, GoesOn}
use Rattle.layout.specs.Limits.{capacity, total_bytes}
use Rattle.layout.specs.Flags.{worth, set_bit, close_mark}
use Rattle.layout.specs.Header.{flags_at, counter_at, bell_at}
use Rattle.rules.specs.Sides.{other, used, ring_bell}
use Rattle.rules.specs.Next.{next_spec}
use Rattle.rules.specs.Calls.{sound}
use Rattle.rules.specs.Turn.{turn_spec}
use Rattle.rules.specs.Rows.{Looking}
use Rattle.rules.specs.Run.{World, Happening, plays, party_in, takes, happens}
use Rattle.rules.specs.Stretch.{in_call}
use Rattle.rules.specs.Claims.{turn_of}

-- the answer of a side's turn
abbrev pub told : Side → World → (payload lent : List ℕ) → Fault → Answer
told side w payload lent fault = (turn_spec side w.region (party_in w side) payload lent fault).answer

-- the operation of a side's own wake: 1 wakes on NE, 3 on NF
abbrev pub wake_no : Side → ℕ
wake_no Sender = 1
wake_no Recorder = 3

-- what a turn is lent, with the failure that is announced; turns of a side, one after another, each of them taken
pub record Lent : Type 0 where
  pub payload : List ℕ
  pub buffer : List ℕ
  pub fault : Fault

abbrev pub turn_by : Side → Lent → Happening
turn_by side l = plays (turn_of side l.fault) l.payload l.buffer

abbrev pub after_turns : Side → List Lent → World → World
after_turns side [] w = w
after_turns side (l ∷ ls) w = after_turns side ls (happens (turn_by side l) w)

abbrev pub AllTaken : Side → List Lent → World → Type 0
AllTaken side [] w = Unit
AllTaken side (l ∷ ls) w = (takes w side l.payload l.buffer l.fault ≡ true) × AllTaken side ls (happens (turn_by side l) w)

abbrev pub answers_of : Side → List Lent → World → List Answer
answers_of side [] w = []
answers_of side (l ∷ ls) w = told side w l.payload l.buffer l.fault ∷ answers_of side ls (happens (turn_by side l) w)

-- no failure is announced as 0
abbrev pub NoneZero : List Lent → Type 0
NoneZero [] = Unit
NoneZero (l ∷ ls) = (l.fault ≡ Some 0 → ⊥) × NoneZero ls

-- bit 5 set, and both bells raised, once each: no other byte
abbrev pub rung_in : Bell → List ℕ → List ℕ
rung_in b r = put_le 4 r (bell_at b) (next 32 (le_at 4 r (bell_at b)))

abbrev pub shut_down : List ℕ → List ℕ
shut_down r = rung_in NotFull (rung_in NotEmpty (put_le 4 r flags_at (set_bit (worth ShutMark) (le_at 4 r flags_at))))

-- corruption: a look that finds more used than there are slots leads to five more turns, which shut down; then 7 is answered,
-- whatever wakes fail, and the party is at rest
abbrev pub CorruptionTold : Side → Type 0
CorruptionTold side = (w : World) → sound side (party_in w side) ≡ true → length w.region ≡ total_bytes (party_in w side).own.power (party_in w side).own.slot
    → Looking (party_in w side).step → capacity (party_in w side).own.power < used side (party_in w side).counter (le_at 8 w.region (counter_at (other side)))
    → (ls : List Lent) → length ls ≡ 6 → NoneZero ls
    → (answers_of side ls w ≡ GoesOn ∷ GoesOn ∷ GoesOn ∷ GoesOn ∷ GoesOn ∷ CorruptIndices ∷ [])
    × (((after_turns side ls w).region ≡ shut_down w.region) × ((party_in (after_turns side ls w) side).step ≡ Rest))

-- and no other turn leads there: whoever stands in corruption's shutdown stood there before, or has just looked and found so many used
pub data Corrupting : Step → Type 0 where
  sets : Corrupting (ShutSet true)
  raises-ne : Corrupting (ShutRaiseNe true)
  wakes-ne : Corrupting (ShutWakeNe true)
  raises-nf : {first : ℕ} → Corrupting (ShutRaiseNf true first)
  wakes-nf : {first : ℕ} → Corrupting (ShutWakeNf true first)

abbrev pub CorruptSeen : Type 0
CorruptSeen = (side : Side) (r : List ℕ) (p : Party) (payload lent : List ℕ) (fault : Fault) → Corrupting (turn_spec side r p payload lent fault).party.step
    → Corrupting p.step ⊎ (Looking p.step × (capacity p.own.power < used p.own.side p.counter (le_at 8 r (counter_at (other p.own.side)))))

-- a shutdown does the same, and answers the first of its two wakes that failed
abbrev pub first_failed : (first second : Fault) → Answer
first_failed None None = Done 0 0
first_failed None (Some e) = Syscall 3 e
first_failed (Some e) second = Syscall 1 e

abbrev pub ShutdownTold : Side → Type 0
ShutdownTold side = (w : World) → sound side (party_in w side) ≡ true → length w.region ≡ total_bytes (party_in w side).own.power (party_in w side).own.slot
    → (party_in w side).step ≡ ShutSet false → (a b c d e : Lent) → NoneZero (a ∷ b ∷ c ∷ d ∷ e ∷ [])
    → (answers_of side (a ∷ b ∷ c ∷ d ∷ e ∷ []) w ≡ GoesOn ∷ GoesOn ∷ GoesOn ∷ GoesOn ∷ first_failed c.fault e.fault ∷ [])
    × (((after_turns side (a ∷ b ∷ c ∷ d ∷ e ∷ []) w).region ≡ shut_down w.region) × ((party_in (after_turns side (a ∷ b ∷ c ∷ d ∷ e ∷ []) w) side).step ≡ Rest))

-- a close sets its bit, raises and wakes, and answers 17 if that wake failed; a recorder's sets its bit alone, where not-full is off
abbrev pub close_ends : Side → Fault → Answer
close_ends side None = Done 0 0
close_ends side (Some e) = Syscall (wake_no side) e

abbrev pub CloseTold : Side → Type 0
CloseTold side = (w : World) → sound side (party_in w side) ≡ true → length w.region ≡ total_bytes (party_in w side).own.power (party_in w side).own.slot
    → (party_in w side).step ≡ CloseSet → (a b c : Lent) → NoneZero (a ∷ b ∷ c ∷ [])
    → ((side ≡ Recorder → (party_in w side).own.notfull ≡ true)
    → (answers_of side (a ∷ b ∷ c ∷ []) w ≡ GoesOn ∷ GoesOn ∷ close_ends side c.fault ∷ [])
    × (((after_turns side (a ∷ b ∷ c ∷ []) w).region ≡ rung_in (ring_bell side) (put_le 4 w.region flags_at (set_bit (worth (close_mark side)) (le_at 4 w.region flags_at))))
    × ((party_in (after_turns side (a ∷ b ∷ c ∷ []) w) side).step ≡ Rest)))
    × (side ≡ Recorder → (party_in w side).own.notfull ≡ false
    → (answers_of side (a ∷ []) w ≡ Done 0 0 ∷ [])
    × (((after_turns side (a ∷ []) w).region ≡ put_le 4 w.region flags_at (set_bit (worth (close_mark side)) (le_at 4 w.region flags_at))) × ((party_in (after_turns side (a ∷ []) w) side).step ≡ Rest)))

-- P6, C6: a call's wake answers its length and tag, or 17 if it failed, and touches no byte
abbrev pub wake_ends : Side → (length tag : ℕ) → Fault → Answer
wake_ends side length tag None = Done length tag
wake_ends side length tag (Some e) = Syscall (wake_no side) e

abbrev pub WakeTold : Side → Type 0
WakeTold side = (w : World) → sound side (party_in w side) ≡ true → length w.region ≡ total_bytes (party_in w side).own.power (party_in w side).own.slot
    → (l t : ℕ) → (party_in w side).step ≡ Wake l t → (a : Lent) → NoneZero (a ∷ [])
    → (answers_of side (a ∷ []) w ≡ wake_ends side l t a.fault ∷ [])
    × (((after_turns side (a ∷ []) w).region ≡ w.region) × ((party_in (after_turns side (a ∷ []) w) side).step ≡ Rest))

-- a wake that fails wakes nobody
abbrev pub FailedWakesNobody : Type 0
FailedWakesNobody = (side : Side) (r : List ℕ) (p : Party) (payload lent : List ℕ) (e : ℕ) → (turn_spec side r p payload lent (Some e)).woke ≡ None

-- P6 and C6 wake one, and every other wake call wakes all
abbrev pub WakesSoMany : Type 0
WakesSoMany = (p : Party) (b : Bell) (n : ℕ) → next_spec p ≡ WakeBell b n → n ≡ pick (in_call p.step) 1 2147483647

-- and on which bell: P6, C6 and a close on the one that its side rings, a shutdown and corruption on NE and then on NF
pub data WakesOn (side : Side) : Step → Bell → Type 0 where
  after_note : {l t : ℕ} → WakesOn side (Wake l t) (ring_bell side)
  after_close : WakesOn side CloseWake (ring_bell side)
  shut_ne : {c : Bool} → WakesOn side (ShutWakeNe c) NotEmpty
  shut_nf : {c : Bool} {first : ℕ} → WakesOn side (ShutWakeNf c first) NotFull

abbrev pub WakesThere : Type 0
WakesThere = (p : Party) (b : Bell) (n : ℕ) → next_spec p ≡ WakeBell b n → WakesOn p.own.side p.step b

-- the operation of a side's own wait: 0 on NE, 2 on NF
abbrev pub wait_no : Side → ℕ
wait_no Sender = 2
wait_no Recorder = 0

-- a wait that fails with 4 or 11 returns to the look; with any other error but 110 it answers 17 with that error
abbrev pub WaitFails : Side → Type 0
WaitFails side = (w : World) (epoch error : ℕ) (payload lent : List ℕ) → (party_in w side).step ≡ Wait epoch → takes w side payload lent (Some error) ≡ true
    → ((error ≡ 4) ⊎ (error ≡ 11) → (party_in (happens (plays (Failing side error) payload lent) w) side).step ≡ Look)
    × ((error ≡ 4 → ⊥) → (error ≡ 11 → ⊥) → (error ≡ 110 → ⊥) → told side w payload lent (Some error) ≡ Syscall (wait_no side) error)
