-- What holds of every world that a run reaches: the invariant of order and count.
use mathlib.Core.Path.{◌≡◌}
use mathlib.Core.Bool.{Bool, true, false}
use mathlib.Core.List.{List, [], ◌∷◌, ◌++◌}
use Prim.Native.Nat.{ℕ, ◌+◌, ◌-◌, ◌%◌, ◌^◌, ◌<◌, ◌≤◌}
use native.Mathlib.Omega.{arith}
use lib.ListN.{length, get_or, take}
use Rattle.words.specs.Le.{le_at}
use Rattle.words.specs.Wrap.{plus}
use Rattle.types.specs.declared.Side.{Side}
use Rattle.types.specs.declared.Side.TheVariants.{Sender, Recorder}
use Rattle.types.specs.declared.Own.{Own}
use Rattle.types.specs.declared.SlotHead.{SlotHead}
use Rattle.types.specs.declared.Party.{Party}
use Rattle.types.specs.declared.Step.TheVariants.{Rest, Spin, LastLook}
use Rattle.layout.specs.Limits.{spins_ok, capacity, payload_capacity, total_bytes}
use Rattle.layout.specs.Flags.{worth, not_full_on, reserved_from, bit_on, attach_mark, close_mark}
use Rattle.layout.specs.Header.{power_at, slot_size_at, flags_at, counter_at, bell_at}
use Rattle.layout.specs.Slots.{head_word, head_of, payload_in}
use Rattle.rules.specs.Sides.{other, sleep_bell}
use Rattle.rules.specs.Access.{slot_of}
use Rattle.rules.specs.Phase.{Phase, resting, looking, copying, publishing, telling, asking, armed, poised, waits, sleeps, glancing, leaving, phase}
use Rattle.rules.specs.Run.{Note, Trace, World, rung_of, party_in}

-- how many notes a side has published
abbrev pub count_of : Side → Trace → ℕ
count_of Sender t = length t.sent
count_of Recorder t = length t.delivered

-- one at a copy or a store has room
abbrev pub HasRoom : Phase → ℕ → Type 0
HasRoom resting k = Unit
HasRoom looking k = Unit
HasRoom copying k = 0 < k
HasRoom (publishing l t) k = 0 < k
HasRoom (telling l t) k = Unit
HasRoom asking k = Unit
HasRoom (armed e) k = Unit
HasRoom (poised e) k = Unit
HasRoom (waits e) k = Unit
HasRoom sleeps k = Unit
HasRoom glancing k = Unit
HasRoom leaving k = Unit

-- more room is room
pub has_more : (ph : Phase) (k j : ℕ) → k ≤ j → HasRoom ph k → HasRoom ph j
has_more resting k j q h = tt
has_more looking k j q h = tt
has_more copying k j q h = omega arith
has_more (publishing l g) k j q h = omega arith
has_more (telling l g) k j q h = tt
has_more asking k j q h = tt
has_more (armed e) k j q h = tt
has_more (poised e) k j q h = tt
has_more (waits e) k j q h = tt
has_more sleeps k j q h = tt
has_more glancing k j q h = tt
has_more leaving k j q h = tt

-- a phase that has nothing in hand
abbrev pub free : Phase → Bool
free resting = true
free looking = true
free copying = true
free (publishing l g) = false
free (telling l g) = false
free asking = true
free (armed e) = true
free (poised e) = true
free (waits e) = true
free sleeps = true
free glancing = true
free leaving = true

-- one that has closed is between calls, in a close or in a shutdown
abbrev pub parts : Phase → Bool
parts resting = true
parts looking = false
parts copying = false
parts (publishing l g) = false
parts (telling l g) = false
parts asking = false
parts (armed e) = false
parts (poised e) = false
parts (waits e) = false
parts sleeps = false
parts glancing = false
parts leaving = true

-- one that carries an epoch knows how often its bell was raised since, wrapped
abbrev pub Since : Phase → (bell rung : ℕ) → Type 0
Since resting bell rung = Unit
Since looking bell rung = Unit
Since copying bell rung = Unit
Since (publishing l t) bell rung = Unit
Since (telling l t) bell rung = Unit
Since asking bell rung = Unit
Since (armed e) bell rung = bell % 2 ^ 32 ≡ plus 32 e rung
Since (poised e) bell rung = bell % 2 ^ 32 ≡ plus 32 e rung
Since (waits e) bell rung = bell % 2 ^ 32 ≡ plus 32 e rung
Since sleeps bell rung = Unit
Since glancing bell rung = Unit
Since leaving bell rung = Unit

abbrev pub blank : Note
blank = record { tag = 0; body = [] }

-- the i-th note of a list
abbrev pub nth : List Note → ℕ → Note
nth notes i = get_or notes i blank

-- the slot header of a note
abbrev pub note_head : Note → SlotHead
note_head n = record { length = length n.body; tag = n.tag; flags = 0; zero = 0 }

module _ (P S v : ℕ) (on : Bool) where
  abbrev pub cap : ℕ
  cap = capacity P

  abbrev pub sizes : Side → (spins : ℕ) → Own
  sizes side spins = record { side = side; attached = true; power = P; slot = S; notfull = on; spins = spins }

  -- free slots for the sender, waiting notes for the recorder
  abbrev pub room_in : Side → Trace → ℕ
  room_in Sender t = cap - (length t.sent - length t.delivered)
  room_in Recorder t = length t.sent - length t.delivered

  -- the slot of the i-th note holds it
  pub record HoldsAt (r : List ℕ) (i : ℕ) (n : Note) : Type 0 where
    pub head : head_of (head_word (slot_of r (sizes Sender 0) (plus 64 v i))) ≡ note_head n
    pub payload : payload_in (slot_of r (sizes Sender 0) (plus 64 v i)) (length n.body) ≡ n.body
    pub body-fits : length n.body ≤ payload_capacity S

  -- what a side at a store, or behind it, has in hand
  abbrev pub InHand : Side → Phase → List ℕ → Trace → Type 0
  InHand Sender resting r t = Unit
  InHand Sender looking r t = Unit
  InHand Sender copying r t = Unit
  InHand Sender (publishing l g) r t = HoldsAt r (length t.sent) t.hand
  InHand Sender (telling l g) r t = Unit
  InHand Sender asking r t = Unit
  InHand Sender (armed e) r t = Unit
  InHand Sender (poised e) r t = Unit
  InHand Sender (waits e) r t = Unit
  InHand Sender sleeps r t = Unit
  InHand Sender glancing r t = Unit
  InHand Sender leaving r t = Unit
  InHand Recorder resting r t = Unit
  InHand Recorder looking r t = Unit
  InHand Recorder copying r t = Unit
  InHand Recorder (publishing l g) r t = (l ≤ length t.buffer) × (nth t.sent (length t.delivered) ≡ record { tag = g; body = take l t.buffer })
  InHand Recorder (telling l g) r t =
      (l ≤ length t.buffer) × ((before : List Note) × (t.delivered ≡ before ++ (record { tag = g; body = take l t.buffer } ∷ [])))
  InHand Recorder asking r t = Unit
  InHand Recorder (armed e) r t = Unit
  InHand Recorder (poised e) r t = Unit
  InHand Recorder (waits e) r t = Unit
  InHand Recorder sleeps r t = Unit
  InHand Recorder glancing r t = Unit
  InHand Recorder leaving r t = Unit

  -- a seat: its flags tell whether it is taken and closed; who sits there has the sizes and the counter; an empty one rests;
  -- one that has closed neither pushes nor pops; one at its last look for the other's close has seen that bit; its spin count is within the limit, and at a spin fewer follow
  pub record Seated (side : Side) (p : Party) (t : Trace) (flags : ℕ) : Type 0 where
    pub closed-bit : bit_on (worth (close_mark side)) flags ≡ p.closed
    pub attached-bit : bit_on (worth (attach_mark side)) flags ≡ p.own.attached
    pub in_place : p.own.attached ≡ true → (p.own ≡ sizes side p.own.spins) × (p.counter ≡ plus 64 v (count_of side t))
    pub empty : p.own.attached ≡ false → (p.step ≡ Rest) × (p.closed ≡ false)
    pub over : p.closed ≡ true → parts (phase p.step) ≡ true
    pub few : spins_ok p.own.spins ≡ true
    pub spun : (n : ℕ) → p.step ≡ Spin n → n < p.own.spins
    pub heard : p.step ≡ LastLook false → bit_on (worth (close_mark (other side))) flags ≡ true

  -- the header's fixed words
  pub record Fixed (r : List ℕ) : Type 0 where
    pub long : length r ≡ total_bytes P S
    pub small : le_at 4 r flags_at < reserved_from
    pub power_at : le_at 1 r power_at ≡ P
    pub slot_at : le_at 4 r slot_size_at ≡ S
    pub option : bit_on not_full_on (le_at 4 r flags_at) ≡ on

  -- the notes: counts within the capacity of one another, delivered in order, and the waiting ones in their slots
  pub record Queue (r : List ℕ) (t : Trace) : Type 0 where
    pub below : length t.delivered ≤ length t.sent
    pub above : length t.sent ≤ length t.delivered + cap
    pub order : t.delivered ≡ take (length t.delivered) t.sent
    pub ring : (i : ℕ) → length t.delivered ≤ i → i < length t.sent → HoldsAt r i (nth t.sent i)

  -- one side of a world
  pub record SideGood (side : Side) (r : List ℕ) (p : Party) (t : Trace) : Type 0 where
    pub word : le_at 8 r (counter_at side) ≡ plus 64 v (count_of side t)
    pub seat : Seated side p t (le_at 4 r flags_at)
    pub since : Since (phase p.step) (le_at 4 r (bell_at (sleep_bell side))) (rung_of side t)
    pub room : HasRoom (phase p.step) (room_in side t)
    pub hand : InHand side (phase p.step) r t
    pub tag_small : p.tag < 2 ^ 16
    pub bell-small : le_at 4 r (bell_at (sleep_bell side)) < 2 ^ 32

  pub record Real (w : World) : Type 0 where
    pub fixed : Fixed w.region
    pub queue : Queue w.region w.trace
    pub sides : (side : Side) → SideGood side w.region (party_in w side) w.trace
