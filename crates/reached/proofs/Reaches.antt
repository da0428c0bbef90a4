-- The bound is reached: document 01's eleven turns at capacity 2, on bytes.
use Rattle.std.specs.Cmp.{first_so, second_so}
use Rattle.std.specs.Prelude.{None}
use mathlib.Core.Path.{◌≡◌, refl, subst}
use mathlib.Core.Bool.{Bool, true, false, ◌&&◌}
use mathlib.Core.List.{List, [], ◌∷◌, ◌++◌}
use mathlib.Core.Logic.{inl}
use Prim.Native.Nat.{ℕ, ◌^◌, ◌<◌, ◌≤◌}
use native.Mathlib.Omega.{arith}
use borrow.Author.Tests.{leb-true, ltb-true}
use lib.Dec.{leb, ltb}
use lib.ListN.{length, replicate}
use Rattle.types.specs.declared.Side.{Side}
use Rattle.types.specs.declared.Side.TheVariants.{Sender, Recorder}
use Rattle.types.specs.declared.Answer.TheVariants.{Done}
use Rattle.types.specs.declared.Step.TheVariants.{Rest}
use Rattle.types.specs.declared.Event.TheVariants.{Turn, Failing, Spurious, TimeOut, Push, Pop, Close, Shutdown}
use Rattle.layout.specs.Attach.{magic_ok, version_ok, sizes_ok, flag_checks, ring_checks, region_checks, attach_checks, attach_answer, attach_reply, attach_leaves}
use Rattle.layout.specs.Create.{create_answer, created}
use Rattle.layout.specs.Header.{blank, headed}
use Rattle.layout.specs.Limits.{power_ok, slot_ok, spins_ok, capacity, payload_capacity, ring_bytes, total_bytes}
use Rattle.layout.specs.Slots.{slot_at, head_of, slot_bytes, slot_put, buffer_put}
use Rattle.rules.specs.Access.{value_of, leaves_of, buffer_of}
use Rattle.rules.specs.Bench.{wakened, settled, turned, played, played_leaves}
use Rattle.rules.specs.Calls.{sound, ready, push_spec, pop_spec}
use Rattle.rules.specs.Looks.{room_of, was_blocked, door_of, fit_of, nap_of}
use Rattle.rules.specs.Next.{next_spec}
use Rattle.rules.specs.Run.{happens, run}
use Rattle.rules.specs.Steps.{look_move, copy_move, publish_move, check_move, wake_move, gate_move, to_spin, spin_move, again_move, wait_move, close_move, shut_move}
use Rattle.rules.specs.Take.{move_of, take_spec}
use Rattle.rules.specs.Turn.{goes, act_spec, act_leaves, act_buffer, turn_spec, turn_leaves}
use Rattle.words.specs.Bytes.{zeros, bytes_are}
use Rattle.words.specs.Le.{le_at, le_bytes, put_le}
use Rattle.words.specs.Wrap.{plus, minus}
use Rattle.rules.specs.Run.{Note, party_in, World, Happening, attaches, plays, opened}
use Rattle.rules.specs.Premises.{AllTyped, rung, FairTurn, Fair, AllFair}
use Rattle.rules.specs.Stretch.{beats, Big, Wills, Willing, in_call}
use Rattle.rules.specs.Claims.{room, Fresh, Tight}

abbrev pub start : List ℕ
start = created (replicate 416 0) 1 16 true 0

-- a turn of the sender, lent one byte, and of the recorder, lent room for one
abbrev pub sends : Happening
sends = plays (Turn Sender) (74 ∷ []) []

abbrev pub records : Happening
records = plays (Turn Recorder) [] (0 ∷ [])

abbrev pub pops : Happening
pops = plays (Pop true 1) [] []

-- neither spins; the recorder is past an empty C1, and two pushes are done
abbrev pub before : List Happening
before =
    attaches Sender 0 ∷ attaches Recorder 0 ∷ pops ∷ records
    ∷ plays (Push false 7 1) [] [] ∷ sends ∷ sends ∷ sends ∷ sends ∷ sends ∷ sends
    ∷ plays (Push false 8 1) [] [] ∷ sends ∷ sends ∷ sends ∷ sends ∷ []

-- W1 W2 W3 C2 C3 C4 C5 C6 C1 C2, and C3 is the eleventh
abbrev ten : List Happening
ten = records ∷ records ∷ records ∷ records ∷ records ∷ records ∷ records ∷ records ∷ pops ∷ records ∷ records ∷ []

-- what is asked of the run, tested
abbrev pub all_short : List Note → ℕ → Bool
all_short [] n = true
all_short (x ∷ xs) n = leb (length x.body) n && all_short xs n

short-at : (delivered : List Note) (x : Note) (rest : List Note) (n : ℕ) → all_short (delivered ++ (x ∷ rest)) n ≡ true → length x.body ≤ n
short-at [] x rest n e = leb-true (length x.body) n (first_so (leb (length x.body) n) (all_short rest n) e)
short-at (y ∷ delivered) x rest n e = short-at delivered x rest n (second_so (leb (length y.body) n) (all_short (delivered ++ (x ∷ rest)) n) e)

-- the recorder's bell, far from 2^32 raises; nothing fails
abbrev calm-one : Happening → Bool
calm-one (attaches side n) = true
calm-one (plays (Turn side) i o) = true
calm-one (plays (Failing side e) i o) = false
calm-one (plays (Spurious side) i o) = true
calm-one (plays (TimeOut side) i o) = true
calm-one (plays (Push b t l) i o) = true
calm-one (plays (Pop b l) i o) = true
calm-one (plays (Close side) i o) = true
calm-one (plays (Shutdown side) i o) = true

abbrev pub calm : (waiter : Side) → List Happening → World → Bool
calm σ [] w = true
calm σ (h ∷ hs) w = (calm-one h && ltb (rung σ w) (2 ^ 32)) && calm σ hs (happens h w)

calm-turn : (σ side : Side) (w : World) → rung σ w < 2 ^ 32 → FairTurn σ side None w
calm-turn Sender Sender w h = λ e q. h
calm-turn Sender Recorder w h = λ u q. refl
calm-turn Recorder Sender w h = λ u q. refl
calm-turn Recorder Recorder w h = λ e q. h

calm-fair-one : (σ : Side) (h : Happening) (w : World) → calm-one h ≡ true → rung σ w < 2 ^ 32 → Fair σ h w
calm-fair-one σ (attaches side n) w e h = tt
calm-fair-one σ (plays (Turn side) i o) w e h = λ g. calm-turn σ side w h
calm-fair-one σ (plays (Failing side f) i o) w e h = absurd (let z : ◌≡◌ {A = ℕ} 0 1 = cc in omega arith)
calm-fair-one σ (plays (Spurious side) i o) w e h = tt
calm-fair-one σ (plays (TimeOut side) i o) w e h = tt
calm-fair-one σ (plays (Push b t l) i o) w e h = tt
calm-fair-one σ (plays (Pop b l) i o) w e h = tt
calm-fair-one σ (plays (Close side) i o) w e h = tt
calm-fair-one σ (plays (Shutdown side) i o) w e h = tt

pub calm-fair : (σ : Side) (hs : List Happening) (w : World) → calm σ hs w ≡ true → AllFair σ hs w
calm-fair σ [] w e = tt
calm-fair σ (h ∷ hs) w e =
    let one = first_so (calm-one h && ltb (rung σ w) (2 ^ 32)) (calm σ hs (happens h w)) e in (
      calm-fair-one σ h w (first_so (calm-one h) _ one) (ltb-true (rung σ w) (2 ^ 32) (second_so (calm-one h) _ one)),
      calm-fair σ hs (happens h w) (second_so (calm-one h && ltb (rung σ w) (2 ^ 32)) _ e),
    )

-- its own turns and pops, each with a buffer long enough for any note sent
abbrev pub asks-one : Happening → Bool
asks-one (attaches side n) = false
asks-one (plays (Turn Sender) i o) = false
asks-one (plays (Turn Recorder) i o) = true
asks-one (plays (Failing side e) i o) = false
asks-one (plays (Spurious side) i o) = false
asks-one (plays (TimeOut side) i o) = false
asks-one (plays (Push b t l) i o) = false
asks-one (plays (Pop b l) i o) = true
asks-one (plays (Close side) i o) = false
asks-one (plays (Shutdown side) i o) = false

abbrev pub asks : List Happening → World → Bool
asks [] w = true
asks (h ∷ hs) w = (asks-one h && all_short w.trace.sent (party_in w Recorder).length) && asks hs (happens h w)

pub big-here : (w : World) → all_short w.trace.sent (party_in w Recorder).length ≡ true → Big Recorder w
big-here w e = λ at n rest q. short-at w.trace.delivered n rest (party_in w Recorder).length (subst (λ (x : List Note). all_short x (party_in w Recorder).length ≡ true) q e)

pub asks-will-one : (h : Happening) (w : World) → asks-one h ≡ true → Big Recorder w → Wills Recorder h w
asks-will-one (attaches side n) w e h = absurd (let z : ◌≡◌ {A = ℕ} 0 1 = cc in omega arith)
asks-will-one (plays (Turn Sender) i o) w e h = absurd (let z : ◌≡◌ {A = ℕ} 0 1 = cc in omega arith)
asks-will-one (plays (Turn Recorder) i o) w e h = (refl, h)
asks-will-one (plays (Failing side f) i o) w e h = absurd (let z : ◌≡◌ {A = ℕ} 0 1 = cc in omega arith)
asks-will-one (plays (Spurious side) i o) w e h = absurd (let z : ◌≡◌ {A = ℕ} 0 1 = cc in omega arith)
asks-will-one (plays (TimeOut side) i o) w e h = absurd (let z : ◌≡◌ {A = ℕ} 0 1 = cc in omega arith)
asks-will-one (plays (Push b t l) i o) w e h = absurd (let z : ◌≡◌ {A = ℕ} 0 1 = cc in omega arith)
asks-will-one (plays (Pop b l) i o) w e h = refl
asks-will-one (plays (Close side) i o) w e h = absurd (let z : ◌≡◌ {A = ℕ} 0 1 = cc in omega arith)
asks-will-one (plays (Shutdown side) i o) w e h = absurd (let z : ◌≡◌ {A = ℕ} 0 1 = cc in omega arith)

pub asks-will : (hs : List Happening) (w : World) → asks hs w ≡ true → Willing Recorder hs w
asks-will [] w e = tt
asks-will (h ∷ hs) w e =
    let now = asks-one h && all_short w.trace.sent (party_in w Recorder).length in
    let one : now ≡ true = first_so now (asks hs (happens h w)) e in
    (asks-will-one h w (first_so (asks-one h) _ one) (big-here w (second_so (asks-one h) _ one)), asks-will hs (happens h w) (second_so now _ e))

abbrev pub made : World
made = run before (opened start)

-- computed, byte by byte
computed :
    (create_answer 416 1 16 ≡ Done 0 0) × (calm Recorder (before ++ ten) (opened start) ≡ true) × (asks ten made ≡ true) × ((party_in made Sender).step ≡ Rest) × (in_call (party_in made Recorder).step ≡ true)
    × (room Recorder (capacity 1) made ≡ 2) × (beats ten made ≡ 10) × (room Recorder (capacity 1) (run (before ++ ten) (opened start)) ≡ 1)
unfolding magic_ok version_ok sizes_ok flag_checks ring_checks region_checks attach_checks attach_answer attach_reply attach_leaves create_answer created blank headed power_ok slot_ok spins_ok capacity payload_capacity ring_bytes total_bytes slot_at head_of slot_bytes slot_put buffer_put value_of leaves_of buffer_of wakened settled turned played played_leaves sound ready push_spec pop_spec room_of was_blocked door_of fit_of nap_of next_spec happens run look_move copy_move publish_move check_move wake_move gate_move to_spin spin_move again_move wait_move close_move shut_move move_of take_spec goes act_spec act_leaves act_buffer turn_spec turn_leaves zeros bytes_are le_at le_bytes put_le plus minus
computed = (refl, refl, refl, refl, refl, refl, refl, refl)

typed-here : AllTyped (before ++ ten)
typed-here = (tt, (tt, (tt, (tt, (omega arith, (tt, (tt, (tt, (tt, (tt, (tt, (omega arith, (tt, (tt, (tt, (tt, (tt, (tt, (tt, (tt, (tt, (tt, (tt, (tt, (tt, (tt, (tt, tt)))))))))))))))))))))))))))

pub tight : Fresh (replicate 416 0) 1 16 true 0 × Tight (replicate 416 0) 1 16 true 0
tight = (
  (computed.0, omega arith),
  (before, (ten, (((typed-here, (inl computed.3, (computed.4, asks-will ten made computed.2))), calm-fair Recorder (before ++ ten) (opened start) computed.1), (rw (computed.5, computed.6), computed.7)))),
)
