-- T13's bound is reached: the same eleven turns, a round each.
use mathlib.Core.Path.{◌≡◌, refl, ap}
use mathlib.Core.Bool.{Bool, true, ◌&&◌}
use mathlib.Core.List.{List, [], ◌∷◌}
use mathlib.Core.Logic.{inl, inr}
use Prim.Native.Nat.{ℕ}
use native.Mathlib.Omega.{arith}
use borrow.Author.Tests.{leb-true}
use lib.Dec.{leb}
use lib.ListN.{length, replicate}
use Rattle.std.specs.Cmp.{first_so, second_so}
use Rattle.types.specs.declared.Side.{Side}
use Rattle.types.specs.declared.Side.TheVariants.{Sender, Recorder}
use Rattle.types.specs.declared.Step.TheVariants.{Rest}
use Rattle.types.specs.declared.Event.TheVariants.{Turn, Failing, Spurious, TimeOut, Push, Pop, Close, Shutdown}
use Rattle.layout.specs.Attach.{magic_ok, version_ok, sizes_ok, flag_checks, ring_checks, region_checks, attach_checks, attach_answer, attach_reply, attach_leaves}
use Rattle.layout.specs.Create.{create_answer, created}
use Rattle.layout.specs.Header.{blank, headed}
use Rattle.layout.specs.Limits.{power_ok, slot_ok, spins_ok, capacity, payload_capacity, ring_bytes, total_bytes}
use Rattle.layout.specs.Slots.{slot_at, head_of, slot_bytes, slot_put, buffer_put}
use Rattle.rules.specs.Access.{value_of, leaves_of, buffer_of}
use Rattle.rules.specs.Bench.{wakened, settled, turned, played, played_leaves}
use Rattle.rules.specs.Calls.{is_resting, sound, ready, push_spec, pop_spec}
use Rattle.rules.specs.Looks.{room_of, was_blocked, door_of, fit_of, nap_of}
use Rattle.rules.specs.Next.{next_spec}
use Rattle.rules.specs.Run.{happens, run}
use Rattle.rules.specs.Steps.{look_move, copy_move, publish_move, check_move, wake_move, gate_move, to_spin, spin_move, again_move, wait_move, close_move, shut_move}
use Rattle.rules.specs.Take.{stance_of, move_of, take_spec}
use Rattle.rules.specs.Turn.{goes, act_spec, act_leaves, act_buffer, turn_spec, turn_leaves}
use Rattle.words.specs.Bytes.{zeros, bytes_are}
use Rattle.words.specs.Le.{le_at, le_bytes, put_le}
use Rattle.words.specs.Wrap.{plus, minus}
use Rattle.rules.specs.Run.{party_in, World, Happening, attaches, plays, opened}
use Rattle.rules.specs.Premises.{Typed, AllTyped, AllFair}
use Rattle.rules.specs.Stretch.{calling, in_call}
use Rattle.rules.specs.Claims.{waiting}
use Rattle.rules.specs.Both.{done_by, turns_by, WillingAmid, TakesPart, Round, Rounds, played_out, NightTight}
use Rattle.reached.proofs.Reaches.{start, records, pops, before, calm, calm-fair, asks-one, asks, asks-will, all_short, made}
use Rattle.rules.proofs.Views.{resting-step}

-- ten rounds: the sender is at rest, and has no more to send
abbrev ten-rounds : List (List Happening)
ten-rounds =
    (records ∷ []) ∷ (records ∷ []) ∷ (records ∷ []) ∷ (records ∷ []) ∷ (records ∷ []) ∷ (records ∷ []) ∷ (records ∷ []) ∷ (records ∷ []) ∷ (pops ∷ records ∷ []) ∷ (records ∷ []) ∷ []

-- a round of the recorder's alone, tested
abbrev alone : List Happening → World → Bool
alone ms w = (calm Sender ms w && calm Recorder ms w) && (asks ms w && (leb 1 (turns_by calling Recorder ms w) && (is_resting (stance_of (party_in w Sender).step) && leb 2 (length w.trace.sent))))

abbrev all-alone : List (List Happening) → World → Bool
all-alone [] w = true
all-alone (ms ∷ rounds) w = alone ms w && all-alone rounds (run ms w)

-- its doings are its own
own-one : (h : Happening) → asks-one h ≡ true → Typed h × (done_by h ≡ Recorder)
own-one (attaches side n) e = absurd (let z : ◌≡◌ {A = ℕ} 0 1 = cc in omega arith)
own-one (plays (Turn Sender) i o) e = absurd (let z : ◌≡◌ {A = ℕ} 0 1 = cc in omega arith)
own-one (plays (Turn Recorder) i o) e = (tt, refl)
own-one (plays (Failing side f) i o) e = absurd (let z : ◌≡◌ {A = ℕ} 0 1 = cc in omega arith)
own-one (plays (Spurious side) i o) e = absurd (let z : ◌≡◌ {A = ℕ} 0 1 = cc in omega arith)
own-one (plays (TimeOut side) i o) e = absurd (let z : ◌≡◌ {A = ℕ} 0 1 = cc in omega arith)
own-one (plays (Push b g l) i o) e = absurd (let z : ◌≡◌ {A = ℕ} 0 1 = cc in omega arith)
own-one (plays (Pop b l) i o) e = (tt, refl)
own-one (plays (Close side) i o) e = absurd (let z : ◌≡◌ {A = ℕ} 0 1 = cc in omega arith)
own-one (plays (Shutdown side) i o) e = absurd (let z : ◌≡◌ {A = ℕ} 0 1 = cc in omega arith)

head-asks : (h : Happening) (ms : List Happening) (w : World) → asks (h ∷ ms) w ≡ true → asks-one h ≡ true
head-asks h ms w e = first_so (asks-one h) _ (first_so (asks-one h && all_short w.trace.sent (party_in w Recorder).length) _ e)

tail-asks : (h : Happening) (ms : List Happening) (w : World) → asks (h ∷ ms) w ≡ true → asks ms (happens h w) ≡ true
tail-asks h ms w e = second_so (asks-one h && all_short w.trace.sent (party_in w Recorder).length) _ e

own-typed : (ms : List Happening) (w : World) → asks ms w ≡ true → AllTyped ms
own-typed [] w e = tt
own-typed (h ∷ ms) w e = ((own-one h (head-asks h ms w e)).0, own-typed ms (happens h w) (tail-asks h ms w e))

amid : (side : Side) (ms : List Happening) (w : World) → asks ms w ≡ true → WillingAmid side ms w
amid side [] w e = tt
amid Recorder (h ∷ ms) w e = (λ q. (asks-will (h ∷ ms) w e).0, amid Recorder ms (happens h w) (tail-asks h ms w e))
amid Sender (h ∷ ms) w e =
    (λ q. absurd (let f = (own-one h (head-asks h ms w e)).1 in let z : ◌≡◌ {A = ℕ} 0 1 = cc in omega arith), amid Sender ms (happens h w) (tail-asks h ms w e))

all-rounds : (rounds : List (List Happening)) (w : World) → all-alone rounds w ≡ true → Rounds 2 rounds w
all-rounds [] w e = tt
all-rounds (ms ∷ rounds) w e = (one, all-rounds rounds (run ms w) (second_so (alone ms w) _ e))
  where
    here : alone ms w ≡ true
    here = first_so (alone ms w) (all-alone rounds (run ms w)) e

    calms : (calm Sender ms w && calm Recorder ms w) ≡ true
    calms = first_so (calm Sender ms w && calm Recorder ms w) _ here

    rest : (asks ms w && (leb 1 (turns_by calling Recorder ms w) && (is_resting (stance_of (party_in w Sender).step) && leb 2 (length w.trace.sent)))) ≡ true
    rest = second_so (calm Sender ms w && calm Recorder ms w) _ here

    late : (leb 1 (turns_by calling Recorder ms w) && (is_resting (stance_of (party_in w Sender).step) && leb 2 (length w.trace.sent))) ≡ true
    late = second_so (asks ms w) _ rest

    still : (is_resting (stance_of (party_in w Sender).step) && leb 2 (length w.trace.sent)) ≡ true
    still = second_so (leb 1 (turns_by calling Recorder ms w)) _ late

    by : (side : Side) → AllFair side ms w × (WillingAmid side ms w × TakesPart 2 side ms w)
    by Sender = (calm-fair Sender ms w (first_so (calm Sender ms w) _ calms), (amid Sender ms w (first_so (asks ms w) _ rest), inr (resting-step (party_in w Sender).step (first_so (is_resting (stance_of (party_in w Sender).step)) _ still), leb-true 2 (length w.trace.sent) (second_so (is_resting (stance_of (party_in w Sender).step)) _ still))))
    by Recorder = (calm-fair Recorder ms w (second_so (calm Sender ms w) _ calms), (amid Recorder ms w (first_so (asks ms w) _ rest), inl (leb-true 1 (turns_by calling Recorder ms w) (first_so (leb 1 (turns_by calling Recorder ms w)) _ late))))

    one : Round 2 ms w
    one = (own-typed ms w (first_so (asks ms w) _ rest), by)

-- computed, byte by byte
computed :
    (calm Sender before (opened start) ≡ true) × (calm Recorder before (opened start) ≡ true) × ((party_in made Sender).step ≡ Rest) × (in_call (party_in made Recorder).step ≡ true)
    × (length made.trace.sent ≡ 2) × (waiting made ≡ 2) × (all-alone ten-rounds made ≡ true) × (waiting (played_out ten-rounds made) ≡ 1)
unfolding magic_ok version_ok sizes_ok flag_checks ring_checks region_checks attach_checks attach_answer attach_reply attach_leaves create_answer created blank headed power_ok slot_ok spins_ok capacity payload_capacity ring_bytes total_bytes slot_at head_of slot_bytes slot_put buffer_put value_of leaves_of buffer_of wakened settled turned played played_leaves sound ready push_spec pop_spec room_of was_blocked door_of fit_of nap_of next_spec happens run look_move copy_move publish_move check_move wake_move gate_move to_spin spin_move again_move wait_move close_move shut_move move_of take_spec goes act_spec act_leaves act_buffer turn_spec turn_leaves zeros bytes_are le_at le_bytes put_le plus minus
computed = (refl, refl, refl, refl, refl, refl, refl, refl)

typed-before : AllTyped before
typed-before = (tt, (tt, (tt, (tt, (omega arith, (tt, (tt, (tt, (tt, (tt, (tt, (omega arith, (tt, (tt, (tt, (tt, tt))))))))))))))))

pub night-tight : NightTight (replicate 416 0) 1 16 true 0
night-tight = (before, (ten-rounds, ((typed-before, (fair, calls)), (rw computed.4 (all-rounds ten-rounds made computed.6), (rw computed.5, computed.7)))))
  where
    fair : (side : Side) → AllFair side before (opened start)
    fair Sender = calm-fair Sender before (opened start) computed.0
    fair Recorder = calm-fair Recorder before (opened start) computed.1

    calls : (side : Side) → in_call (party_in made side).step ≡ true
    calls Sender = ap in_call computed.2
    calls Recorder = computed.3
