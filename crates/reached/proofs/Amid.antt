-- T11's bound is reached: capacity 4, a recorder that rings the sender for each of two notes, since the sender fills the ring again.
use mathlib.Core.Path.{◌≡◌, refl, ap, subst}
use mathlib.Core.Bool.{Bool, true, false, ◌&&◌}
use mathlib.Core.List.{List, [], ◌∷◌, ◌++◌}
use Prim.Native.Nat.{ℕ}
use native.Mathlib.Omega.{arith}
use lib.ListN.{length, replicate}
use Rattle.std.specs.Cmp.{first_so, second_so}
use Rattle.types.specs.Pick.{pick}
use Rattle.types.specs.declared.Side.TheVariants.{Sender, Recorder}
use Rattle.types.specs.declared.Answer.TheVariants.{Done}
use Rattle.types.specs.declared.Event.TheVariants.{Push}
use Rattle.layout.specs.Attach.{magic_ok, version_ok, sizes_ok, flag_checks, ring_checks, region_checks, attach_checks, attach_answer, attach_reply, attach_leaves}
use Rattle.layout.specs.Create.{create_answer, created}
use Rattle.layout.specs.Header.{blank, headed}
use Rattle.layout.specs.Limits.{power_ok, slot_ok, spins_ok, capacity, payload_capacity, ring_bytes, total_bytes}
use Rattle.layout.specs.Slots.{slot_at, head_of, slot_bytes, slot_put, buffer_put}
use Rattle.rules.specs.Access.{value_of, leaves_of, buffer_of}
use Rattle.rules.specs.Bench.{wakened, settled, turned, played, played_leaves}
use Rattle.rules.specs.Calls.{sound, ready, push_spec, pop_spec}
use Rattle.rules.specs.Looks.{room_of, was_blocked, door_of, fit_of, nap_of}
use Rattle.rules.specs.Next.{next_spec}
use Rattle.rules.specs.Sides.{same_side}
use Rattle.rules.specs.Run.{happens, run}
use Rattle.rules.specs.Steps.{look_move, copy_move, publish_move, check_move, wake_move, gate_move, to_spin, spin_move, again_move, wait_move, close_move, shut_move}
use Rattle.rules.specs.Take.{move_of, take_spec}
use Rattle.rules.specs.Turn.{goes, act_spec, act_leaves, act_buffer, turn_spec, turn_leaves}
use Rattle.words.specs.Bytes.{zeros, bytes_are}
use Rattle.words.specs.Le.{le_at, le_bytes, put_le}
use Rattle.words.specs.Wrap.{plus, minus}
use Rattle.rules.specs.Run.{party_in, World, Happening, attaches, plays, opened}
use Rattle.rules.specs.Premises.{AllTyped}
use Rattle.rules.specs.Stretch.{moves, Wills, in_call}
use Rattle.rules.specs.Claims.{room, Fresh}
use Rattle.rules.specs.Both.{done_by, turns_by, WillingAmid, WaitFreeTight}
use Rattle.reached.proofs.Reaches.{sends, records, pops, all_short, asks-one, big-here, asks-will-one}

abbrev four : List ℕ
four = created (replicate 448 0) 2 16 true 0

abbrev pushes : Happening
pushes = plays (Push false 7 1) [] []

-- four pushes, the first of which rings, and a pop up to its C3
abbrev filled : List Happening
filled =
    attaches Sender 0 ∷ attaches Recorder 0 ∷ pushes ∷ sends ∷ sends ∷ sends ∷ sends ∷ sends ∷ sends
    ∷ pushes ∷ sends ∷ sends ∷ sends ∷ sends ∷ pushes ∷ sends ∷ sends ∷ sends ∷ sends ∷ pushes ∷ sends ∷ sends ∷ sends ∷ sends
    ∷ pops ∷ records ∷ records ∷ records ∷ []

-- C4 C5 C6, a whole push of the sender's, C1 to C6, C1 C2; and C3 is the twelfth
abbrev eleven : List Happening
eleven =
    records ∷ records ∷ records ∷ pushes ∷ sends ∷ sends ∷ sends ∷ sends
    ∷ pops ∷ records ∷ records ∷ records ∷ records ∷ records ∷ records ∷ pops ∷ records ∷ records ∷ []

-- what the recorder does itself, tested
abbrev wills-one : Happening → World → Bool
wills-one h w = pick (same_side Recorder (done_by h)) (asks-one h && all_short w.trace.sent (party_in w Recorder).length) true

abbrev wills : List Happening → World → Bool
wills [] w = true
wills (h ∷ hs) w = wills-one h w && wills hs (happens h w)

wills-amid : (hs : List Happening) (w : World) → wills hs w ≡ true → WillingAmid Recorder hs w
wills-amid [] w e = tt
wills-amid (h ∷ hs) w e = (one, wills-amid hs (happens h w) (second_so (wills-one h w) _ e))
  where
    one : done_by h ≡ Recorder → Wills Recorder h w
    one q =
        let both : (asks-one h && all_short w.trace.sent (party_in w Recorder).length) ≡ true =
        subst (λ (b : Bool). pick b (asks-one h && all_short w.trace.sent (party_in w Recorder).length) true ≡ true) (ap (same_side Recorder) q) (first_so (wills-one h w) _ e) in
        asks-will-one h w (first_so (asks-one h) _ both) (big-here w (second_so (asks-one h) _ both))

abbrev there : World
there = run filled (opened four)

-- computed, byte by byte
computed :
    (create_answer 448 2 16 ≡ Done 0 0) × (wills eleven there ≡ true) × (in_call (party_in there Recorder).step ≡ true) × (room Recorder (capacity 2) there ≡ 3)
    × (turns_by moves Recorder eleven there ≡ 11) × (length there.trace.delivered ≡ 1) × (length (run (filled ++ eleven) (opened four)).trace.delivered ≡ 2)
unfolding magic_ok version_ok sizes_ok flag_checks ring_checks region_checks attach_checks attach_answer attach_reply attach_leaves create_answer created blank headed power_ok slot_ok spins_ok capacity payload_capacity ring_bytes total_bytes slot_at head_of slot_bytes slot_put buffer_put value_of leaves_of buffer_of wakened settled turned played played_leaves sound ready push_spec pop_spec room_of was_blocked door_of fit_of nap_of next_spec happens run look_move copy_move publish_move check_move wake_move gate_move to_spin spin_move again_move wait_move close_move shut_move move_of take_spec goes act_spec act_leaves act_buffer turn_spec turn_leaves zeros bytes_are le_at le_bytes put_le plus minus
computed = (refl, refl, refl, refl, refl, refl, refl)

typed-here : AllTyped (filled ++ eleven)
typed-here = (tt, (tt, (omega arith, (tt, (tt, (tt, (tt, (tt, (tt, (omega arith, (tt, (tt, (tt, (tt, (omega arith, (tt, (tt, (tt, (tt, (omega arith, (tt, (tt, (tt, (tt, (tt, (tt, (tt, (tt, (tt, (tt, (tt, (omega arith, (tt, (tt, (tt, (tt, (tt, (tt, (tt, (tt, (tt, (tt, (tt, (tt, (tt, (tt, tt))))))))))))))))))))))))))))))))))))))))))))))

pub wait-free-tight : Fresh (replicate 448 0) 2 16 true 0 × WaitFreeTight (replicate 448 0) 2 16 true 0 Recorder 2
wait-free-tight = (
  (computed.0, omega arith),
  (filled, (eleven, (typed-here, (computed.2, (wills-amid eleven there computed.1, (omega (arith, computed.3), (omega (arith, computed.4), omega (arith, computed.5, computed.6)))))))),
)
