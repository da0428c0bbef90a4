-- Corruption is told, over any region.
use Rattle.std.specs.Cmp.{first_so, second_so}
use Rattle.std.specs.Prelude.{None, Some}
use mathlib.Core.Path.{◌≡◌, refl, ap, ◌∙◌, subst}
use mathlib.Core.Bool.{Bool, true, false}
use mathlib.Core.List.{List, [], ◌∷◌}
use Prim.Native.Nat.{ℕ, zero, suc, ◌<◌}
use native.Mathlib.Omega.{arith}
use borrow.Author.Tests.{eq-eqb, ne_eqb, lt-ltb, ltb-true}
use lib.Dec.{eqb, ltb}
use lib.ListN.{length}
use Rattle.words.specs.Le.{le_at}
use Rattle.types.specs.declared.Side.{Side}
use Rattle.types.specs.declared.Side.TheVariants.{Sender, Recorder}
use Rattle.types.specs.declared.Party.{Party}
use Rattle.types.specs.declared.Turned.{Turned}
use Rattle.types.specs.Faults.{Fault}
use Rattle.types.specs.declared.Stance.TheVariants.{Moving}
use Rattle.types.specs.declared.Room.TheVariants.{Corrupt}
use Rattle.types.specs.declared.Own.{Own}
use Rattle.types.specs.declared.Access.{Access}
use Rattle.types.specs.declared.Access.TheVariants.{None as NoAccess, LoadCounter, LoadFlags, LoadBell, WriteSlot, ReadSlot, StoreCounter, RaiseBell, SetFlag, WaitBell, WakeBell}
use Rattle.types.specs.declared.Move.{Move}
use Rattle.types.specs.declared.Move.TheVariants.{To, End}
use Rattle.types.specs.declared.Step.{Step}
use Rattle.types.specs.declared.Step.TheVariants.{Rest, Wake, CloseSet, CloseRaise, CloseWake, ShutSet, ShutRaiseNe, ShutWakeNe, ShutRaiseNf, ShutWakeNf}
use Rattle.types.specs.declared.Answer.TheVariants.{Done, CorruptIndices, Syscall, GoesOn}
use Rattle.layout.specs.Limits.{capacity, total_bytes}
use Rattle.layout.specs.Flags.{close_mark}
use Rattle.layout.specs.Header.{counter_at}
use Rattle.rules.specs.Sides.{other, same_side, used, ring_bell, rings, wake_op}
use Rattle.rules.specs.Looks.{room_of, room_here}
use Rattle.rules.specs.Steps.{wake_move, close_move, look_move, spin_move, again_move, last_move, shut_move}
use Rattle.rules.specs.Take.{stance_of, answer_of, step_after, move_at, move_of, take_spec}
use Rattle.rules.specs.Next.{next_at, next_spec}
use Rattle.rules.specs.Access.{value_of, leaves_of}
use Rattle.rules.specs.Calls.{sound, at}
use Rattle.rules.specs.Turn.{error_of, lent_to, lent_ok, goes, taken, woke_of, act_spec, act_leaves, turn_spec, turn_leaves}
use Rattle.rules.specs.Bench.{turned}
use Rattle.rules.specs.Run.{World, party_in, happens}
use Rattle.rules.specs.Rows.{Looking, looks, looks_on, looks-again, looks-last}
use Rattle.rules.specs.Anywhere.{told, Lent, turn_by, after_turns, answers_of, NoneZero, shut_down, CorruptionTold, first_failed, ShutdownTold, close_ends, CloseTold, wake_ends, WakeTold, FailedWakesNobody}
use Rattle.rules.proofs.Leaving.{made, turn_is, leaves-is, party-is}
use Rattle.rules.proofs.Frames.{length-leaves}
use Rattle.rules.proofs.Taken.{turn_world, seat-own}
use Rattle.rules.proofs.Delivers.{turn-happens}
use Rattle.rules.proofs.Meaning.{fault-fine}

sat : (side : Side) (w : World) (l : Lent) → party_in (turn_world w side l.payload l.buffer l.fault) side ≡ (turn_spec side w.region (party_in w side) l.payload l.buffer l.fault).party
unfolding turned
sat side w l = seat-own side w.bench _ _

module _ (side : Side) (p : Party) (ok : sound side p ≡ true) where
  -- a party that stands at another step than its turn began with, over that region
  record At (s : Step) (R : List ℕ) (w : World) : Type 0 where
    party : party_in w side ≡ at s p
    region : w.region ≡ R
    long : length R ≡ total_bytes p.own.power p.own.slot

  module _ (s : Step) (R : List ℕ) (long : length R ≡ total_bytes p.own.power p.own.slot) (moving : stance_of s ≡ Moving) (l : Lent) (fine : l.fault ≡ Some 0 → ⊥) where
    goes_on : taken side R (at s p) l.payload l.buffer l.fault ≡ true
    unfolding goes sound
    goes_on = rw (ok, eq-eqb (length R) (total_bytes p.own.power p.own.slot) long, moving, fault-fine l.fault fine)

    abbrev move : Move
    move = move_at s p.own p.counter p.blocking p.length (value_of R p.own (next_at s p.own.side p.counter)) (error_of l.fault)

    answer-on : (turn_spec side R (at s p) l.payload l.buffer l.fault).answer ≡ answer_of move
    unfolding act_spec take_spec move_of next_spec
    answer-on = ap (λ (t : Turned). t.answer) (turn_is side R (at s p) l.payload l.buffer l.fault goes_on)

    party-on : (turn_spec side R (at s p) l.payload l.buffer l.fault).party ≡ at (step_after move s) p
    unfolding made move_of next_spec
    party-on = party-is side R (at s p) l.payload l.buffer l.fault goes_on ∙ rw moving refl

    leaves-on : turn_leaves side R (at s p) l.payload l.buffer l.fault ≡ leaves_of R p.own (next_at s p.own.side p.counter) p.tag l.payload
    unfolding act_leaves next_spec
    leaves-on = leaves-is side R (at s p) l.payload l.buffer l.fault goes_on

  -- one turn
  turn_on : (s : Step) (R : List ℕ) (w : World) → stance_of s ≡ Moving → (l : Lent) → (l.fault ≡ Some 0 → ⊥) → (m : Move) → At s R w
      → move_at s p.own p.counter p.blocking p.length (value_of R p.own (next_at s p.own.side p.counter)) (error_of l.fault) ≡ m
      → (told side w l.payload l.buffer l.fault ≡ answer_of m) × At (step_after m s) (leaves_of R p.own (next_at s p.own.side p.counter) p.tag l.payload) (happens (turn_by side l) w)
  turn_on s R w moving l fine m d e =
      let spec : turn_spec side w.region (party_in w side) l.payload l.buffer l.fault ≡ turn_spec side R (at s p) l.payload l.buffer l.fault = rw (d.party, d.region) in
      let left : turn_leaves side w.region (party_in w side) l.payload l.buffer l.fault ≡ turn_leaves side R (at s p) l.payload l.buffer l.fault = rw (d.party, d.region) in (
        ap (λ (t : Turned). t.answer) spec ∙ answer-on s R d.long moving l fine ∙ ap answer_of e,
        record {
          party = ap (λ (x : World). party_in x side) (turn-happens side l.payload l.buffer l.fault w) ∙ sat side w l ∙ ap (λ (t : Turned). t.party) spec ∙ party-on s R d.long moving l fine ∙ ap (λ (x : Move). at (step_after x s) p) e;
          region = ap (λ (x : World). x.region) (turn-happens side l.payload l.buffer l.fault w) ∙ left ∙ leaves-on s R d.long moving l fine;
          long = length-leaves R p.own p.tag l.payload (next_at s p.own.side p.counter) ∙ d.long;
        },
      )

  side-here : (τ : Side) → same_side side τ ≡ true → τ ≡ side
  side-here τ e = by side τ e
    where
      by : (a b : Side) → same_side a b ≡ true → b ≡ a
      by Sender Sender e = refl
      by Sender Recorder e = absurd (let z : ◌≡◌ {A = ℕ} 0 1 = cc in omega arith)
      by Recorder Sender e = absurd (let z : ◌≡◌ {A = ℕ} 0 1 = cc in omega arith)
      by Recorder Recorder e = refl

  pub side-is : p.own.side ≡ side
  unfolding sound
  side-is = side-here p.own.side (first_so (same_side side p.own.side) _ (second_so p.own.attached _ ok))

  module _ (R : List ℕ) (above : capacity p.own.power < used side p.counter (le_at 8 R (counter_at (other side)))) where
    seen : room_here p.own p.counter (le_at 8 R (counter_at (other p.own.side))) ≡ Corrupt
    unfolding room_of
    seen =
        let h : capacity p.own.power < used p.own.side p.counter (le_at 8 R (counter_at (other p.own.side))) = rw side-is above in
        rw (lt-ltb (capacity p.own.power) (used p.own.side p.counter (le_at 8 R (counter_at (other p.own.side)))) h)

    corrupt-move : (s : Step) → Looking s → (f : ℕ) → move_at s p.own p.counter p.blocking p.length (value_of R p.own (next_at s p.own.side p.counter)) f ≡ To (ShutSet true)
    unfolding value_of look_move spin_move again_move last_move
    corrupt-move s looks f = rw seen
    corrupt-move s looks_on f = rw seen
    corrupt-move s looks-again f = rw seen
    corrupt-move s looks-last f = rw seen

    look-moves : (s : Step) → Looking s → stance_of s ≡ Moving
    look-moves s looks = refl
    look-moves s looks_on = refl
    look-moves s looks-again = refl
    look-moves s looks-last = refl

    look-leaves : (s : Step) → Looking s → (payload : List ℕ) → leaves_of R p.own (next_at s p.own.side p.counter) p.tag payload ≡ R
    unfolding leaves_of
    look-leaves s looks payload = refl
    look-leaves s looks_on payload = refl
    look-leaves s looks-again payload = refl
    look-leaves s looks-last payload = refl

    abbrev Told : World → (a b c d e f : Lent) → Type 0
    Told w a b c d e f =
        (answers_of side (a ∷ b ∷ c ∷ d ∷ e ∷ f ∷ []) w ≡ GoesOn ∷ GoesOn ∷ GoesOn ∷ GoesOn ∷ GoesOn ∷ CorruptIndices ∷ [])
        × (((after_turns side (a ∷ b ∷ c ∷ d ∷ e ∷ f ∷ []) w).region ≡ shut_down R) × ((party_in (after_turns side (a ∷ b ∷ c ∷ d ∷ e ∷ f ∷ []) w) side).step ≡ Rest))

    six : (s : Step) → Looking s → (w : World) → At s R w → (a b c d e f : Lent) → NoneZero (a ∷ b ∷ c ∷ d ∷ e ∷ f ∷ []) → Told w a b c d e f
    unfolding leaves_of shut_move
    six s k w at0 a b c d e f z =
        let t1 = turn_on s R w (look-moves s k) a z.0 (To (ShutSet true)) at0 (corrupt-move s k (error_of a.fault)) in
        let at1 = subst (λ (x : List ℕ). At (ShutSet true) x (happens (turn_by side a) w)) (look-leaves s k a.payload) t1.1 in
        let w1 = happens (turn_by side a) w in
        let t2 = turn_on (ShutSet true) _ w1 refl b z.1.0 (To (ShutRaiseNe true)) at1 refl in
        let w2 = happens (turn_by side b) w1 in
        let t3 = turn_on (ShutRaiseNe true) _ w2 refl c z.1.1.0 (To (ShutWakeNe true)) t2.1 refl in
        let w3 = happens (turn_by side c) w2 in
        let t4 = turn_on (ShutWakeNe true) _ w3 refl d z.1.1.1.0 (To (ShutRaiseNf true (error_of d.fault))) t3.1 refl in
        let w4 = happens (turn_by side d) w3 in
        let t5 = turn_on (ShutRaiseNf true (error_of d.fault)) _ w4 refl e z.1.1.1.1.0 (To (ShutWakeNf true (error_of d.fault))) t4.1 refl in
        let w5 = happens (turn_by side e) w4 in
        let t6 = turn_on (ShutWakeNf true (error_of d.fault)) _ w5 refl f z.1.1.1.1.1.0 (End CorruptIndices) t5.1 refl in
        (rw (t1.0, t2.0, t3.0, t4.0, t5.0, t6.0), (t6.1.region, ap (λ (q : Party). q.step) t6.1.party))

pub fault-above : (side : Side) (p : Party) (r i o n : ℕ) → goes side p r i o (Some n) ≡ true → 0 < n
unfolding goes
fault-above side p r i o n g =
    ltb-true 0 n (second_so (lent_ok (stance_of p.step) (lent_to side i o) p.length) (ltb 0 n) (second_so (eqb r (total_bytes p.own.power p.own.slot)) _ (second_so (sound side p) _ g)))

-- a fault that is no error 0
errors : (f : Fault) → (f ≡ Some 0 → ⊥) → (F : Fault → Type 0) → F None → ((e : ℕ) → eqb e 0 ≡ false → F (Some e)) → F f
errors None n F x y = x
errors (Some zero) n F x y = absurd (n refl)
errors (Some (suc e)) n F x y = y (suc e) (ne_eqb (suc e) 0 (λ q. omega arith))

shut-ends : (c e : Fault) → (c ≡ Some 0 → ⊥) → (e ≡ Some 0 → ⊥) → shut_move false (error_of c) (error_of e) ≡ End (first_failed c e)
unfolding shut_move
shut-ends c e m n =
    errors c m (λ x. shut_move false (error_of x) (error_of e) ≡ End (first_failed x e))
    (errors e n (λ y. shut_move false 0 (error_of y) ≡ End (first_failed None y)) refl (λ k q. rw q)) (λ k q. rw q)

pub shutdown-told : (side : Side) → ShutdownTold side
unfolding leaves_of
shutdown-told side w ok long s a b c d e z =
    let p = party_in w side in
    let R = w.region in
    let at0 : At side p ok (ShutSet false) R w = record { party = ap (λ (x : Step). at x p) s; region = refl; long = long } in
    let t1 = turn_on side p ok (ShutSet false) R w refl a z.0 (To (ShutRaiseNe false)) at0 refl in
    let w1 = happens (turn_by side a) w in
    let t2 = turn_on side p ok (ShutRaiseNe false) _ w1 refl b z.1.0 (To (ShutWakeNe false)) t1.1 refl in
    let w2 = happens (turn_by side b) w1 in
    let t3 = turn_on side p ok (ShutWakeNe false) _ w2 refl c z.1.1.0 (To (ShutRaiseNf false (error_of c.fault))) t2.1 refl in
    let w3 = happens (turn_by side c) w2 in
    let t4 = turn_on side p ok (ShutRaiseNf false (error_of c.fault)) _ w3 refl d z.1.1.1.0 (To (ShutWakeNf false (error_of c.fault))) t3.1 refl in
    let w4 = happens (turn_by side d) w3 in
    let t5 = turn_on side p ok (ShutWakeNf false (error_of c.fault)) _ w4 refl e z.1.1.1.1.0 (End (first_failed c.fault e.fault)) t4.1 (shut-ends c.fault e.fault z.1.1.0 z.1.1.1.1.0) in
    (rw (t1.0, t2.0, t3.0, t4.0, t5.0), (t5.1.region, ap (λ (q : Party). q.step) t5.1.party))

-- the record of a party that has closed
abbrev parted : Party → Party
parted p = record { own = p.own; closed = true; counter = p.counter; blocking = p.blocking; tag = p.tag; length = p.length; step = p.step }

parted-sound : (side : Side) (p : Party) → sound side p ≡ true → sound side (parted p) ≡ true
unfolding sound
parted-sound side p ok = ok

-- a close's first turn
close-on : (side : Side) (p : Party) (ok : sound side p ≡ true) (R : List ℕ) (w : World) (l : Lent) → (l.fault ≡ Some 0 → ⊥) → (m : Move) → At side p ok CloseSet R w → close_move p.own ≡ m
    → (told side w l.payload l.buffer l.fault ≡ answer_of m)
    × At side (parted p) (parted-sound side p ok) (step_after m CloseSet) (leaves_of R p.own (SetFlag (close_mark p.own.side)) p.tag l.payload) (happens (turn_by side l) w)
unfolding goes sound act_spec take_spec move_of next_spec made act_leaves
close-on side p ok R w l fine m d e =
    let spec : turn_spec side w.region (party_in w side) l.payload l.buffer l.fault ≡ turn_spec side R (at CloseSet p) l.payload l.buffer l.fault = rw (d.party, d.region) in
    let left : turn_leaves side w.region (party_in w side) l.payload l.buffer l.fault ≡ turn_leaves side R (at CloseSet p) l.payload l.buffer l.fault = rw (d.party, d.region) in
    let g : taken side R (at CloseSet p) l.payload l.buffer l.fault ≡ true = rw (ok, eq-eqb (length R) (total_bytes p.own.power p.own.slot) d.long, fault-fine l.fault fine) in (
      ap (λ (t : Turned). t.answer) spec ∙ ap (λ (t : Turned). t.answer) (turn_is side R (at CloseSet p) l.payload l.buffer l.fault g) ∙ ap answer_of e,
      record {
        party = ap (λ (x : World). party_in x side) (turn-happens side l.payload l.buffer l.fault w) ∙ sat side w l ∙ ap (λ (t : Turned). t.party) spec
            ∙ party-is side R (at CloseSet p) l.payload l.buffer l.fault g ∙ ap (λ (x : Move). at (step_after x CloseSet) (parted p)) e;
        region = ap (λ (x : World). x.region) (turn-happens side l.payload l.buffer l.fault w) ∙ left ∙ leaves-is side R (at CloseSet p) l.payload l.buffer l.fault g;
        long = length-leaves R p.own p.tag l.payload (SetFlag (close_mark p.own.side)) ∙ d.long;
      },
    )

close-wake : (side τ : Side) → τ ≡ side → (own : Own) → own.side ≡ τ → (f : Fault) → (f ≡ Some 0 → ⊥) → wake_move own (error_of f) 0 0 ≡ End (close_ends side f)
unfolding wake_move
close-wake side τ o own q f n = errors f n (λ x. wake_move own (error_of x) 0 0 ≡ End (close_ends side x)) refl (λ k e. rw (e, q, o) (by side k))
  where
    by : (side : Side) (k : ℕ) → End (Syscall (wake_op (ring_bell side)) k) ≡ End (close_ends side (Some k))
    by Sender k = refl
    by Recorder k = refl

ringing : (side : Side) (on : Bool) → (side ≡ Recorder → on ≡ true) → rings side on ≡ true
ringing Sender on h = refl
ringing Recorder on h = h refl

silent : (side : Side) (on : Bool) → side ≡ Recorder → on ≡ false → rings side on ≡ false
silent Sender on r h = absurd (let z : ◌≡◌ {A = ℕ} 0 1 = cc in omega arith)
silent Recorder on r h = h

pub close-told : (side : Side) → CloseTold side
unfolding leaves_of close_move
close-told side w ok long s a b c z =
    let p = party_in w side in
    let R = w.region in
    let mine = side-is side p ok in
    let ok2 = parted-sound side p ok in
    let at0 : At side p ok CloseSet R w = record { party = ap (λ (x : Step). at x p) s; region = refl; long = long } in (
      λ h.
          let up : close_move p.own ≡ To CloseRaise = rw (mine, ringing side p.own.notfull h) in
          let t1 = close-on side p ok R w a z.0 (To CloseRaise) at0 up in
          let w1 = happens (turn_by side a) w in
          let t2 = turn_on side (parted p) ok2 CloseRaise _ w1 refl b z.1.0 (To CloseWake) t1.1 refl in
          let w2 = happens (turn_by side b) w1 in
          let t3 = turn_on side (parted p) ok2 CloseWake _ w2 refl c z.1.1.0 (End (close_ends side c.fault)) t2.1 (close-wake side p.own.side mine p.own refl c.fault z.1.1.0) in
          (rw (t1.0, t2.0, t3.0), (t3.1.region ∙ rw mine, ap (λ (q : Party). q.step) t3.1.party)),
      λ r off.
          let down : close_move p.own ≡ End (Done 0 0) = rw (mine, silent side p.own.notfull r off) in
          let t1 = close-on side p ok R w a z.0 (End (Done 0 0)) at0 down in
          (rw t1.0, (t1.1.region ∙ rw mine, ap (λ (q : Party). q.step) t1.1.party)),
    )

wake-end : (side τ : Side) → τ ≡ side → (own : Own) → own.side ≡ τ → (l t : ℕ) (f : Fault) → (f ≡ Some 0 → ⊥) → wake_move own (error_of f) l t ≡ End (wake_ends side l t f)
unfolding wake_move
wake-end side τ o own q l t f n = errors f n (λ x. wake_move own (error_of x) l t ≡ End (wake_ends side l t x)) refl (λ k e. rw (e, q, o) (by side k))
  where
    by : (side : Side) (k : ℕ) → End (Syscall (wake_op (ring_bell side)) k) ≡ End (wake_ends side l t (Some k))
    by Sender k = refl
    by Recorder k = refl

pub wake-told : (side : Side) → WakeTold side
unfolding leaves_of
wake-told side w ok long l t s a z =
    let p = party_in w side in
    let at0 : At side p ok (Wake l t) w.region w = record { party = ap (λ (x : Step). at x p) s; region = refl; long = long } in
    let t1 = turn_on side p ok (Wake l t) w.region w refl a z.0 (End (wake_ends side l t a.fault)) at0 (wake-end side p.own.side (side-is side p ok) p.own refl l t a.fault z.0) in
    (rw t1.0, (t1.1.region, ap (λ (q : Party). q.step) t1.1.party))

pub corruption-told : (side : Side) → CorruptionTold side
corruption-told side w ok long k above ls n z = by ls n z
  where
    by : (ls : List Lent) → length ls ≡ 6 → NoneZero ls
        → (answers_of side ls w ≡ GoesOn ∷ GoesOn ∷ GoesOn ∷ GoesOn ∷ GoesOn ∷ CorruptIndices ∷ []) × (((after_turns side ls w).region ≡ shut_down w.region) × ((party_in (after_turns side ls w) side).step ≡ Rest))
    by (a ∷ b ∷ c ∷ d ∷ e ∷ f ∷ []) n z =
        six side (party_in w side) ok w.region above (party_in w side).step k w (record { party = refl; region = refl; long = long }) a b c d e f z
    by [] n z = absurd (omega arith)
    by (a ∷ []) n z = absurd (omega arith)
    by (a ∷ b ∷ []) n z = absurd (omega arith)
    by (a ∷ b ∷ c ∷ []) n z = absurd (omega arith)
    by (a ∷ b ∷ c ∷ d ∷ []) n z = absurd (omega arith)
    by (a ∷ b ∷ c ∷ d ∷ e ∷ []) n z = absurd (omega arith)
    by (a ∷ b ∷ c ∷ d ∷ e ∷ f ∷ g ∷ ls) n z = absurd (omega arith)

pub failed-wakes-nobody : FailedWakesNobody
unfolding turn_spec act_spec
failed-wakes-nobody side r p payload lent e = by (taken side r p payload lent (Some e)) refl
  where
    none : (a : Access) → 0 < e → woke_of a e ≡ None
    none NoAccess h = refl
    none (LoadCounter s) h = refl
    none LoadFlags h = refl
    none (LoadBell b) h = refl
    none (WriteSlot n) h = refl
    none (ReadSlot n) h = refl
    none (StoreCounter s n) h = refl
    none (RaiseBell b) h = refl
    none (SetFlag m) h = refl
    none (WaitBell b n) h = refl
    none (WakeBell b n) h = rw (lt-ltb 0 e h)

    by : (b : Bool) → taken side r p payload lent (Some e) ≡ b → (turn_spec side r p payload lent (Some e)).woke ≡ None
    by true g = rw g (none (next_spec p) (fault-above side p (length r) (length payload) (length lent) e g))
    by false g = rw g
