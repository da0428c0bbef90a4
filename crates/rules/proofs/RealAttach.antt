-- An attach keeps the invariant: a refused one changes nothing, an accepted one seats a party at rest in an empty seat.
use mathlib.Core.Path.{◌≡◌, refl, sym, ◌∙◌, subst}
use mathlib.Core.Bool.{Bool, true, false}
use mathlib.Core.List.{List, [], ◌∷◌}
use Prim.Native.Nat.{ℕ, zero, suc}
use native.Mathlib.Omega.{arith}
use lib.Dec.{eqb}
use lib.ListN.{length}
use Rattle.types.specs.declared.Step.TheVariants.{Rest}
use Rattle.std.specs.Cmp.{first_so, second_so}
use Rattle.std.proofs.lemmas.Bool.{not-true}
use Rattle.words.specs.Le.{le_at, put_le}
use Rattle.types.specs.Answers.{number, Test, test, first_of}
use Rattle.types.specs.declared.Side.{Side}
use Rattle.types.specs.declared.Side.TheVariants.{Sender, Recorder}
use Rattle.types.specs.declared.Party.{Party}
use Rattle.types.specs.declared.Access.{Access}
use Rattle.types.specs.declared.Access.TheVariants.{SetFlag}
use Rattle.layout.specs.Limits.{power_ok, slot_ok, spins_ok}
use Rattle.layout.specs.Flags.{worth, bit_on, set_bit, attach_mark, close_mark}
use Rattle.layout.specs.Header.{flags_at, counter_at, bell_at}
use Rattle.layout.specs.Attach.{flag_checks, ring_checks, region_checks, attach_checks, attach_answer, attach_reply, attach_leaves, attached}
use Rattle.layout.proofs.FlagLaws.{mark_set}
use Rattle.rules.specs.Sides.{other, sleep_bell}
use Rattle.rules.specs.Access.{leaves_of}
use Rattle.rules.specs.Bench.{party_of, seat}
use Rattle.rules.specs.Run.{Note, World, party_in, attach_seats}
use Rattle.rules.specs.Phase.{Phase, resting, looking, copying, publishing, telling, asking, armed, poised, waits, sleeps, glancing, leaving, phase}
use Rattle.rules.proofs.After.{counter-after, bell-after}
use Rattle.rules.proofs.Kept.{header-in, flags-are, fixed_kept}
use Rattle.rules.proofs.Ring.{holds_kept}
use Rattle.rules.proofs.Refusals.{refuses, all-refuse, refusal-number}
use Rattle.rules.proofs.Hands.{in-hand-none}
use Rattle.rules.proofs.RealTurn.{both-sides}
use Rattle.rules.proofs.RealCalls.{seat-one, seat-two}
use Rattle.rules.proofs.Real.{InHand, HoldsAt, nth, Queue, SideGood, Real}

-- the k-th test of a list of checks; where they end in Done, it holds
abbrev test_at : List Test → ℕ → Bool
test_at [] k = true
test_at (test b a ∷ cs) zero = b
test_at (test b a ∷ cs) (suc k) = test_at cs k

done-test : (cs : List Test) → all-refuse cs ≡ true → eqb (number (first_of cs)) 0 ≡ true → (k : ℕ) → test_at cs k ≡ true
done-test [] t e k = refl
done-test (test true a ∷ cs) t e zero = refl
done-test (test true a ∷ cs) t e (suc k) = done-test cs (second_so (refuses a) (all-refuse cs) t) e k
done-test (test false a ∷ cs) t e k =
    absurd (let f : eqb (number a) 0 ≡ false = refusal-number a (first_so (refuses a) (all-refuse cs) t) in let z : ◌≡◌ {A = ℕ} 0 1 = cc in omega arith)

-- an accepted count is within the limit
pub count-few : (r : List ℕ) (side : Side) (spins : ℕ) → eqb (number (attach_answer r side spins)) 0 ≡ true → spins_ok spins ≡ true
unfolding attach_answer attach_checks region_checks ring_checks flag_checks
count-few r side spins e = done-test (attach_checks r side spins) refl e 0

-- an accepted side's bit was clear
pub bit-clear : (r : List ℕ) (side : Side) (spins : ℕ) → eqb (number (attach_answer r side spins)) 0 ≡ true → bit_on (worth (attach_mark side)) (le_at 4 r flags_at) ≡ false
unfolding attach_answer attach_checks region_checks ring_checks flag_checks
bit-clear r side spins e = not-true (bit_on (worth (attach_mark side)) (le_at 4 r flags_at)) (done-test (attach_checks r side spins) refl e 12)

module _ (P S v : ℕ) (on : Bool) (power-ok : power_ok P ≡ true) (slot-ok : slot_ok S ≡ true) (w : World) (real : Real P S v on w) (side : Side) where
  abbrev r : List ℕ
  r = w.region

  abbrev p : Party
  p = party_in w side

  abbrev flags : ℕ
  flags = le_at 4 r flags_at

  -- an accepted side's party was at rest
  pub was-at-rest : (spins : ℕ) → eqb (number (attach_answer r side spins)) 0 ≡ true → p.step ≡ Rest
  was-at-rest spins e = ((real.sides side).seat.empty (sym (real.sides side).seat.attached-bit ∙ bit-clear r side spins e)).0

  -- an attach stores as an access that sets its bit
  abbrev a : Access
  a = SetFlag (attach_mark side)

  abbrev left : List ℕ
  left = leaves_of r p.own a p.tag []

  flags-left : le_at 4 left flags_at ≡ set_bit (worth (attach_mark side)) flags
  flags-left = flags-are P S v on r p [] real.fixed a

  -- the flags after it, as stored
  pub attach-flags : le_at 4 (put_le 4 r flags_at (set_bit (worth (attach_mark side)) flags)) flags_at ≡ set_bit (worth (attach_mark side)) flags
  unfolding leaves_of
  attach-flags = flags-left

  counters : (τ : Side) → le_at 8 left (counter_at τ) ≡ le_at 8 r (counter_at τ)
  counters τ = counter-after r p.own p.tag [] (header-in P S v on r p [] real.fixed) τ a tt

  bells : (τ : Side) → le_at 4 left (bell_at (sleep_bell τ)) ≡ le_at 4 r (bell_at (sleep_bell τ))
  bells τ = bell-after r p.own p.tag [] (header-in P S v on r p [] real.fixed) (sleep_bell τ) a

  slots : (i : ℕ) (n : Note) → HoldsAt P S v on r i n → HoldsAt P S v on left i n
  slots i n = holds_kept P S v on power-ok slot-ok r p [] real.fixed i n a tt

  -- the bits of the marks: the own attach bit is set, the others are as they were
  close-kept : (τ σ : Side) → bit_on (worth (close_mark τ)) (set_bit (worth (attach_mark σ)) flags) ≡ bit_on (worth (close_mark τ)) flags
  close-kept Sender Sender = mark_set (attach_mark Sender) flags real.fixed.small (close_mark Sender)
  close-kept Sender Recorder = mark_set (attach_mark Recorder) flags real.fixed.small (close_mark Sender)
  close-kept Recorder Sender = mark_set (attach_mark Sender) flags real.fixed.small (close_mark Recorder)
  close-kept Recorder Recorder = mark_set (attach_mark Recorder) flags real.fixed.small (close_mark Recorder)

  attach-set : (σ : Side) → bit_on (worth (attach_mark σ)) (set_bit (worth (attach_mark σ)) flags) ≡ true
  attach-set Sender = mark_set (attach_mark Sender) flags real.fixed.small (attach_mark Sender)
  attach-set Recorder = mark_set (attach_mark Recorder) flags real.fixed.small (attach_mark Recorder)

  attach-kept : (σ : Side) → bit_on (worth (attach_mark (other σ))) (set_bit (worth (attach_mark σ)) flags) ≡ bit_on (worth (attach_mark (other σ))) flags
  attach-kept Sender = mark_set (attach_mark Sender) flags real.fixed.small (attach_mark Recorder)
  attach-kept Recorder = mark_set (attach_mark Recorder) flags real.fixed.small (attach_mark Sender)

  queue-left : Queue P S v on left w.trace
  queue-left =
      let h = real.queue in
      record { below = h.below; above = h.above; order = h.order; ring = λ i k l. slots i (nth w.trace.sent i) (h.ring i k l) }

  hand-left : (τ : Side) (ph : Phase) → InHand P S v on τ ph r w.trace → InHand P S v on τ ph left w.trace
  hand-left Sender resting h = tt
  hand-left Sender looking h = tt
  hand-left Sender copying h = tt
  hand-left Sender (publishing l g) h = slots (length w.trace.sent) w.trace.hand h
  hand-left Sender (telling l g) h = tt
  hand-left Sender asking h = tt
  hand-left Sender (armed e) h = tt
  hand-left Sender (poised e) h = tt
  hand-left Sender (waits e) h = tt
  hand-left Sender sleeps h = tt
  hand-left Sender glancing h = tt
  hand-left Sender leaving h = tt
  hand-left Recorder resting h = tt
  hand-left Recorder looking h = tt
  hand-left Recorder copying h = tt
  hand-left Recorder (publishing l g) h = h
  hand-left Recorder (telling l g) h = h
  hand-left Recorder asking h = tt
  hand-left Recorder (armed e) h = tt
  hand-left Recorder (poised e) h = tt
  hand-left Recorder (waits e) h = tt
  hand-left Recorder sleeps h = tt
  hand-left Recorder glancing h = tt
  hand-left Recorder leaving h = tt

  other-left : SideGood P S v on (other side) left (party_in w (other side)) w.trace
  other-left =
      let h = real.sides (other side) in
      record {
        word = counters (other side) ∙ h.word;
        seat =
            record {
              closed-bit = rw flags-left (close-kept (other side) side ∙ h.seat.closed-bit);
              attached-bit = rw flags-left (attach-kept side ∙ h.seat.attached-bit);
              in_place = h.seat.in_place;
              empty = h.seat.empty;
              over = h.seat.over;
              few = h.seat.few;
              spun = h.seat.spun;
              heard = λ e. rw flags-left (close-kept (other (other side)) side ∙ h.seat.heard e);
            };
        since = rw (bells (other side)) h.since;
        room = h.room;
        hand = hand-left (other side) (phase (party_in w (other side)).step) h.hand;
        tag_small = h.tag_small;
        bell-small = rw (bells (other side)) h.bell-small;
      }

  module _ (spins : ℕ) (accepted : eqb (number (attach_answer r side spins)) 0 ≡ true) where
    nobody : p.own.attached ≡ false
    nobody = sym (real.sides side).seat.attached-bit ∙ bit-clear r side spins accepted

    newcomer : SideGood P S v on side left (attached r side spins) w.trace
    newcomer =
        let h = real.sides side in
        let f = real.fixed in
        record {
          word = counters side ∙ h.word;
          seat =
              record {
                closed-bit = rw flags-left (close-kept side side ∙ h.seat.closed-bit ∙ (h.seat.empty nobody).1);
                attached-bit = rw flags-left (attach-set side);
                in_place = λ e. (rw (f.power_at, f.slot_at, f.option), h.word);
                empty = λ e. absurd (let z : ◌≡◌ {A = ℕ} 0 1 = cc in omega arith);
                over = λ e. refl;
                few = count-few r side spins accepted;
                spun = λ n e. absurd (let z : ◌≡◌ {A = ℕ} 0 1 = cc in omega arith);
                heard = λ e. absurd (let z : ◌≡◌ {A = ℕ} 0 1 = cc in omega arith);
              };
          since = tt;
          room = tt;
          hand = in-hand-none P S v on side resting left w.trace tt;
          tag_small = omega arith;
          bell-small = rw (bells side) h.bell-small;
        }

  abbrev pub attach_world : (spins : ℕ) → World
  attach_world spins = record { region = attach_leaves r side spins; bench = attach_seats w side spins; trace = w.trace }

  pub real-attached : (spins : ℕ) → Real P S v on (attach_world spins)
  unfolding attach_leaves attach_reply leaves_of
  real-attached spins = by (eqb (number (attach_answer r side spins)) 0) refl
    where
      by : (b : Bool) → eqb (number (attach_answer r side spins)) 0 ≡ b → Real P S v on (attach_world spins)
      by false e = rw e real
      by true e =
          rw e record {
            fixed = fixed_kept P S v on r p [] real.fixed a;
            queue = queue-left;
            sides = both-sides side (λ τ. SideGood P S v on τ left (party_of (seat w.bench side (attached r side spins)) τ) w.trace)
                (subst (λ (x : Party). SideGood P S v on side left x w.trace) (sym (seat-one side w.bench (attached r side spins))) (newcomer spins e))
                (subst (λ (x : Party). SideGood P S v on (other side) left x w.trace) (sym (seat-two side w.bench (attached r side spins))) other-left);
          }
