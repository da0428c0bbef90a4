-- The invariant holds at the start and in every world that a run reaches; and T1 follows.
use Rattle.std.specs.Prelude.{None, Some}
use mathlib.Core.Path.{◌≡◌, refl, sym, ap, ◌∙◌}
use mathlib.Core.Bool.{Bool, true, false}
use mathlib.Core.List.{List, [], ◌∷◌, ◌++◌}
use Prim.Native.Nat.{ℕ, ◌-◌, ◌<◌}
use native.Mathlib.Omega.{arith}
use borrow.Author.Tests.{eqb-true}
use lib.ListN.{length, drop, length-drop, take-append-drop}
use Rattle.words.specs.Le.{le_at}
use Rattle.words.specs.Wrap.{plus}
use Rattle.words.proofs.Wrapped.{plus-zero}
use Rattle.types.specs.declared.Side.{Side}
use Rattle.types.specs.declared.Side.TheVariants.{Sender, Recorder}
use Rattle.types.specs.declared.Party.{Party}
use Rattle.types.specs.Faults.{Fault}
use Rattle.types.specs.declared.Event.TheVariants.{Turn, Failing, Spurious, TimeOut, Push, Pop, Close, Shutdown}
use Rattle.layout.specs.Limits.{power_ok, slot_ok, capacity, ring_bytes, total_bytes}
use Rattle.layout.specs.Flags.{worth, reserved_from, bit_on, attach_mark, close_mark}
use Rattle.layout.specs.Header.{flags_at, counter_at, bell_at}
use Rattle.layout.specs.Create.{first_flags, created}
use Rattle.layout.proofs.SizeLaws.{capacity-room, spins-none}
use Rattle.layout.specs.Whole.{Fitting}
use Rattle.layout.proofs.Headed.{length-headed, headed-power, headed-slot, headed-flags, headed-counter, headed-bell}
use Rattle.layout.proofs.Accepted.{tests, fits, first_small, first-option}
use Rattle.rules.specs.Sides.{sleep_bell}
use Rattle.rules.specs.Calls.{push_spec, pop_spec, close_spec, shut_spec, spurious_spec, timeout_spec}
use Rattle.rules.specs.Bench.{settled, played, played_leaves}
use Rattle.rules.specs.Run.{Note, World, Happening, attaches, plays, party_in, happens, run, opened}
use Rattle.rules.specs.Premises.{Typed, AllTyped}
use Rattle.rules.specs.Claims.{waiting, Fresh, reached, InOrder}
use Rattle.rules.proofs.Rooms.{used-is}
use Rattle.rules.proofs.Taken.{turn_world}
use Rattle.rules.proofs.RealTurn.{real-turned}
use Rattle.rules.proofs.RealCalls.{Changed, seated, push-changes, pop-changes, close-changes, shut-changes, spurious-changes, timeout-changes, real-called}
use Rattle.rules.proofs.RealAttach.{attach_world, real-attached}
use Rattle.rules.proofs.Real.{SideGood, Real}

module _ (P S v : ℕ) (on : Bool) (power-ok : power_ok P ≡ true) (slot-ok : slot_ok S ≡ true) where
  -- whatever happens is an attach, a turn, or a call that changes its own party's record or nothing
  pub happens-by : (F : World → Type 0) (h : Happening) (w : World) → Typed h → (real : Real P S v on w)
      → ((side : Side) (spins : ℕ) → F (attach_world P S v on power-ok slot-ok w real side spins))
      → ((side : Side) (payload lent : List ℕ) (fault : Fault) → F (turn_world w side payload lent fault))
      → ((side : Side) (q : Party) → Changed side (party_in w side) q → F (seated P S v on w side q))
      → F (happens h w)
  unfolding happens played played_leaves settled
  happens-by F (attaches side spins) w y real a t c = a side spins
  happens-by F (plays (Turn side) i o) w y real a t c = t side i o None
  happens-by F (plays (Failing side e) i o) w y real a t c = t side i o (Some e)
  happens-by F (plays (Spurious side) i o) w y real a t c = c side (spurious_spec side (party_in w side)).party (spurious-changes side (party_in w side))
  happens-by F (plays (TimeOut side) i o) w y real a t c = c side (timeout_spec side (party_in w side)).party (timeout-changes side (party_in w side))
  happens-by F (plays (Push b g l) i o) w y real a t c = c Sender (push_spec (party_in w Sender) b g l).party (push-changes (party_in w Sender) b g l y)
  happens-by F (plays (Pop b l) i o) w y real a t c = c Recorder (pop_spec (party_in w Recorder) b l).party (pop-changes (party_in w Recorder) b l)
  happens-by F (plays (Close side) i o) w y real a t c = c side (close_spec side (party_in w side)).party (close-changes side (party_in w side))
  happens-by F (plays (Shutdown side) i o) w y real a t c = c side (shut_spec side (party_in w side)).party (shut-changes side (party_in w side))

  pub real-happens : (h : Happening) (w : World) → Typed h → Real P S v on w → Real P S v on (happens h w)
  real-happens h w y real =
      happens-by (Real P S v on) h w y real (real-attached P S v on power-ok slot-ok w real) (real-turned P S v on power-ok slot-ok w real) (real-called P S v on w real)

  pub real-run : (hs : List Happening) (w : World) → AllTyped hs → Real P S v on w → Real P S v on (run hs w)
  unfolding run
  real-run [] w y real = real
  real-run (h ∷ hs) w y real = real-run hs (happens h w) y.1 (real-happens h w y.0 real)

-- fresh flags
fresh-small : (on : Bool) → first_flags on < reserved_from
fresh-small true = omega arith
fresh-small false = omega arith

fresh-closed : (on : Bool) (side : Side) → bit_on (worth (close_mark side)) (first_flags on) ≡ false
fresh-closed true Sender = refl
fresh-closed true Recorder = refl
fresh-closed false Sender = refl
fresh-closed false Recorder = refl

fresh-attached : (on : Bool) (side : Side) → bit_on (worth (attach_mark side)) (first_flags on) ≡ false
fresh-attached true Sender = refl
fresh-attached true Recorder = refl
fresh-attached false Sender = refl
fresh-attached false Recorder = refl

module _ (r : List ℕ) (P S : ℕ) (on : Bool) (v : ℕ) (fresh : Fresh r P S on v) where
  made : Fitting r (ring_bytes P S) P S (first_flags on) v
  made = fits r P S on v fresh.0 fresh.1 (first_flags on) (first_small r P S on v fresh.0 fresh.1)

  pub power-fits : power_ok P ≡ true
  power-fits = (tests r P S on v fresh.0 fresh.1).1

  pub slot-fits : slot_ok S ≡ true
  slot-fits = (tests r P S on v fresh.0 fresh.1).0

  abbrev region : List ℕ
  region = created r P S on v

  pub flags-are : le_at 4 region flags_at ≡ first_flags on
  unfolding created
  flags-are = headed-flags r (ring_bytes P S) P S (first_flags on) v made

  counter-starts : (side : Side) → le_at 8 region (counter_at side) ≡ plus 64 v 0
  unfolding created
  counter-starts side = headed-counter r (ring_bytes P S) P S (first_flags on) v made side ∙ sym (plus-zero 64 v fresh.1)

  bell-starts : (side : Side) → le_at 4 region (bell_at (sleep_bell side)) ≡ 0
  unfolding created
  bell-starts side = headed-bell r (ring_bytes P S) P S (first_flags on) v made (sleep_bell side)

  side-starts : (side : Side) → SideGood P S v on side region (party_in (opened region) side) (opened region).trace
  side-starts Sender =
      record {
        word = counter-starts Sender;
        seat =
            record {
              closed-bit = ap (bit_on (worth (close_mark Sender))) flags-are ∙ fresh-closed on Sender;
              attached-bit = ap (bit_on (worth (attach_mark Sender))) flags-are ∙ fresh-attached on Sender;
              in_place = λ e. absurd (let z : ◌≡◌ {A = ℕ} 0 1 = cc in omega arith);
              empty = λ e. (refl, refl);
              over = λ e. refl;
              few = spins-none;
              spun = λ n e. absurd (let z : ◌≡◌ {A = ℕ} 0 1 = cc in omega arith);
              heard = λ e. absurd (let z : ◌≡◌ {A = ℕ} 0 1 = cc in omega arith);
            };
        since = tt;
        room = tt;
        hand = tt;
        tag_small = omega arith;
        bell-small = rw (bell-starts Sender) (omega arith);
      }
  side-starts Recorder =
      record {
        word = counter-starts Recorder;
        seat =
            record {
              closed-bit = ap (bit_on (worth (close_mark Recorder))) flags-are ∙ fresh-closed on Recorder;
              attached-bit = ap (bit_on (worth (attach_mark Recorder))) flags-are ∙ fresh-attached on Recorder;
              in_place = λ e. absurd (let z : ◌≡◌ {A = ℕ} 0 1 = cc in omega arith);
              empty = λ e. (refl, refl);
              over = λ e. refl;
              few = spins-none;
              spun = λ n e. absurd (let z : ◌≡◌ {A = ℕ} 0 1 = cc in omega arith);
              heard = λ e. absurd (let z : ◌≡◌ {A = ℕ} 0 1 = cc in omega arith);
            };
        since = tt;
        room = tt;
        hand = tt;
        tag_small = omega arith;
        bell-small = rw (bell-starts Recorder) (omega arith);
      }

  pub real-start : Real P S v on (opened region)
  unfolding created
  real-start =
      record {
        fixed =
            record {
              long = length-headed r (ring_bytes P S) P S (first_flags on) v made ∙ eqb-true (length r) (total_bytes P S) (tests r P S on v fresh.0 fresh.1).2;
              small = rw flags-are (fresh-small on);
              power_at = headed-power r (ring_bytes P S) P S (first_flags on) v made;
              slot_at = headed-slot r (ring_bytes P S) P S (first_flags on) v made;
              option = rw flags-are (first-option on);
            };
        queue = record { below = omega arith; above = omega arith; order = refl; ring = λ i h l. absurd (omega arith) };
        sides = side-starts;
      }

  pub real-reached : (hs : List Happening) → AllTyped hs → Real P S v on (reached r P S on v hs)
  real-reached hs y = real-run P S v on power-fits slot-fits hs (opened region) y real-start

  -- T1
  pub waiting-is : (hs : List Happening) → AllTyped hs → waiting (reached r P S on v hs) ≡ length (reached r P S on v hs).trace.sent - length (reached r P S on v hs).trace.delivered
  waiting-is hs y =
      let real = real-reached hs y in
      let q = real.queue in
      rw ((real.sides Sender).word, (real.sides Recorder).word)
      (used-is (capacity P) v (length (reached r P S on v hs).trace.sent) (length (reached r P S on v hs).trace.delivered) q.below q.above (omega (arith, capacity-room P)))

  pub in_order : InOrder r P S on v
  in_order hs y =
      let w = reached r P S on v hs in
      let q = (real-reached hs y).queue in
      let u = waiting-is hs y in
      let b = q.below in
      let a = q.above in (
        omega arith,
        (
          drop (length w.trace.delivered) w.trace.sent,
          sym (take-append-drop (length w.trace.delivered) w.trace.sent) ∙ ap (λ (x : List Note). x ++ drop (length w.trace.delivered) w.trace.sent) (sym q.order),
          length-drop (length w.trace.delivered) w.trace.sent ∙ sym u,
        ),
      )
