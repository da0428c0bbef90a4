-- A turn of a side over a world: what a refused one leaves, and what a taken one knows and makes.
use Rattle.std.specs.Cmp.{first_so, second_so}
use Rattle.std.specs.Prelude.{None}
use mathlib.Core.Path.{◌≡◌, refl, sym, ap, ◌∙◌}
use mathlib.Core.Bool.{true, false}
use mathlib.Core.List.{List}
use Prim.Native.Nat.{ℕ}
use lib.Dec.{eqb}
use lib.ListN.{length}
use Rattle.types.specs.declared.Side.{Side}
use Rattle.types.specs.declared.Side.TheVariants.{Sender, Recorder}
use Rattle.types.specs.declared.Party.{Party}
use Rattle.types.specs.Faults.{Fault}
use Rattle.types.specs.declared.Turned.{Turned}
use Rattle.types.specs.declared.Bench.{Bench}
use Rattle.layout.specs.Limits.{power_ok, slot_ok, spins_ok, total_bytes}
use Rattle.rules.specs.Sides.{other, same_side}
use Rattle.rules.specs.Take.{stance_of, step_after, move_of}
use Rattle.rules.specs.Next.{next_spec}
use Rattle.rules.specs.Calls.{sound, length_ok}
use Rattle.rules.specs.Access.{value_of, leaves_of, buffer_of}
use Rattle.rules.specs.Turn.{error_of, fault_ok, lent_to, lent_ok, goes, woke_of, act_spec, act_leaves, act_buffer, turn_spec, turn_leaves}
use Rattle.rules.specs.Bench.{party_of, seat, wakened, turned}
use Rattle.rules.specs.Run.{World, party_in, takes, traced, turn_traced}
use Rattle.rules.proofs.Leaving.{made, turn_is, leaves-is, party-is}
use Rattle.rules.proofs.Seats.{moved}

pub same_true : (side : Side) → same_side side side ≡ true
same_true Sender = refl
same_true Recorder = refl

-- what a turn of a side makes of a world
abbrev pub turn_world : World → Side → (payload lent : List ℕ) → Fault → World
turn_world w side payload lent fault =
    record {
      region = turn_leaves side w.region (party_in w side) payload lent fault;
      bench = (turned w.bench side (turn_spec side w.region (party_in w side) payload lent fault)).bench;
      trace = turn_traced w side payload lent fault;
    }

pub reseated : (side : Side) (b : Bench) → seat (seat b side (party_of b side)) (other side) (wakened (other side) (party_of b (other side)) None) ≡ b
unfolding wakened
reseated Sender b = refl
reseated Recorder b = refl

pub seat-own : (side : Side) (b : Bench) (p q : Party) → party_of (seat (seat b side p) (other side) q) side ≡ p
seat-own Sender b p q = refl
seat-own Recorder b p q = refl

pub seat-other : (side : Side) (b : Bench) (p q : Party) → party_of (seat (seat b side p) (other side) q) (other side) ≡ q
seat-other Sender b p q = refl
seat-other Recorder b p q = refl

module _ (w : World) (side : Side) (payload lent : List ℕ) (fault : Fault) where
  abbrev p : Party
  p = party_in w side

  -- a refused turn leaves the world as it was
  pub turn-refused : takes w side payload lent fault ≡ false → turn_world w side payload lent fault ≡ w
  unfolding turn_leaves turned turn_spec
  turn-refused g = λ i. record { region = a i; bench = b i; trace = c i }
    where
      a : turn_leaves side w.region p payload lent fault ≡ w.region
      a = rw g

      b : (turned w.bench side (turn_spec side w.region p payload lent fault)).bench ≡ w.bench
      b = rw g (reseated side w.bench)

      c : turn_traced w side payload lent fault ≡ w.trace
      c = rw g

  module _ (g : takes w side payload lent fault ≡ true) where
    tests : goes side p (length w.region) (length payload) (length lent) fault ≡ true
    tests = g

    pub is-sound : sound side p ≡ true
    unfolding goes
    is-sound = first_so (sound side p) _ tests

    pub attached-here : p.own.attached ≡ true
    unfolding sound
    attached-here = first_so p.own.attached _ is-sound

    pub length-ok : length_ok side p.length p.own.slot ≡ true
    unfolding sound
    length-ok =
        second_so (spins_ok p.own.spins) _
        (second_so (slot_ok p.own.slot) _ (second_so (power_ok p.own.power) _ (second_so (same_side side p.own.side) _ (second_so p.own.attached _ is-sound))))

    pub lent_ok_lem : lent_ok (stance_of p.step) (lent_to side (length payload) (length lent)) p.length ≡ true
    unfolding goes
    lent_ok_lem = first_so _ (fault_ok fault) (second_so (eqb (length w.region) (total_bytes p.own.power p.own.slot)) _ (second_so (sound side p) _ tests))

    -- the party after it, and the world
    abbrev value : ℕ
    value = value_of w.region p.own (next_spec p)

    abbrev woken : Party
    woken = wakened (other side) (party_in w (other side)) (woke_of (next_spec p) (error_of fault))

    pub turn-taken : turn_world w side payload lent fault ≡ record {
      region = leaves_of w.region p.own (next_spec p) p.tag payload;
      bench = seat (seat w.bench side (moved p p.step (step_after (move_of p value (error_of fault)) p.step))) (other side) woken;
      trace = traced (next_spec p) p payload (buffer_of w.region p.own (next_spec p) p.length lent) w.trace;
    }
    unfolding made act_leaves act_buffer act_spec turned
    turn-taken = λ i. record { region = a i; bench = b i; trace = c i }
      where
        a : turn_leaves side w.region p payload lent fault ≡ leaves_of w.region p.own (next_spec p) p.tag payload
        a = leaves-is side w.region p payload lent fault g

        b : (turned w.bench side (turn_spec side w.region p payload lent fault)).bench
            ≡ seat (seat w.bench side (moved p p.step (step_after (move_of p value (error_of fault)) p.step))) (other side) woken
        b =
            ap (λ (t : Turned). (turned w.bench side t).bench) (turn_is side w.region p payload lent fault g)
            ∙ ap (λ (q : Party). seat (seat w.bench side q) (other side) woken) (sym (ap (λ (t : Turned). t.party) (turn_is side w.region p payload lent fault g)) ∙ party-is side w.region p payload lent fault g)

        c : turn_traced w side payload lent fault ≡ traced (next_spec p) p payload (buffer_of w.region p.own (next_spec p) p.length lent) w.trace
        c = rw g
