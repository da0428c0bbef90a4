-- A sender's record always names a length that its slot holds: so no turn of an attached party is refused for its record.
use Rattle.std.proofs.lemmas.Bool.{not-false}
use Rattle.std.specs.Prelude.{None, Some}
use mathlib.Core.Path.{◌≡◌, refl, sym, ap, ◌∙◌, subst}
use mathlib.Core.Bool.{Bool, true, false, not, ◌&&◌}
use mathlib.Core.List.{List, [], ◌∷◌}
use Prim.Native.Nat.{ℕ}
use borrow.Author.Tests.{eq-eqb}
use lib.Dec.{leb, eqb, leb-zero}
use lib.ListN.{length, replicate, length-replicate}
use Rattle.types.specs.Pick.{pick}
use Rattle.types.specs.Answers.{number}
use Rattle.types.specs.declared.Side.{Side}
use Rattle.types.specs.declared.Side.TheVariants.{Sender, Recorder}
use Rattle.types.specs.declared.Own.{Own}
use Rattle.types.specs.declared.Party.{Party}
use Rattle.types.specs.declared.Bench.{Bench}
use Rattle.types.specs.declared.Reply.{Reply}
use Rattle.types.specs.Faults.{Woke}
use Rattle.types.specs.declared.Stance.{Stance}
use Rattle.types.specs.declared.Stance.TheVariants.{Resting, Sleeping, Copying, Publishing, Closing, Moving}
use Rattle.types.specs.Faults.{Fault}
use Rattle.types.specs.declared.Event.TheVariants.{Turn, Failing, Spurious, TimeOut, Push, Pop, Close, Shutdown}
use Rattle.types.specs.declared.Answer.TheVariants.{GoesOn}
use Rattle.types.specs.declared.Step.TheVariants.{Look, LastLook, CloseSet, ShutSet}
use Rattle.layout.specs.Limits.{power_ok, slot_ok, payload_capacity, total_bytes}
use Rattle.layout.specs.Attach.{attach_answer, attach_reply, attached}
use Rattle.rules.specs.Sides.{other}
use Rattle.rules.specs.Take.{stance_of}
use Rattle.rules.specs.Calls.{is_sleeping, length_ok, sound, ready, reply, at, named, begins, rouses, push_spec, close_spec, shut_spec, spurious_spec, timeout_spec}
use Rattle.rules.specs.Turn.{lent_to, lent_ok, goes, woke_of, error_of}
use Rattle.rules.specs.Next.{next_spec}
use Rattle.rules.specs.Bench.{seat, hears, wakened, settled, played, played_leaves}
use Rattle.rules.specs.Run.{World, Happening, attaches, plays, party_in, takes, happens, run, opened}
use Rattle.rules.proofs.Taken.{turn_world, turn-refused, turn-taken, same_true}
use Rattle.rules.proofs.Seats.{roused}
use Rattle.rules.proofs.Real.{sizes, Real}

-- a buffer as long as was named
abbrev pub blank_of : ℕ → List ℕ
blank_of n = replicate n 0

abbrev pub Fits : Side → Party → Type 0
Fits side p = length_ok side p.length p.own.slot ≡ true

abbrev pub Sized : World → Type 0
Sized w = Fits Sender w.bench.sender

-- a party with the sizes and the length of another fits as it does
fits-as : (p q : Party) → q.own ≡ p.own → q.length ≡ p.length → Fits Sender p → Fits Sender q
fits-as p q o l h = rw (o, l) h

woken-length : (side : Side) (q : Party) (x : Woke) → (wakened side q x).length ≡ q.length
unfolding wakened
woken-length side q x = by (hears side x && is_sleeping (stance_of q.step))
  where
    by : (b : Bool) → (pick b (at Look q) q).length ≡ q.length
    by true = refl
    by false = refl

-- a begin that is taken has passed its tests
begun-fits : (p : Party) (g c o n : Bool) (q : Party) → Fits Sender p → (n ≡ false → Fits Sender q) → Fits Sender (begins p g c o n q).party
begun-fits p false c o n q h f = h
begun-fits p true true o n q h f = h
begun-fits p true false true n q h f = h
begun-fits p true false false true q h f = h
begun-fits p true false false false q h f = f refl

roused-fits : (p : Party) (g s : Bool) (q : Reply) → Fits Sender p → Fits Sender q.party → Fits Sender (rouses p g s q).party
roused-fits p false s q h f = h
roused-fits p true false q h f = h
roused-fits p true true q h f = f

sized-seat : (side : Side) (b : Bench) (q : Party) → Fits Sender b.sender → (side ≡ Sender → Fits Sender q) → Fits Sender (seat b side q).sender
sized-seat Sender b q h f = f refl
sized-seat Recorder b q h f = h

pub sized-turn : (w : World) (side : Side) (payload lent : List ℕ) (fault : Fault) → Sized w → Sized (turn_world w side payload lent fault)
sized-turn w side payload lent fault h = by (takes w side payload lent fault) refl
  where
    after : (side : Side) (p q : Party) → p.own ≡ (party_in w side).own → p.length ≡ (party_in w side).length → q.own ≡ (party_in w (other side)).own → q.length ≡ (party_in w (other side)).length
        → Fits Sender (seat (seat w.bench side p) (other side) q).sender
    after Sender p q a b c d = fits-as w.bench.sender p a b h
    after Recorder p q a b c d = fits-as w.bench.sender q c d h

    by : (b : Bool) → takes w side payload lent fault ≡ b → Sized (turn_world w side payload lent fault)
    by false g = subst Sized (sym (turn-refused w side payload lent fault g)) h
    by true g =
        let woke = woke_of (next_spec (party_in w side)) (error_of fault) in
        subst Sized (sym (turn-taken w side payload lent fault g)) (after side _ _ refl refl (roused (other side) (party_in w (other side)) woke).own (woken-length (other side) (party_in w (other side)) woke))

sized-attach : (w : World) (side : Side) (spins : ℕ) → Sized w → Sized (happens (attaches side spins) w)
unfolding happens attach_reply
sized-attach w side spins h = by (eqb (number (attach_answer w.region side spins)) 0) refl
  where
    by : (b : Bool) → eqb (number (attach_answer w.region side spins)) 0 ≡ b → Sized (happens (attaches side spins) w)
    by true e = rw e (sized-seat side w.bench (attached w.region side spins) h (λ q. leb-zero (payload_capacity (attached w.region side spins).own.slot)))
    by false e = rw e h

pub sized-happens : (h : Happening) (w : World) → Sized w → Sized (happens h w)
unfolding happens played played_leaves settled push_spec close_spec shut_spec spurious_spec timeout_spec
sized-happens (attaches side spins) w h = sized-attach w side spins h
sized-happens (plays (Turn side) i o) w h = sized-turn w side i o None h
sized-happens (plays (Failing side e) i o) w h = sized-turn w side i o (Some e) h
sized-happens (plays (Spurious Sender) i o) w h = let p = w.bench.sender in roused-fits p (sound Sender p) (is_sleeping (stance_of p.step)) (reply (at Look p) GoesOn) h h
sized-happens (plays (Spurious Recorder) i o) w h = h
sized-happens (plays (TimeOut Sender) i o) w h = let p = w.bench.sender in roused-fits p (sound Sender p) (is_sleeping (stance_of p.step)) (reply (at (LastLook true) p) GoesOn) h h
sized-happens (plays (TimeOut Recorder) i o) w h = h
sized-happens (plays (Push b t l) i o) w h =
    let p = w.bench.sender in
    begun-fits p (ready Sender p) p.closed (b && not p.own.notfull) (not (leb l (payload_capacity p.own.slot))) (named b t l p) h (not-false (leb l (payload_capacity p.own.slot)))
sized-happens (plays (Pop b l) i o) w h = h
sized-happens (plays (Close Sender) i o) w h = let p = w.bench.sender in begun-fits p (ready Sender p) p.closed false false (at CloseSet p) h (λ e. h)
sized-happens (plays (Close Recorder) i o) w h = h
sized-happens (plays (Shutdown Sender) i o) w h = let p = w.bench.sender in begun-fits p (ready Sender p) false false false (at (ShutSet false) p) h (λ e. h)
sized-happens (plays (Shutdown Recorder) i o) w h = h

pub sized-run : (hs : List Happening) (w : World) → Sized w → Sized (run hs w)
unfolding run
sized-run [] w h = h
sized-run (e ∷ hs) w h = sized-run hs (happens e w) (sized-happens e w h)

pub sized-start : (region : List ℕ) → Sized (opened region)
sized-start region = leb-zero (payload_capacity 0)

-- an attached party's record is sound
fits-here : (w : World) (side : Side) → Sized w → Fits side (party_in w side)
fits-here w Sender h = h
fits-here w Recorder h = refl

lent_fits : (st : Stance) (side : Side) (n : ℕ) → lent_ok st (lent_to side (length (blank_of n)) (length (blank_of n))) n ≡ true
lent_fits Resting side n = refl
lent_fits Sleeping side n = refl
lent_fits Copying Sender n = eq-eqb (length (blank_of n)) n (length-replicate n 0)
lent_fits Copying Recorder n = eq-eqb (length (blank_of n)) n (length-replicate n 0)
lent_fits Publishing side n = refl
lent_fits Closing side n = refl
lent_fits Moving side n = refl

module _ (P S v : ℕ) (on : Bool) (power-ok : power_ok P ≡ true) (slot-ok : slot_ok S ≡ true) (w : World) (real : Real P S v on w) (sized : Sized w) (side : Side) (here : (party_in w side).own.attached ≡ true) where
  own-here : (party_in w side).own ≡ sizes P S v on side (party_in w side).own.spins
  own-here = ((real.sides side).seat.in_place here).0

  pub sound-here : sound side (party_in w side) ≡ true
  unfolding sound
  sound-here =
      let f : length_ok side (party_in w side).length S ≡ true = subst (λ (o : Own). length_ok side (party_in w side).length o.slot ≡ true) own-here (fits-here w side sized) in
      rw ((real.sides side).seat.few, own-here, same_true side, power-ok, slot-ok, f)

  -- and its turn is taken
  pub takes-here : takes w side (blank_of (party_in w side).length) (blank_of (party_in w side).length) None ≡ true
  unfolding goes
  takes-here =
      let l : eqb (length w.region) (total_bytes (party_in w side).own.power (party_in w side).own.slot) ≡ true =
      eq-eqb _ _ (real.fixed.long ∙ sym (ap (λ (o : Own). total_bytes o.power o.slot) own-here)) in
      rw (sound-here, l, lent_fits (stance_of (party_in w side).step) side (party_in w side).length)
