-- Begins, and what comes to a sleeper, keep the invariant: they change no byte, and lead to a step that relies on nothing.
use mathlib.Core.Path.{◌≡◌, refl, sym, ap, ◌∙◌, subst}
use mathlib.Core.Bool.{Bool, true, false, not, ◌&&◌}
use mathlib.Core.Logic.{◌⊎◌, inl, inr}
use Prim.Native.Nat.{ℕ, ◌^◌, ◌<◌}
use native.Mathlib.Omega.{arith}
use lib.Dec.{T, leb}
use Rattle.std.proofs.lemmas.Bool.{not-false}
use Rattle.std.specs.Cmp.{first_so}
use Rattle.types.specs.declared.Side.{Side}
use Rattle.types.specs.declared.Side.TheVariants.{Sender, Recorder}
use Rattle.types.specs.declared.Own.{Own}
use Rattle.types.specs.declared.Party.{Party}
use Rattle.types.specs.declared.Reply.{Reply}
use Rattle.types.specs.declared.Bench.{Bench}
use Rattle.types.specs.declared.Step.{Step}
use Rattle.types.specs.declared.Step.TheVariants.{Rest, Look, Asleep, LastLook, Spin, CloseSet, ShutSet}
use Rattle.types.specs.declared.Answer.TheVariants.{GoesOn}
use Rattle.layout.specs.Limits.{payload_capacity}
use Rattle.rules.specs.Sides.{other}
use Rattle.rules.specs.Take.{stance_of}
use Rattle.rules.specs.Calls.{is_sleeping, sound, ready, reply, at, named, begins, rouses, push_spec, pop_spec, close_spec, shut_spec, spurious_spec, timeout_spec}
use Rattle.rules.specs.Bench.{party_of, seat}
use Rattle.rules.specs.Run.{World, party_in}
use Rattle.rules.specs.Phase.{phase}
use Rattle.rules.proofs.Views.{sleeping-step}
use Rattle.rules.proofs.Refusals.{ready-rests}
use Rattle.rules.proofs.RealTurn.{both-sides}
use Rattle.rules.proofs.Hands.{in-hand-none}
use Rattle.rules.proofs.Real.{HasRoom, parts, Since, SideGood, Real, free}

-- a step that relies on nothing
pub data Idle : Step → Type 0 where
  rests : Idle Rest
  looks : Idle Look
  glances : Idle (LastLook true)
  closes : Idle CloseSet
  shuts : Idle (ShutSet false)

-- a record that a call left, or changed to begin or to end
pub record Begun (side : Side) (p q : Party) : Type 0 where
  pub own : q.own ≡ p.own
  pub closed : q.closed ≡ p.closed
  pub counter : q.counter ≡ p.counter
  pub attached : p.own.attached ≡ true
  pub tag : (p.tag < 2 ^ 16) → (q.tag < 2 ^ 16)
  pub idle : Idle q.step
  pub from : (p.step ≡ Rest) ⊎ (p.step ≡ Asleep)
  pub over : p.closed ≡ true → parts (phase p.step) ≡ true → parts (phase q.step) ≡ true
  -- a sender that may block is heard
  pub blocks : side ≡ Sender → (q.blocking ≡ p.blocking) ⊎ (q.blocking ≡ true → p.own.notfull ≡ true)

abbrev pub Changed : Side → Party → Party → Type 0
Changed side p q = (q ≡ p) ⊎ Begun side p q

pub begins-one : (p : Party) (g c o n : Bool) (q : Party) → ((begins p g c o n q).party ≡ p) ⊎ (((begins p g c o n q).party ≡ q) × ((g ≡ true) × ((c ≡ false) × (o ≡ false))))
begins-one p false c o n q = inl refl
begins-one p true true o n q = inl refl
begins-one p true false true n q = inl refl
begins-one p true false false true q = inl refl
begins-one p true false false false q = inr (refl, (refl, (refl, refl)))

pub rouses-one : (p : Party) (g s : Bool) (q : Reply) → ((rouses p g s q).party ≡ p) ⊎ (((rouses p g s q).party ≡ q.party) × ((g ≡ true) × (s ≡ true)))
rouses-one p false s q = inl refl
rouses-one p true false q = inl refl
rouses-one p true true q = inr (refl, (refl, refl))

sound-attached : (side : Side) (p : Party) → sound side p ≡ true → p.own.attached ≡ true
unfolding sound
sound-attached side p e = first_so p.own.attached _ e

ready-attached : (side : Side) (p : Party) → ready side p ≡ true → p.own.attached ≡ true
unfolding ready
ready-attached side p e = sound-attached side p (first_so (sound side p) _ e)

-- either it stayed, or the tests that let it change held
changed-by : (side : Side) (p x q : Party) (F : Type 0) → (F → Begun side p q) → (x ≡ p) ⊎ ((x ≡ q) × F) → Changed side p x
changed-by side p x q F b (inl e) = inl e
changed-by side p x q F b (inr e) = inr (rw e.0 (b e.1))

pub push-changes : (p : Party) (b : Bool) (t l : ℕ) → t < 2 ^ 16 → Changed Sender p (push_spec p b t l).party
unfolding push_spec
push-changes p b t l h =
    changed-by Sender p (push_spec p b t l).party (named b t l p) ((ready Sender p ≡ true) × ((p.closed ≡ false) × ((b && not p.own.notfull) ≡ false)))
    (λ e. record {
      own = refl;
      closed = refl;
      counter = refl;
      attached = ready-attached Sender p e.0;
      tag = λ k. h;
      idle = looks;
      from = inl (ready-rests Sender p e.0);
      over = λ c. absurd (let z = sym c ∙ e.1.0 in let u : ◌≡◌ {A = ℕ} 0 1 = cc in omega arith);
      blocks = λ s. inr (λ q. not-false p.own.notfull (rw q at e.1.1));
    })
    (begins-one p (ready Sender p) p.closed (b && not p.own.notfull) (not (leb l (payload_capacity p.own.slot))) (named b t l p))

pub pop-changes : (p : Party) (b : Bool) (l : ℕ) → Changed Recorder p (pop_spec p b l).party
unfolding pop_spec
pop-changes p b l =
    changed-by Recorder p (pop_spec p b l).party (named b 0 l p) ((ready Recorder p ≡ true) × ((p.closed ≡ false) × (◌≡◌ {A = Bool} false false)))
    (λ e. record {
      own = refl;
      closed = refl;
      counter = refl;
      attached = ready-attached Recorder p e.0;
      tag = λ k. omega arith;
      idle = looks;
      from = inl (ready-rests Recorder p e.0);
      over = λ c. absurd (let z = sym c ∙ e.1.0 in let u : ◌≡◌ {A = ℕ} 0 1 = cc in omega arith);
      blocks = λ s. absurd (let z : ◌≡◌ {A = ℕ} 0 1 = cc in omega arith);
    })
    (begins-one p (ready Recorder p) p.closed false false (named b 0 l p))

-- a begin that names nothing, and a sleeper's end of sleep: the record at another step
stepped : (side : Side) (p : Party) (s : Step) → Idle s → p.own.attached ≡ true → (p.step ≡ Rest) ⊎ (p.step ≡ Asleep) → (parts (phase p.step) ≡ true → parts (phase s) ≡ true) → Begun side p (at s p)
stepped side p s i a f o = record { own = refl; closed = refl; counter = refl; attached = a; tag = λ k. k; idle = i; from = f; over = λ c. o; blocks = λ e. inl refl }

-- a sleeper has not closed
awake-parts : (s : Step) → s ≡ Asleep → {A : Type 0} → parts (phase s) ≡ true → A
awake-parts s e q = absurd (let y = sym q ∙ ap (λ (u : Step). parts (phase u)) e in let z : ◌≡◌ {A = ℕ} 0 1 = cc in omega arith)

pub close-changes : (side : Side) (p : Party) → Changed side p (close_spec side p).party
unfolding close_spec
close-changes side p =
    changed-by side p (close_spec side p).party (at CloseSet p) ((ready side p ≡ true) × ((p.closed ≡ false) × (◌≡◌ {A = Bool} false false)))
    (λ e. stepped side p CloseSet closes (ready-attached side p e.0) (inl (ready-rests side p e.0)) (λ q. refl))
    (begins-one p (ready side p) p.closed false false (at CloseSet p))

pub shut-changes : (side : Side) (p : Party) → Changed side p (shut_spec side p).party
unfolding shut_spec
shut-changes side p =
    changed-by side p (shut_spec side p).party (at (ShutSet false) p) ((ready side p ≡ true) × ((◌≡◌ {A = Bool} false false) × (◌≡◌ {A = Bool} false false)))
    (λ e. stepped side p (ShutSet false) shuts (ready-attached side p e.0) (inl (ready-rests side p e.0)) (λ q. refl))
    (begins-one p (ready side p) false false false (at (ShutSet false) p))

pub spurious-changes : (side : Side) (p : Party) → Changed side p (spurious_spec side p).party
unfolding spurious_spec
spurious-changes side p =
    changed-by side p (spurious_spec side p).party (at Look p) ((sound side p ≡ true) × (is_sleeping (stance_of p.step) ≡ true))
    (λ e. stepped side p Look looks (sound-attached side p e.0) (inr (sleeping-step p.step e.1)) (awake-parts p.step (sleeping-step p.step e.1)))
    (rouses-one p (sound side p) (is_sleeping (stance_of p.step)) (reply (at Look p) GoesOn))

pub timeout-changes : (side : Side) (p : Party) → Changed side p (timeout_spec side p).party
unfolding timeout_spec
timeout-changes side p =
    changed-by side p (timeout_spec side p).party (at (LastLook true) p) ((sound side p ≡ true) × (is_sleeping (stance_of p.step) ≡ true))
    (λ e. stepped side p (LastLook true) glances (sound-attached side p e.0) (inr (sleeping-step p.step e.1)) (awake-parts p.step (sleeping-step p.step e.1)))
    (rouses-one p (sound side p) (is_sleeping (stance_of p.step)) (reply (at (LastLook true) p) GoesOn))

pub seat-same : (side : Side) (b : Bench) → seat b side (party_of b side) ≡ b
seat-same Sender b = refl
seat-same Recorder b = refl

pub seat-one : (side : Side) (b : Bench) (q : Party) → party_of (seat b side q) side ≡ q
seat-one Sender b q = refl
seat-one Recorder b q = refl

pub seat-two : (side : Side) (b : Bench) (q : Party) → party_of (seat b side q) (other side) ≡ party_of b (other side)
seat-two Sender b q = refl
seat-two Recorder b q = refl

idle-room : (s : Step) (k : ℕ) → Idle s → HasRoom (phase s) k
idle-room s k rests = tt
idle-room s k looks = tt
idle-room s k glances = tt
idle-room s k closes = tt
idle-room s k shuts = tt

idle-since : (s : Step) (b n : ℕ) → Idle s → Since (phase s) b n
idle-since s b n rests = tt
idle-since s b n looks = tt
idle-since s b n glances = tt
idle-since s b n closes = tt
idle-since s b n shuts = tt

idle-free : (s : Step) → Idle s → T (free (phase s))
idle-free s rests = tt
idle-free s looks = tt
idle-free s glances = tt
idle-free s closes = tt
idle-free s shuts = tt

-- no call begins at the last look for a close, or at a spin
idle-last : (s : Step) → Idle s → s ≡ LastLook false → ⊥
idle-last s rests e = let z : ◌≡◌ {A = ℕ} 0 1 = cc in omega arith
idle-last s looks e = let z : ◌≡◌ {A = ℕ} 0 1 = cc in omega arith
idle-last s glances e = let z : ◌≡◌ {A = ℕ} 0 1 = cc in omega arith
idle-last s closes e = let z : ◌≡◌ {A = ℕ} 0 1 = cc in omega arith
idle-last s shuts e = let z : ◌≡◌ {A = ℕ} 0 1 = cc in omega arith

idle-spin : (s : Step) → Idle s → (n : ℕ) → s ≡ Spin n → ⊥
idle-spin s rests n e = let z : ◌≡◌ {A = ℕ} 0 1 = cc in omega arith
idle-spin s looks n e = let z : ◌≡◌ {A = ℕ} 0 1 = cc in omega arith
idle-spin s glances n e = let z : ◌≡◌ {A = ℕ} 0 1 = cc in omega arith
idle-spin s closes n e = let z : ◌≡◌ {A = ℕ} 0 1 = cc in omega arith
idle-spin s shuts n e = let z : ◌≡◌ {A = ℕ} 0 1 = cc in omega arith

module _ (P S v : ℕ) (on : Bool) where
  -- a call of a side
  abbrev pub seated : World → Side → Party → World
  seated w side q = record { region = w.region; bench = seat w.bench side q; trace = w.trace }

  pub real-called : (w : World) → Real P S v on w → (side : Side) (q : Party) → Changed side (party_in w side) q → Real P S v on (seated w side q)
  real-called w real side q (inl e) = subst (Real P S v on) (sym (ap (seated w side) e ∙ ap (λ (b : Bench). record { region = w.region; bench = b; trace = w.trace }) (seat-same side w.bench))) real
  real-called w real side q (inr b) =
      record {
        fixed = real.fixed;
        queue = real.queue;
        sides = both-sides side (λ τ. SideGood P S v on τ w.region (party_in (seated w side q) τ) w.trace)
            (subst (λ (x : Party). SideGood P S v on side w.region x w.trace) (sym (seat-one side w.bench q)) mine)
            (subst (λ (x : Party). SideGood P S v on (other side) w.region x w.trace) (sym (seat-two side w.bench q)) (real.sides (other side)));
      }
    where
      mine : SideGood P S v on side w.region q w.trace
      mine =
          let h = real.sides side in
          record {
            word = h.word;
            seat =
                record {
                  closed-bit = h.seat.closed-bit ∙ sym b.closed;
                  attached-bit = h.seat.attached-bit ∙ sym (ap (λ (o : Own). o.attached) b.own);
                  in_place = λ e. (rw b.own (h.seat.in_place b.attached).0, b.counter ∙ (h.seat.in_place b.attached).1);
                  empty = λ e.
                      let f : q.own.attached ≡ true = ap (λ (o : Own). o.attached) b.own ∙ b.attached in
                      absurd (let z : ◌≡◌ {A = ℕ} 0 1 = cc in omega arith);
                  over = λ e. b.over (sym b.closed ∙ e) (h.seat.over (sym b.closed ∙ e));
                  few = rw b.own h.seat.few;
                  spun = λ n e. absurd (idle-spin q.step b.idle n e);
                  heard = λ e. absurd (idle-last q.step b.idle e);
                };
            since = idle-since q.step _ _ b.idle;
            room = idle-room q.step _ b.idle;
            hand = in-hand-none P S v on side (phase q.step) w.region w.trace (idle-free q.step b.idle);
            tag_small = b.tag h.tag_small;
            bell-small = h.bell-small;
          }
