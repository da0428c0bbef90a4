-- What was sent is what the pushes' answers told.
use Rattle.std.specs.Prelude.{None, Some}
use mathlib.Core.Path.{◌≡◌, refl, sym, ap, ◌∙◌, subst}
use mathlib.Core.Bool.{Bool, true, false, not, ◌&&◌}
use mathlib.Core.List.{List, [], ◌∷◌, ◌++◌, append-nil, append_assoc}
use Prim.Native.Nat.{ℕ, ◌<◌}
use native.Mathlib.Omega.{arith}
use lib.Dec.{eqb, leb}
use Rattle.types.specs.Pick.{pick}
use Rattle.types.specs.Answers.{number}
use Rattle.types.specs.declared.Side.{Side}
use Rattle.types.specs.declared.Side.TheVariants.{Sender, Recorder}
use Rattle.types.specs.declared.Own.{Own}
use Rattle.types.specs.declared.Party.{Party}
use Rattle.types.specs.declared.Room.{Room}
use Rattle.types.specs.declared.Room.TheVariants.{Corrupt, Blocked, Free}
use Rattle.types.specs.declared.Door.{Door}
use Rattle.types.specs.declared.Door.TheVariants.{Shut, Left, Open}
use Rattle.types.specs.declared.Fit.{Fit}
use Rattle.types.specs.declared.Fit.TheVariants.{Bad, Small, Fits}
use Rattle.types.specs.declared.Nap.{Nap}
use Rattle.types.specs.declared.Nap.TheVariants.{Sleeps, Returns, TimedOut, Fails}
use Rattle.types.specs.Faults.{Fault}
use Rattle.types.specs.declared.Move.{Move}
use Rattle.types.specs.declared.Move.TheVariants.{To, End}
use Rattle.types.specs.declared.Answer.{Answer}
use Rattle.types.specs.declared.Answer.TheVariants.{Done, GoesOn}
use Rattle.types.specs.declared.Event.TheVariants.{Turn, Failing, Spurious, TimeOut, Push, Pop, Close, Shutdown}
use Rattle.types.specs.declared.Step.{Step}
use Rattle.types.specs.declared.Step.TheVariants.{Rest, Look, Copy, Publish, Check, Raise, Wake, Gate, Spin, Epoch, Again, GateAgain, Wait, Asleep, LastLook, CloseSet, CloseRaise, CloseWake, ShutSet, ShutRaiseNe, ShutWakeNe, ShutRaiseNf, ShutWakeNf}
use Rattle.layout.specs.Limits.{power_ok, slot_ok, capacity, payload_capacity}
use Rattle.layout.specs.Slots.{head_of}
use Rattle.layout.specs.Attach.{attach_answer, attach_reply}
use Rattle.layout.specs.Create.{created}
use Rattle.rules.specs.Sides.{rings, sleep_bell, wait_op}
use Rattle.rules.specs.Looks.{room_here, was_blocked, door_of, fit_of, nap_of}
use Rattle.rules.specs.Steps.{room_move, blocked_move, look_move, fit_move, copy_with, copy_move, publish_move, check_move, wake_move, door_move, gate_move, to_spin, spin_move, again_move, nap_move, wait_move, last_move, close_move, shut_move}
use Rattle.rules.specs.Take.{stance_of, step_after, move_at, move_of}
use Rattle.rules.specs.Next.{next_at, next_spec}
use Rattle.rules.specs.Access.{value_of, buffer_of}
use Rattle.rules.specs.Calls.{is_sleeping, sound, ready, reply, at, named, push_spec, close_spec, shut_spec, spurious_spec, timeout_spec}
use Rattle.rules.specs.Turn.{error_of, woke_of}
use Rattle.rules.specs.Bench.{turned, settled, played, played_leaves}
use Rattle.rules.specs.Given.{EndsWith, published, checked, woke, closed-alone, closed, shut, corrupt, bad-slot, too_small, full, empty, left, left-again, none_left, down, down-again, timed-out, wake-failed, close-failed, wait-failed, shut-failed, shut-failed-last, resting as rests, asleep, goes_on, turn, Given, turn-bad, turn-taken}
use Rattle.rules.specs.Run.{Note, Trace, World, Happening, attaches, plays, party_in, takes, traced, happens, run, opened}
use Rattle.rules.specs.Phase.{Phase, resting, looking, copying, publishing, telling, asking, armed, poised, waits, sleeps, glancing, leaving, phase}
use Rattle.rules.specs.Premises.{AllTyped}
use Rattle.rules.specs.Claims.{turn_of, Fresh, reached}
use Rattle.rules.specs.Asked.{Call, no_call, copy_of, superseded, at_copy, turn_call, call_after, call_by, AsNamed}
use Rattle.rules.specs.Meaning.{call_of, gave, Published, first_lent, tells_note, told_after, told_by, SentAsTold}
use Rattle.rules.proofs.Leads.{Sight, Onward, straight, around, onward, asks, Leads, idles, finds, blocks, gives_up, copies, spills, tells, stores, owes, passes, raises, wakes, enters, stops, finds-spin, spins, reads, finds-again, stays, enters-again, stops-again, sleeps as falls-asleep, returns, ends, dreams, glances, glances-again, times-out, finds-last, finds-none, closes, closes-alone, close-raises, close-wakes, shuts, shut-raises, shut-wakes, shut-raises-again, shut-wakes-again}
use Rattle.rules.proofs.Answered.{given-first}
use Rattle.rules.proofs.Does.{does}
use Rattle.rules.proofs.Views.{sleeping-step}
use Rattle.rules.proofs.Refusals.{ready-rests}
use Rattle.rules.proofs.Seats.{roused, roused-elim}
use Rattle.rules.proofs.RealAttach.{bit-clear}
use Rattle.rules.proofs.Leaving.{settles, turn-rests}
use Rattle.rules.proofs.Taken.{turn_world, turn-refused}
use Rattle.rules.proofs.RealTurn.{next-step, leads-here, after_turn, turn-is-after}
use Rattle.rules.proofs.RealRun.{power-fits, slot-fits, real-reached}
use Rattle.rules.proofs.Listening.{mover-is, waiter-is, trace-is}
use Rattle.rules.proofs.Bound.{notes-own, notes-kept}
use Rattle.rules.proofs.Asks.{run-parts, typed-parts}
use Rattle.rules.proofs.Delivers.{turn-happens}
use Rattle.rules.proofs.Meant.{Made, Under, begun-keeps, roused-keeps, meant-reached}
use Rattle.rules.proofs.Truths.{tells-one}
use Rattle.rules.proofs.Real.{Real}

-- no move leads to rest without an answer
abbrev Never : Move → Type 0
Never m = m ≡ To Rest → ⊥

not-rest : (s : Step) → (s ≡ Rest → ⊥) → Never (To s)
not-rest s n e = n (cc)

room-never : (r : Room) (m : Move) → Never m → Never (room_move r m)
room-never Corrupt m n e = let z : ◌≡◌ {A = ℕ} 0 1 = cc in omega arith
room-never Blocked m n e = n e
room-never Free m n e = let z : ◌≡◌ {A = ℕ} 0 1 = cc in omega arith

pick-never : (b : Bool) (s : Step) (a : Answer) → (s ≡ Rest → ⊥) → Never (pick b (To s) (End a))
pick-never true s a n e = n (cc)
pick-never false s a n e = let z : ◌≡◌ {A = ℕ} 0 1 = cc in omega arith

end-never : (a : Answer) → Never (End a)
end-never a e = let z : ◌≡◌ {A = ℕ} 0 1 = cc in omega arith

copy-never : (side : Side) (f : Fit) (l t : ℕ) → Never (copy_with side (fit_move f l t))
copy-never Sender f l t e = let z : ◌≡◌ {A = ℕ} 0 1 = cc in omega arith
copy-never Recorder Bad l t e = let z : ◌≡◌ {A = ℕ} 0 1 = cc in omega arith
copy-never Recorder Small l t e = let z : ◌≡◌ {A = ℕ} 0 1 = cc in omega arith
copy-never Recorder Fits l t e = let z : ◌≡◌ {A = ℕ} 0 1 = cc in omega arith

door-never : (d : Door) (side : Side) (s : Step) → (s ≡ Rest → ⊥) → Never (door_move d side s)
door-never Shut side s n e = let z : ◌≡◌ {A = ℕ} 0 1 = cc in omega arith
door-never Left Sender s n e = let z : ◌≡◌ {A = ℕ} 0 1 = cc in omega arith
door-never Left Recorder s n e = let z : ◌≡◌ {A = ℕ} 0 1 = cc in omega arith
door-never Open side s n e = n (cc)

nap-never : (n : Nap) (op f : ℕ) → Never (nap_move n op f)
nap-never Sleeps op f e = let z : ◌≡◌ {A = ℕ} 0 1 = cc in omega arith
nap-never Returns op f e = let z : ◌≡◌ {A = ℕ} 0 1 = cc in omega arith
nap-never TimedOut op f e = let z : ◌≡◌ {A = ℕ} 0 1 = cc in omega arith
nap-never Fails op f e = let z : ◌≡◌ {A = ℕ} 0 1 = cc in omega arith

spin-on : (n : ℕ) (t : Step) → Onward n t → t ≡ Rest → ⊥
spin-on n t straight e = let z : ◌≡◌ {A = ℕ} 0 1 = cc in omega arith
spin-on n t (around i) e = let z : ◌≡◌ {A = ℕ} 0 1 = cc in omega arith

never-rests : (s : Step) (own : Own) (n : ℕ) (b : Bool) (l v f : ℕ) → Never (move_at s own n b l v f)
unfolding look_move copy_move publish_move check_move wake_move gate_move spin_move again_move wait_move last_move close_move shut_move
never-rests Rest own n b l v f = λ e. let z : ◌≡◌ {A = ℕ} 0 1 = cc in omega arith
never-rests Look own n b l v f = room-never (room_here own n v) (blocked_move b own.side) (pick-never b Gate _ (λ q. let z : ◌≡◌ {A = ℕ} 0 1 = cc in omega arith))
never-rests Copy own n b l v f = copy-never own.side (fit_of (head_of v) (payload_capacity own.slot) l) (head_of v).length (head_of v).tag
never-rests (Publish i t) own n b l v f = pick-never (rings own.side own.notfull) (Check i t) (Done i t) (λ q. let z : ◌≡◌ {A = ℕ} 0 1 = cc in omega arith)
never-rests (Check i t) own n b l v f = pick-never (was_blocked own.side (capacity own.power) n v) (Raise i t) (Done i t) (λ q. let z : ◌≡◌ {A = ℕ} 0 1 = cc in omega arith)
never-rests (Raise i t) own n b l v f = λ e. let z : ◌≡◌ {A = ℕ} 0 1 = cc in omega arith
never-rests (Wake i t) own n b l v f = end-never _
never-rests Gate own n b l v f = door-never (door_of own.side v) own.side (to_spin own.spins) (spin-on _ _ (onward own.spins))
never-rests (Spin i) own n b l v f = room-never (room_here own n v) (To (to_spin i)) (not-rest (to_spin i) (spin-on _ _ (onward i)))
never-rests Epoch own n b l v f = λ e. let z : ◌≡◌ {A = ℕ} 0 1 = cc in omega arith
never-rests (Again i) own n b l v f = room-never (room_here own n v) (To (GateAgain i)) (not-rest (GateAgain i) (λ q. let z : ◌≡◌ {A = ℕ} 0 1 = cc in omega arith))
never-rests (GateAgain i) own n b l v f = door-never (door_of own.side v) own.side (Wait i) (λ q. let z : ◌≡◌ {A = ℕ} 0 1 = cc in omega arith)
never-rests (Wait i) own n b l v f = nap-never (nap_of f (eqb v i)) (wait_op (sleep_bell own.side)) f
never-rests Asleep own n b l v f = λ e. let z : ◌≡◌ {A = ℕ} 0 1 = cc in omega arith
never-rests (LastLook c) own n b l v f = room-never (room_here own n v) (End _) (end-never _)
never-rests CloseSet own n b l v f = pick-never (rings own.side own.notfull) CloseRaise (Done 0 0) (λ q. let z : ◌≡◌ {A = ℕ} 0 1 = cc in omega arith)
never-rests CloseRaise own n b l v f = λ e. let z : ◌≡◌ {A = ℕ} 0 1 = cc in omega arith
never-rests CloseWake own n b l v f = end-never _
never-rests (ShutSet c) own n b l v f = λ e. let z : ◌≡◌ {A = ℕ} 0 1 = cc in omega arith
never-rests (ShutRaiseNe c) own n b l v f = λ e. let z : ◌≡◌ {A = ℕ} 0 1 = cc in omega arith
never-rests (ShutWakeNe c) own n b l v f = λ e. let z : ◌≡◌ {A = ℕ} 0 1 = cc in omega arith
never-rests (ShutRaiseNf c i) own n b l v f = λ e. let z : ◌≡◌ {A = ℕ} 0 1 = cc in omega arith
never-rests (ShutWakeNf c i) own n b l v f = end-never _

-- ns: the notes told so far. Between calls they are all that was sent; in a call, what was sent before it
abbrev Line : Phase → Call → List Note → Trace → Type 0
Line resting c ns t = t.sent ≡ ns
Line looking c ns t = c.before ≡ ns
Line copying c ns t = c.before ≡ ns
Line (publishing l g) c ns t = c.before ≡ ns
Line (telling l g) c ns t = c.before ≡ ns
Line asking c ns t = c.before ≡ ns
Line (armed e) c ns t = c.before ≡ ns
Line (poised e) c ns t = c.before ≡ ns
Line (waits e) c ns t = c.before ≡ ns
Line sleeps c ns t = c.before ≡ ns
Line glancing c ns t = c.before ≡ ns
Line leaving c ns t = t.sent ≡ ns

line-call : (ph : Phase) (c : Call) (ns : List Note) (t : Trace) → Under Sender ph c t → c.last ≡ true → (ph ≡ resting → ⊥) → Line ph c ns t → c.before ≡ ns
line-call resting c ns t u k n y = absurd (n refl)
line-call looking c ns t u k n y = y
line-call copying c ns t u k n y = y
line-call (publishing l g) c ns t u k n y = y
line-call (telling l g) c ns t u k n y = y
line-call asking c ns t u k n y = y
line-call (armed e) c ns t u k n y = y
line-call (poised e) c ns t u k n y = y
line-call (waits e) c ns t u k n y = y
line-call sleeps c ns t u k n y = y
line-call glancing c ns t u k n y = y
line-call leaving c ns t u k n y = absurd (let h = sym u ∙ k in let z : ◌≡◌ {A = ℕ} 0 1 = cc in omega arith)

line-parted : (ph : Phase) (c : Call) (ns : List Note) (t : Trace) → Under Sender ph c t → c.last ≡ false → Line ph c ns t → t.sent ≡ ns
line-parted resting c ns t u k y = y
line-parted looking c ns t u k y = absurd (let h = sym u.last ∙ k in let z : ◌≡◌ {A = ℕ} 0 1 = cc in omega arith)
line-parted copying c ns t u k y = absurd (let h = sym u.last ∙ k in let z : ◌≡◌ {A = ℕ} 0 1 = cc in omega arith)
line-parted (publishing l g) c ns t u k y = absurd (let h = sym u.last ∙ k in let z : ◌≡◌ {A = ℕ} 0 1 = cc in omega arith)
line-parted (telling l g) c ns t u k y = absurd (let h = sym u.last ∙ k in let z : ◌≡◌ {A = ℕ} 0 1 = cc in omega arith)
line-parted asking c ns t u k y = absurd (let h = sym u.last ∙ k in let z : ◌≡◌ {A = ℕ} 0 1 = cc in omega arith)
line-parted (armed e) c ns t u k y = absurd (let h = sym u.last ∙ k in let z : ◌≡◌ {A = ℕ} 0 1 = cc in omega arith)
line-parted (poised e) c ns t u k y = absurd (let h = sym u.last ∙ k in let z : ◌≡◌ {A = ℕ} 0 1 = cc in omega arith)
line-parted (waits e) c ns t u k y = absurd (let h = sym u.last ∙ k in let z : ◌≡◌ {A = ℕ} 0 1 = cc in omega arith)
line-parted sleeps c ns t u k y = absurd (let h = sym u.last ∙ k in let z : ◌≡◌ {A = ℕ} 0 1 = cc in omega arith)
line-parted glancing c ns t u k y = absurd (let h = sym u.last ∙ k in let z : ◌≡◌ {A = ℕ} 0 1 = cc in omega arith)
line-parted leaving c ns t u k y = y

line_kept : (ph : Phase) (c d : Call) (ns : List Note) (t u : Trace) → u.sent ≡ t.sent → d.before ≡ c.before → Line ph c ns t → Line ph d ns u
line_kept resting c d ns t u q b y = q ∙ y
line_kept looking c d ns t u q b y = b ∙ y
line_kept copying c d ns t u q b y = b ∙ y
line_kept (publishing l g) c d ns t u q b y = b ∙ y
line_kept (telling l g) c d ns t u q b y = b ∙ y
line_kept asking c d ns t u q b y = b ∙ y
line_kept (armed e) c d ns t u q b y = b ∙ y
line_kept (poised e) c d ns t u q b y = b ∙ y
line_kept (waits e) c d ns t u q b y = b ∙ y
line_kept sleeps c d ns t u q b y = b ∙ y
line_kept glancing c d ns t u q b y = b ∙ y
line_kept leaving c d ns t u q b y = q ∙ y

module _ (p : Party) (payload buffer : List ℕ) (t : Trace) (c : Call) (ns : List Note) where
  line_on : (g : Sight) (s n : Step) → (n ≡ Rest → ⊥) → Leads g s n → Line (phase s) c ns t → Line (phase n) c ns (traced (next_at s Sender p.counter) p payload buffer t)
  line_on g s n k idles y = absurd (k refl)
  line_on g s n k (finds h) y = y
  line_on g s n k (blocks h q) y = y
  line_on g s n k (gives_up h q) y = absurd (k refl)
  line_on g s n k copies y = y
  line_on g s n k spills y = absurd (k refl)
  line_on g s n k (tells h) y = y
  line_on g s n k (stores h) y = absurd (k refl)
  line_on g s n k (owes h) y = y
  line_on g s n k (passes h) y = absurd (k refl)
  line_on g s n k raises y = y
  line_on g s n k wakes y = absurd (k refl)
  line_on g s n k (enters h o) y = rw (asks _ _ o) y
  line_on g s n k (stops h i) y = absurd (k refl)
  line_on g s n k (finds-spin h) y = y
  line_on g s n k (spins h o) y = rw (asks _ _ o) y
  line_on g s n k reads y = y
  line_on g s n k (finds-again h) y = y
  line_on g s n k (stays h) y = y
  line_on g s n k (enters-again h) y = y
  line_on g s n k (stops-again h i) y = absurd (k refl)
  line_on g s n k (falls-asleep h) y = y
  line_on g s n k returns y = y
  line_on g s n k ends y = absurd (k refl)
  line_on g s n k dreams y = y
  line_on g s n k (glances h i) y = y
  line_on g s n k (glances-again h i) y = y
  line_on g s n k times-out y = y
  line_on g s n k (finds-last h) y = y
  line_on g s n k (finds-none h) y = absurd (k refl)
  line_on g s n k (closes h) y = y
  line_on g s n k (closes-alone h) y = absurd (k refl)
  line_on g s n k close-raises y = y
  line_on g s n k close-wakes y = absurd (k refl)
  line_on g s n k shuts y = y
  line_on g s n k shut-raises y = y
  line_on g s n k shut-wakes y = y
  line_on g s n k shut-raises-again y = y
  line_on g s n k shut-wakes-again y = absurd (k refl)

-- a call's copies leave what was sent before it
before_same : (b : Bool) (l : List ℕ) (c : Call) → (pick b (copy_of l c) c).before ≡ c.before
before_same true l c = refl
before_same false l c = refl

none_told : (b : Bool) (x y : List Note) → pick (b && false) x y ≡ y
none_told true x y = refl
none_told false x y = refl

one-note : (n : Note) (c : Call) → AsNamed Sender c n → n ≡ record { tag = c.tag; body = first_lent c.copied }
one-note n c h = λ i. record { tag = h.0 i; body = sym (ap first_lent h.1) i }

module _ (r : List ℕ) (P S : ℕ) (on : Bool) (v : ℕ) (fresh : Fresh r P S on v) where
  abbrev power-ok : power_ok P ≡ true
  power-ok = power-fits r P S on v fresh

  abbrev slot_ok_lem : slot_ok S ≡ true
  slot_ok_lem = slot-fits r P S on v fresh

  abbrev start : World
  start = opened (created r P S on v)

  abbrev Lined : World → Call → List Note → Type 0
  Lined w c ns = Line (phase (party_in w Sender).step) c ns w.trace

  module _ (hs : List Happening) (t : AllTyped hs) (ns : List Note) (y : Lined (reached r P S on v hs) (call_of r P S on v Sender hs) ns) where
    abbrev w : World
    w = reached r P S on v hs

    abbrev real : Real P S v on w
    real = real-reached r P S on v fresh hs t

    abbrev c : Call
    c = call_of r P S on v Sender hs

    abbrev p : Party
    p = party_in w Sender

    under : Under Sender (phase p.step) c w.trace
    under = (meant-reached r P S on v fresh Sender hs t).under

    module _ (payload lent : List ℕ) (fault : Fault) where
      abbrev u : World
      u = turn_world w Sender payload lent fault

      abbrev d : Call
      d = turn_call Sender w Sender payload lent fault c

      abbrev value : ℕ
      value = value_of w.region p.own (next_spec p)

      abbrev After : Answer → Type 0
      After x = Lined u d (pick (c.last && gave Sender x) (ns ++ (record { tag = c.tag; body = first_lent c.copied } ∷ [])) ns)

      u-is : happens (plays (turn_of Sender fault) payload lent) w ≡ u
      u-is = turn-happens Sender payload lent fault w

      before_here : d.before ≡ c.before
      before_here = before_same (takes w Sender payload lent fault && at_copy (stance_of p.step)) payload c

      nothing-told : pick (c.last && false) (ns ++ (record { tag = c.tag; body = first_lent c.copied } ∷ [])) ns ≡ ns
      nothing-told = none_told c.last (ns ++ (record { tag = c.tag; body = first_lent c.copied } ∷ [])) ns

      module _ (g : takes w Sender payload lent fault ≡ true) where
        abbrev next : Step
        next = next-step P S v on power-ok slot_ok_lem w real Sender payload lent fault g

        abbrev buffer : List ℕ
        buffer = buffer_of w.region p.own (next_at p.step Sender p.counter) p.length lent

        step_is : (party_in u Sender).step ≡ next
        step_is = ap (λ (x : World). (party_in x Sender).step) (turn-is-after P S v on power-ok slot_ok_lem w real Sender payload lent fault g) ∙ ap (λ (x : Party). x.step) (mover-is P S v on power-ok slot_ok_lem w real Sender payload lent fault g)

        trace-here : u.trace ≡ traced (next_at p.step Sender p.counter) p payload buffer w.trace
        trace-here = ap (λ (x : World). x.trace) (turn-is-after P S v on power-ok slot_ok_lem w real Sender payload lent fault g) ∙ trace-is P S v on power-ok slot_ok_lem w real Sender payload lent fault g

        -- a turn that ends the call
        ended-sent : {x : Answer} → EndsWith p value (error_of fault) x → number x < 20 → (b : Bool) → c.last ≡ b → (phase p.step ≡ resting → ⊥)
            → u.trace.sent ≡ pick (b && gave Sender x) (ns ++ (record { tag = c.tag; body = first_lent c.copied } ∷ [])) ns
        ended-sent {x} row n true k f = by (gave Sender x) (subst (λ (z : World). Published (gave Sender x) Sender c z) u-is (tells-one r P S on v fresh hs t Sender payload lent fault g row k n))
          where
            before : c.before ≡ ns
            before = line-call (phase p.step) c ns w.trace under k f y

            by : (b : Bool) → Published b Sender c u → u.trace.sent ≡ pick b (ns ++ (record { tag = c.tag; body = first_lent c.copied } ∷ [])) ns
            by true h = h.1.0 ∙ ap (λ (x : List Note). x ++ (h.0 ∷ [])) before ∙ ap (λ (x : Note). ns ++ (x ∷ [])) (one-note h.0 c h.1.1)
            by false h = h ∙ before
        ended-sent {x} row n false k f =
            ap (λ (z : Trace). z.sent) trace-here
            ∙ notes-own p payload buffer w.trace Sender p.counter p.step _ (does Sender p.counter p.step) (λ l i e. parted l i e)
            ∙ line-parted (phase p.step) c ns w.trace under k y
          where
            parted : (l i : ℕ) → p.step ≡ Publish l i → ⊥
            parted l i e = let h : Made Sender l i c w.trace = subst (λ (s : Step). Under Sender (phase s) c w.trace) e under in let q = sym h.last ∙ k in let z : ◌≡◌ {A = ℕ} 0 1 = cc in omega arith

        ended : {x : Answer} → EndsWith p value (error_of fault) x → number x < 20 → settles x ≡ true → (phase p.step ≡ resting → ⊥) → After x
        unfolding turned
        ended {x} row n q f =
            let rest : (party_in u Sender).step ≡ Rest = turn-rests Sender w.region p payload lent fault g row q in
            rw rest (ended-sent row n c.last refl f)

        by_row : {x : Answer} → EndsWith p value (error_of fault) x → After x
        unfolding move_of
        by_row (published s q) = ended (published s q) (omega arith) refl (λ f. let e = sym f ∙ ap phase s in let z : ◌≡◌ {A = ℕ} 0 1 = cc in omega arith)
        by_row (checked s b) = ended (checked s b) (omega arith) refl (λ f. let e = sym f ∙ ap phase s in let z : ◌≡◌ {A = ℕ} 0 1 = cc in omega arith)
        by_row (woke s z) = ended (woke s z) (omega arith) refl (λ f. let e = sym f ∙ ap phase s in let z : ◌≡◌ {A = ℕ} 0 1 = cc in omega arith)
        by_row (closed-alone s q) = ended (closed-alone s q) (omega arith) refl (λ f. let e = sym f ∙ ap phase s in let z : ◌≡◌ {A = ℕ} 0 1 = cc in omega arith)
        by_row (closed s z) = ended (closed s z) (omega arith) refl (λ f. let e = sym f ∙ ap phase s in let z : ◌≡◌ {A = ℕ} 0 1 = cc in omega arith)
        by_row (shut s a z) = ended (shut s a z) (omega arith) refl (λ f. let e = sym f ∙ ap phase s in let z : ◌≡◌ {A = ℕ} 0 1 = cc in omega arith)
        by_row (corrupt s) = ended (corrupt s) (omega arith) refl (λ f. let e = sym f ∙ ap phase s in let z : ◌≡◌ {A = ℕ} 0 1 = cc in omega arith)
        by_row (bad-slot s q h) = ended (bad-slot s q h) (omega arith) refl (λ f. let e = sym f ∙ ap phase s in let z : ◌≡◌ {A = ℕ} 0 1 = cc in omega arith)
        by_row (too_small s q h) = ended (too_small s q h) (omega arith) refl (λ f. let e = sym f ∙ ap phase s in let z : ◌≡◌ {A = ℕ} 0 1 = cc in omega arith)
        by_row (full s q b h) = ended (full s q b h) (omega arith) refl (λ f. let e = sym f ∙ ap phase s in let z : ◌≡◌ {A = ℕ} 0 1 = cc in omega arith)
        by_row (empty s q b h) = ended (empty s q b h) (omega arith) refl (λ f. let e = sym f ∙ ap phase s in let z : ◌≡◌ {A = ℕ} 0 1 = cc in omega arith)
        by_row (left s q h) = ended (left s q h) (omega arith) refl (λ f. let e = sym f ∙ ap phase s in let z : ◌≡◌ {A = ℕ} 0 1 = cc in omega arith)
        by_row (left-again s q h) = ended (left-again s q h) (omega arith) refl (λ f. let e = sym f ∙ ap phase s in let z : ◌≡◌ {A = ℕ} 0 1 = cc in omega arith)
        by_row (none_left s h) = ended (none_left s h) (omega arith) refl (λ f. let e = sym f ∙ ap phase s in let z : ◌≡◌ {A = ℕ} 0 1 = cc in omega arith)
        by_row (down s h) = ended (down s h) (omega arith) refl (λ f. let e = sym f ∙ ap phase s in let z : ◌≡◌ {A = ℕ} 0 1 = cc in omega arith)
        by_row (down-again s h) = ended (down-again s h) (omega arith) refl (λ f. let e = sym f ∙ ap phase s in let z : ◌≡◌ {A = ℕ} 0 1 = cc in omega arith)
        by_row (timed-out s h) = ended (timed-out s h) (omega arith) refl (λ f. let e = sym f ∙ ap phase s in let z : ◌≡◌ {A = ℕ} 0 1 = cc in omega arith)
        by_row (wake-failed s z) = ended (wake-failed s z) (omega arith) refl (λ f. let e = sym f ∙ ap phase s in let z : ◌≡◌ {A = ℕ} 0 1 = cc in omega arith)
        by_row (close-failed s z) = ended (close-failed s z) (omega arith) refl (λ f. let e = sym f ∙ ap phase s in let z : ◌≡◌ {A = ℕ} 0 1 = cc in omega arith)
        by_row (wait-failed s n) = ended (wait-failed s n) (omega arith) refl (λ f. let e = sym f ∙ ap phase s in let z : ◌≡◌ {A = ℕ} 0 1 = cc in omega arith)
        by_row (shut-failed s a) = ended (shut-failed s a) (omega arith) refl (λ f. let e = sym f ∙ ap phase s in let z : ◌≡◌ {A = ℕ} 0 1 = cc in omega arith)
        by_row (shut-failed-last s a z) = ended (shut-failed-last s a z) (omega arith) refl (λ f. let e = sym f ∙ ap phase s in let z : ◌≡◌ {A = ℕ} 0 1 = cc in omega arith)
        by_row (rests s) =
            let e : next ≡ Rest = ap (λ (x : Step). step_after (move_at x p.own p.counter p.blocking p.length value (error_of fault)) x) s in
            let same : u.trace ≡ w.trace = trace-here ∙ ap (λ (x : Step). traced (next_at x Sender p.counter) p payload buffer w.trace) s in
            let z : w.trace.sent ≡ ns = subst (λ (x : Step). Line (phase x) c ns w.trace) s y in
            rw (step_is, e) (ap (λ (x : Trace). x.sent) same ∙ z ∙ sym nothing-told)
        by_row (asleep s) =
            let e : next ≡ Asleep = ap (λ (x : Step). step_after (move_at x p.own p.counter p.blocking p.length value (error_of fault)) x) s in
            let z : c.before ≡ ns = subst (λ (x : Step). Line (phase x) c ns w.trace) s y in
            rw (step_is, e) (before_here ∙ z ∙ sym nothing-told)
        by_row (goes_on {s = n} m) =
            let e : next ≡ n = ap (λ (x : Move). step_after x p.step) m in
            let k : next ≡ Rest → ⊥ = λ q. never-rests p.step p.own p.counter p.blocking p.length value (error_of fault) (m ∙ ap To (sym e ∙ q)) in
            let h = line_on p payload buffer w.trace c ns _ p.step next k (leads-here P S v on power-ok slot_ok_lem w real Sender payload lent fault g) y in
            rw (step_is, nothing-told)
            (line_kept (phase next) c d ns (traced (next_at p.step Sender p.counter) p payload buffer w.trace) u.trace (ap (λ (x : Trace). x.sent) trace-here) before_here h)

      by-given : {x : Answer} → Given (turn Sender w.region p payload lent fault) x → After x
      by-given (turn-taken g row) = by_row g row
      by-given (turn-bad h) = rw nothing-told (subst (λ (x : World). Lined x d ns) (sym (turn-refused w Sender payload lent fault h)) (line_kept (phase p.step) c d ns w.trace w.trace refl before_here y))

      turn-line : Lined u d (tells_note w payload lent fault c ns)
      turn-line = by-given (given-first (turn Sender w.region p payload lent fault))

    -- a turn of the recorder's
    theirs-line : (payload lent : List ℕ) (fault : Fault) → Lined (turn_world w Recorder payload lent fault) c ns
    theirs-line payload lent fault = by (takes w Recorder payload lent fault) refl
      where
        by : (b : Bool) → takes w Recorder payload lent fault ≡ b → Lined (turn_world w Recorder payload lent fault) c ns
        by false g = subst (λ (x : World). Lined x c ns) (sym (turn-refused w Recorder payload lent fault g)) y
        by true g =
            let q = party_in w Recorder in
            let buffer = buffer_of w.region q.own (next_at q.step Recorder q.counter) q.length lent in
            let sent = ap (λ (x : Trace). x.sent) (trace-is P S v on power-ok slot_ok_lem w real Recorder payload lent fault g) ∙ notes-kept q payload buffer w.trace Recorder q.counter q.step _ (does Recorder q.counter q.step) in
            let kept = line_kept (phase p.step) c c ns w.trace _ sent refl y in
            subst (λ (x : World). Lined x c ns) (sym (turn-is-after P S v on power-ok slot_ok_lem w real Recorder payload lent fault g))
            (rw (waiter-is P S v on power-ok slot_ok_lem w real Recorder payload lent fault g)
            (roused-elim (roused Sender p (woke_of (next_spec q) (error_of fault))) (λ s. Line (phase s) c ns (after_turn P S v on power-ok slot_ok_lem w real Recorder payload lent fault g).trace) kept
            (λ e. subst (λ (s : Step). Line (phase s) c ns (after_turn P S v on power-ok slot_ok_lem w real Recorder payload lent fault g).trace) e kept)))

    abbrev Here : Call → Party → Type 0
    Here e q = Line (phase q.step) e ns w.trace

    risen : (s : Step) → Line (phase s) c ns w.trace ≡ (c.before ≡ ns) → is_sleeping (stance_of p.step) ≡ true → Line (phase s) c ns w.trace
    risen s e a = rw e (subst (λ (x : Step). Line (phase x) c ns w.trace) (sleeping-step p.step a) y)

    at_rest : p.step ≡ Rest → w.trace.sent ≡ ns
    at_rest e = subst (λ (x : Step). Line (phase x) c ns w.trace) e y

    line-happens : (h : Happening) → Lined (happens h w) (call_after Sender h w c) (told_after h w c ns)
    unfolding happens played played_leaves settled push_spec close_spec shut_spec spurious_spec timeout_spec attach_reply
    line-happens (attaches Sender n) = by (eqb (number (attach_answer w.region Sender n)) 0) refl
      where
        by : (b : Bool) → eqb (number (attach_answer w.region Sender n)) 0 ≡ b → Lined (happens (attaches Sender n) w) c ns
        by false e = rw e y
        by true e = rw e (at_rest ((real.sides Sender).seat.empty (sym (real.sides Sender).seat.attached-bit ∙ bit-clear w.region Sender n e)).0)
    line-happens (attaches Recorder n) = by (eqb (number (attach_answer w.region Recorder n)) 0) refl
      where
        by : (b : Bool) → eqb (number (attach_answer w.region Recorder n)) 0 ≡ b → Lined (happens (attaches Recorder n) w) c ns
        by false e = rw e y
        by true e = rw e y
    line-happens (plays (Turn Sender) i o) = turn-line i o None
    line-happens (plays (Turn Recorder) i o) = theirs-line i o None
    line-happens (plays (Failing Sender e) i o) = turn-line i o (Some e)
    line-happens (plays (Failing Recorder e) i o) = theirs-line i o (Some e)
    line-happens (plays (Spurious Sender) i o) = roused-keeps (Here c) p (sound Sender p) (is_sleeping (stance_of p.step)) (reply (at Look p) GoesOn) y (risen Look refl)
    line-happens (plays (Spurious Recorder) i o) = y
    line-happens (plays (TimeOut Sender) i o) = roused-keeps (Here c) p (sound Sender p) (is_sleeping (stance_of p.step)) (reply (at (LastLook true) p) GoesOn) y (risen (LastLook true) refl)
    line-happens (plays (TimeOut Recorder) i o) = y
    line-happens (plays (Push b k l) i o) =
        begun-keeps Here p (ready Sender p) p.closed (b && not p.own.notfull) (not (leb l (payload_capacity p.own.slot))) (named b k l p) c
        (record { last = true; blocking = b; tag = k; length = l; before = w.trace.sent; copied = [] }) y (λ e. at_rest (ready-rests Sender p e))
    line-happens (plays (Pop b l) i o) = y
    line-happens (plays (Close Sender) i o) = begun-keeps Here p (ready Sender p) p.closed false false (at CloseSet p) c (superseded c) y (λ e. at_rest (ready-rests Sender p e))
    line-happens (plays (Close Recorder) i o) = y
    line-happens (plays (Shutdown Sender) i o) = begun-keeps Here p (ready Sender p) false false false (at (ShutSet false) p) c (superseded c) y (λ e. at_rest (ready-rests Sender p e))
    line-happens (plays (Shutdown Recorder) i o) = y

  -- a run with one happening more
  call-parts : (hs ms : List Happening) (w : World) (c : Call) → call_by Sender (hs ++ ms) w c ≡ call_by Sender ms (run hs w) (call_by Sender hs w c)
  unfolding run
  call-parts [] ms w c = refl
  call-parts (h ∷ hs) ms w c = call-parts hs ms (happens h w) (call_after Sender h w c)

  one_more : (h : Happening) (w : World) → run (h ∷ []) w ≡ happens h w
  unfolding run
  one_more h w = refl

  line-run : (ms hs : List Happening) → AllTyped (hs ++ ms) → (ns : List Note) → Lined (reached r P S on v hs) (call_of r P S on v Sender hs) ns
      → Lined (reached r P S on v (hs ++ ms)) (call_of r P S on v Sender (hs ++ ms)) (told_by ms (reached r P S on v hs) (call_of r P S on v Sender hs) ns)
  line-run [] hs t ns y = rw (append-nil hs) y
  line-run (h ∷ ms) hs t ns y =
      let w = reached r P S on v hs in
      let c = call_of r P S on v Sender hs in
      let there : reached r P S on v (hs ++ (h ∷ [])) ≡ happens h w = run-parts hs (h ∷ []) start ∙ one_more h w in
      let call : call_of r P S on v Sender (hs ++ (h ∷ [])) ≡ call_after Sender h w c = call-parts hs (h ∷ []) start no_call in
      let whole : (hs ++ (h ∷ [])) ++ ms ≡ hs ++ (h ∷ ms) = append_assoc hs (h ∷ []) ms in
      let step = line-happens hs (typed-parts hs (h ∷ ms) t).0 ns y h in
      let from : Lined (reached r P S on v (hs ++ (h ∷ []))) (call_of r P S on v Sender (hs ++ (h ∷ []))) (told_after h w c ns) = rw (there, call) step in
      let on-it = line-run ms (hs ++ (h ∷ [])) (rw whole t) (told_after h w c ns) from in
      rw (there, call, whole) at on-it

  pub sent-as-told : SentAsTold r P S on v
  unfolding run
  sent-as-told hs t e = subst (λ (s : Step). Line (phase s) (call_of r P S on v Sender hs) (told_by hs start no_call []) (reached r P S on v hs).trace) e (line-run hs [] t [] refl)
