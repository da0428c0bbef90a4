-- What every answer leaves behind: document 01's paragraph under its table, for every call and turn.
use mathlib.Core.Path.{◌≡◌, refl, ap, ap₂, ◌∙◌}
use mathlib.Core.Bool.{Bool, true, false, not, ◌&&◌, false≢true}
use mathlib.Core.List.{List, [], ◌∷◌}
use Prim.Native.Nat.{ℕ}
use lib.Dec.{leb, eqb}
use lib.ListN.{length}
use Rattle.std.specs.Cmp.{second_so, first_so}
use Rattle.types.specs.Pick.{pick}
use Rattle.types.specs.Answers.{number, Test, test, first_of}
use Rattle.types.specs.declared.Side.{Side}
use Rattle.types.specs.declared.Side.TheVariants.{Sender, Recorder}
use Rattle.types.specs.declared.Party.{Party}
use Rattle.types.specs.declared.Reply.{Reply}
use Rattle.types.specs.declared.Turned.{Turned}
use Rattle.types.specs.Faults.{Fault}
use Rattle.types.specs.declared.Event.TheVariants.{Turn, Failing, Spurious, TimeOut, Push, Pop, Close, Shutdown as Shut}
use Rattle.types.specs.declared.Step.{Step}
use Rattle.types.specs.declared.Step.TheVariants.{Rest, Look, LastLook, CloseSet, ShutSet}
use Rattle.types.specs.declared.Answer.{Answer}
use Rattle.types.specs.declared.Answer.TheVariants.{Done, InvalidMagic, UnsupportedVersion, InvalidHeaderSize, InvalidLayout, InvalidCapacity, InvalidSlotSize, CorruptIndices, CorruptSlot, Full, Empty, Closed, Shutdown, Timeout, WouldBlock, OutputTooSmall, AlreadyAttached, Syscall, PayloadTooLong, NotFullOff, BadCall, Nothing, Begun, GoesOn}
use Rattle.layout.specs.Limits.{payload_capacity}
use Rattle.layout.specs.Create.{create_checks, create_answer, create_leaves}
use Rattle.layout.specs.Attach.{attached as joined, unattached, flag_checks, ring_checks, region_checks, attach_checks, attach_answer, attach_reply, attach_leaves}
use Rattle.rules.specs.Take.{stance_of}
use Rattle.rules.specs.Calls.{is_resting, is_sleeping, sound, ready, reply, at, named, begins, rouses, push_spec, pop_spec, close_spec, shut_spec, spurious_spec, timeout_spec}
use Rattle.rules.specs.Turn.{taken, refused, turn_spec, turn_leaves, turn_buffer}
use Rattle.rules.specs.Given.{Checked, passed, fails, holds, Ask, create, attach, turn, Given, created, attached, push-bad, pop-bad, close-bad, shutdown-bad, spurious-bad, timeout-bad, turn-bad, push-closed, pop-closed, close-closed, push-off, push-long, push_begun, pop-begun, close-begun, shutdown-begun, spurious-idle, timeout-idle, spurious-taken, timeout-taken, turn-taken, answered}
use Rattle.rules.specs.Leaves.{AtRest, Unchanged, Leaves, LeavesAll, LeavesKept, LeavesAllKept, BenchAsks}
use Rattle.rules.specs.Bench.{played, played_leaves, played_buffer, settled, turned}
use Rattle.rules.proofs.Views.{resting-step}
use Rattle.rules.proofs.Answered.{given-first}
use Rattle.rules.proofs.Leaving.{ends-leaves}

-- the answers that change nothing anywhere
abbrev pub refuses : Answer → Bool
refuses (Done l t) = false
refuses InvalidMagic = true
refuses UnsupportedVersion = true
refuses InvalidHeaderSize = true
refuses InvalidLayout = true
refuses InvalidCapacity = true
refuses InvalidSlotSize = true
refuses CorruptIndices = false
refuses CorruptSlot = false
refuses Full = false
refuses Empty = false
refuses Closed = false
refuses Shutdown = false
refuses Timeout = false
refuses WouldBlock = true
refuses (OutputTooSmall n) = false
refuses AlreadyAttached = true
refuses (Syscall op e) = false
refuses PayloadTooLong = true
refuses NotFullOff = true
refuses BadCall = true
refuses Nothing = true
refuses Begun = false
refuses GoesOn = false

unchanged-leaves : (x : Answer) (a : Ask) → refuses x ≡ true → Unchanged a → LeavesKept x a
unchanged-leaves (Done l t) a h u = absurd (false≢true h)
unchanged-leaves InvalidMagic a h u = u
unchanged-leaves UnsupportedVersion a h u = u
unchanged-leaves InvalidHeaderSize a h u = u
unchanged-leaves InvalidLayout a h u = u
unchanged-leaves InvalidCapacity a h u = u
unchanged-leaves InvalidSlotSize a h u = u
unchanged-leaves CorruptIndices a h u = absurd (false≢true h)
unchanged-leaves CorruptSlot a h u = absurd (false≢true h)
unchanged-leaves Full a h u = absurd (false≢true h)
unchanged-leaves Empty a h u = absurd (false≢true h)
unchanged-leaves Closed a h u = absurd (false≢true h)
unchanged-leaves Shutdown a h u = absurd (false≢true h)
unchanged-leaves Timeout a h u = absurd (false≢true h)
unchanged-leaves WouldBlock a h u = u
unchanged-leaves (OutputTooSmall n) a h u = absurd (false≢true h)
unchanged-leaves AlreadyAttached a h u = u
unchanged-leaves (Syscall op e) a h u = absurd (false≢true h)
unchanged-leaves PayloadTooLong a h u = u
unchanged-leaves NotFullOff a h u = u
unchanged-leaves BadCall a h u = u
unchanged-leaves Nothing a h u = u
unchanged-leaves Begun a h u = absurd (false≢true h)
unchanged-leaves GoesOn a h u = absurd (false≢true h)

pub refusal-number : (x : Answer) → refuses x ≡ true → eqb (number x) 0 ≡ false
refusal-number (Done l t) h = absurd (false≢true h)
refusal-number InvalidMagic h = refl
refusal-number UnsupportedVersion h = refl
refusal-number InvalidHeaderSize h = refl
refusal-number InvalidLayout h = refl
refusal-number InvalidCapacity h = refl
refusal-number InvalidSlotSize h = refl
refusal-number CorruptIndices h = absurd (false≢true h)
refusal-number CorruptSlot h = absurd (false≢true h)
refusal-number Full h = absurd (false≢true h)
refusal-number Empty h = absurd (false≢true h)
refusal-number Closed h = absurd (false≢true h)
refusal-number Shutdown h = absurd (false≢true h)
refusal-number Timeout h = absurd (false≢true h)
refusal-number WouldBlock h = refl
refusal-number (OutputTooSmall n) h = absurd (false≢true h)
refusal-number AlreadyAttached h = refl
refusal-number (Syscall op e) h = absurd (false≢true h)
refusal-number PayloadTooLong h = refl
refusal-number NotFullOff h = refl
refusal-number BadCall h = refl
refusal-number Nothing h = refl
refusal-number Begun h = absurd (false≢true h)
refusal-number GoesOn h = absurd (false≢true h)

-- a list of checks whose every answer is such
abbrev pub all-refuse : List Test → Bool
all-refuse [] = true
all-refuse (test b a ∷ cs) = refuses a && all-refuse cs

checked-leaves : {cs : List Test} {x : Answer} (w : Ask) → all-refuse cs ≡ true → AtRest w → ((y : Answer) → first_of cs ≡ y → refuses y ≡ true → Unchanged w) → Checked cs x → LeavesKept x w
checked-leaves w t r u passed = r
checked-leaves w t r u (fails {b} {a} {cs} e) =
    let s = first_so (refuses a) (all-refuse cs) t in
    unchanged-leaves a w s (u a (rw e) s)
checked-leaves w t r u (holds {b} {a} {x} {cs} e c) = checked-leaves w (second_so (refuses a) (all-refuse cs) t) r (λ z h s. u z (rw e h) s) c

create-refused : (r : List ℕ) (power slot : ℕ) (notfull : Bool) (start : ℕ) (y : Answer) → first_of (create_checks (length r) power slot) ≡ y → refuses y ≡ true → Unchanged (create r power slot notfull start)
unfolding create_leaves create_answer
create-refused r power slot notfull start y e t = (rw (e, refusal-number y t), tt)

attach-refused : (r : List ℕ) (side : Side) (spins : ℕ) (y : Answer) → first_of (attach_checks r side spins) ≡ y → refuses y ≡ true → Unchanged (attach r side spins)
unfolding attach_leaves attach_reply attach_answer
attach-refused r side spins y e t = (rw (e, refusal-number y t), rw (e, refusal-number y t))

-- the tests of a begin and of a rouse, and what they lead to
record Tests : Type 0 where
  goes : Bool
  closed : Bool
  off : Bool
  long : Bool
  begun : Party

abbrev push-tests : Party → Bool → ℕ → ℕ → Tests
push-tests p b t l = record { goes = ready Sender p; closed = p.closed; off = b && not p.own.notfull; long = not (leb l (payload_capacity p.own.slot)); begun = named b t l p }

abbrev pop-tests : Party → Bool → ℕ → Tests
pop-tests p b l = record { goes = ready Recorder p; closed = p.closed; off = false; long = false; begun = named b 0 l p }

abbrev own-tests : Side → Party → (closed : Bool) → Step → Tests
own-tests side p closed s = record { goes = ready side p; closed = closed; off = false; long = false; begun = at s p }

module _ (p : Party) (w : Tests) where
  abbrev begin : Reply
  begin = begins p w.goes w.closed w.off w.long w.begun

  bad-begin : w.goes ≡ false → begin ≡ reply p BadCall
  bad-begin e = rw e

  closed-begin : w.goes ≡ true → w.closed ≡ true → begin ≡ reply p Closed
  closed-begin e h = rw (e, h)

  off-begin : w.goes ≡ true → w.closed ≡ false → w.off ≡ true → begin ≡ reply p NotFullOff
  off-begin e h k = rw (e, h, k)

  long-begin : w.goes ≡ true → w.closed ≡ false → w.off ≡ false → w.long ≡ true → begin ≡ reply p PayloadTooLong
  long-begin e h k j = rw (e, h, k, j)

module _ (side : Side) (p : Party) (q : Reply) where
  abbrev rouse : Reply
  rouse = rouses p (sound side p) (is_sleeping (stance_of p.step)) q

  bad-rouse : sound side p ≡ false → rouse ≡ reply p BadCall
  bad-rouse e = ap (λ (g : Bool). rouses p g (is_sleeping (stance_of p.step)) q) e

  idle-rouse : sound side p ≡ true → is_sleeping (stance_of p.step) ≡ false → rouse ≡ reply p Nothing
  idle-rouse e h = ap₂ (λ (g s : Bool). rouses p g s q) e h

-- the party of a reply that is known
party-of : {r : Reply} {p : Party} {a : Answer} → r ≡ reply p a → r.party ≡ p
party-of e = ap (λ (x : Reply). x.party) e

pub ready-rests : (side : Side) (p : Party) → ready side p ≡ true → p.step ≡ Rest
unfolding ready
ready-rests side p e = resting-step p.step (second_so (sound side p) (is_resting (stance_of p.step)) e)

closed-rests : {r : Reply} (side : Side) (p : Party) → ready side p ≡ true → r ≡ reply p Closed → r.party.step ≡ Rest
closed-rests side p e h = ap (λ (x : Reply). x.party.step) h ∙ ready-rests side p e

turn-refused : (side : Side) (r : List ℕ) (p : Party) (i o : List ℕ) (f : Fault) → taken side r p i o f ≡ false → Unchanged (turn side r p i o f)
unfolding turn_leaves turn_buffer turn_spec
turn-refused side r p i o f e =
    let h : turn_spec side r p i o f ≡ refused p = rw e in
    ((rw e, rw e), (ap (λ (t : Turned). t.party) h, ap (λ (t : Turned). t.woke) h))

-- an attach gives back a party at rest either way
either-rests : (b : Bool) (p q : Party) → p.step ≡ Rest → q.step ≡ Rest → (pick b p q).step ≡ Rest
either-rests true p q h k = h
either-rests false p q h k = k

attach-rests : (r : List ℕ) (side : Side) (spins : ℕ) → AtRest (attach r side spins)
unfolding attach_reply
attach-rests r side spins = either-rests (eqb (number (attach_answer r side spins)) 0) (joined r side spins) (unattached side) refl refl

given-leaves : {a : Ask} {x : Answer} → Given a x → LeavesKept x a
unfolding attach_checks region_checks ring_checks flag_checks push_spec pop_spec close_spec shut_spec spurious_spec timeout_spec
given-leaves (created {r} {power} {slot} {notfull} {start} c) = checked-leaves (create r power slot notfull start) refl tt (create-refused r power slot notfull start) c
given-leaves (attached {r} {side} {spins} c) = checked-leaves (attach r side spins) refl (attach-rests r side spins) (attach-refused r side spins) c
given-leaves (push-bad {p} {b} {t} {l} h) = (tt, party-of (bad-begin p (push-tests p b t l) h))
given-leaves (pop-bad {p} {b} {l} h) = (tt, party-of (bad-begin p (pop-tests p b l) h))
given-leaves (close-bad {side} {p} h) = (tt, party-of (bad-begin p (own-tests side p p.closed CloseSet) h))
given-leaves (shutdown-bad {side} {p} h) = (tt, party-of (bad-begin p (own-tests side p false (ShutSet false)) h))
given-leaves (spurious-bad {side} {p} h) = (tt, party-of (bad-rouse side p (reply (at Look p) GoesOn) h))
given-leaves (timeout-bad {side} {p} h) = (tt, party-of (bad-rouse side p (reply (at (LastLook true) p) GoesOn) h))
given-leaves (turn-bad {side} {r} {p} {i} {o} {f} h) = turn-refused side r p i o f h
given-leaves (push-closed {p} {b} {t} {l} h c) = (tt, closed-rests Sender p h (closed-begin p (push-tests p b t l) h c))
given-leaves (pop-closed {p} {b} {l} h c) = (tt, closed-rests Recorder p h (closed-begin p (pop-tests p b l) h c))
given-leaves (close-closed {side} {p} h c) = (tt, closed-rests side p h (closed-begin p (own-tests side p p.closed CloseSet) h c))
given-leaves (push-off {p} {b} {t} {l} h c o) = (tt, party-of (off-begin p (push-tests p b t l) h c o))
given-leaves (push-long {p} {b} {t} {l} h c o n) = (tt, party-of (long-begin p (push-tests p b t l) h c o (ap not n)))
given-leaves (push_begun h c o l) = tt
given-leaves (pop-begun h c) = tt
given-leaves (close-begun h c) = tt
given-leaves (shutdown-begun h) = tt
given-leaves (spurious-idle {side} {p} h s) = (tt, party-of (idle-rouse side p (reply (at Look p) GoesOn) h s))
given-leaves (timeout-idle {side} {p} h s) = (tt, party-of (idle-rouse side p (reply (at (LastLook true) p) GoesOn) h s))
given-leaves (spurious-taken h s) = tt
given-leaves (timeout-taken h s) = tt
given-leaves (turn-taken {side} {r} {p} {i} {o} {f} h e) = ends-leaves side r p i o f h e

pub leaves-all-kept : LeavesAllKept
leaves-all-kept a = given-leaves (given-first a)

kept-leaves : (x : Answer) (a : Ask) → LeavesKept x a → Leaves x a
kept-leaves CorruptIndices a h = h.1
kept-leaves (Syscall op e) a h = h.1
kept-leaves x a h = h

pub leaves_all : LeavesAll
leaves_all a = kept-leaves (answered a) a (leaves-all-kept a)

-- a bench answers and leaves what the call or the turn does
pub bench-asks : BenchAsks
unfolding played played_leaves played_buffer settled turned
bench-asks r b i o (Turn side) = (refl, (refl, refl))
bench-asks r b i o (Failing side e) = (refl, (refl, refl))
bench-asks r b i o (Spurious side) = (refl, (refl, refl))
bench-asks r b i o (TimeOut side) = (refl, (refl, refl))
bench-asks r b i o (Push k t l) = (refl, (refl, refl))
bench-asks r b i o (Pop k l) = (refl, (refl, refl))
bench-asks r b i o (Close side) = (refl, (refl, refl))
bench-asks r b i o (Shut side) = (refl, (refl, refl))
