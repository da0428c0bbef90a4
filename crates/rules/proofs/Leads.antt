-- Where a turn may lead, with what it then knows: one row a way.
use mathlib.Core.Path.{◌≡◌, refl, sym, ap, ap₂, ◌∙◌}
use mathlib.Core.Bool.{Bool, true, false, ◌||◌}
use Prim.Native.Nat.{ℕ, zero, suc, ◌-◌, ◌%◌, ◌^◌, ◌<◌}
use native.Mathlib.Omega.{arith}
use borrow.Author.Tests.{eqb-true, eqb-false, ne_eqb}
use lib.Dec.{eqb}
use Rattle.types.specs.Pick.{pick}
use Rattle.types.specs.declared.Side.{Side}
use Rattle.types.specs.declared.Side.TheVariants.{Sender, Recorder}
use Rattle.types.specs.declared.Own.{Own}
use Rattle.types.specs.declared.Mark.TheVariants.{Shutdown}
use Rattle.types.specs.declared.Door.{Door}
use Rattle.types.specs.declared.Door.TheVariants.{Shut, Left, Open}
use Rattle.types.specs.declared.Fit.{Fit}
use Rattle.types.specs.declared.Fit.TheVariants.{Bad, Small, Fits}
use Rattle.types.specs.declared.Nap.{Nap}
use Rattle.types.specs.declared.Nap.TheVariants.{Sleeps, Returns, TimedOut, Fails}
use Rattle.types.specs.declared.Step.{Step}
use Rattle.types.specs.declared.Step.TheVariants.{Rest, Look, Copy, Publish, Check, Raise, Wake, Gate, Spin, Epoch, Again, GateAgain, Wait, Asleep, LastLook, CloseSet, CloseRaise, CloseWake, ShutSet, ShutRaiseNe, ShutWakeNe, ShutRaiseNf, ShutWakeNf}
use Rattle.types.specs.declared.Answer.TheVariants.{Done, Closed, Timeout}
use Rattle.types.specs.declared.Move.TheVariants.{To, End}
use Rattle.layout.specs.Limits.{capacity, payload_capacity}
use Rattle.layout.specs.Flags.{worth, bit_on, close_mark}
use Rattle.layout.specs.Slots.{head_of}
use Rattle.rules.specs.Sides.{other, rings, sleep_bell, wait_op}
use Rattle.rules.specs.Looks.{room_here, was_blocked, door_of, fit_of, nap_of}
use Rattle.rules.specs.Steps.{room_move, blocked_move, look_move, fit_move, copy_with, copy_move, publish_move, check_move, wake_move, door_move, gate_move, to_spin, spin_move, again_move, nap_move, wait_move, last_move, close_move, shut_move}
use Rattle.rules.specs.Phase.{asking, phase}
use Rattle.rules.specs.Take.{move_at, step_after}
use Rattle.rules.proofs.Rooms.{as_room}

-- should a side stop? By the flags
abbrev pub stop_at : Side → (flags : ℕ) → Bool
stop_at side flags = bit_on (worth Shutdown) flags || bit_on (worth (close_mark (other side))) flags

abbrev pub barred : Door → Bool
barred Shut = true
barred Left = true
barred Open = false

-- it should where its door is not open
pub stop-barred : (side : Side) (flags : ℕ) → barred (door_of side flags) ≡ stop_at side flags
unfolding door_of
stop-barred side flags = by (bit_on (worth Shutdown) flags) (bit_on (worth (close_mark (other side))) flags)
  where
    by : (a c : Bool) → barred (pick a Shut (pick c Left Open)) ≡ (a || c)
    by true c = refl
    by false true = refl
    by false false = refl

-- the last looks that are left to a side by its door: a recorder looks once more on the other's close
abbrev pub last_at : Side → Door → ℕ
last_at Sender d = 0
last_at Recorder Shut = 0
last_at Recorder Left = 1
last_at Recorder Open = 0

pub open-door : (d : Door) → barred d ≡ false → d ≡ Open
open-door Shut e = absurd (let z : ◌≡◌ {A = ℕ} 0 1 = cc in omega arith)
open-door Left e = absurd (let z : ◌≡◌ {A = ℕ} 0 1 = cc in omega arith)
open-door Open e = refl

-- where so many spins are left: a spin that one fewer follow, or the look at the bell
pub data Onward : (spins : ℕ) → Step → Type 0 where
  straight : Onward 0 Epoch
  around : (n : ℕ) → Onward (suc n) (Spin n)

pub onward : (n : ℕ) → Onward n (to_spin n)
unfolding to_spin
onward zero = straight
onward (suc n) =
    let e : suc n - 1 ≡ n = omega arith in
    rw (ne_eqb (suc n) 0 (λ q. omega arith), e) (around n)

pub asks : (n : ℕ) (t : Step) → Onward n t → phase t ≡ asking
asks n t straight = refl
asks n t (around m) = refl

-- what stands around a turn: whose it is, the rooms of both sides, what the flags say to it, whether it blocks and whether it
-- rings, its bell, and how often it spins
pub record Sight : Type 0 where
  pub side : Side
  pub room : ℕ
  pub theirs : ℕ
  pub door : Door
  pub blocking : Bool
  pub rings : Bool
  pub bell : ℕ
  pub spins : ℕ

pub data Leads (g : Sight) : Step → Step → Type 0 where
  idles : Leads g Rest Rest
  finds : 0 < g.room → Leads g Look Copy
  blocks : g.room ≡ 0 → g.blocking ≡ true → Leads g Look Gate
  gives_up : g.room ≡ 0 → g.blocking ≡ false → Leads g Look Rest
  copies : {l t : ℕ} → Leads g Copy (Publish l t)
  spills : Leads g Copy Rest
  tells : {l t : ℕ} → g.rings ≡ true → Leads g (Publish l t) (Check l t)
  stores : {l t : ℕ} → g.rings ≡ false → Leads g (Publish l t) Rest
  owes : {l t : ℕ} → g.theirs ≡ 1 → Leads g (Check l t) (Raise l t)
  passes : {l t : ℕ} → (g.theirs ≡ 1 → ⊥) → Leads g (Check l t) Rest
  raises : {l t : ℕ} → Leads g (Raise l t) (Wake l t)
  wakes : {l t : ℕ} → Leads g (Wake l t) Rest
  enters : {t : Step} → g.door ≡ Open → Onward g.spins t → Leads g Gate t
  stops : barred g.door ≡ true → last_at g.side g.door ≡ 0 → Leads g Gate Rest
  finds-spin : {n : ℕ} → 0 < g.room → Leads g (Spin n) Copy
  spins : {n : ℕ} {t : Step} → g.room ≡ 0 → Onward n t → Leads g (Spin n) t
  reads : Leads g Epoch (Again (g.bell % 2 ^ 32))
  finds-again : {e : ℕ} → 0 < g.room → Leads g (Again e) Copy
  stays : {e : ℕ} → g.room ≡ 0 → Leads g (Again e) (GateAgain e)
  enters-again : {e : ℕ} → g.door ≡ Open → Leads g (GateAgain e) (Wait e)
  stops-again : {e : ℕ} → barred g.door ≡ true → last_at g.side g.door ≡ 0 → Leads g (GateAgain e) Rest
  sleeps : {e : ℕ} → g.bell ≡ e → Leads g (Wait e) Asleep
  returns : {e : ℕ} → Leads g (Wait e) Look
  ends : {e : ℕ} → Leads g (Wait e) Rest
  dreams : Leads g Asleep Asleep
  glances : g.door ≡ Left → last_at g.side g.door ≡ 1 → Leads g Gate (LastLook false)
  glances-again : {e : ℕ} → g.door ≡ Left → last_at g.side g.door ≡ 1 → Leads g (GateAgain e) (LastLook false)
  times-out : {e : ℕ} → Leads g (Wait e) (LastLook true)
  finds-last : {c : Bool} → 0 < g.room → Leads g (LastLook c) Copy
  finds-none : {c : Bool} → g.room ≡ 0 → Leads g (LastLook c) Rest
  closes : g.rings ≡ true → Leads g CloseSet CloseRaise
  closes-alone : g.rings ≡ false → Leads g CloseSet Rest
  close-raises : Leads g CloseRaise CloseWake
  close-wakes : Leads g CloseWake Rest
  shuts : {c : Bool} → Leads g (ShutSet c) (ShutRaiseNe c)
  shut-raises : {c : Bool} → Leads g (ShutRaiseNe c) (ShutWakeNe c)
  shut-wakes : {c : Bool} {f : ℕ} → Leads g (ShutWakeNe c) (ShutRaiseNf c f)
  shut-raises-again : {c : Bool} {f : ℕ} → Leads g (ShutRaiseNf c f) (ShutWakeNf c f)
  shut-wakes-again : {c : Bool} {f : ℕ} → Leads g (ShutWakeNf c f) Rest

module _ (g : Sight) where
  abbrev L : Step → Step → Type 0
  L s t = Leads g s t

  look-leads : (side : Side) (j : ℕ) → g.room ≡ j → (n : Bool) → g.blocking ≡ n → L Look (step_after (room_move (as_room j) (blocked_move n side)) Look)
  look-leads side (suc j) q n h = finds (omega arith)
  look-leads side zero q true h = blocks q h
  look-leads side zero q false h = gives_up q h

  again-leads : (e j : ℕ) → g.room ≡ j → L (Again e) (step_after (room_move (as_room j) (To (GateAgain e))) (Again e))
  again-leads e (suc j) q = finds-again (omega arith)
  again-leads e zero q = stays q

  copy-leads : (side : Side) (f : Fit) (l t : ℕ) → L Copy (step_after (copy_with side (fit_move f l t)) Copy)
  copy-leads Sender f l t = copies
  copy-leads Recorder Bad l t = spills
  copy-leads Recorder Small l t = spills
  copy-leads Recorder Fits l t = copies

  publish-leads : (l t : ℕ) (n : Bool) → g.rings ≡ n → L (Publish l t) (step_after (pick n (To (Check l t)) (End (Done l t))) (Publish l t))
  publish-leads l t true h = tells h
  publish-leads l t false h = stores h

  check-leads : (l t : ℕ) (n : Bool) → eqb g.theirs 1 ≡ n → L (Check l t) (step_after (pick n (To (Raise l t)) (End (Done l t))) (Check l t))
  check-leads l t true h = owes (eqb-true g.theirs 1 h)
  check-leads l t false h = passes (eqb-false g.theirs 1 h)

  gate-leads : (side : Side) → g.side ≡ side → (d : Door) → g.door ≡ d → L Gate (step_after (door_move d side (to_spin g.spins)) Gate)
  gate-leads Sender o Shut h = stops (ap barred h) (ap₂ last_at o h)
  gate-leads Recorder o Shut h = stops (ap barred h) (ap₂ last_at o h)
  gate-leads Sender o Left h = stops (ap barred h) (ap₂ last_at o h)
  gate-leads Recorder o Left h = glances h (ap₂ last_at o h)
  gate-leads side o Open h = enters h (onward g.spins)

  spin-leads : (n j : ℕ) → g.room ≡ j → L (Spin n) (step_after (room_move (as_room j) (To (to_spin n))) (Spin n))
  spin-leads n (suc j) q = finds-spin (omega arith)
  spin-leads n zero q = spins q (onward n)

  gate-again-leads : (side : Side) → g.side ≡ side → (e : ℕ) (d : Door) → g.door ≡ d → L (GateAgain e) (step_after (door_move d side (Wait e)) (GateAgain e))
  gate-again-leads Sender o e Shut h = stops-again (ap barred h) (ap₂ last_at o h)
  gate-again-leads Recorder o e Shut h = stops-again (ap barred h) (ap₂ last_at o h)
  gate-again-leads Sender o e Left h = stops-again (ap barred h) (ap₂ last_at o h)
  gate-again-leads Recorder o e Left h = glances-again h (ap₂ last_at o h)
  gate-again-leads side o e Open h = enters-again h

  wait-leads : (e op f : ℕ) (n : Nap) → (n ≡ Sleeps → g.bell ≡ e) → L (Wait e) (step_after (nap_move n op f) (Wait e))
  wait-leads e op f Sleeps h = sleeps (h refl)
  wait-leads e op f Returns h = returns
  wait-leads e op f TimedOut h = times-out
  wait-leads e op f Fails h = ends

  last-leads : (c : Bool) (j : ℕ) → g.room ≡ j → L (LastLook c) (step_after (room_move (as_room j) (End (pick c Timeout Closed))) (LastLook c))
  last-leads c (suc j) q = finds-last (omega arith)
  last-leads c zero q = finds-none q

  close-leads : (n : Bool) → g.rings ≡ n → L CloseSet (step_after (pick n (To CloseRaise) (End (Done 0 0))) CloseSet)
  close-leads true h = closes h
  close-leads false h = closes-alone h

-- a wait sleeps only over the epoch
nap-sleeps : (f : ℕ) (s : Bool) → nap_of f s ≡ Sleeps → s ≡ true
unfolding nap_of
nap-sleeps f s e = by (eqb f 0) s (eqb f 4 || eqb f 11) (eqb f 110) e
  where
    by : (a s c d : Bool) → pick a (pick s Sleeps Returns) (pick c Returns (pick d TimedOut Fails)) ≡ Sleeps → s ≡ true
    by true true c d e = refl
    by true false c d e = absurd (let q : ◌≡◌ {A = ℕ} 0 1 = cc in omega arith)
    by false s true d e = absurd (let q : ◌≡◌ {A = ℕ} 0 1 = cc in omega arith)
    by false s false true e = absurd (let q : ◌≡◌ {A = ℕ} 0 1 = cc in omega arith)
    by false s false false e = absurd (let q : ◌≡◌ {A = ℕ} 0 1 = cc in omega arith)

-- what a turn's value has to say, by the step
abbrev pub Tells : (own : Own) → Sight → (counter value : ℕ) → Step → Type 0
Tells own g c v Rest = Unit
Tells own g c v Look = room_here own c v ≡ as_room g.room
Tells own g c v Copy = Unit
Tells own g c v (Publish l t) = Unit
Tells own g c v (Check l t) = was_blocked own.side (capacity own.power) c v ≡ eqb g.theirs 1
Tells own g c v (Raise l t) = Unit
Tells own g c v (Wake l t) = Unit
Tells own g c v Gate = door_of own.side v ≡ g.door
Tells own g c v (Spin n) = room_here own c v ≡ as_room g.room
Tells own g c v Epoch = v ≡ g.bell
Tells own g c v (Again e) = room_here own c v ≡ as_room g.room
Tells own g c v (GateAgain e) = door_of own.side v ≡ g.door
Tells own g c v (Wait e) = v ≡ g.bell
Tells own g c v Asleep = Unit
Tells own g c v (LastLook q) = room_here own c v ≡ as_room g.room
Tells own g c v CloseSet = Unit
Tells own g c v CloseRaise = Unit
Tells own g c v CloseWake = Unit
Tells own g c v (ShutSet q) = Unit
Tells own g c v (ShutRaiseNe q) = Unit
Tells own g c v (ShutWakeNe q) = Unit
Tells own g c v (ShutRaiseNf q f) = Unit
Tells own g c v (ShutWakeNf q f) = Unit

-- what stands around a turn of a party with that copy of sizes and options
abbrev pub sight_of : Own → (room theirs : ℕ) → Door → (blocking : Bool) → (bell : ℕ) → Sight
sight_of own k x z m b = record { side = own.side; room = k; theirs = x; door = z; blocking = m; rings = rings own.side own.notfull; bell = b; spins = own.spins }

pub leads : (own : Own) (k x : ℕ) (z : Door) (b c : ℕ) (m : Bool) (l v f : ℕ) (s : Step) → Tells own (sight_of own k x z m b) c v s
    → Leads (sight_of own k x z m b) s (step_after (move_at s own c m l v f) s)
unfolding look_move copy_move publish_move check_move wake_move gate_move spin_move again_move wait_move last_move close_move shut_move
leads own k x z b c m l v f Rest h = idles
leads own k x z b c m l v f Look h = rw h (look-leads (sight_of own k x z m b) own.side k refl m refl)
leads own k x z b c m l v f Copy h = copy-leads (sight_of own k x z m b) own.side (fit_of (head_of v) (payload_capacity own.slot) l) (head_of v).length (head_of v).tag
leads own k x z b c m l v f (Publish n t) h = publish-leads (sight_of own k x z m b) n t (rings own.side own.notfull) refl
leads own k x z b c m l v f (Check n t) h = rw h (check-leads (sight_of own k x z m b) n t (eqb x 1) refl)
leads own k x z b c m l v f (Raise n t) h = raises
leads own k x z b c m l v f (Wake n t) h = wakes
leads own k x z b c m l v f Gate h = rw h (gate-leads (sight_of own k x z m b) own.side refl z refl)
leads own k x z b c m l v f (Spin n) h = rw h (spin-leads (sight_of own k x z m b) n k refl)
leads own k x z b c m l v f Epoch h = rw h reads
leads own k x z b c m l v f (Again e) h = rw h (again-leads (sight_of own k x z m b) e k refl)
leads own k x z b c m l v f (GateAgain e) h = rw h (gate-again-leads (sight_of own k x z m b) own.side refl e z refl)
leads own k x z b c m l v f (Wait e) h =
    wait-leads (sight_of own k x z m b) e (wait_op (sleep_bell own.side)) f (nap_of f (eqb v e)) (λ q. sym h ∙ eqb-true v e (nap-sleeps f (eqb v e) q))
leads own k x z b c m l v f Asleep h = dreams
leads own k x z b c m l v f (LastLook q) h = rw h (last-leads (sight_of own k x z m b) q k refl)
leads own k x z b c m l v f CloseSet h = close-leads (sight_of own k x z m b) (rings own.side own.notfull) refl
leads own k x z b c m l v f CloseRaise h = close-raises
leads own k x z b c m l v f CloseWake h = close-wakes
leads own k x z b c m l v f (ShutSet q) h = shuts
leads own k x z b c m l v f (ShutRaiseNe q) h = shut-raises
leads own k x z b c m l v f (ShutWakeNe q) h = shut-wakes
leads own k x z b c m l v f (ShutRaiseNf q e) h = shut-raises-again
leads own k x z b c m l v f (ShutWakeNf q e) h = shut-wakes-again
