-- T4 where the other stands anywhere in a call, dead, and where it moves.
use mathlib.Core.Path.{◌≡◌, refl, sym, ap, ◌∙◌, subst}
use mathlib.Core.Bool.{Bool, true, false, ◌||◌}
use mathlib.Core.List.{List, [], ◌∷◌, ◌++◌}
use Prim.Native.Nat.{ℕ, ◌+◌, ◌≤◌}
use native.Mathlib.Omega.{arith}
use Rattle.words.specs.Le.{le_at}
use Rattle.types.specs.Pick.{pick}
use Rattle.types.specs.declared.Side.{Side}
use Rattle.types.specs.declared.Side.TheVariants.{Sender, Recorder}
use Rattle.types.specs.declared.Mark.{Mark}
use Rattle.types.specs.declared.Event.TheVariants.{Turn, Failing, Spurious, TimeOut, Push, Pop, Close, Shutdown}
use Rattle.types.specs.declared.Step.{Step}
use Rattle.types.specs.declared.Step.TheVariants.{Rest}
use Rattle.types.specs.declared.Stance.{Stance}
use Rattle.types.specs.declared.Access.{Access}
use Rattle.layout.specs.Limits.{power_ok, slot_ok}
use Rattle.layout.specs.Flags.{worth, bit_on, close_mark}
use Rattle.layout.specs.Header.{flags_at}
use Rattle.layout.specs.Create.{created}
use Rattle.rules.specs.Sides.{other, same_side}
use Rattle.rules.specs.Looks.{door_of}
use Rattle.rules.specs.Next.{next_at}
use Rattle.rules.specs.Run.{World, Happening, attaches, plays, party_in, happens, opened}
use Rattle.rules.specs.Premises.{Typed, AllTyped, down, closed_bit}
use Rattle.rules.specs.Stretch.{moves, ticks_by, OwnDoing, AllOwn}
use Rattle.rules.specs.Claims.{last_looks, stop_turns, Follow, Fresh, reached, AtRest, EndsTicksDead}
use Rattle.rules.specs.Both.{done_by, turns_by, EndTurns, spinning, elsewhere, EndsAmid}
use Rattle.rules.specs.Phase.{phase}
use Rattle.rules.proofs.Leads.{last_at}
use Rattle.rules.proofs.Does.{Does, does, nothing, flags, reads, writes, takes, stores, raises, closes, shuts, waits, wakes, looks as watches}
use Rattle.rules.proofs.RealRun.{power-fits, slot-fits, real-reached}
use Rattle.rules.proofs.Heard.{room_by}
use Rattle.rules.proofs.Nearer.{room-le}
use Rattle.rules.proofs.NearerAmid.{seen, to_rest, near}
use Rattle.rules.proofs.Bound.{Count, by-moves}
use Rattle.rules.proofs.Asks.{run-parts, typed-parts}
use Rattle.rules.proofs.Deeds.{Deed, deed, goes, stays}
use Rattle.rules.proofs.Ending.{one_more, looks-most, either-most}
use Rattle.rules.proofs.Stops.{last-is}
use Rattle.rules.proofs.Stopping.{Barred, Stretch, ending-run}
use Rattle.rules.proofs.Real.{parts, room_in, Real}

-- last looks where the other gives no room, and where it may
no_more : (side : Side) → last_looks side + 0 ≤ 1
no_more side = omega (arith, one_more side)

none_left : 0 + 1 ≤ 1
none_left = omega arith

-- a side's own doings: the turns of such a stretch are all its own, and so is each part of it
own-done : (side : Side) (h : Happening) → OwnDoing side h → done_by h ≡ side
own-done side (attaches mover spins) o = absurd o
own-done side (plays (Turn mover) payload lent) o = o
own-done side (plays (Failing mover error) payload lent) o = o
own-done side (plays (Spurious mover) payload lent) o = o
own-done side (plays (TimeOut mover) payload lent) o = o
own-done side (plays (Push blocking tag length) payload lent) o = sym o
own-done side (plays (Pop blocking length) payload lent) o = sym o
own-done side (plays (Close mover) payload lent) o = o
own-done side (plays (Shutdown mover) payload lent) o = o

same-side : (m side : Side) → m ≡ side → (same_side side m ≡ true) × (m ≡ other side → ⊥)
same-side Sender Sender e = (refl, λ q. let z : ◌≡◌ {A = ℕ} 0 1 = cc in omega arith)
same-side Sender Recorder e = absurd (let z : ◌≡◌ {A = ℕ} 0 1 = cc in omega arith)
same-side Recorder Sender e = absurd (let z : ◌≡◌ {A = ℕ} 0 1 = cc in omega arith)
same-side Recorder Recorder e = (refl, λ q. let z : ◌≡◌ {A = ℕ} 0 1 = cc in omega arith)

own-turns : (counted : Stance → Bool) (side : Side) (ms : List Happening) (w : World) → AllOwn side ms → turns_by counted side ms w ≡ ticks_by counted ms w
own-turns counted side [] w o = refl
own-turns counted side (h ∷ ms) w o =
    let e = (same-side (done_by h) side (own-done side h o.0)).0 in
    let f = own-turns counted side ms (happens h w) o.1 in
    rw (e, f) refl

own_first : (side : Side) (first rest : List Happening) → AllOwn side (first ++ rest) → AllOwn side first
own_first side [] rest o = tt
own_first side (h ∷ first) rest o = (o.0, own_first side first rest o.1)

-- one that has closed publishes nothing, so it gives no room
parted : (s : Step) (k : ℕ) → parts (phase s) ≡ true → room_by s k ≡ k
parted s k e = by s (next_at s Sender 0) (does Sender 0 s) e
  where
    by : (s : Step) (a : Access) → Does Sender 0 s a → parts (phase s) ≡ true → room_by s k ≡ k
    by s a (nothing p) e = p.other-room k
    by s a (watches p) e = p.other-room k
    by s a (flags p) e = p.other-room k
    by s a reads e = refl
    by s a (writes q) e = refl
    by s a (takes q) e = refl
    by s a stores e = absurd (let z : ◌≡◌ {A = ℕ} 0 1 = cc in omega arith)
    by s a (raises p b) e = p.other-room k
    by s a closes e = refl
    by s a shuts e = refl
    by s a waits e = refl
    by s a (wakes p b m) e = p.other-room k

module _ (P S v : ℕ) (on : Bool) (power-ok : power_ok P ≡ true) (slot-ok : slot_ok S ≡ true) where
  -- a flag that is up stays up
  up-happens : (k : Mark) (h : Happening) (w : World) → Typed h → Real P S v on w → bit_on (worth k) (le_at 4 w.region flags_at) ≡ true → bit_on (worth k) (le_at 4 (happens h w).region flags_at) ≡ true
  up-happens k h w t real e = by (deed P S v on power-ok slot-ok h w t real)
    where
      by : Deed P S v on h (done_by h) w (happens h w) → bit_on (worth k) (le_at 4 (happens h w).region flags_at) ≡ true
      by (goes d) = d.up k e
      by (stays d) = d.up k e

  module _ (side : Side) where
    -- three stretches: the other does not move; it has closed; it does anything
    alone : Stretch P S v on (last_looks side) 0 (no_more side) power-ok slot-ok moves by-moves side (λ ms w. AllOwn side ms)
    alone =
        record {
          goes_on = λ h hs w t real y. y.1;
          rouses = λ hs w up y e. absurd (let z : ◌≡◌ {A = ℕ} 0 1 = cc in omega arith);
          gives_none = λ h hs w real y e. absurd ((same-side (done_by h) side (own-done side h y.0)).1 e);
        }

    closed : (l : ℕ) (few : l + 0 ≤ 1) → Stretch P S v on l 0 few power-ok slot-ok moves by-moves side (λ ms w. closed_bit (other side) w ≡ true)
    closed l few =
        record {
          goes_on = λ h hs w t real y. up-happens (close_mark (other side)) h w t real y;
          rouses = λ hs w up y e. absurd (let z : ◌≡◌ {A = ℕ} 0 1 = cc in omega arith);
          gives_none = λ h hs w real y e k.
              let seat = (real.sides (other side)).seat in
              rw e (parted (party_in w (other side)).step k (seat.over (sym seat.closed-bit ∙ y)));
        }

    anyhow : Stretch P S v on 0 1 none_left power-ok slot-ok moves by-moves side (λ ms w. Unit)
    anyhow = record { goes_on = λ h hs w t real y. tt; rouses = λ hs w up y e. absurd (let z : ◌≡◌ {A = ℕ} 0 1 = cc in omega arith); gives_none = λ h hs w real y e k. refl }

module _ (r : List ℕ) (P S : ℕ) (on : Bool) (v : ℕ) (fresh : Fresh r P S on v) where
  abbrev w : List Happening → World
  w hs = reached r P S on v hs

  -- of any such stretch
  ends_by : (l c : ℕ) (few : l + c ≤ 1) (counted : Stance → Bool) (count : Count counted) (side : Side) (Keeps : List Happening → World → Type 0)
      → Stretch P S v on l c few (power-fits r P S on v fresh) (slot-fits r P S on v fresh) counted count side Keeps
      → (hs ms : List Happening) (n : ℕ) → AllTyped (hs ++ ms) → Barred side l (le_at 4 (w hs).region flags_at) → to_rest l c (party_in (w hs) side).step (seen c (room_in P S v on side (w hs).trace)) ≤ n
      → Keeps ms (w hs) → n ≤ turns_by counted side ms (w hs)
      → (first : List Happening) × ((rest : List Happening) × ((ms ≡ first ++ rest) × ((turns_by counted side first (w hs) ≤ n) × ((party_in (w (hs ++ first)) side).step ≡ Rest))))
  ends_by l c few counted count side Keeps s hs ms n t stop left y long =
      let typed = typed-parts hs ms t in
      let done = ending-run P S v on l c few (power-fits r P S on v fresh) (slot-fits r P S on v fresh) counted count side Keeps s ms (w hs) typed.1 (real-reached r P S on v fresh hs typed.0) y n (record { stop = stop; left = left }) long in
      (done.0, (done.1.0, (done.1.1.0, (done.1.1.1.0, subst (λ (u : World). (party_in u side).step ≡ Rest) (sym (run-parts hs done.0 (opened (created r P S on v)))) done.1.1.1.1))))

  -- the other does not move
  alone-by : (counted : Stance → Bool) (count : Count counted) (side : Side) (Keeps : List Happening → World → Type 0)
      → Stretch P S v on (last_looks side) 0 (no_more side) (power-fits r P S on v fresh) (slot-fits r P S on v fresh) counted count side Keeps
      → (hs ms : List Happening) (n : ℕ) → AllTyped (hs ++ ms) → (down (w hs) || closed_bit (other side) (w hs)) ≡ true → Follow side n (w hs) → AllOwn side ms → Keeps ms (w hs) → stop_turns side n ≤ ticks_by counted ms (w hs) → AtRest r P S on v counted side n hs ms
  alone-by counted count side Keeps s hs ms n t stop few own y long =
      let either = either-most 7 (n + 4 + last_looks side) in
      let done = ends_by (last_looks side) 0 (no_more side) counted count side Keeps s hs ms (stop_turns side n) t (record { up = stop; last = looks-most side _ })
      ((near (last_looks side) 0 (one_more side) (party_in (w hs) side).step (room_in P S v on side (w hs).trace)).most (stop_turns side n) either.0 (λ m e. (omega (arith, few m e, either.1), omega (arith, either.0))))
      y (omega (arith, own-turns counted side ms (w hs) own)) in
      let part = own_first side done.0 done.1.0 (subst (AllOwn side) done.1.1.0 own) in
      (done.0, (done.1.0, (done.1.1.0, (omega (arith, done.1.1.1.0, own-turns counted side done.0 (w hs) part), done.1.1.1.1))))

  -- document 01's turns: nothing is asked of wakes and bells
  pub ends-ticks-dead : (side : Side) → EndsTicksDead r P S on v side
  ends-ticks-dead side hs ms n t stop few own long = alone-by moves by-moves side (λ ms w. AllOwn side ms) (alone P S v on (power-fits r P S on v fresh) (slot-fits r P S on v fresh) side) hs ms n t stop few own own long

  -- the number where the other moves
  left-closed : (l : ℕ) → l + 0 ≤ 1 → (s : Step) (k n : ℕ) → EndTurns true l s n → to_rest l 0 s k ≤ n
  left-closed l few s k n (spinning {m = m}) = let either = either-most 6 (m + 4 + l) in room-le k (m + 4 + l) 6 n either.1 either.0
  left-closed l few s k n (elsewhere e) = (near l 0 (omega arith) s k).most 7 (omega arith) (λ m q. absurd (e m q))

  left_down : (s : Step) (k n : ℕ) → EndTurns false 0 s n → to_rest 0 1 s k ≤ n
  left_down s k n (spinning {m = m}) = room-le k (m + 4 + 0) (6 + (m + 2)) (m + 8) (omega arith) (omega arith)
  left_down s k n (elsewhere e) = (near 0 1 (omega arith) s k).most 7 (omega arith) (λ m q. absurd (e m q))

  pub ends-amid : (side : Side) → EndsAmid r P S on v side
  ends-amid side hs ms n t stop left long = by (closed_bit (other side) (w hs)) refl (down (w hs)) refl stop left
    where
      power-ok : power_ok P ≡ true
      power-ok = power-fits r P S on v fresh

      slot-ok : slot_ok S ≡ true
      slot-ok = slot-fits r P S on v fresh

      last : (d : Bool) → down (w hs) ≡ d → last_at side (door_of side (le_at 4 (w hs).region flags_at)) ≡ pick d 0 (last_looks side)
      last d e = last-is side (le_at 4 (w hs).region flags_at) stop ∙ ap (λ (b : Bool). pick b 0 (last_looks side)) e

      few : (d : Bool) → pick d 0 (last_looks side) + 0 ≤ 1
      few true = omega arith
      few false = no_more side

      by : (b : Bool) → closed_bit (other side) (w hs) ≡ b → (d : Bool) → down (w hs) ≡ d → (d || b) ≡ true → EndTurns b (pick d 0 (last_looks side)) (party_in (w hs) side).step n
          → (first : List Happening) × ((rest : List Happening) × ((ms ≡ first ++ rest) × ((turns_by moves side first (w hs) ≤ n) × ((party_in (w (hs ++ first)) side).step ≡ Rest))))
      by true e d q up left =
          ends_by (pick d 0 (last_looks side)) 0 (few d) moves by-moves side (λ ms w. closed_bit (other side) w ≡ true) (closed P S v on power-ok slot-ok side (pick d 0 (last_looks side)) (few d)) hs ms n t
          (record { up = stop; last = omega (arith, last d q) }) (left-closed (pick d 0 (last_looks side)) (few d) (party_in (w hs) side).step (room_in P S v on side (w hs).trace) n left) e long
      by false e true q up left =
          ends_by 0 1 none_left moves by-moves side (λ ms w. Unit) (anyhow P S v on power-ok slot-ok side) hs ms n t (record { up = stop; last = omega (arith, last true q) }) (left_down (party_in (w hs) side).step 1 n left) tt long
      by false e false q up left = absurd (let z : ◌≡◌ {A = ℕ} 0 1 = cc in omega arith)
