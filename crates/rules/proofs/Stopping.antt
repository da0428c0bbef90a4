-- With a flag up a call comes nearer to its end at each of its party's turns, and at none of the other's further from it.
use mathlib.Core.Path.{◌≡◌, refl, sym, ap, ◌∙◌}
use mathlib.Core.Bool.{Bool, true, false, ◌||◌}
use mathlib.Core.List.{List, [], ◌∷◌, ◌++◌}
use mathlib.Core.Logic.{◌⊎◌, inl, inr}
use Prim.Native.Nat.{ℕ, zero, suc, ◌+◌, ◌≤◌}
use native.Mathlib.Omega.{arith}
use Rattle.words.specs.Le.{le_at}
use Rattle.types.specs.Pick.{pick}
use Rattle.types.specs.declared.Side.{Side}
use Rattle.types.specs.declared.Side.TheVariants.{Sender, Recorder}
use Rattle.types.specs.declared.Mark.{Mark}
use Rattle.types.specs.declared.Mark.TheVariants.{Shutdown as ShutMark}
use Rattle.types.specs.declared.Door.TheVariants.{Shut, Left, Open}
use Rattle.types.specs.declared.Step.{Step}
use Rattle.types.specs.declared.Step.TheVariants.{Rest, Look, Asleep}
use Rattle.types.specs.declared.Stance.{Stance}
use Rattle.types.specs.declared.Stance.TheVariants.{Sleeping}
use Rattle.layout.specs.Limits.{power_ok, slot_ok}
use Rattle.layout.specs.Flags.{worth, bit_on, close_mark}
use Rattle.layout.specs.Header.{flags_at}
use Rattle.rules.specs.Sides.{other, same_side}
use Rattle.rules.specs.Looks.{door_of}
use Rattle.rules.specs.Take.{stance_of}
use Rattle.rules.specs.Run.{World, Happening, party_in, happens, run}
use Rattle.rules.specs.Premises.{Typed, AllTyped}
use Rattle.rules.specs.Stretch.{tick_by}
use Rattle.rules.specs.Both.{done_by, turns_by}
use Rattle.rules.proofs.Views.{Kind, rests, dreams, acts, kind}
use Rattle.rules.proofs.Leads.{stop_at, barred, stop-barred, last_at}
use Rattle.rules.proofs.RealCalls.{Idle, rests as at_rest, looks, glances, closes, shuts}
use Rattle.rules.proofs.RealRun.{real-happens}
use Rattle.rules.proofs.Heard.{room_by}
use Rattle.rules.proofs.Does.{less}
use Rattle.rules.proofs.Costs.{own_room}
use Rattle.rules.proofs.Nearer.{room-le}
use Rattle.rules.proofs.NearerAmid.{seen, to_rest, near, nearer}
use Rattle.rules.proofs.Bound.{Count, moves-off}
use Rattle.rules.proofs.Strides.{sleep-stays}
use Rattle.rules.proofs.Deeds.{Goes, Stays, Deed, deed, goes, stays}
use Rattle.rules.proofs.Real.{room_in, Real}

-- a shutdown spares a side's last look
shut-spares : (side : Side) → last_at side Shut ≡ 0
shut-spares Sender = refl
shut-spares Recorder = refl

-- the flags stop a side, and leave it so many last looks
pub record Barred (side : Side) (l flags : ℕ) : Type 0 where
  pub up : stop_at side flags ≡ true
  pub last : last_at side (door_of side flags) ≤ l

-- and so they do as more are set
barred-up : (side : Side) (l f f' : ℕ) → ((k : Mark) → bit_on (worth k) f ≡ true → bit_on (worth k) f' ≡ true) → Barred side l f → Barred side l f'
unfolding door_of
barred-up side l f f' up y =
    let z = by (bit_on (worth ShutMark) f) (bit_on (worth (close_mark (other side))) f) (bit_on (worth ShutMark) f') (bit_on (worth (close_mark (other side))) f') (up ShutMark) (up (close_mark (other side))) y.up y.last in
    record { up = z.0; last = z.1 }
  where
    by : (a c a' c' : Bool) → (a ≡ true → a' ≡ true) → (c ≡ true → c' ≡ true) → (a || c) ≡ true → last_at side (pick a Shut (pick c Left Open)) ≤ l
        → ((a' || c') ≡ true) × (last_at side (pick a' Shut (pick c' Left Open)) ≤ l)
    by a c true c' p q e h = (refl, omega (arith, shut-spares side))
    by true c false c' p q e h = absurd (let z = p refl in let z : ◌≡◌ {A = ℕ} 0 1 = cc in omega arith)
    by false true false true p q e h = (refl, h)
    by false true false false p q e h = absurd (let z = q refl in let z : ◌≡◌ {A = ℕ} 0 1 = cc in omega arith)
    by false false false c' p q e h = absurd (let z : ◌≡◌ {A = ℕ} 0 1 = cc in omega arith)

-- what a call begins with, or a sleeper rises to
idle-rest : (l c : ℕ) → l ≤ 1 → (s : Step) (k : ℕ) → Idle s → to_rest l c s k ≤ 6
idle-rest l c q s k at_rest = omega arith
idle-rest l c q s k looks = room-le k (2 + l) 6 6 (omega arith) (omega arith)
idle-rest l c q s k glances = room-le k 1 6 6 (omega arith) (omega arith)
idle-rest l c q s k closes = omega arith
idle-rest l c q s k shuts = omega arith

less-down : (x j : ℕ) → x ≤ suc j → less x ≤ j
less-down zero j h = omega arith
less-down (suc x) j h = omega arith

-- l last looks are left, and where c is one the other may still give room
module _ (P S v : ℕ) (on : Bool) (l c : ℕ) (few : l + c ≤ 1) where
  -- a flag is up, and so many turns are left at most
  pub record Ending (side : Side) (n : ℕ) (w : World) : Type 0 where
    pub stop : Barred side l (le_at 4 w.region flags_at)
    pub left : to_rest l c (party_in w side).step (seen c (room_in P S v on side w.trace)) ≤ n

  abbrev After : Side → (n t : ℕ) → World → Type 0
  After side n t w = (j : ℕ) × (Ending side j w × (n ≡ t + j))

  -- the other's turns give no room that was not counted on
  abbrev GivesNone : Side → World → Type 0
  GivesNone m w = (k : ℕ) → seen c (room_by (party_in w m).step k) ≡ seen c k

  module _ (h : Happening) (w u : World) where
    -- a turn of one's own: where a sleeper's count, one with a flag up does not sleep
    own-goes : (counted : Stance → Bool) → Count counted → (side : Side) → Goes P S v on h side w u → (counted Sleeping ≡ true → (party_in w side).step ≡ Asleep → ⊥) → ((party_in w side).step ≡ Rest → ⊥)
        → (n : ℕ) → Ending side n w → After side n (tick_by counted h w) u
    own-goes counted count side d y i n e = rw (d.tick counted) (by s refl (kind s) (counted (stance_of s)) refl)
      where
        s : Step
        s = (party_in w side).step

        next : Step
        next = (party_in u side).step

        k : ℕ
        k = room_in P S v on side w.trace

        now : (j : ℕ) → to_rest l c next (seen c (own_room s k)) ≤ j → Ending side j u
        now j h = record { stop = barred-up side l _ _ d.up e.stop; left = rw d.own-room h }

        fell : (s ≡ Asleep → ⊥) → to_rest l c next (seen c (own_room s k)) ≤ less (to_rest l c s (seen c k))
        fell a =
            let last : last_at d.sight.side d.sight.door ≤ l = rw (d.whose, d.door) e.stop.last in
            let shut = ap barred d.door ∙ stop-barred side (le_at 4 w.region flags_at) ∙ e.stop.up in
            rw d.room at (nearer d.sight l c few last s next d.leads shut a)

        falls : (s ≡ Asleep → ⊥) → (n : ℕ) → to_rest l c s (seen c k) ≤ n → After side n 1 u
        falls a zero h = absurd (i ((near l c (omega arith) s (seen c k)).rested h))
        falls a (suc j) h = (j, (now j (omega (arith, fell a, less-down (to_rest l c s (seen c k)) j h)), omega arith))

        by : (x : Step) → s ≡ x → Kind x → (m : Bool) → counted (stance_of x) ≡ m → After side n (pick m 1 0) u
        by x q rests m z = absurd (i q)
        by x q dreams true z = absurd (y z q)
        by x q dreams false z =
            let same : next ≡ Asleep = sleep-stays d.sight next (rw q at d.leads) in
            let most : 6 ≤ n = rw q at e.left in
            (n, (now n (rw same most), omega arith))
        by x q (acts move) true z = falls (λ p. moves-off x Asleep move refl (sym q ∙ p)) n e.left
        by x q (acts move) false z = absurd (let p = count.all (stance_of x) move in let z : ◌≡◌ {A = ℕ} 0 1 = cc in omega arith)

    -- a call asked for while another runs changes nothing; what comes to a sleeper takes it no further from its end
    own-stays : (side : Side) → Stays P S v on h side w u → ((party_in w side).step ≡ Rest → ⊥) → (n : ℕ) → Ending side n w → Ending side n u
    own-stays side d i n e = record { stop = barred-up side l _ _ d.up e.stop; left = rw d.trace (by d.own-step) }
      where
        by : ((party_in u side).step ≡ (party_in w side).step) ⊎ ((((party_in w side).step ≡ Rest) ⊎ ((party_in w side).step ≡ Asleep)) × Idle (party_in u side).step)
            → to_rest l c (party_in u side).step (seen c (room_in P S v on side w.trace)) ≤ n
        by (inl q) = rw q e.left
        by (inr (inl q, idle)) = absurd (i q)
        by (inr (inr q, idle)) =
            let most : 6 ≤ n = rw q at e.left in
            omega (arith, idle-rest l c (omega arith) (party_in u side).step (seen c (room_in P S v on side w.trace)) idle)

    -- the other's doings
    their-goes : (m : Side) → Goes P S v on h m w u → GivesNone m w → (n : ℕ) → Ending (other m) n w → Ending (other m) n u
    their-goes m d g n e = record { stop = barred-up (other m) l _ _ d.up e.stop; left = rw (d.other-room, g (room_in P S v on (other m) w.trace)) (by d.woken) }
      where
        by : ((party_in u (other m)).step ≡ (party_in w (other m)).step) ⊎ (((party_in w (other m)).step ≡ Asleep) × ((party_in u (other m)).step ≡ Look))
            → to_rest l c (party_in u (other m)).step (seen c (room_in P S v on (other m) w.trace)) ≤ n
        by (inl q) = rw q e.left
        by (inr (a, q)) =
            let most : 6 ≤ n = rw a at e.left in
            rw q (omega (arith, idle-rest l c (omega arith) Look (seen c (room_in P S v on (other m) w.trace)) looks))

    their-deed : (m : Side) → Deed P S v on h m w u → GivesNone m w → (n : ℕ) → Ending (other m) n w → Ending (other m) n u
    their-deed m (goes d) g n e = their-goes m d g n e
    their-deed m (stays d) g n e = record { stop = barred-up (other m) l _ _ d.up e.stop; left = rw (d.trace, d.other_step) e.left }

    module _ (counted : Stance → Bool) (count : Count counted) where
      own-deed : (side : Side) → Deed P S v on h side w u → (counted Sleeping ≡ true → (party_in w side).step ≡ Asleep → ⊥) → ((party_in w side).step ≡ Rest → ⊥) → (n : ℕ) → Ending side n w → After side n (tick_by counted h w) u
      own-deed side (goes d) y i n e = own-goes counted count side d y i n e
      own-deed side (stays d) y i n e = (n, (own-stays side d i n e, omega (arith, d.tick counted)))

      one-deed : (side m : Side) → Deed P S v on h m w u → (counted Sleeping ≡ true → (party_in w side).step ≡ Asleep → ⊥) → ((party_in w side).step ≡ Rest → ⊥) → (m ≡ other side → GivesNone m w) → (n : ℕ) → Ending side n w
          → After side n (pick (same_side side m) (tick_by counted h w) 0) u
      one-deed Sender Sender d y i g n e = own-deed Sender d y i n e
      one-deed Sender Recorder d y i g n e = (n, (their-deed Recorder d (g refl) n e, omega arith))
      one-deed Recorder Sender d y i g n e = (n, (their-deed Sender d (g refl) n e, omega arith))
      one-deed Recorder Recorder d y i g n e = own-deed Recorder d y i n e

  -- the first part of a stretch after which the call has ended. `Keeps` says of what is ahead what T4's claims differ by: that a
  -- sleeper is roused, and that the other gives no room
  module _ (power-ok : power_ok P ≡ true) (slot-ok : slot_ok S ≡ true) (counted : Stance → Bool) (count : Count counted) (side : Side) where
    abbrev pub Ended : List Happening → (n : ℕ) → World → Type 0
    Ended ms n w = (first : List Happening) × ((rest : List Happening) × ((ms ≡ first ++ rest) × ((turns_by counted side first w ≤ n) × ((party_in (run first w) side).step ≡ Rest))))

    pub record Stretch (Keeps : List Happening → World → Type 0) : Type 0 where
      pub goes_on : (h : Happening) (hs : List Happening) (w : World) → Typed h → Real P S v on w → Keeps (h ∷ hs) w → Keeps hs (happens h w)
      pub rouses : (hs : List Happening) (w : World) → stop_at side (le_at 4 w.region flags_at) ≡ true → Keeps hs w → counted Sleeping ≡ true → (party_in w side).step ≡ Asleep → ⊥
      pub gives_none : (h : Happening) (hs : List Happening) (w : World) → Real P S v on w → Keeps (h ∷ hs) w → done_by h ≡ other side → GivesNone (done_by h) w

    module _ (Keeps : List Happening → World → Type 0) (s : Stretch Keeps) where
      pub ending-run : (ms : List Happening) (w : World) → AllTyped ms → Real P S v on w → Keeps ms w → (n : ℕ) → Ending side n w → n ≤ turns_by counted side ms w → Ended ms n w
      unfolding run
      ending-run [] w t real y n e long =
          ([], ([], (refl, (omega arith, (near l c (omega arith) (party_in w side).step (seen c (room_in P S v on side w.trace))).rested (omega (arith, e.left))))))
      ending-run (h ∷ ms) w t real y n e long =
          by (party_in w side).step refl (kind (party_in w side).step)
          (λ i.
          let one = one-deed h w (happens h w) counted count side (done_by h) (deed P S v on power-ok slot-ok h w t.0 real) (s.rouses (h ∷ ms) w e.stop.up y) i (s.gives_none h ms w real y) n e in
          let q = one.1.1 in
          let more = ending-run ms (happens h w) t.1 (real-happens P S v on power-ok slot-ok h w t.0 real) (s.goes_on h ms w t.0 real y) one.0 one.1.0 (omega arith) in
          (h ∷ more.0, (more.1.0, (ap (λ (u : List Happening). h ∷ u) more.1.1.0, (omega (arith, more.1.1.1.0), more.1.1.1.1)))))
        where
          by : (x : Step) → (party_in w side).step ≡ x → Kind x → (((party_in w side).step ≡ Rest → ⊥) → Ended (h ∷ ms) n w) → Ended (h ∷ ms) n w
          by x q rests go = ([], (h ∷ ms, (refl, (omega arith, q))))
          by x q dreams go = go (λ p. let f = sym q ∙ p in let z : ◌≡◌ {A = ℕ} 0 1 = cc in omega arith)
          by x q (acts move) go = go (λ p. moves-off x Rest move refl (sym q ∙ p))
