-- A stretch of a party's own turns, none of which fails, where the turns that are left are known.
use Rattle.std.specs.Prelude.{None}
use mathlib.Core.Path.{◌≡◌, refl, sym, ap, subst}
use mathlib.Core.Bool.{Bool, true, false, ◌&&◌}
use mathlib.Core.List.{List, [], ◌∷◌, ◌++◌}
use Prim.Native.Nat.{ℕ, zero, suc, ◌+◌, ◌≤◌}
use native.Mathlib.Omega.{arith}
use Rattle.types.specs.Pick.{pick}
use Rattle.types.specs.declared.Side.{Side}
use Rattle.types.specs.declared.Event.TheVariants.{Turn, Failing, Spurious, TimeOut, Push, Pop, Close, Shutdown}
use Rattle.types.specs.declared.Stance.{Stance}
use Rattle.rules.specs.Take.{stance_of}
use Rattle.rules.specs.Bench.{played, played_leaves}
use Rattle.rules.specs.Run.{World, Happening, attaches, plays, party_in, takes, happens, run}
use Rattle.rules.specs.Stretch.{moves, calling, counts_by, ticks, beats, Turns}
use Rattle.rules.proofs.Taken.{turn_world, turn-refused}
use Rattle.rules.proofs.Bound.{by-calling}

-- F n: n turns are left, each of which moves
module _ (side : Side) (F : ℕ → World → Type 0)
    (moving : (n : ℕ) (w : World) → F (suc n) w → moves (stance_of (party_in w side).step) ≡ true)
    (turn : (n : ℕ) (w : World) → F (suc n) w → (payload lent : List ℕ) → takes w side payload lent None ≡ true → F n (turn_world w side payload lent None)) where
  abbrev counts : (counted : Stance → Bool) → (w : World) (i o : List ℕ) → ℕ
  counts counted w i o = counts_by counted w side i o None

  refused-count : (counted : Stance → Bool) (w : World) (i o : List ℕ) → takes w side i o None ≡ false → counts counted w i o ≡ 0
  refused-count counted w i o g = ap (λ (b : Bool). pick (b && counted (stance_of (party_in w side).step)) 1 0) g

  taken-count : (counted : Stance → Bool) (w : World) (i o : List ℕ) → takes w side i o None ≡ true → counted (stance_of (party_in w side).step) ≡ true → counts counted w i o ≡ 1
  taken-count counted w i o g c = rw (g, c) refl

  -- so that the last is taken after exactly so many
  abbrev pub Ended : List Happening → ℕ → World → Type 0
  Ended ms n w = (first : List Happening) × ((rest : List Happening) × ((ms ≡ first ++ rest) × ((ticks first w ≡ n) × F 0 (run first w))))

  after : (ms : List Happening) (w : World) (i o : List ℕ) (k n : ℕ) → counts moves w i o + k ≡ n → Ended ms k (turn_world w side i o None) → Ended (plays (Turn side) i o ∷ ms) n w
  unfolding run happens played played_leaves
  after ms w i o k n e d =
      (plays (Turn side) i o ∷ d.0, (d.1.0, (ap (λ (u : List Happening). plays (Turn side) i o ∷ u) d.1.1.0, (omega (arith, d.1.1.1.0, e), d.1.1.1.1))))

  pub exactly : (ms : List Happening) (w : World) → Turns side ms → (n : ℕ) → F n w → n ≤ beats ms w → Ended ms n w
  unfolding run happens played played_leaves
  exactly [] w m n d l = let e : n ≡ 0 = omega arith in ([], ([], (refl, (sym e, subst (λ (k : ℕ). F k w) e d))))
  exactly (attaches mover spins ∷ ms) w m n d l = absurd m
  exactly (plays (Turn mover) i o ∷ ms) w m n d l =
      subst (λ (τ : Side). n ≤ beats (plays (Turn τ) i o ∷ ms) w → Ended (plays (Turn τ) i o ∷ ms) n w) (sym m.0) (by (λ k u. exactly ms u m.1 k) n d (takes w side i o None) refl) l
    where
      by : ((k : ℕ) (u : World) → F k u → k ≤ beats ms u → Ended ms k u) → (n : ℕ) → F n w → (b : Bool) → takes w side i o None ≡ b → n ≤ beats (plays (Turn side) i o ∷ ms) w → Ended (plays (Turn side) i o ∷ ms) n w
      by go zero d b g l = ([], (plays (Turn side) i o ∷ ms, (refl, (refl, d))))
      by go (suc n) d false g l =
          after ms w i o (suc n) (suc n) (omega (arith, refused-count moves w i o g))
          (go (suc n) (turn_world w side i o None) (subst (F (suc n)) (sym (turn-refused w side i o None g)) d) (omega (arith, refused-count calling w i o g)))
      by go (suc n) d true g l =
          let move = moving n w d in
          after ms w i o n (suc n) (omega (arith, taken-count moves w i o g move))
          (go n (turn_world w side i o None) (turn n w d i o g) (omega (arith, taken-count calling w i o g (by-calling.all (stance_of (party_in w side).step) move))))
  exactly (plays (Failing mover e) i o ∷ ms) w m n d l = absurd m
  exactly (plays (Spurious mover) i o ∷ ms) w m n d l = absurd m
  exactly (plays (TimeOut mover) i o ∷ ms) w m n d l = absurd m
  exactly (plays (Push b t k) i o ∷ ms) w m n d l = absurd m
  exactly (plays (Pop b k) i o ∷ ms) w m n d l = absurd m
  exactly (plays (Close mover) i o ∷ ms) w m n d l = absurd m
  exactly (plays (Shutdown mover) i o ∷ ms) w m n d l = absurd m

  -- where the last turn moves too, so many turns leave so many fewer
  module _ (last : (w : World) → F 0 w → moves (stance_of (party_in w side).step) ≡ true) where
    always : (n : ℕ) (w : World) → F n w → moves (stance_of (party_in w side).step) ≡ true
    always zero w d = last w d
    always (suc n) w d = moving n w d

    pub counted-off : (ms : List Happening) (w : World) → Turns side ms → (n : ℕ) → F (ticks ms w + n) w → F n (run ms w)
    unfolding run happens played played_leaves
    counted-off [] w m n d = let e : 0 + n ≡ n = omega arith in subst (λ (k : ℕ). F k w) e d
    counted-off (attaches mover spins ∷ ms) w m n d = absurd m
    counted-off (plays (Turn mover) i o ∷ ms) w m n d =
        subst (λ (τ : Side). F (ticks (plays (Turn τ) i o ∷ ms) w + n) w → F n (run (plays (Turn τ) i o ∷ ms) w)) (sym m.0) (by (λ u. counted-off ms u m.1 n) (takes w side i o None) refl) d
      where
        by : ((u : World) → F (ticks ms u + n) u → F n (run ms u)) → (b : Bool) → takes w side i o None ≡ b → F (ticks (plays (Turn side) i o ∷ ms) w + n) w → F n (run ms (turn_world w side i o None))
        by go false g d =
            let k = ticks ms (turn_world w side i o None) in
            let e : counts moves w i o + k + n ≡ k + n = omega (arith, refused-count moves w i o g) in
            go (turn_world w side i o None) (subst (F (k + n)) (sym (turn-refused w side i o None g)) (subst (λ (j : ℕ). F j w) e d))
        by go true g d =
            let k = ticks ms (turn_world w side i o None) in
            let e : counts moves w i o + k + n ≡ suc (k + n) = omega (arith, taken-count moves w i o g (always _ w d)) in
            go (turn_world w side i o None) (turn (k + n) w (subst (λ (j : ℕ). F j w) e d) i o g)
    counted-off (plays (Failing mover e) i o ∷ ms) w m n d = absurd m
    counted-off (plays (Spurious mover) i o ∷ ms) w m n d = absurd m
    counted-off (plays (TimeOut mover) i o ∷ ms) w m n d = absurd m
    counted-off (plays (Push b t k) i o ∷ ms) w m n d = absurd m
    counted-off (plays (Pop b k) i o ∷ ms) w m n d = absurd m
    counted-off (plays (Close mover) i o ∷ ms) w m n d = absurd m
    counted-off (plays (Shutdown mover) i o ∷ ms) w m n d = absurd m
