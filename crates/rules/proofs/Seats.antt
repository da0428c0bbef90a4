-- A turn keeps the seats and the epochs, of the party that moves and of the other.
use mathlib.Core.Path.{◌≡◌, refl, sym, ap, ◌∙◌}
use mathlib.Core.Bool.{Bool, true, false, ◌&&◌}
use mathlib.Core.List.{List}
use mathlib.Core.Logic.{◌⊎◌, inl, inr, ⊎_elim}
use Prim.Native.Nat.{ℕ, ◌+◌, ◌%◌, ◌^◌, ◌<◌}
use native.Mathlib.Omega.{arith}
use native.Mathlib.Nat.{mod-add-mod, mod-mod, add-zero, add_assoc}
use Rattle.std.specs.Cmp.{second_so}
use Rattle.words.specs.Le.{le_at}
use Rattle.words.specs.Wrap.{plus, next}
use Rattle.types.specs.Pick.{pick}
use Rattle.types.specs.declared.Side.{Side}
use Rattle.types.specs.declared.Side.TheVariants.{Sender, Recorder}
use Rattle.types.specs.declared.Bell.TheVariants.{NotEmpty, NotFull}
use Rattle.types.specs.declared.Own.{Own}
use Rattle.types.specs.declared.Party.{Party}
use Rattle.types.specs.Faults.{Woke}
use Rattle.types.specs.declared.Mark.TheVariants.{Shutdown as ShutMark}
use Rattle.types.specs.declared.Door.TheVariants.{Shut, Left, Open}
use Rattle.types.specs.declared.Step.{Step}
use Rattle.types.specs.declared.Step.TheVariants.{Rest, Look, Spin, Epoch, Asleep, LastLook}
use Rattle.types.specs.declared.Access.{Access}
use Rattle.layout.specs.Flags.{worth, bit_on, close_mark}
use Rattle.layout.specs.Header.{flags_at, bell_at}
use Rattle.rules.specs.Sides.{other, sleep_bell}
use Rattle.rules.specs.Looks.{door_of}
use Rattle.rules.specs.Take.{stance_of, counter_after, closed_after}
use Rattle.rules.specs.Next.{next_at}
use Rattle.rules.specs.Calls.{is_sleeping, at}
use Rattle.rules.specs.Access.{leaves_of}
use Rattle.rules.specs.Bench.{hears, wakened}
use Rattle.rules.specs.Run.{Trace, traced, rung_of}
use Rattle.rules.specs.Phase.{Phase, resting, looking, copying, publishing, telling, asking, armed, poised, waits, sleeps as asleep, glancing, leaving, phase}
use Rattle.rules.proofs.Views.{sleeping-step}
use Rattle.rules.proofs.After.{bell_by, bell-after}
use Rattle.rules.proofs.Does.{Does, nothing, looks, flags, reads as epoch, writes, takes, stores as store, raises as ring, closes as close, shuts as shut, waits as wait, wakes as wake}
use Rattle.rules.proofs.Leads.{Sight, asks, Leads, idles, finds, blocks, gives_up, copies, spills, tells, stores, owes, passes, raises, wakes, enters, stops, finds-spin, spins, reads, finds-again, stays, enters-again, stops-again, sleeps, returns, ends, dreams, glances, glances-again, times-out, finds-last, finds-none, closes, closes-alone, close-raises, close-wakes, shuts, shut-raises, shut-wakes, shut-raises-again, shut-wakes-again}
use Rattle.rules.proofs.Parting.{parts-on, glances-left, spins-on, closed-by}
use Rattle.rules.proofs.Kept.{header-in, flag_up, flags-are, attach-bit, close-bit-own, close-bit-other, counts-own, counts-other}
use Rattle.rules.proofs.Real.{parts, Since, Seated, Fixed}

-- a party after a turn at s that leads to the next step
abbrev pub moved : Party → Step → Step → Party
moved p s next =
    record {
      own = p.own;
      closed = closed_after (stance_of s) p.closed;
      counter = counter_after (stance_of s) p.counter;
      blocking = p.blocking;
      tag = p.tag;
      length = p.length;
      step = next;
    }

-- a party that a wake may have reached: at most its sleep is over
pub record Roused (q r : Party) : Type 0 where
  pub own : r.own ≡ q.own
  pub closed : r.closed ≡ q.closed
  pub counter : r.counter ≡ q.counter
  pub blocking : r.blocking ≡ q.blocking
  pub step : (r.step ≡ q.step) ⊎ ((q.step ≡ Asleep) × (r.step ≡ Look))

pub roused : (side : Side) (q : Party) (w : Woke) → Roused q (wakened side q w)
unfolding wakened
roused side q w = by (hears side w && is_sleeping (stance_of q.step)) refl
  where
    by : (b : Bool) → (hears side w && is_sleeping (stance_of q.step)) ≡ b → Roused q (pick b (at Look q) q)
    by true e =
        record {
          own = refl;
          closed = refl;
          counter = refl;
          blocking = refl;
          step = inr (sleeping-step q.step (second_so (hears side w) (is_sleeping (stance_of q.step)) e), refl);
        }
    by false e = record { own = refl; closed = refl; counter = refl; blocking = refl; step = inl refl }

-- the other's close alone
left-bit : (side : Side) (f : ℕ) → door_of side f ≡ Left → bit_on (worth (close_mark (other side))) f ≡ true
unfolding door_of
left-bit side f e = by (bit_on (worth ShutMark) f) (bit_on (worth (close_mark (other side))) f) e
  where
    by : (a c : Bool) → pick a Shut (pick c Left Open) ≡ Left → c ≡ true
    by true c e = absurd (let z : ◌≡◌ {A = ℕ} 0 1 = cc in omega arith)
    by false true e = refl
    by false false e = absurd (let z : ◌≡◌ {A = ℕ} 0 1 = cc in omega arith)

-- what holds of the step as it was, and of a look, holds of a roused party's
pub roused-elim : {q r : Party} → Roused q r → (F : Step → Type 0) → F q.step → (q.step ≡ Asleep → F Look) → F r.step
roused-elim {q} {r} h F x y = by h.step
  where
    by : (r.step ≡ q.step) ⊎ ((q.step ≡ Asleep) × (r.step ≡ Look)) → F r.step
    by (inl e) = rw e x
    by (inr e) = rw e.1 (y e.0)

-- a bell raised once more
one_more : (e bell n : ℕ) → bell % 2 ^ 32 ≡ plus 32 e n → next 32 bell % 2 ^ 32 ≡ plus 32 e (n + 1)
unfolding plus
one_more e bell n h =
    mod-mod (bell + 1) (2 ^ 32) ∙ sym (mod-add-mod bell (2 ^ 32) 1) ∙ ap (λ (x : ℕ). (x + 1) % 2 ^ 32) h ∙ mod-add-mod (e + n) (2 ^ 32) 1 ∙ ap (λ (x : ℕ). x % 2 ^ 32) (add_assoc e n 1)

since-raised : (ph : Phase) (bell n : ℕ) → Since ph bell n → Since ph (next 32 bell) (n + 1)
since-raised resting bell n h = tt
since-raised looking bell n h = tt
since-raised copying bell n h = tt
since-raised (publishing l t) bell n h = tt
since-raised (telling l t) bell n h = tt
since-raised asking bell n h = tt
since-raised (armed e) bell n h = one_more e bell n h
since-raised (poised e) bell n h = one_more e bell n h
since-raised (waits e) bell n h = one_more e bell n h
since-raised asleep bell n h = tt
since-raised glancing bell n h = tt
since-raised leaving bell n h = tt

module _ (P S v : ℕ) (on : Bool) (r : List ℕ) (p : Party) (payload : List ℕ) (fixed : Fixed P S v on r) (t : Trace) (buffer : List ℕ) where
  abbrev left : Access → List ℕ
  left a = leaves_of r p.own a p.tag payload

  abbrev told : Access → Trace
  told a = traced a p payload buffer t

  pub seated-own : (side : Side) (g : Sight) → g.door ≡ door_of side (le_at 4 r flags_at) → g.spins ≡ p.own.spins → (s next : Step) (a : Access) → p.step ≡ s → p.own.attached ≡ true → Does side p.counter s a
      → Leads g s next → Seated P S v on side p t (le_at 4 r flags_at) → Seated P S v on side (moved p s next) (told a) (le_at 4 (left a) flags_at)
  seated-own side g door count s next a at here d leads h =
      rw (flags-are P S v on r p payload fixed a) record {
        closed-bit = close-bit-own side p.counter s a (le_at 4 r flags_at) fixed.small d ∙ ap (closed_after (stance_of s)) h.closed-bit;
        attached-bit = attach-bit side side p.counter s a (le_at 4 r flags_at) fixed.small d ∙ h.attached-bit;
        in_place = λ e. ((h.in_place e).0, ap (counter_after (stance_of s)) (h.in_place e).1 ∙ counts-own P S v on r p payload fixed t buffer side s a d);
        empty = λ e. absurd (let z : ◌≡◌ {A = ℕ} 0 1 = cc in omega arith);
        over = λ e. parts-on g s next leads (⊎_elim (λ q. sym (ap (λ (u : Step). parts (phase u)) at) ∙ h.over (sym q ∙ e)) (ap (λ (u : Step). parts (phase u))) (closed-by side p.counter s a d p.closed));
        few = h.few;
        spun = λ n. rw (sym count) (spins-on g s next leads (λ i q. rw count (h.spun i (at ∙ q))) n);
        heard = λ e. flag_up a (le_at 4 r flags_at) fixed.small (close_mark (other side)) (left-bit side (le_at 4 r flags_at) (sym door ∙ glances-left g s next leads e));
      }

  pub seated-other : (side : Side) (s : Step) (a : Access) (q q' : Party) → Roused q q' → Does side p.counter s a
      → Seated P S v on (other side) q t (le_at 4 r flags_at) → Seated P S v on (other side) q' (told a) (le_at 4 (left a) flags_at)
  seated-other side s a q q' o d h =
      rw (flags-are P S v on r p payload fixed a) record {
        closed-bit = close-bit-other side p.counter s a (le_at 4 r flags_at) fixed.small d ∙ h.closed-bit ∙ sym o.closed;
        attached-bit = attach-bit (other side) side p.counter s a (le_at 4 r flags_at) fixed.small d ∙ h.attached-bit ∙ ap (λ (x : Own). x.attached) (sym o.own);
        in_place = λ e.
            let k = h.in_place (ap (λ (x : Own). x.attached) (sym o.own) ∙ e) in
            (rw o.own k.0, o.counter ∙ k.1 ∙ ap (plus 64 v) (sym (counts-other P S v on r p payload fixed t buffer side s a d)));
        empty = λ e.
            let k = h.empty (ap (λ (x : Own). x.attached) (sym o.own) ∙ e) in
            (roused-elim o (λ u. u ≡ Rest) k.0 (λ z. absurd (let y : ◌≡◌ {A = ℕ} 0 1 = cc in omega arith)), o.closed ∙ k.1);
        over = λ e.
            let k = h.over (sym o.closed ∙ e) in
            roused-elim o (λ u. parts (phase u) ≡ true) k (λ z. absurd (let y = sym k ∙ ap (λ (u : Step). parts (phase u)) z in let x : ◌≡◌ {A = ℕ} 0 1 = cc in omega arith));
        few = rw o.own h.few;
        spun = λ n. rw o.own (roused-elim o (λ u. u ≡ Spin n → n < q.own.spins) (h.spun n) (λ z w. absurd (let y : ◌≡◌ {A = ℕ} 0 1 = cc in omega arith)));
        heard = λ e.
            flag_up a (le_at 4 r flags_at) fixed.small (close_mark (other (other side)))
            (roused-elim o (λ u. u ≡ LastLook false → bit_on (worth (close_mark (other (other side)))) (le_at 4 r flags_at) ≡ true) h.heard (λ z w. absurd (let y : ◌≡◌ {A = ℕ} 0 1 = cc in omega arith)) e);
      }

  -- the own bell after an access that does not raise it
  bell-own : (side : Side) (a : Access) → bell_by a (sleep_bell side) (le_at 4 r (bell_at (sleep_bell side))) ≡ le_at 4 r (bell_at (sleep_bell side))
      → le_at 4 (left a) (bell_at (sleep_bell side)) ≡ le_at 4 r (bell_at (sleep_bell side))
  bell-own side a e = bell-after r p.own p.tag payload (header-in P S v on r p payload fixed) (sleep_bell side) a ∙ e

  epoch-read : (b : ℕ) → b % 2 ^ 32 ≡ plus 32 (b % 2 ^ 32) 0
  unfolding plus
  epoch-read b = sym (ap (λ (x : ℕ). x % 2 ^ 32) (add-zero (b % 2 ^ 32)) ∙ mod-mod b (2 ^ 32))

  rung-anew : (side : Side) → rung_of side (told (next_at Epoch side p.counter)) ≡ 0
  rung-anew Sender = refl
  rung-anew Recorder = refl

  pub since-own : (side : Side) (g : Sight) → g.bell ≡ le_at 4 r (bell_at (sleep_bell side)) → (s next : Step) → Leads g s next
      → Since (phase s) (le_at 4 r (bell_at (sleep_bell side))) (rung_of side t)
      → Since (phase next) (le_at 4 (left (next_at s side p.counter)) (bell_at (sleep_bell side))) (rung_of side (told (next_at s side p.counter)))
  since-own side g at s next idles y = tt
  since-own side g at s next (finds h) y = tt
  since-own side g at s next (blocks h q) y = tt
  since-own side g at s next (gives_up h q) y = tt
  since-own side g at s next copies y = tt
  since-own side g at s next spills y = tt
  since-own side g at s next (tells h) y = tt
  since-own side g at s next (stores h) y = tt
  since-own side g at s next (owes h) y = tt
  since-own side g at s next (passes h) y = tt
  since-own side g at s next raises y = tt
  since-own side g at s next wakes y = tt
  since-own side g at s next (enters h o) y = rw (asks _ _ o) tt
  since-own side g at s next (finds-spin h) y = tt
  since-own side g at s next (spins h o) y = rw (asks _ _ o) tt
  since-own side g at s next (stops h u) y = tt
  since-own side g at s next reads y = rw (at, bell-own side (next_at Epoch side p.counter) refl, rung-anew side) (epoch-read (le_at 4 r (bell_at (sleep_bell side))))
  since-own side g at s next (finds-again h) y = tt
  since-own side g at s next (stays h) y = rw (bell-own side (next_at s side p.counter) refl) y
  since-own side g at s next (enters-again h) y = rw (bell-own side (next_at s side p.counter) refl) y
  since-own side g at s next (stops-again h u) y = tt
  since-own side g at s next (sleeps h) y = tt
  since-own side g at s next returns y = tt
  since-own side g at s next ends y = tt
  since-own side g at s next dreams y = tt
  since-own side g at s next (glances h u) y = tt
  since-own side g at s next (glances-again h u) y = tt
  since-own side g at s next times-out y = tt
  since-own side g at s next (finds-last h) y = tt
  since-own side g at s next (finds-none h) y = tt
  since-own side g at s next (closes h) y = tt
  since-own side g at s next (closes-alone h) y = tt
  since-own side g at s next close-raises y = tt
  since-own side g at s next close-wakes y = tt
  since-own side g at s next shuts y = tt
  since-own side g at s next shut-raises y = tt
  since-own side g at s next shut-wakes y = tt
  since-own side g at s next shut-raises-again y = tt
  since-own side g at s next shut-wakes-again y = tt

  -- the other's bell and its count of raises go together
  pub since-other : (side : Side) (s : Step) (a : Access) (ph : Phase) → Does side p.counter s a
      → Since ph (le_at 4 r (bell_at (sleep_bell (other side)))) (rung_of (other side) t)
      → Since ph (le_at 4 (left a) (bell_at (sleep_bell (other side)))) (rung_of (other side) (told a))
  since-other side s a ph d y =
      rw (bell-after r p.own p.tag payload (header-in P S v on r p payload fixed) (sleep_bell (other side)) a) (by side s a d y)
    where
      by : (side : Side) (s : Step) (a : Access) → Does side p.counter s a → Since ph (le_at 4 r (bell_at (sleep_bell (other side)))) (rung_of (other side) t)
          → Since ph (bell_by a (sleep_bell (other side)) (le_at 4 r (bell_at (sleep_bell (other side))))) (rung_of (other side) (told a))
      by side s a (nothing q) y = y
      by side s a (looks q) y = y
      by side s a (flags q) y = y
      by Sender s a epoch y = y
      by Recorder s a epoch y = y
      by Sender s a (writes q) y = y
      by Recorder s a (writes q) y = y
      by Sender s a (takes q) y = y
      by Recorder s a (takes q) y = y
      by Sender s a store y = y
      by Recorder s a store y = y
      by Sender s a (ring q NotEmpty) y = since-raised ph (le_at 4 r (bell_at NotEmpty)) t.rung_recorder y
      by Sender s a (ring q NotFull) y = y
      by Recorder s a (ring q NotEmpty) y = y
      by Recorder s a (ring q NotFull) y = since-raised ph (le_at 4 r (bell_at NotFull)) t.rung_sender y
      by side s a close y = y
      by side s a shut y = y
      by side s a wait y = y
      by side s a (wake q b n) y = y
