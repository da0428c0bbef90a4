-- What a turn leaves of the buffer that it is lent.
use mathlib.Core.Path.{◌≡◌, refl, sym, ap, ◌∙◌, subst}
use mathlib.Core.Bool.{Bool, true, false}
use mathlib.Core.List.{List, [], ◌∷◌, ◌++◌}
use Prim.Native.Nat.{ℕ, suc}
use native.Mathlib.Omega.{arith}
use lib.ListN.{length, take, drop}
use Rattle.types.specs.declared.Side.{Side}
use Rattle.types.specs.declared.Side.TheVariants.{Recorder}
use Rattle.types.specs.declared.Own.{Own}
use Rattle.types.specs.declared.Party.{Party}
use Rattle.types.specs.Faults.{Fault}
use Rattle.types.specs.declared.Fit.{Fit}
use Rattle.types.specs.declared.Fit.TheVariants.{Bad, Small, Fits}
use Rattle.types.specs.declared.Access.{Access}
use Rattle.types.specs.declared.Step.{Step}
use Rattle.types.specs.declared.Step.TheVariants.{Copy, Publish, Check, Wake, CloseSet, CloseWake, ShutWakeNf}
use Rattle.types.specs.declared.Answer.{Answer}
use Rattle.types.specs.declared.Answer.TheVariants.{Done, GoesOn}
use Rattle.layout.specs.Limits.{power_ok, slot_ok, payload_capacity}
use Rattle.layout.specs.Slots.{head_of}
use Rattle.rules.specs.Looks.{fit_of}
use Rattle.rules.specs.Next.{next_at, next_spec}
use Rattle.rules.specs.Access.{value_of, buffer_of}
use Rattle.rules.specs.Turn.{act_buffer, turn_buffer}
use Rattle.rules.specs.Given.{published, checked, woke, closed-alone, closed, shut, bad-slot, too_small, turn, Given, turn-taken}
use Rattle.rules.specs.Run.{Note, Trace, World, Happening, plays, party_in, takes, traced, happens}
use Rattle.rules.specs.Premises.{AllTyped}
use Rattle.rules.specs.Phase.{leaving, phase}
use Rattle.rules.specs.Claims.{turn_of, Delivering, publishes, checks, wakes, Fresh, reached}
use Rattle.rules.specs.Anywhere.{told}
use Rattle.rules.specs.Meaning.{gave, Published, call_of, FillsStart, KeepsBuffer, DoneHolds}
use Rattle.rules.proofs.Answered.{given-only}
use Rattle.rules.proofs.Does.{Does, does, nothing, looks, flags, reads, writes, takes as take-slot, stores, raises, closes, shuts, waits, wakes as wake}
use Rattle.rules.proofs.Leaving.{buffer-is}
use Rattle.rules.proofs.Copies.{filled}
use Rattle.rules.proofs.Fits.{first-waits}
use Rattle.rules.proofs.RealTurn.{own_is, counter-is, access-is}
use Rattle.rules.proofs.RealRun.{power-fits, slot-fits, real-reached}
use Rattle.rules.proofs.Delivers.{done-carries}
use Rattle.rules.proofs.Meant.{meant-reached, Under}
use Rattle.rules.proofs.Meaning.{row}
use Rattle.rules.proofs.Truths.{some, in-slot, head-here, trace-at, one-or-none}
use Rattle.rules.proofs.Real.{nth, note_head}

-- the last of a list
abbrev last_of : Note → List Note → Note
last_of d [] = d
last_of d (n ∷ ns) = last_of n ns

last-is : (d : Note) (ns : List Note) (n : Note) → last_of d (ns ++ (n ∷ [])) ≡ n
last-is d [] n = refl
last-is d (m ∷ ns) n = last-is m ns n

same-last : (ns ms : List Note) (n m : Note) → ns ++ (n ∷ []) ≡ ms ++ (m ∷ []) → n ≡ m
same-last ns ms n m e = sym (last-is n ns n) ∙ ap (last_of n) e ∙ last-is n ms m

-- every access but a pop's copy leaves the buffer
buffer-kept : (r : List ℕ) (own : Own) (named : ℕ) (lent : List ℕ) (side : Side) (n : ℕ) (s : Step) (a : Access) → Does side n s a → (side ≡ Recorder → s ≡ Copy → ⊥) → buffer_of r own a named lent ≡ lent
unfolding buffer_of
buffer-kept r own named lent side n s a (nothing q) h = refl
buffer-kept r own named lent side n s a (looks q) h = refl
buffer-kept r own named lent side n s a (flags q) h = refl
buffer-kept r own named lent side n s a reads h = refl
buffer-kept r own named lent side n s a (writes q) h = refl
buffer-kept r own named lent side n s a (take-slot q) h = absurd (h q refl)
buffer-kept r own named lent side n s a stores h = refl
buffer-kept r own named lent side n s a (raises q b) h = refl
buffer-kept r own named lent side n s a closes h = refl
buffer-kept r own named lent side n s a shuts h = refl
buffer-kept r own named lent side n s a waits h = refl
buffer-kept r own named lent side n s a (wake q b m) h = refl

module _ (r : List ℕ) (P S : ℕ) (on : Bool) (v : ℕ) (fresh : Fresh r P S on v) where
  abbrev power-ok : power_ok P ≡ true
  power-ok = power-fits r P S on v fresh

  abbrev slot_ok_lem : slot_ok S ≡ true
  slot_ok_lem = slot-fits r P S on v fresh

  pub keeps-buffer : (side : Side) → KeepsBuffer r P S on v side
  unfolding turn_buffer act_buffer
  keeps-buffer side hs t payload lent fault n = by (takes (reached r P S on v hs) side payload lent fault) refl
    where
      by : (b : Bool) → takes (reached r P S on v hs) side payload lent fault ≡ b → turn_buffer side (reached r P S on v hs).region (party_in (reached r P S on v hs) side) payload lent fault ≡ lent
      by false g = rw g
      by true g =
          let w = reached r P S on v hs in
          let p = party_in w side in
          buffer-is side w.region p payload lent fault g
          ∙ ap (λ (a : Access). buffer_of w.region p.own a p.length lent) (access-is P S v on power-ok slot_ok_lem w (real-reached r P S on v fresh hs t) side payload lent fault g)
          ∙ buffer-kept w.region p.own p.length lent side p.counter p.step _ (does side p.counter p.step) n

  pub fills-start : FillsStart r P S on v
  unfolding act_buffer
  fills-start hs t payload lent fault s e = by (row Recorder (reached r P S on v hs) payload lent fault GoesOn e)
    where
      by : Given (turn Recorder (reached r P S on v hs).region (party_in (reached r P S on v hs) Recorder) payload lent fault) GoesOn
          → (n : Note) × ((rest : List Note) × (((reached r P S on v hs).trace.sent ≡ (reached r P S on v hs).trace.delivered ++ (n ∷ rest))
          × (turn_buffer Recorder (reached r P S on v hs).region (party_in (reached r P S on v hs) Recorder) payload lent fault ≡ n.body ++ drop (length n.body) lent)))
      by (turn-taken g m) =
          let w = reached r P S on v hs in
          let p = party_in w Recorder in
          let real = real-reached r P S on v fresh hs t in
          let value = value_of w.region p.own (next_spec p) in
          let o = own_is P S v on power-ok slot_ok_lem w real Recorder payload lent fault g in
          let c = counter-is P S v on power-ok slot_ok_lem w real Recorder payload lent fault g in
          let held = in-slot r P S on v fresh hs t Recorder payload lent fault g s refl in
          let first = nth w.trace.sent (length w.trace.delivered) in
          let good : fit_of (note_head first) (payload_capacity p.own.slot) p.length ≡ Fits =
          rw (head-here r P S on v fresh hs t Recorder payload lent fault g s refl) at (fit g (ap (λ (x : Own). x.side) o) (fit_of (head_of value) (payload_capacity p.own.slot) p.length) refl) in (
            first,
            (
              drop (suc (length w.trace.delivered)) w.trace.sent,
              (
                first-waits P S v on power-ok slot_ok_lem w real (some r P S on v fresh hs t Recorder payload lent fault g s refl),
                buffer-is Recorder w.region p payload lent fault g
                    ∙ ap (λ (a : Access). buffer_of w.region p.own a p.length lent) (access-is P S v on power-ok slot_ok_lem w real Recorder payload lent fault g ∙ ap (λ (x : Step). next_at x Recorder p.counter) s)
                    ∙ filled P S v on power-ok slot_ok_lem w.region real.fixed w.trace p.own p.counter o c first held p.length lent good,
              ),
            ),
          )
        where
          fit : takes (reached r P S on v hs) Recorder payload lent fault ≡ true → (party_in (reached r P S on v hs) Recorder).own.side ≡ Recorder → (f : Fit)
              → fit_of (head_of (value_of (reached r P S on v hs).region (party_in (reached r P S on v hs) Recorder).own (next_spec (party_in (reached r P S on v hs) Recorder)))) (payload_capacity (party_in (reached r P S on v hs) Recorder).own.slot) (party_in (reached r P S on v hs) Recorder).length ≡ f
              → fit_of (head_of (value_of (reached r P S on v hs).region (party_in (reached r P S on v hs) Recorder).own (next_spec (party_in (reached r P S on v hs) Recorder)))) (payload_capacity (party_in (reached r P S on v hs) Recorder).own.slot) (party_in (reached r P S on v hs) Recorder).length ≡ Fits
          fit g o Bad q = absurd (let h = sym (given-only (turn-taken g (bad-slot s o q))) ∙ e in let z : ◌≡◌ {A = ℕ} 0 1 = cc in omega arith)
          fit g o Small q = absurd (let h = sym (given-only (turn-taken g (too_small s o q))) ∙ e in let z : ◌≡◌ {A = ℕ} 0 1 = cc in omega arith)
          fit g o Fits q = q

  module _ (hs : List Happening) (t : AllTyped hs) (payload lent : List ℕ) (fault : Fault) (k : (call_of r P S on v Recorder hs).last ≡ true) (same : lent ≡ (reached r P S on v hs).trace.buffer) where
    abbrev w : World
    w = reached r P S on v hs

    abbrev p : Party
    p = party_in w Recorder

    abbrev u : World
    u = happens (plays (turn_of Recorder fault) payload lent) w

    abbrev left : List ℕ
    left = turn_buffer Recorder w.region p payload lent fault

    abbrev Holds : ℕ → ℕ → Type 0
    Holds l i = (n : Note) × ((u.trace.delivered ≡ (call_of r P S on v Recorder hs).before ++ (n ∷ [])) × ((n.tag ≡ i) × ((length n.body ≡ l) × (take l left ≡ n.body))))

    -- at a step that has its note
    holds : {l i : ℕ} (s : Step) → p.step ≡ s → Delivering s → (s ≡ Copy → ⊥) → takes w Recorder payload lent fault ≡ true → told Recorder w payload lent fault ≡ Done l i → u.trace.buffer ≡ w.trace.buffer → Holds l i
    holds {l} {i} s at d not g e b =
        let c = done-carries r P S on v fresh hs t payload lent fault l i g (subst Delivering (sym at) d) e in
        let o = subst (λ (x : Answer). Published (gave Recorder x) Recorder (call_of r P S on v Recorder hs) u) e (one-or-none r P S on v fresh Recorder hs t payload lent fault k (rw e (omega arith))) in
        let n = c.1.0 in
        let q : o.0 ≡ n = same-last (call_of r P S on v Recorder hs).before c.0 o.0 n (sym o.1.0 ∙ c.1.1.0) in
        let keep : left ≡ u.trace.buffer = keeps-buffer Recorder hs t payload lent fault (λ z f. not (sym at ∙ f)) ∙ same ∙ sym b in
        (n, (o.1.0 ∙ ap (λ (x : Note). (call_of r P S on v Recorder hs).before ++ (x ∷ [])) q, (c.1.1.1.0, (c.1.1.1.1.0, ap (take l) keep ∙ c.1.1.1.1.1))))

    no_call : (s : Step) → p.step ≡ s → phase s ≡ leaving → {A : Type 0} → A
    no_call s e f =
        absurd (let y : (call_of r P S on v Recorder hs).last ≡ false = rw f at (subst (λ (x : Step). Under Recorder (phase x) (call_of r P S on v Recorder hs) w.trace) e (meant-reached r P S on v fresh Recorder hs t).under) in
        let h = sym y ∙ k in let z : ◌≡◌ {A = ℕ} 0 1 = cc in omega arith)

    buffer-at : (s : Step) → p.step ≡ s → (g : takes w Recorder payload lent fault ≡ true) → u.trace.buffer ≡ (traced (next_at s Recorder p.counter) p payload (buffer_of w.region p.own (next_at p.step Recorder p.counter) p.length lent) w.trace).buffer
    buffer-at s e g = ap (λ (x : Trace). x.buffer) (trace-at r P S on v fresh hs t Recorder payload lent fault g s e)

    by_row : {l i : ℕ} → Given (turn Recorder w.region p payload lent fault) (Done l i) → told Recorder w payload lent fault ≡ Done l i → Holds l i
    by_row (turn-taken g (published {l = l} {t = i} s q)) e = holds (Publish l i) s publishes (λ z. let x : ◌≡◌ {A = ℕ} 0 1 = cc in omega arith) g e (buffer-at (Publish l i) s g)
    by_row (turn-taken g (checked {l = l} {t = i} s q)) e = holds (Check l i) s checks (λ z. let x : ◌≡◌ {A = ℕ} 0 1 = cc in omega arith) g e (buffer-at (Check l i) s g)
    by_row (turn-taken g (woke {l = l} {t = i} s q)) e = holds (Wake l i) s wakes (λ z. let x : ◌≡◌ {A = ℕ} 0 1 = cc in omega arith) g e (buffer-at (Wake l i) s g)
    by_row (turn-taken g (closed-alone s q)) e = no_call CloseSet s refl
    by_row (turn-taken g (closed s q)) e = no_call CloseWake s refl
    by_row (turn-taken g (shut {first} s a z)) e = no_call (ShutWakeNf false first) s refl

  pub done-holds : DoneHolds r P S on v
  done-holds hs t payload lent fault l i k same e = by_row hs t payload lent fault k same (row Recorder (reached r P S on v hs) payload lent fault (Done l i) e) e
