use mathlib.Core.Path.{sym, ap, ◌∙◌}
use Prim.Native.Nat.{ℕ}
use native.Mathlib.Omega.{arith}
use Rattle.layout.specs.Limits.{payload_capacity}
use Rattle.layout.proofs.SizeLaws.{payload-in}
use Rattle.rules.specs.Looks.{fit_of}
use Rattle.rules.proofs.FitLaws.{fit-good}
use Rattle.copies.proofs.Room.{place_in, head_in}
use Rattle.copies.proofs.read_slot.Goals as goal

pub head_at-word-requires : goal.head_at-word-requires
head_at-word-requires c =
    (head_in c.requires.0, omega (arith, c.place-at.ensures, place_in c.requires.0 c.args.count))

pub payload_at-requires : goal.payload_at-requires
payload_at-requires c =
    let a = c.args in
    let h = c.head_of-head.result in
    let f = c.in-Fits.ensures ∙ ap (λ (m : ℕ). fit_of h m a.named) c.payload_capacity-most.ensures in
    let w = fit-good h (payload_capacity a.own.slot) a.named (sym f) in
    rw c.from.ensures (payload-in a.own.slot c.requires.0.slot-in h.length w.0, omega (arith, c.place-at.ensures, place_in c.requires.0 a.count), omega (arith, c.requires.1))
