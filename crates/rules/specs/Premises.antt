-- What the claims ask of a run, and what they ask of a world: the premises of document 01's demand 3.
use Rattle.std.specs.Prelude.{◌≡◌, Bool, true, List, [], ◌∷◌, ◌⊎◌, ℕ, ◌+◌, ◌^◌, ◌<◌, length, None, Some}
use Rattle.words.specs.Le.{le_at}
use Rattle.types.specs.Pick.{pick}
use Rattle.types.specs.declared.Side.{Side}
use Rattle.types.specs.declared.Side.TheVariants.{Sender, Recorder}
use Rattle.types.specs.Faults.{Fault}
use Rattle.types.specs.declared.Step.TheVariants.{Rest, Wait, Asleep}
use Rattle.types.specs.declared.Mark.TheVariants.{Shutdown as ShutMark}
use Rattle.types.specs.declared.Event.TheVariants.{Turn, Failing, Spurious, TimeOut, Push, Pop, Close, Shutdown}
use Rattle.layout.specs.Flags.{worth, bit_on, close_mark}
use Rattle.layout.specs.Header.{flags_at}
use Rattle.rules.specs.Sides.{same_side}
use Rattle.rules.specs.Next.{next_spec}
use Rattle.rules.specs.Turn.{error_of, woke_of}
use Rattle.rules.specs.Bench.{hears}
use Rattle.rules.specs.Run.{World, rung_of, Happening, attaches, plays, party_in, takes, happens}

-- a tag is a number of 16 bits; nothing else is asked of what happens
abbrev pub Typed : Happening → Type 0
Typed (attaches side spins) = Unit
Typed (plays (Turn side) payload lent) = Unit
Typed (plays (Failing side error) payload lent) = Unit
Typed (plays (Spurious side) payload lent) = Unit
Typed (plays (TimeOut side) payload lent) = Unit
Typed (plays (Push blocking tag length) payload lent) = tag < 2 ^ 16
Typed (plays (Pop blocking length) payload lent) = Unit
Typed (plays (Close side) payload lent) = Unit
Typed (plays (Shutdown side) payload lent) = Unit

abbrev pub AllTyped : List Happening → Type 0
AllTyped [] = Unit
AllTyped (h ∷ hs) = Typed h × AllTyped hs

-- The premises, for a side that waits. Its bell is raised fewer than 2^32 times between its look at it and its wait ..
abbrev pub rung : Side → World → ℕ
rung side w = rung_of side w.trace

abbrev pub Timely : Side → World → Type 0
Timely side w = (e : ℕ) → (party_in w side).step ≡ Wait e → rung side w < 2 ^ 32

-- .. and no wake call of the other's fails that would have woken it
abbrev pub Lands : (waiter mover : Side) → Fault → World → Type 0
Lands waiter mover fault w = hears waiter (woke_of (next_spec (party_in w mover)) 0) ≡ true → (party_in w waiter).step ≡ Asleep → error_of fault ≡ 0

-- what is asked of the waiter's own turn, and of the other's
abbrev pub FairTurnBy : (Asked : Side → World → Type 0) → (waiter mover : Side) → Fault → World → Type 0
FairTurnBy Asked Sender Sender fault w = Asked Sender w
FairTurnBy Asked Sender Recorder fault w = Lands Sender Recorder fault w
FairTurnBy Asked Recorder Sender fault w = Lands Recorder Sender fault w
FairTurnBy Asked Recorder Recorder fault w = Asked Recorder w

-- only a turn that is taken is asked anything
abbrev pub FairBy : (Asked : Side → World → Type 0) → (waiter : Side) → Happening → World → Type 0
FairBy Asked side (attaches mover spins) w = Unit
FairBy Asked side (plays (Turn mover) payload lent) w = takes w mover payload lent None ≡ true → FairTurnBy Asked side mover None w
FairBy Asked side (plays (Failing mover error) payload lent) w = takes w mover payload lent (Some error) ≡ true → FairTurnBy Asked side mover (Some error) w
FairBy Asked side (plays (Spurious mover) payload lent) w = Unit
FairBy Asked side (plays (TimeOut mover) payload lent) w = Unit
FairBy Asked side (plays (Push blocking tag length) payload lent) w = Unit
FairBy Asked side (plays (Pop blocking length) payload lent) w = Unit
FairBy Asked side (plays (Close mover) payload lent) w = Unit
FairBy Asked side (plays (Shutdown mover) payload lent) w = Unit

abbrev pub AllFairBy : (Asked : Side → World → Type 0) → (waiter : Side) → List Happening → World → Type 0
AllFairBy Asked side [] w = Unit
AllFairBy Asked side (h ∷ hs) w = FairBy Asked side h w × AllFairBy Asked side hs (happens h w)

-- both premises
abbrev pub FairTurn : (waiter mover : Side) → Fault → World → Type 0
FairTurn = FairTurnBy Timely

abbrev pub Fair : (waiter : Side) → Happening → World → Type 0
Fair = FairBy Timely

abbrev pub AllFair : (waiter : Side) → List Happening → World → Type 0
AllFair = AllFairBy Timely

-- the wakes alone
abbrev pub AllLand : (waiter : Side) → List Happening → World → Type 0
AllLand = AllFairBy (λ side w. Unit)

-- closes and shutdowns that a side asks for: these alone ring without a look at the ring, so only they can ring a waiter often
abbrev pub parting : Side → Happening → ℕ
parting side (attaches mover spins) = 0
parting side (plays (Turn mover) payload lent) = 0
parting side (plays (Failing mover error) payload lent) = 0
parting side (plays (Spurious mover) payload lent) = 0
parting side (plays (TimeOut mover) payload lent) = 0
parting side (plays (Push blocking tag length) payload lent) = 0
parting side (plays (Pop blocking length) payload lent) = 0
parting side (plays (Close mover) payload lent) = pick (same_side side mover) 1 0
parting side (plays (Shutdown mover) payload lent) = pick (same_side side mover) 1 0

abbrev pub partings : Side → List Happening → ℕ
partings side [] = 0
partings side (h ∷ hs) = parting side h + partings side hs

-- a party between calls or asleep
abbrev pub Quiet : Side → World → Type 0
Quiet side w = ((party_in w side).step ≡ Rest) ⊎ ((party_in w side).step ≡ Asleep)

-- shut down, and closed, in the region's flags
abbrev pub down : World → Bool
down w = bit_on (worth ShutMark) (le_at 4 w.region flags_at)

abbrev pub closed_bit : Side → World → Bool
closed_bit side w = bit_on (worth (close_mark side)) (le_at 4 w.region flags_at)
