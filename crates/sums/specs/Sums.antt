-- Bytes, parties and answers summed up in a number, so that a report shows whether anything changed.
use Rattle.std.specs.Prelude.{Bool, true, false, List, ℕ, ◌+◌, ◌*◌, ◌/◌, ◌%◌, ◌^◌, fold}
use Rattle.types.specs.Answers.{told_of}
use Rattle.types.specs.declared.Side.{Side}
use Rattle.types.specs.declared.Side.TheVariants.{Sender, Recorder}
use Rattle.types.specs.declared.Step.{Step}
use Rattle.types.specs.declared.Step.TheVariants.{Rest, Look, Copy, Publish, Check, Raise, Wake, Gate, Spin, Epoch, Again, GateAgain, Wait, Asleep, LastLook, CloseSet, CloseRaise, CloseWake, ShutSet, ShutRaiseNe, ShutWakeNe, ShutRaiseNf, ShutWakeNf}
use Rattle.types.specs.declared.Own.{Own}
use Rattle.types.specs.declared.Party.{Party}
use Rattle.types.specs.declared.Told.{Told}
use Rattle.types.specs.declared.Reply.{Reply}

-- a sum has 32 bits, since two of them make a word of a report. The factor is odd, so that one changed value always shows;
-- the 1 lets a zero count, so that more zeros show too
unfoldable pub mix : (sum x : ℕ) → ℕ
mix sum x = (sum * 0x1000193 + x + 1) % 2 ^ 32

-- a word goes in by halves, for a sum takes 32 bits at a time
unfoldable pub mix_wide : (sum x : ℕ) → ℕ
mix_wide sum x = mix (mix sum (x % 2 ^ 32)) (x / 2 ^ 32)

-- each byte in its turn, so that the order shows
unfoldable pub mix_bytes : (sum : ℕ) → List ℕ → ℕ
mix_bytes sum s = fold mix sum s

-- two numbers of 32 bits as one word of a report
unfoldable pub pair : (low high : ℕ) → ℕ
pair low high = low + high * 2 ^ 32

abbrev pub whose : Side → ℕ
whose Sender = 0
whose Recorder = 1

abbrev pub bit : Bool → ℕ
bit true = 1
bit false = 0

-- a step by its number alone: what it carries shows in what comes of it
abbrev pub stand_of : Step → ℕ
stand_of Rest = 0
stand_of Look = 1
stand_of Copy = 2
stand_of (Publish length tag) = 3
stand_of (Check length tag) = 4
stand_of (Raise length tag) = 5
stand_of (Wake length tag) = 6
stand_of Gate = 7
stand_of (Spin left) = 22
stand_of Epoch = 8
stand_of (Again epoch) = 9
stand_of (GateAgain epoch) = 10
stand_of (Wait epoch) = 11
stand_of Asleep = 12
stand_of (LastLook timed) = 21
stand_of CloseSet = 13
stand_of CloseRaise = 14
stand_of CloseWake = 15
stand_of (ShutSet corrupt) = 16
stand_of (ShutRaiseNe corrupt) = 17
stand_of (ShutWakeNe corrupt) = 18
stand_of (ShutRaiseNf corrupt error) = 19
stand_of (ShutWakeNf corrupt error) = 20

-- every field of a record, the step apart: who reads a report wants to see that one as it is
unfoldable pub own_sum : Own → ℕ
own_sum o = mix (mix (mix (mix (mix (whose o.side) (bit o.attached)) o.power) o.slot) (bit o.notfull)) o.spins

unfoldable pub party_sum : Party → ℕ
party_sum p = mix (mix (mix (mix_wide (mix (own_sum p.own) (bit p.closed)) p.counter) (bit p.blocking)) p.tag) p.length

unfoldable pub party_word : Party → ℕ
party_word p = pair (stand_of p.step) (party_sum p)

-- an answer as it is, with the kind of the record that it answers: kind, number, tag, length, error
unfoldable pub told_word : (kind : ℕ) → Told → ℕ
told_word kind t = pair (kind + 0x100 * t.number + 0x10000 * t.tag) (t.length + 0x10000 * t.error)

-- the bytes of a region and of a buffer, each summed for itself, so that it shows which of them changed
unfoldable pub bytes_word : (region buffer : List ℕ) → ℕ
bytes_word region buffer = pair (mix_bytes 0 region) (mix_bytes 0 buffer)

-- all that came of one attach of many: the answer, the record, the region
unfoldable pub came_sum : (sum : ℕ) → Reply → (region : List ℕ) → ℕ
came_sum sum r region = mix_bytes (mix_wide (mix_wide sum (told_word 0 (told_of r.answer))) (party_word r.party)) region
