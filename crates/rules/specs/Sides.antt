-- What differs by the side.
use Rattle.std.specs.Prelude.{Bool, true, false, ℕ}
use Rattle.words.specs.Wrap.{minus}
pub use Rattle.types.specs.Sides.{other}
use Rattle.types.specs.declared.Side.{Side}
use Rattle.types.specs.declared.Side.TheVariants.{Sender, Recorder}
use Rattle.types.specs.declared.Bell.{Bell}
use Rattle.types.specs.declared.Bell.TheVariants.{NotEmpty, NotFull}
use Rattle.types.specs.declared.Answer.{Answer}
use Rattle.types.specs.declared.Answer.TheVariants.{Full, Empty}

abbrev pub same_side : Side → Side → Bool
same_side Sender Sender = true
same_side Sender Recorder = false
same_side Recorder Sender = false
same_side Recorder Recorder = true

-- used, head − tail: the sender's own counter is head, the recorder's is tail
abbrev pub used : Side → (own their : ℕ) → ℕ
used Sender own their = minus 64 own their
used Recorder own their = minus 64 their own

-- with so many used a side can do nothing: full for the sender, empty for the recorder
abbrev pub limit : Side → (capacity : ℕ) → ℕ
limit Sender capacity = capacity
limit Recorder capacity = 0

-- what a try form answers then
abbrev pub blocked_answer : Side → Answer
blocked_answer Sender = Full
blocked_answer Recorder = Empty

-- the bell that a side raises for the other, and the one that it sleeps on
abbrev pub ring_bell : Side → Bell
ring_bell Sender = NotEmpty
ring_bell Recorder = NotFull

abbrev pub sleep_bell : Side → Bell
sleep_bell Sender = NotFull
sleep_bell Recorder = NotEmpty

-- the recorder rings with not-full on alone
abbrev pub rings : Side → (notfull : Bool) → Bool
rings Sender notfull = true
rings Recorder notfull = notfull

-- the numbers of the operations
abbrev pub wait_op : Bell → ℕ
wait_op NotEmpty = 0
wait_op NotFull = 2

abbrev pub wake_op : Bell → ℕ
wake_op NotEmpty = 1
wake_op NotFull = 3
