-- The two sides of a ring.
use Rattle.types.specs.declared.Side.{Side}
use Rattle.types.specs.declared.Side.TheVariants.{Sender, Recorder}

abbrev pub other : Side → Side
other Sender = Recorder
other Recorder = Sender
