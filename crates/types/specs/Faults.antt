-- A failure that is announced, and whom a turn woke.
use Rattle.std.specs.Prelude.{ℕ, Option}
use Rattle.types.specs.declared.Bell.{Bell}

-- the error with which the turn's futex call is announced to fail, if it is
abbrev pub Fault : Type 0
Fault = Option ℕ

-- the bell whose sleeper a turn woke, if any
abbrev pub Woke : Type 0
Woke = Option Bell
