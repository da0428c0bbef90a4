use Rattle.std.proofs.Common.{rules}
use Rattle.std.proofs.lemmas.Slice.{between_to_end}
use Rattle.scans.proofs.Parts.{bytes_are-part}
use Rattle.scans.proofs.same_bytes.Goals as goal

pub returns : goal.returns
returns c = search (rules, between_to_end, bytes_are-part)
