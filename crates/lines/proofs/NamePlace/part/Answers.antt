use Rattle.std.proofs.Common.{rules}
use Rattle.lines.specs.inner.Places.{part_of}
use Rattle.lines.proofs.NamePlace.part.Goals as goal

pub returns : goal.returns
unfolding part_of
returns c = search rules
