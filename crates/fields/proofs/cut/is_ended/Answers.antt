-- A line has an end if it ends before the last byte is passed.
use Rattle.fields.specs.Grammar.{has}
use Rattle.fields.specs.Grammar.{ended}
use Rattle.fields.proofs.cut.is_ended.Goals as goal

pub returns : goal.returns
unfolding ended has
returns c = rw c.requires
