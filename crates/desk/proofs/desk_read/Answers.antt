-- `desk::desk_read` hands on what reading gives.
use Rattle.std.proofs.Common.{◌∙◌, ap}
use Rattle.desk.specs.Interface.{exported_reading}
use Rattle.desk.proofs.desk_read.Goals as goal

pub returns : goal.returns
returns c = c.from.ensures ∙ ap exported_reading c.read.ensures
