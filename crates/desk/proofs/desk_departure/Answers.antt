-- `desk::desk_departure` hands on what the departure operation answers.
use Rattle.std.proofs.Common.{◌∙◌}
use Rattle.desk.specs.inner.Exported.{answer_exported}
use Rattle.desk.proofs.desk_departure.Goals as goal

pub returns : goal.returns
returns c = c.from.ensures ∙ answer_exported c.departure_of.ensures
