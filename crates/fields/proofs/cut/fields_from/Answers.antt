-- What follows the first field stands past the first comma.
use mathlib.Core.Path.{◌∙◌}
use Rattle.fields.specs.Grammar.{after}
use Rattle.fields.specs.inner.Parts.{place_within_lem}
use Rattle.fields.specs.Grammar.{fields_after}
use Rattle.fields.proofs.cut.fields_from.Goals as goal

pub past-requires : goal.past-requires
past-requires c = rw c.requires (place_within_lem _ _)

pub returns : goal.returns
unfolding fields_after after
returns c = c.past.ensures ∙ rw c.requires
