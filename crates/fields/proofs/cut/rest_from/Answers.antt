-- What is left after the first line stands past the first LF.
use mathlib.Core.Path.{◌∙◌}
use Rattle.fields.specs.Grammar.{after}
use Rattle.fields.specs.inner.Parts.{place_within_lem}
use Rattle.fields.specs.Grammar.{rest_of}
use Rattle.fields.proofs.cut.rest_from.Goals as goal

pub past-requires : goal.past-requires
past-requires c = rw c.requires (place_within_lem _ _)

pub returns : goal.returns
unfolding rest_of after
returns c = c.past.ensures ∙ rw c.requires
