-- `line_to` cuts at the first LF, and then the CR.
use Rattle.std.proofs.Common.{sym, ◌∙◌, length-take-le}
use Rattle.fields.specs.Grammar.{before}
use Rattle.fields.specs.inner.Parts.{place_within_lem}
use Rattle.fields.specs.Grammar.{line_of}
use Rattle.fields.proofs.cut.line_to.Goals as goal

pub slice_bounds-without_return-end : goal.slice_bounds-without_return-end
slice_bounds-without_return-end c = sym (length-take-le _ _ (rw c.requires (place_within_lem _ _)))

pub returns : goal.returns
unfolding line_of before
returns c = c.without_return.ensures ∙ rw c.requires
