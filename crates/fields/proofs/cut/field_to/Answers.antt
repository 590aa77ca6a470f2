-- The first field stands before the first comma.
use Rattle.std.proofs.Common.{sym, length-take-le}
use Rattle.fields.specs.Grammar.{before}
use Rattle.fields.specs.inner.Parts.{place_within_lem}
use Rattle.fields.specs.Grammar.{field_of}
use Rattle.fields.proofs.cut.field_to.Goals as goal

pub slice_bounds-result-end : goal.slice_bounds-result-end
slice_bounds-result-end c = sym (length-take-le _ _ (rw c.requires (place_within_lem _ _)))

pub returns : goal.returns
unfolding field_of before
returns c = rw c.requires
