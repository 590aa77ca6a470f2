-- `is_head` makes the definition's tests at once.
use mathlib.Core.Path.{ap, ◌∙◌}
use Rattle.apportionment.specs.Lists.{same_list}
use Rattle.fields.specs.inner.Parts.{same_is}
use Rattle.lines.specs.Lines.{head_formed}
use Rattle.lines.specs.inner.Lines.{five_at_once}
use Rattle.lines.proofs.head.is_head.Goals as goal

pub returns : goal.returns
unfolding head_formed
returns c =
    let word_is = c.eq.ensures ∙ same_is _ _ ∙ ap (same_list c.args.word.now) c.as_slice.ensures in
    five_at_once c.args.ended c.eq.result c.is_method_field.result c.is_number.result c.is_number-2.result
    ∙ rw (word_is, c.is_method_field.ensures, c.is_number.ensures, c.is_number-2.ensures)
