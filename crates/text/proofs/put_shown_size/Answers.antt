-- `text::put_shown_size` meets its contract: the text is laid out in the order of the five calls.
use Rattle.apportionment.specs.Quantities.{shown_size_text}
use Rattle.writing.specs.inner.Page.{appended_then}
use Rattle.text.proofs.put_shown_size.Goals as goal

pub returns : goal.returns
unfolding shown_size_text
returns c =
    let first = appended_then (appended_then c.put_decimal.ensures c.put_byte.ensures) c.put_digit.ensures in
    appended_then (appended_then first c.put_digit-2.ensures) c.put_digit-3.ensures
