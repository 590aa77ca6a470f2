-- `text::put_numbers` meets its contract: comma, number, comma and number, one after the other.
use Rattle.text.specs.Shared.{numbers_text}
use Rattle.writing.specs.inner.Page.{appended_then}
use Rattle.text.proofs.put_numbers.Goals as goal

pub returns : goal.returns
unfolding numbers_text
returns c =
    appended_then (appended_then (appended_then c.put_byte.ensures c.put_decimal.ensures) c.put_byte-2.ensures) c.put_decimal-2.ensures
