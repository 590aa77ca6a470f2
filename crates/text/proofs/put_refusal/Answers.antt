-- `text::put_refusal` meets its contract: the word, the numbers and the line end, one after the other.
use Rattle.text.specs.Shared.{refusal_line}
use Rattle.writing.specs.inner.Page.{appended_then}
use Rattle.text.proofs.put_refusal.Goals as goal

pub returns : goal.returns
unfolding refusal_line
returns c =
    appended_then (appended_then c.put_bytes.ensures c.put_numbers.ensures) c.put_byte.ensures
