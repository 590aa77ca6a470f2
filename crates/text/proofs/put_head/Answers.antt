-- `text::put_head` meets its contract: its pieces, one after the other.
use Rattle.text.specs.Shared.{head_line}
use Rattle.writing.specs.inner.Page.{appended_then}
use Rattle.text.proofs.put_head.Goals as goal

pub returns : goal.returns
unfolding head_line
returns c =
    let method = appended_then (appended_then c.put_bytes.ensures c.put_byte.ensures) c.put_method.ensures in
    appended_then (appended_then method c.put_numbers.ensures) c.put_byte-2.ensures
