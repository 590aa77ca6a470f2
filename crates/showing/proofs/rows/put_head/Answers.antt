-- `showing::rows::put_head` meets its contract: its pieces, one after the other.
use Rattle.showing.specs.Work.{head_line}
use Rattle.writing.specs.inner.Page.{appended_then}
use Rattle.showing.proofs.rows.put_head.Goals as goal

pub returns : goal.returns
unfolding head_line
returns c =
    appended_then (appended_then c.put_bytes.ensures c.put_numbers.ensures) c.put_byte.ensures
