-- `showing::rows::State::put_weighed` meets its contract: its pieces, one after the other.
use Rattle.showing.specs.Work.{weighed_line}
use Rattle.writing.specs.inner.Page.{appended_then}
use Rattle.showing.proofs.rows.State.put_weighed.Goals as goal

pub returns : goal.returns
unfolding weighed_line
returns c =
    let begun = appended_then (appended_then c.put_bytes.ensures c.put_decimal.ensures) c.put_byte.ensures in
    appended_then (appended_then begun c.put_moved.ensures) c.put_byte-2.ensures
