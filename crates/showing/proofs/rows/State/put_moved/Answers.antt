-- `showing::rows::State::put_moved` meets its contract: its pieces, one after the other.
use Rattle.showing.specs.Work.{moved_text}
use Rattle.writing.specs.inner.Page.{appended_then}
use Rattle.showing.proofs.rows.State.put_moved.Goals as goal

pub returns : goal.returns
unfolding moved_text
returns c =
    let begun = appended_then (appended_then c.put_bytes.ensures c.put_numbers.ensures) c.put_byte.ensures in
    appended_then (appended_then (appended_then begun c.put_departure.ensures) c.put_byte-2.ensures) c.put_departure-2.ensures
