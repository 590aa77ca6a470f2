-- `showing::rows::State::put_line` meets its contract: its pieces, one after the other.
use Rattle.showing.specs.Work.{state_line}
use Rattle.writing.specs.inner.Page.{appended_then}
use Rattle.showing.proofs.rows.State.put_line.Goals as goal

pub returns : goal.returns
unfolding state_line
returns c =
    let begun = appended_then (appended_then c.put_bytes.ensures c.put_bytes-2.ensures) c.put_numbers.ensures in
    appended_then (appended_then (appended_then begun c.put_byte.ensures) c.put_departure.ensures) c.put_byte-2.ensures
