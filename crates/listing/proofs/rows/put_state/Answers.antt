-- `listing::rows::put_state` meets its contract: its pieces, one after the other, with the departure and the mark that the answer has.
use Rattle.writing.specs.inner.Page.{appended_then}
use Rattle.text.specs.inner.Departures.{answered_departure, answered_mark}
use Rattle.listing.specs.Listing.{state_line}
use Rattle.listing.proofs.rows.put_state.Goals as goal

pub returns : goal.returns
unfolding state_line
returns c =
    let fit = c.requires in
    let answer = c.departure_of-answer.ensures in
    let shown = rw (answered_departure fit answer) at c.put_departure.ensures in
    let marked = rw (answered_mark fit answer) at c.put_mark.ensures in
    let numbers = appended_then c.put_bytes.ensures c.put_numbers.ensures in
    let departure = appended_then (appended_then numbers c.put_byte.ensures) shown in
    appended_then (appended_then (appended_then departure c.put_byte-2.ensures) marked) c.put_byte-3.ensures
