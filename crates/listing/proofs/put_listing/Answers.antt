-- `listing::put_listing` meets its contract: the head, the states' lines and the totals, one after the other.
use Rattle.std.proofs.Common.{sym, arith, rules, length-take-le}
use Rattle.writing.specs.inner.Page.{appended_then, written_whole}
use Rattle.problem.specs.inner.Total.{total_is_sum}
use Rattle.listing.specs.Listing.{listing_in}
use Rattle.listing.specs.inner.Room.{listable_rows}
use Rattle.listing.proofs.put_listing.Goals as goal

pub slice_bounds-populations-end : goal.slice_bounds-populations-end
slice_bounds-populations-end c = c.requires.listable.each_read

pub slice_bounds-put_states-end : goal.slice_bounds-put_states-end
slice_bounds-put_states-end c = sym (length-take-le _ _ c.requires.listable.each_read)

pub put_states-requires : goal.put_states-requires
put_states-requires c =
    let pre = c.requires in
    let all = length-take-le c.args.reading.states c.args.reading.populations pre.listable.each_read in
    record { limited = listable_rows pre.listable; placed = rw all pre.placed }

pub returns : goal.returns
unfolding listing_in
returns c =
    let fit = c.requires.listable in
    let states = rw (length-take-le c.args.reading.states c.args.reading.populations fit.each_read) at c.put_states.ensures in
    let total = rw (
      c.total_of.ensures,
      total_is_sum c.args.seats.now (omega (arith, fit.house_seated, fit.house_limited)),
    ) at c.put_total.ensures in
    let whole = appended_then (appended_then c.put_head.ensures states) total in
    written_whole c.new-page.ensures.begun whole (search rules) c.place.ensures
