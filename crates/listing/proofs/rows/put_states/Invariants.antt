-- `listing::rows::put_states` meets its contract. The loop's invariant: the lines of the first k states were written.
use Rattle.register.specs.Register.{name_in_row}
use Rattle.writing.specs.inner.Page.{Appended}
use Rattle.listing.specs.Listing.{state_lines}
use Rattle.listing.proofs.rows.put_states.Given as goal

abbrev pub invariant-loop-k : goal.invariant-loop-k
invariant-loop-k l =
    Appended l.initial.page (state_lines (name_in_row l.rows) l.populations l.seats l.total l.house l.k) l.page
