-- `remainders::fill_parts` meets its contract. The loop's invariant: the numbers passed are precedences and whole parts, the number given
-- is the sum of these, and no precedence lies outside of the least and the greatest.
use mathlib.Core.Path.{◌≡◌}
use lib.ListN.{length}
use Rattle.apportionment.specs.Lists.{sum, list_of}
use Rattle.apportionment.specs.Remainders.{whole_part}
use Rattle.apportionment.specs.inner.Filling.{FilledTo}
use Rattle.remainders.specs.inner.Precedence.{precedence_at}
use Rattle.remainders.specs.inner.Seats.{Spans}
use Rattle.remainders.proofs.fill_parts.Given as goal

abbrev pub invariant-loop-i : goal.invariant-loop-i
invariant-loop-i l =
    FilledTo (precedence_at l.populations l.house) (length l.populations) l.i l.precedences
    × FilledTo (whole_part l.populations l.house) (length l.populations) l.i l.seats
    × (l.given ≡ sum (list_of (whole_part l.populations l.house) l.i))
    × Spans (precedence_at l.populations l.house) l.i l.least l.greatest
