-- `quota::start::fill_wholes` meets its contract. The loop's invariant: the states passed have their whole parts.
use lib.ListN.{length}
use Rattle.apportionment.specs.Remainders.{whole_part}
use Rattle.apportionment.specs.inner.Filling.{FilledTo}
use Rattle.quota.proofs.start.fill_wholes.Given as goal

abbrev pub invariant-loop-i : goal.invariant-loop-i
invariant-loop-i l = FilledTo (whole_part l.populations l.house) (length l.populations) l.i l.seats
