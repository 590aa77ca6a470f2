-- `quota::start::fill_outers` meets its contract. The loop's invariant: the states passed have their entries.
use lib.ListN.{length}
use Rattle.apportionment.specs.inner.Filling.{FilledTo}
use Rattle.quota.specs.inner.Play.{outer_of}
use Rattle.quota.proofs.start.fill_outers.Given as goal

abbrev pub invariant-loop-i : goal.invariant-loop-i
invariant-loop-i l = FilledTo (outer_of l.populations l.house) (length l.populations) l.i l.outers
