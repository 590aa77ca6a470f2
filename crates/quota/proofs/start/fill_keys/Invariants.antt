-- `quota::start::fill_keys` meets its contract. The loop's invariant: the states passed have their keys.
use lib.ListN.{length}
use Rattle.apportionment.specs.inner.Filling.{FilledTo}
use Rattle.quota.specs.inner.Play.{first_key_of}
use Rattle.quota.proofs.start.fill_keys.Given as goal

abbrev pub invariant-loop-i : goal.invariant-loop-i
invariant-loop-i l = FilledTo (first_key_of l.populations l.house) (length l.populations) l.i l.keys
