-- `hold` goes through the names: the name is none of those passed.
use Rattle.std.proofs.Common.{◌≡◌, ℕ, ◌<◌, false}
use Rattle.apportionment.specs.Lists.{same_list}
use Rattle.lines.specs.inner.Places.{name_on}
use Rattle.lines.proofs.names.Names.hold.Given as goal

abbrev pub invariant-loop-i : goal.invariant-loop-i
invariant-loop-i l = (j : ℕ) → j < l.i → same_list (name_on j l.self.first.now) l.name ≡ false
