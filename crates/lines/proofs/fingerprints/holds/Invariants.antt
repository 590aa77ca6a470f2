-- `holds` looks at each number: the list holds it if it was found before the place reached, or if what is left from there holds it.
use Rattle.std.proofs.Common.{◌≡◌, ◌||◌, drop}
use Rattle.lines.specs.inner.Fingerprints.{holds}
use Rattle.lines.proofs.fingerprints.holds.Given as goal

abbrev pub invariant-loop-other : goal.invariant-loop-other
invariant-loop-other l = holds l.print l.prints ≡ (l.found || holds l.print (drop l.other-index l.prints))
