-- `claims::tournament::plant` is right because at each turn the leaves passed hold their entrants.
use Rattle.claims.specs.inner.TournamentReplay.{Planted}
use Rattle.claims.proofs.tournament.plant.Given as goal

abbrev pub invariant-loop-i : goal.invariant-loop-i
invariant-loop-i g l = Planted l.entrants l.i (g.E.Entry.numbers l.tree)
