-- `claims::tournament::replay` is right because at each turn the winner in hand is that at k, and only the way up past it is due.
use Rattle.claims.specs.inner.TournamentReplay.{Climbing}
use Rattle.claims.proofs.tournament.replay.Given as goal

abbrev pub invariant-loop-k : goal.invariant-loop-k
invariant-loop-k g l = Climbing (g.C.Contest.before l.contest) (g.C.Contest.entrants l.contest) l.k l.won (g.E.Entry.numbers l.tree)

abbrev pub decreases-loop-k : goal.decreases-loop-k
decreases-loop-k g l = l.k
