-- `claims::tournament::build` is right because at each turn only the places before k are due.
use Prim.Native.Nat.{◌-◌}
use Rattle.claims.specs.inner.TournamentReplay.{Building}
use Rattle.claims.proofs.tournament.build.Given as goal

abbrev pub invariant-loop-k : goal.invariant-loop-k
invariant-loop-k g l = Building (g.C.Contest.before l.contest) (g.C.Contest.entrants l.contest) (l.k - 1) (g.E.Entry.numbers l.tree)
