use Rattle.std.proofs.Common.{arith, ◌≡◌, ◌∙◌, ◌*◌, ◌+◌, ◌-◌, get_or}
use Rattle.claims.specs.inner.TournamentReplay.{Decidable, building_next}
use Rattle.claims.specs.inner.TournamentEntries.{better_held}
use Rattle.claims.proofs.tournament.build.Goals as goal
use Rattle.claims.proofs.tournament.build.Goals.{After-number-in-loop-k}

-- The place decided at a turn, and the two numbers that stand below it.
module _ (g : _) (c : After-number-in-loop-k g) where
  ready : Decidable (g.C.Contest.entrants c.args.contest.now) (c.loop-k.k - 1) (g.E.Entry.numbers c.loop-k.tree)
  ready =
      building_next c.loop-k.invariant (omega (arith, c.loop-k-test.true))
      (omega (arith, c.loop-k.auto.k, c.entrants-k.ensures, c.loop-k-test.true))

  first : c.number.result ≡ get_or (g.E.Entry.numbers c.loop-k.tree) (2 * (c.loop-k.k - 1)) 0
  first =
      c.number.ensures
      ∙ g.E.Entry.reads.read _ _ _ (omega (arith, ready.size, ready.inside, g.E.Entry.reads.size c.loop-k.tree)) c.index-tree-k.is

  second : c.number-in-loop-k.result ≡ get_or (g.E.Entry.numbers c.loop-k.tree) (2 * (c.loop-k.k - 1) + 1) 0
  second =
      c.number-in-loop-k.ensures
      ∙ g.E.Entry.reads.read _ _ _ (omega (arith, ready.size, ready.inside, g.E.Entry.reads.size c.loop-k.tree))
      c.index-tree-k-in-loop-k.is

pub better_of-won-requires : goal.better_of-won-requires
better_of-won-requires g c =
    (rw (first g c) (ready g c).first, rw (second g c) (ready g c).second)

pub holding-requires : goal.holding-requires
holding-requires g c =
    let it = (goal.at.holding-requires g c).After-number-in-loop-k in
    better_held _ c.better_of-won.ensures (rw (first g it) (ready g it).first) (rw (second g it) (ready g it).second) c.requires.fits
