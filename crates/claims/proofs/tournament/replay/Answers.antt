use Rattle.std.proofs.Common.{arith, rules, ◌≡◌, ◌∙◌, get_or}
use Rattle.claims.specs.inner.TournamentReplay.{beside, beside_flips, won_lt, beside_within, beside_lt, climbing_more, climbed}
use Rattle.claims.specs.inner.TournamentEntries.{better_held, holding_written}
use Rattle.claims.proofs.tournament.replay.Goals as goal
use Rattle.claims.proofs.tournament.replay.Goals.{After-number}

pub bounds-tree-beside : goal.bounds-tree-beside
bounds-tree-beside g c =
    let k = c.loop-k in
    omega (arith, beside_flips k.k, beside_within k.invariant, k.invariant.above.size, g.E.Entry.reads.size k.tree)

pub offset_bounds-tree-beside : goal.offset_bounds-tree-beside
offset_bounds-tree-beside g c = let h = bounds-tree-beside g c in search rules

-- The number that stands beside k.
the_other : (g : _) (c : After-number g) → c.number.result ≡ get_or (g.E.Entry.numbers c.loop-k.tree) (beside c.loop-k.k) 0
the_other g c =
    let k = c.loop-k in
    c.number.ensures
    ∙ g.E.Entry.reads.read _ _ _ (omega (arith, beside_within k.invariant, k.invariant.above.size, g.E.Entry.reads.size k.tree))
    (rw (beside_flips k.k) at c.index-tree-beside.is)

pub better_of-won-requires : goal.better_of-won-requires
better_of-won-requires g c =
    (won_lt c.loop-k.invariant, rw (the_other g c) (beside_lt c.loop-k.invariant (omega (arith, c.loop-k-test.true))))

pub holding-requires : goal.holding-requires
holding-requires g c =
    let other = the_other g (goal.at.holding-requires g c).After-number in
    better_held _ c.better_of-won.ensures (won_lt c.loop-k.invariant)
    (rw other (beside_lt c.loop-k.invariant (omega (arith, c.loop-k-test.true)))) c.requires.fits

pub loop-k-preserved : goal.loop-k-preserved
loop-k-preserved g c =
    let other = the_other g (goal.at.loop-k-preserved g c).After-number in
    rw (← holding_written g.E.Entry.reads _ _ c.holding.ensures)
    (climbing_more c.loop-k.invariant (omega (arith, c.loop-k-test.true)) (rw other at c.better_of-won.ensures))

pub returns : goal.returns
returns g c = climbed c.loop-k.invariant (omega (arith, c.loop-k-test.false))
