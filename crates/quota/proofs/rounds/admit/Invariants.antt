-- `quota::rounds::admit` meets its contract. The loop's invariant: every state is at a stage. The measure is the sum of the
-- entries of those outside, of which each turn clears one.
use Rattle.apportionment.specs.Lists.{sum}
use Rattle.quota.specs.inner.Play.{Turn}
use Rattle.quota.proofs.rounds.admit.Given as goal

abbrev pub invariant-loop-outside : goal.invariant-loop-outside
invariant-loop-outside l =
    Turn l.populations l.house l.passed l.seats l.outside.keys.now l.outside.tree.now l.waiting.keys.now l.waiting.tree.now

abbrev pub decreases-loop-outside : goal.decreases-loop-outside
decreases-loop-outside l = sum l.outside.keys.now
