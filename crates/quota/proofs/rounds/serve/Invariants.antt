-- `quota::rounds::serve` meets its contract. The loop's invariant: the seats and what waits are those that stand after the
-- numbers passed.
use Rattle.quota.specs.inner.Play.{Reached}
use Rattle.quota.proofs.rounds.serve.Given as goal

abbrev pub invariant-loop-passed : goal.invariant-loop-passed
invariant-loop-passed l =
    Reached l.populations l.house l.passed l.due l.seats l.outside.keys.now l.outside.tree.now l.waiting.keys.now
    l.waiting.tree.now
