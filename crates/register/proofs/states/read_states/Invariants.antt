-- `read_states` goes down the states' lines: reading all of them is reading those left, with the sum and the populations so far.
-- Beside it stand the names so far: the fingerprint of each, and where it stands.
use Rattle.std.proofs.Common.{◌≡◌, ◌-◌, ◌≤◌}
use Rattle.apportionment.specs.Limits.{sum_limit}
use Rattle.lines.specs.Lines.{head_accepted}
use Rattle.register.specs.Register.{states_from, states_of}
use Rattle.register.specs.inner.Kept.{Kept}
use Rattle.register.proofs.states.read_states.Given as goal

abbrev pub invariant-loop-k : goal.invariant-loop-k
invariant-loop-k l =
    (l.sum ≤ sum_limit)
    × Kept l.k l.first l.t l.prints l.places
    × (states_of (head_accepted l.head) l.first
    ≡ states_from (head_accepted l.head) l.first (l.head.states - l.k) l.k l.sum l.populations l.t)
