-- The sum of populations as the code adds it up: exact up to the limit and, beyond it, one more than the limit, so that it is
-- known for any numbers at all.
-- Assumes nothing.
use Rattle.std.specs.Prelude.{◌≡◌, cond, List, ℕ, ◌+◌, ◌≤◌, ◌<◌, ltb, leb}
use Rattle.std.proofs.Common.{sym, leb-false, lt-ltb, le-leb}
use Rattle.std.proofs.lemmas.Bool.{lt-leb}
use Rattle.apportionment.specs.Limits.{sum_limit}
use Rattle.apportionment.specs.Lists.{sum}
use Rattle.apportionment.specs.inner.Tests.{either_way}

unfoldable pub capped_total : List ℕ → ℕ
capped_total ps = cond (leb (sum ps) sum_limit) (sum ps) (sum_limit + 1)

-- Within the limit it is the sum.
pub total_is_sum : (ps : List ℕ) → sum ps ≤ sum_limit → capped_total ps ≡ sum ps
unfolding capped_total
total_is_sum ps h = simp (le-leb (sum ps) sum_limit h)

-- Beyond the limit it is one more than the limit.
pub total_past_limit : (ps : List ℕ) → sum_limit < sum ps → capped_total ps ≡ sum_limit + 1
unfolding capped_total
total_past_limit ps h = simp (lt-leb (sum ps) sum_limit h)

-- It passes the limit exactly if the sum does.
pub total_tells : (ps : List ℕ) → ltb sum_limit (capped_total ps) ≡ ltb sum_limit (sum ps)
unfolding capped_total
total_tells ps =
    either_way (leb (sum ps) sum_limit)
    (λ e. rw e)
    (λ e. rw e (sym (lt-ltb sum_limit (sum ps) (leb-false (sum ps) sum_limit e))))
