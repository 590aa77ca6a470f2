-- A problem that the checks of allotting and opening let through, as the operations behind the checks take it. What a layer asks beyond it
-- has a record of its own, named after what it adds.
-- Assumes nothing.
use Rattle.std.specs.Prelude.{◌≡◌, List, ℕ, ◌<◌, ◌≤◌, length, get_or}
use Rattle.std.proofs.Common.{arith}
use Rattle.apportionment.specs.Limits.{state_limit, house_limit, sum_limit}
use Rattle.apportionment.specs.Lists.{sum}
use Rattle.apportionment.specs.inner.Lists.{entry_at_most_sum}

-- States within the limits, and the sum of their populations: what checks 10, 12 and 13 let through.
pub record States (ps : List ℕ) (P : ℕ) : Type 0 where
  pub some_state : 0 < length ps
  pub states_within : length ps ≤ state_limit
  pub peopled : (i : ℕ) → i < length ps → 0 < get_or ps i 0
  pub sums : P ≡ sum ps
  pub sum_within : P ≤ sum_limit

-- The problem: such states and a house within its limits, which is check 11.
pub record Problem (ps : List ℕ) (P H : ℕ) : Type 0 where
  pub states : States ps P
  pub some_seat : 0 < H
  pub house_within : H ≤ house_limit

-- A problem with a list to fill, a place for each state.
pub record Fillable (ps : List ℕ) (P H : ℕ) (seats : List ℕ) : Type 0 where
  pub problem : Problem ps P H
  pub same_length : length seats ≡ length ps

-- ---- one of its states

-- There is someone to share the seats among.
pub sum_above_zero : {ps : List ℕ} {P : ℕ} → States ps P → 0 < P
sum_above_zero {ps} s = omega (arith, s.sums, s.peopled 0 s.some_state, entry_at_most_sum ps 0)

-- No state has more people than there are.
pub entry_at_most_total : {ps : List ℕ} {P : ℕ} → States ps P → (i : ℕ) → get_or ps i 0 ≤ P
entry_at_most_total {ps} s i = omega (arith, s.sums, entry_at_most_sum ps i)
