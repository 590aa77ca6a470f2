-- Whole parts: each state's share p H / P rounded down. Together they are at most the house, and short of it by at most one for each state.
-- Assumes nothing.
use Rattle.std.specs.Prelude.{◌≡◌, List, length}
use Prim.Native.Nat.{ℕ, ◌+◌, ◌*◌, ◌/◌, ◌≤◌, ◌<◌}
use Rattle.std.proofs.Common.{arith, add-mul, one-mul, mul_comm, le_trans, mul-le-mul_right, Fits}
use Rattle.std.proofs.Math.Nat.{lt-div-mul-add, div-mul-le_self, le_of_mul-le-mul_right}
use Rattle.std.proofs.Math.ListN.{get_or}
use Rattle.std.specs.Int.{w64}
use Rattle.apportionment.specs.Limits.{sum_limit, house_limit}
use Rattle.apportionment.specs.Lists.{sum, list_of}
use Rattle.apportionment.specs.inner.Lists.{list_of_places, sum-list_of_places, sum-list_of_scaled, sum-list_of_both, sum-list_of_one}
use Rattle.apportionment.specs.inner.Problem.{Problem, sum_above_zero, entry_at_most_total}
use Rattle.apportionment.specs.inner.MachineWords.{product_fits}
use Rattle.apportionment.specs.Remainders.{whole_part, seats_left}

-- The whole part of each state.
abbrev pub whole_parts : (ps : List ℕ) (H : ℕ) → List ℕ
whole_parts ps H = list_of (whole_part ps H) (length ps)

-- p H is far within 64 bits.
pub share_fits : {ps : List ℕ} {P H : ℕ} → Problem ps P H → (i : ℕ) → Fits w64 (get_or ps i 0 * H)
share_fits ok i =
    product_fits sum_limit house_limit (le_trans (entry_at_most_total ok.states i) ok.states.sum_within) ok.house_within tt

-- A whole part by the total that was handed over.
pub whole_part_is : {ps : List ℕ} {P H : ℕ} → Problem ps P H → (i : ℕ) → get_or ps i 0 * H / P ≡ whole_part ps H i
unfolding whole_part
whole_part_is ok i = rw ok.states.sums

module _ {ps : List ℕ} {P H : ℕ} (ok : Problem ps P H) where
  someone : 0 < sum ps
  someone = rw ok.states.sums at (sum_above_zero ok.states)

  -- The whole parts of the first k states are no more seats than the house has.
  pub whole_parts_within : (k : ℕ) → sum (list_of (whole_part ps H) k) ≤ H
  unfolding whole_part
  whole_parts_within k =
      le_of_mul-le-mul_right
      (le_trans
      (sum-list_of_scaled (whole_part ps H) (λ (i : ℕ). get_or ps i 0) (sum ps) H
      (λ (i : ℕ). div-mul-le_self (get_or ps i 0 * H) (sum ps)) k)
      (rw (mul_comm H (sum ps)) (mul-le-mul_right H (sum-list_of_places ps k))))
      someone

  -- With one seat more, a state has at least its share.
  one_more_reaches : (i : ℕ) → get_or ps i 0 * H ≤ (whole_part ps H i + 1) * sum ps
  unfolding whole_part
  one_more_reaches i = simp (add-mul, one-mul) (omega (arith, lt-div-mul-add {a = get_or ps i 0 * H} {b = sum ps} someone))

  -- So no more seats are left than there are states.
  pub left_within_states : seats_left ps H ≤ length ps
  unfolding seats_left
  left_within_states =
      let more : ℕ → ℕ = λ (i : ℕ). whole_part ps H i + 1 in
      let reach : sum ps * H ≤ sum (list_of more (length ps)) * sum ps
      = rw (list_of_places ps) at (sum-list_of_scaled (λ (i : ℕ). get_or ps i 0) more H (sum ps) one_more_reaches (length ps)) in
      let house : H ≤ sum (list_of more (length ps)) = le_of_mul-le-mul_right (rw (mul_comm H (sum ps)) reach) someone in
      omega (arith, sum-list_of_both (whole_part ps H) (λ (i : ℕ). 1) (length ps), sum-list_of_one (length ps))
