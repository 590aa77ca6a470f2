-- How far the start is from the house: each state's nearest seats are less than one away from p H / P, so the starting total is less than
-- the number of states away from H, and there are fewer steps than states.
-- Assumes nothing.
use Rattle.std.proofs.Common.{sym, ◌∙◌, suc-le-suc, zero-le}
use mathlib.Core.List.{List, [], ◌∷◌, map}
use Rattle.std.specs.Prelude.{ℕ, suc, ◌+◌, ◌*◌, ◌<◌, ◌≤◌, get_or}
use Rattle.std.proofs.Math.Nat.{lt_of_mul-lt-mul_right}
use native.Mathlib.Omega.{arith}
use Rattle.std.proofs.Math.ListN.{length}
use Rattle.apportionment.specs.Lists.{sum, list_of}
use Rattle.apportionment.specs.inner.Lists.{length-list_of, get_d_list_of, sum-list_of_one}
use Rattle.apportionment.specs.Quantities.{distance}
use Rattle.apportionment.specs.Leximin.{nearest, start_seats, start_total, gap}
use Rattle.claims.specs.inner.Order.{ClaimTest, Standing}
use Rattle.claims.specs.inner.StandingMoves.{sum_le}
use Rattle.claims.specs.inner.SizeClaims.{one_each, Positive}
use Rattle.claims.specs.inner.SizeOrder.{people}
use Rattle.claims.specs.inner.StartNearest.{nearest_below, nearest_above}
use Rattle.claims.specs.inner.StartSeats.{state_nearest, start_standing}

-- ---- sums over the states

module _ (f : ℕ → ℕ) (P H : ℕ) where
  sums_below : (xs : List ℕ) → ((i : ℕ) → i < length xs → f (get_or xs i 0) * P < get_or xs i 0 * H + P)
      → sum (map f xs) * P + length xs ≤ sum xs * H + length xs * P
  unfolding sum
  sums_below [] h = omega arith
  sums_below (x ∷ xs) h =
      omega (arith, h 0 (suc-le-suc zero-le), sums_below xs (λ (i : ℕ) (k : i < length xs). h (suc i) (suc-le-suc k)))

  sums_above : (xs : List ℕ) → ((i : ℕ) → i < length xs → get_or xs i 0 * H < f (get_or xs i 0) * P + P)
      → sum xs * H + length xs ≤ sum (map f xs) * P + length xs * P
  unfolding sum
  sums_above [] h = omega arith
  sums_above (x ∷ xs) h =
      omega (arith, h 0 (suc-le-suc zero-le), sums_above xs (λ (i : ℕ) (k : i < length xs). h (suc i) (suc-le-suc k)))

-- Standing seats, at least one for each state, are no fewer than the states.
pub states_at_most_standing : {n : ℕ} {lt : ClaimTest} {xs : List ℕ} → Standing n one_each lt xs → n ≤ sum xs
states_at_most_standing {n} {xs = xs} t =
    rw (sum-list_of_one n) at
    (sum_le (list_of one_each n) xs (length-list_of one_each n ∙ sym t.states)
    (λ i h. let below : i < n = rw (length-list_of one_each n) at h in rw (get_d_list_of one_each n i below) (t.least i below)))

-- ---- the starting total

module _ {ps : List ℕ} {H : ℕ} (s : Positive ps H) where
  pub start_below : start_total ps H < H + length ps
  unfolding start_total start_seats
  start_below =
      lt_of_mul-lt-mul_right (sum ps)
      (omega (
        arith,
        s.some_state,
        sums_below (λ (p : ℕ). nearest p (sum ps) H) (sum ps) H ps
            (λ i h. nearest_below (get_or ps i 0) (sum ps) H (s.peopled i h) (people s) s.some_seat _ (state_nearest s i h)),
      ))

  pub start_above : H < start_total ps H + length ps
  unfolding start_total start_seats
  start_above =
      lt_of_mul-lt-mul_right (sum ps)
      (omega (
        arith,
        s.some_state,
        sums_above (λ (p : ℕ). nearest p (sum ps) H) (sum ps) H ps
            (λ i h. nearest_above (get_or ps i 0) (sum ps) H (s.peopled i h) (people s) s.some_seat _ (state_nearest s i h)),
      ))

  pub gap_below_states : gap ps H < length ps
  unfolding gap distance
  gap_below_states = omega (arith, start_below, start_above)

  pub states_at_most_start : length ps ≤ start_total ps H
  unfolding start_total
  states_at_most_start = states_at_most_standing (start_standing s)
