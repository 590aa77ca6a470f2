-- From the start to the house: the moves end at the leximin allotment of the house, and there are as many as the gap.
-- Assumes nothing.
use Rattle.std.specs.Prelude.{◌≡◌, cond, List, ℕ, ◌-◌, ◌<◌, ◌≤◌, ltb, length, get_or}
use Rattle.std.proofs.Common.{sym, ◌∙◌}
use Rattle.std.proofs.Math.Bool.{true, false}
use native.Mathlib.Omega.{arith}
use borrow.Author.Tests.{lt-ltb, le-ltb}
use Rattle.apportionment.specs.inner.Problem.{Problem}
use Rattle.apportionment.specs.Quantities.{distance}
use Rattle.apportionment.specs.Leximin.{leximin_for, start_seats, start_total, gap}
use Rattle.claims.specs.inner.Order.{placed_times, withdrawn_times, ends_apart, comes, first_unmet, last_met}
use Rattle.claims.specs.inner.SizeClaims.{problem_positive, size_test, one_each}
use Rattle.claims.specs.inner.Moves.{after_moves, after_none}
use Rattle.claims.specs.inner.LeximinSteps.{last_step_leximin}
use Rattle.sizes.specs.inner.Sizes.{ClaimIs, less_claim}
use Rattle.leximin.specs.inner.Scan.{Seated, claims_compared}
use Rattle.leximin.specs.inner.Start.{Begun}
use Rattle.leximin.specs.inner.Moves.{moved_times, Movable}
use Rattle.sizes.specs.declared.Claim.{Claim}

-- What filling hands back: the leximin allotment of the house, and the gap between the start and the house.
pub record Settled (ps : List ℕ) (H : ℕ) (xs : List ℕ) (made : ℕ) : Type 0 where
  pub seats : xs ≡ leximin_for ps H H
  pub steps : made ≡ gap ps H

module _ {ps : List ℕ} {P H : ℕ} (problem : Problem ps P H) where
  -- Below the house the gap is what is placed, and otherwise what is withdrawn.
  gap_up : start_total ps H < H → gap ps H ≡ H - start_total ps H
  unfolding gap distance
  gap_up h = omega arith

  gap_down : H ≤ start_total ps H → gap ps H ≡ start_total ps H - H
  unfolding gap distance
  gap_down h = omega arith

  moved_up : length ps ≤ H → start_total ps H < H
      → placed_times (size_test ps H) (length ps) (start_seats ps H) (gap ps H) ≡ leximin_for ps H H
  unfolding after_moves
  moved_up fits h = rw (lt-ltb _ _ h, after_moves) at (last_step_leximin (problem_positive problem) fits)

  moved_down : length ps ≤ H → H ≤ start_total ps H
      → withdrawn_times one_each (size_test ps H) (length ps) (start_seats ps H) (gap ps H) ≡ leximin_for ps H H
  unfolding after_moves
  moved_down fits h = rw (le-ltb _ _ h, after_moves) at (last_step_leximin (problem_positive problem) fits)

  module _ {xs : List ℕ} {start : ℕ} (b : Begun ps H xs start) where
    begun : xs ≡ start_seats ps H
    begun = b.seats

    total : start ≡ start_total ps H
    total = b.total

    pub can_place : start < H → Movable true ps P H xs (H - start)
    unfolding start_total
    can_place h =
        record {
          problem = problem;
          made = 0;
          begun = begun ∙ after_none true one_each (size_test ps H) (length ps) (start_seats ps H);
          room = omega (arith, total, problem.house_within);
        }

    pub can_withdraw : length ps ≤ H → H ≤ start → Movable false ps P H xs (start - H)
    unfolding start_total
    can_withdraw fits h =
        record {
          problem = problem;
          made = 0;
          begun = begun ∙ after_none false one_each (size_test ps H) (length ps) (start_seats ps H);
          room = omega (arith, total);
        }

    pub placed_settled : {ys : List ℕ} → length ps ≤ H → start < H → ys ≡ moved_times true ps H xs (H - start)
        → Settled ps H ys (H - start)
    unfolding after_moves
    placed_settled fits h e =
        let below : start_total ps H < H = rw total at h in
        let whole : H - start ≡ gap ps H = rw total (sym (gap_up below)) in
        record { seats = e ∙ rw (begun, whole) (moved_up fits below); steps = whole }

    pub withdrawn_settled : {ys : List ℕ} → length ps ≤ H → H ≤ start
        → ys ≡ moved_times false ps H xs (start - H) → Settled ps H ys (start - H)
    unfolding after_moves
    withdrawn_settled fits h e =
        let above : H ≤ start_total ps H = rw total at h in
        let whole : start - H ≡ gap ps H = rw total (sym (gap_down above)) in
        record { seats = e ∙ rw (begun, whole) (moved_down fits above); steps = whole }

-- ---- the test by the two ends

module _ {ps xs : List ℕ} {P H : ℕ} (w : Seated ps P H xs) {i j : ℕ} (last : i ≡ last_met one_each (size_test ps H) (length ps) xs)
    (first : j ≡ first_unmet (size_test ps H) (length ps) xs) where
  -- No state has a seat to spare: nothing is met above one each.
  pub none_to_spare : get_or xs i 0 ≤ 1 → true ≡ ends_apart one_each (size_test ps H) (length ps) xs
  unfolding ends_apart
  none_to_spare h = rw (← last, le-ltb _ _ h)

  pub ends_compared : {met unmet : Claim} → 1 < get_or xs i 0 → ClaimIs (get_or ps i 0) (get_or xs i 0 - 1) P H met
      → ClaimIs (get_or ps j 0) (get_or xs j 0) P H unmet
      → cond (less_claim met unmet) true (cond (less_claim unmet met) false (ltb i j)) ≡ ends_apart one_each (size_test ps H) (length ps) xs
  unfolding ends_apart comes
  ends_compared h m u =
      rw (← last, ← first, lt-ltb _ _ h)
      (rw (claims_compared w.bounded.fillable.problem i (get_or xs i 0 - 1) j (get_or xs j 0) m u)
      (rw (claims_compared w.bounded.fillable.problem j (get_or xs j 0) i (get_or xs i 0 - 1) u m)))
