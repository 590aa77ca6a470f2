-- The start of a problem: it is what is worked out, and it is within the limits.
-- Assumes nothing.
use Rattle.std.specs.Prelude.{◌≡◌, true, false, cond, List, ℕ, ◌+◌, ◌*◌, ◌/◌, ◌<◌, ◌≤◌, length, get_or, drop}
use Rattle.std.proofs.Math.Path.{sym}
use Rattle.std.proofs.Common.{◌∙◌, ⊎_elim, arith, ne_eqb, le_trans}
use Rattle.std.proofs.Math.ListN.{get_or-eq_default}
use Rattle.apportionment.specs.Limits.{sum_limit}
use Rattle.apportionment.specs.Lists.{sum, same_list, list_of}
use Rattle.apportionment.specs.inner.Problem.{Problem}
use Rattle.apportionment.specs.inner.Lists.{entry_at_most_sum, list_of_agrees, map_is_list_of, same_next, differ_found, same_to_the_end}
use Rattle.apportionment.specs.Leximin.{nearest, start_seats, start_total}
use Rattle.claims.specs.inner.SizeClaims.{Positive, problem_positive, nearest_rounded}
use Rattle.claims.specs.inner.SizeOrder.{people}
use Rattle.claims.specs.inner.SizeShape.{le_or_lt}
use Rattle.claims.specs.inner.StartNearest.{nearest_rounded_lem, nearest_at_most_house}
use Rattle.claims.specs.inner.StartSeats.{length_start, start_at}
use Rattle.claims.specs.inner.StartBounds.{start_below}
use Rattle.problem.specs.inner.Populations.{sum_from, sum_past_end}
use Rattle.problem.specs.inner.Total.{capped_total, total_is_sum}
use Rattle.sizes.specs.inner.Sizes.{State, SizeIs, less_size, sizes_compared}
use Rattle.sizes.specs.declared.Size.{Size}
use Rattle.leximin.specs.inner.Scan.{Bounded}

-- Between the whole part and one more the sizes decide, as they are held.
pub rounded_compared : {p P H : ℕ} {more fewer : Size} → State p P H → (p * H / P ≡ 0 → ⊥)
    → SizeIs p (p * H / P + 1) P H more → SizeIs p (p * H / P) P H fewer
    → nearest_rounded p P H ≡ cond (less_size more fewer) (p * H / P + 1) (p * H / P)
unfolding nearest_rounded
rounded_compared s some more fewer = rw (ne_eqb _ _ some, sizes_compared s.peopled more fewer)

-- The start is filled in, and its total handed back.
pub record Begun (ps : List ℕ) (H : ℕ) (xs : List ℕ) (start : ℕ) : Type 0 where
  pub seats : xs ≡ start_seats ps H
  pub total : start ≡ start_total ps H

module _ {ps : List ℕ} {P H : ℕ} (problem : Problem ps P H) where
  positive : Positive ps H
  positive = problem_positive problem

  state_rounded : (i : ℕ) → i < length ps → nearest_rounded (get_or ps i 0) P H ≡ nearest (get_or ps i 0) (sum ps) H
  state_rounded i h =
      rw problem.states.sums
      (nearest_rounded_lem (get_or ps i 0) (sum ps) H (positive.peopled i h) (people positive) positive.some_seat (entry_at_most_sum ps i))

  -- A list with every state's nearest seats, as they are worked out, is the start.
  pub start_is_rounded : list_of (λ (i : ℕ). nearest_rounded (get_or ps i 0) P H) (length ps) ≡ start_seats ps H
  unfolding start_seats
  start_is_rounded = list_of_agrees _ _ (length ps) state_rounded ∙ sym (map_is_list_of (λ (p : ℕ). nearest p (sum ps) H) ps)

  pub start_within_house : (i : ℕ) → get_or (start_seats ps H) i 0 ≤ H
  start_within_house i =
      ⊎_elim
      (λ h. rw (get_or-eq_default (start_seats ps H) 0 {n = i} (rw (length_start ps H) h)) (omega arith))
      (λ h. rw (start_at ps H i h)
      (nearest_at_most_house (get_or ps i 0) (sum ps) H (positive.peopled i h) (people positive) positive.some_seat
      (entry_at_most_sum ps i)))
      (le_or_lt (length ps) i)

  pub start_bounded : Bounded ps P H (start_seats ps H)
  start_bounded =
      record {
        fillable = record { problem = problem; same_length = length_start ps H };
        seats_within = λ i. le_trans (start_within_house i) problem.house_within;
      }

  -- The starting total is far below the limit of sums.
  pub start_total_fits : start_total ps H ≤ sum_limit
  start_total_fits = omega (arith, start_below positive, problem.house_within, problem.states.states_within)

  -- What is filled in and then added up is the start and its total.
  pub start_begun : {xs : List ℕ} {start : ℕ} → xs ≡ start_seats ps H → start ≡ capped_total xs → Begun ps H xs start
  unfolding start_total
  start_begun e t = record { seats = e; total = t ∙ rw e (total_is_sum (start_seats ps H) start_total_fits) }

  -- ---- the starting total, added up from the front

  -- One state more: its nearest seats are added, and what is still to be added is so much less.
  pub start_sum_next : (i : ℕ) {seats : ℕ} → i < length ps → seats ≡ nearest_rounded (get_or ps i 0) P H
      → sum (drop i (start_seats ps H)) ≡ seats + sum (drop (i + 1) (start_seats ps H))
  start_sum_next i h e =
      rw (e ∙ state_rounded i h ∙ sym (start_at ps H i h)) (sum_from (start_seats ps H) i (rw (length_start ps H) h))

  pub start_sum_end : (i : ℕ) → length ps ≤ i → sum (drop i (start_seats ps H)) ≡ 0
  start_sum_end i h = sum_past_end (start_seats ps H) i (rw (length_start ps H) h)

  -- ---- seats held to the start, place by place

  module _ (xs : List ℕ) (same : length xs ≡ length ps) (i : ℕ) {seats : ℕ} (inside : i < length ps)
      (near : seats ≡ nearest_rounded (get_or ps i 0) P H) where
    here : seats ≡ get_or (start_seats ps H) i 0
    here = near ∙ state_rounded i inside ∙ sym (start_at ps H i inside)

    in_start : i < length (start_seats ps H)
    in_start = rw (length_start ps H) inside

    in_seats : i < length xs
    in_seats = rw same inside

    pub start_so_far : get_or xs i 0 ≡ seats
        → same_list (drop i xs) (drop i (start_seats ps H)) ≡ same_list (drop (i + 1) xs) (drop (i + 1) (start_seats ps H))
    start_so_far e = same_next xs (start_seats ps H) i in_seats in_start (e ∙ here)

    pub not_the_start : (get_or xs i 0 ≡ seats → ⊥) → same_list (drop i xs) (drop i (start_seats ps H)) ≡ false
    not_the_start apart = differ_found xs (start_seats ps H) i in_seats in_start (λ e. apart (e ∙ sym here))

  pub start_to_the_end : (xs : List ℕ) → length xs ≡ length ps → (i : ℕ) → length ps ≤ i
      → same_list (drop i xs) (drop i (start_seats ps H)) ≡ true
  start_to_the_end xs same i h = same_to_the_end xs (start_seats ps H) i (rw same h) (rw (length_start ps H) h)
