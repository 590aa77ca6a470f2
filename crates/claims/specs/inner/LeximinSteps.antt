-- Leximin's steps. From the start a step places the first claim not met while the total is below the house, and otherwise withdraws the
-- last one met; after every step the seats are the leximin allotment for their total, and their two ends alone tell whether seats are.
-- Assumes nothing.
use Rattle.std.specs.Prelude.{◌≡◌, true, false, List, ℕ, ◌+◌, ◌<◌, ◌≤◌, ltb, length, get_or}
use Rattle.std.proofs.Common.{sym, ◌∙◌, le_refl, arith}
use borrow.Author.Tests.{ltb-true, ltb-false}
use Rattle.apportionment.specs.Lists.{sum, list_of}
use Rattle.apportionment.specs.inner.Lists.{sum-list_of_one}
use Rattle.apportionment.specs.inner.Tests.{either_way}
use Rattle.apportionment.specs.Quantities.{distance}
use Rattle.apportionment.specs.Leximin.{start_seats, start_total, gap, total_after, leximin_for}
use Rattle.claims.specs.inner.Order.{Standing, ends_apart}
use Rattle.claims.specs.inner.Standing.{placed_times_standing, sum-placed_times, withdrawn_times_standing, sum-withdrawn_times}
use Rattle.claims.specs.inner.Standing.{ends_standing, standing_ends}
use Rattle.claims.specs.inner.Moves.{after_moves, after_none}
use Rattle.claims.specs.inner.SizeClaims.{size_test, one_each, Positive}
use Rattle.claims.specs.inner.SizeOrder.{size_order}
use Rattle.claims.specs.inner.Optimal.{standing_leximin}
use Rattle.claims.specs.inner.StartSeats.{start_standing}
use Rattle.claims.specs.inner.StartBounds.{states_at_most_standing, states_at_most_start}

-- The seats after m steps from the start.
abbrev pub lex_moved : (ps : List ℕ) (H m : ℕ) → List ℕ
lex_moved ps H m = after_moves (ltb (start_total ps H) H) one_each (size_test ps H) (length ps) (start_seats ps H) m

-- With no step made the seats are the start.
pub no_step_made : (ps : List ℕ) (H : ℕ) → lex_moved ps H 0 ≡ start_seats ps H
no_step_made ps H = sym (after_none (ltb (start_total ps H) H) one_each (size_test ps H) (length ps) (start_seats ps H))

-- ---- the total after each step

-- As many steps as the gap lead to the house.
pub total_at_gap : (ps : List ℕ) (H : ℕ) → total_after ps H (gap ps H) ≡ H
unfolding total_after gap distance
total_at_gap ps H =
    either_way (ltb (start_total ps H) H)
    (λ up. rw up (omega (arith, ltb-true (start_total ps H) H up)))
    (λ down. rw down (omega (arith, ltb-false (start_total ps H) H down)))

-- ---- the seats after each step

module _ {ps : List ℕ} {H : ℕ} (s : Positive ps H) (fits : length ps ≤ H) where
  -- The seats above one each are enough to withdraw m.
  enough : (m : ℕ) → m ≤ gap ps H → ltb (start_total ps H) H ≡ false → sum (list_of one_each (length ps)) + m ≤ sum (start_seats ps H)
  unfolding gap distance start_total
  enough m h e = omega (arith, sum-list_of_one (length ps), states_at_most_start s, ltb-false (start_total ps H) H e)

  pub moved_standing : (m : ℕ) → m ≤ gap ps H → Standing (length ps) one_each (size_test ps H) (lex_moved ps H m)
  unfolding after_moves
  moved_standing m h =
      either_way (ltb (start_total ps H) H)
      (λ up. rw up
      (placed_times_standing (length ps) one_each (size_test ps H) (size_order s) (start_seats ps H) m s.some_state (start_standing s)))
      (λ down. rw down
      (withdrawn_times_standing (length ps) one_each (size_test ps H) (size_order s) (start_seats ps H) m s.some_state (start_standing s)
      (enough m h down)))

  pub moved_total : (m : ℕ) → m ≤ gap ps H → sum (lex_moved ps H m) ≡ total_after ps H m
  unfolding after_moves total_after start_total
  moved_total m h =
      either_way (ltb (start_total ps H) H)
      (λ up. rw up (sum-placed_times (length ps) (size_test ps H) (start_seats ps H) m s.some_state (start_standing s).states))
      (λ down.
      let taken =
      sum-withdrawn_times (length ps) one_each (size_test ps H) (size_order s) (start_seats ps H) m s.some_state (start_standing s).states
      (enough m h down) in
      rw down (omega (arith, taken)))

  -- Each total passed has a seat for each state.
  pub states_at_most_passed : (m : ℕ) → m ≤ gap ps H → length ps ≤ total_after ps H m
  states_at_most_passed m h = rw (← moved_total m h) (states_at_most_standing (moved_standing m h))

  -- The seats after m steps are the leximin allotment for their total.
  pub moved_leximin : (m : ℕ) → m ≤ gap ps H → lex_moved ps H m ≡ leximin_for ps H (total_after ps H m)
  moved_leximin m h = rw (← moved_total m h) (sym (standing_leximin s (moved_standing m h)))

  -- As many steps as the gap give the leximin allotment of the house.
  pub last_step_leximin : lex_moved ps H (gap ps H) ≡ leximin_for ps H H
  last_step_leximin = cc (moved_leximin (gap ps H) (le_refl (gap ps H)), total_at_gap ps H)

  -- ---- the test of seats by their two ends

  -- Seats whose ends are apart are the leximin allotment for their total.
  pub ends_apart_leximin : (m : ℕ) (xs : List ℕ) → length xs ≡ length ps → ((i : ℕ) → i < length ps → 1 ≤ get_or xs i 0)
      → sum xs ≡ total_after ps H m → ends_apart one_each (size_test ps H) (length ps) xs ≡ true → xs
      ≡ leximin_for ps H (total_after ps H m)
  ends_apart_leximin m xs states least total e =
      rw (← total)
      (sym (standing_leximin s (ends_standing (length ps) one_each (size_test ps H) (size_order s) xs states s.some_state least e)))

  -- The leximin allotment's ends are apart.
  pub leximin_ends_apart : (m : ℕ) (xs : List ℕ) → m ≤ gap ps H → xs ≡ leximin_for ps H (total_after ps H m)
      → ends_apart one_each (size_test ps H) (length ps) xs ≡ true
  leximin_ends_apart m xs h e =
      rw (e ∙ sym (moved_leximin m h))
      (standing_ends (length ps) one_each (size_test ps H) (size_order s) (lex_moved ps H m) s.some_state (moved_standing m h))
