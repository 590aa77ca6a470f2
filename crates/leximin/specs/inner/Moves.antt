-- What the moves ask, and that it holds again after a move.
-- Assumes nothing.
use Rattle.std.specs.Prelude.{◌≡◌, Bool, true, false, List, ℕ, zero, suc, ◌+◌, ◌/◌, ◌<◌, ◌≤◌, length, get_or, set}
use Rattle.std.proofs.Common.{◌∙◌, ⊎_elim, zero-le, arith, le_refl, le_trans}
use Rattle.apportionment.specs.Limits.{house_limit}
use Rattle.apportionment.specs.Lists.{sum}
use Rattle.apportionment.specs.inner.Problem.{Problem}
use Rattle.apportionment.specs.inner.Lists.{entry_at_most_sum, sum-list_of_one}
use Rattle.apportionment.specs.Leximin.{start_seats}
use Rattle.claims.specs.inner.Order.{ClaimTest, first_unmet, last_met, placed, placed_times, withdrawn_times}
use Rattle.claims.specs.inner.Moves.{moved_by, after_move, after_moves, order_agrees, first_moves, after_none, after_more, after_again}
use Rattle.claims.specs.inner.Standing.{first_unmet_lt, last_met_lt, length-placed_times, sum-placed_times, placed_times_standing}
use Rattle.claims.specs.inner.Standing.{length-withdrawn_times, withdrawn_times_standing}
use Rattle.claims.specs.inner.StandingMoves.{at_one_more}
use Rattle.claims.specs.inner.StartSeats.{length_start, start_at, start_standing}
use Rattle.claims.specs.inner.DivisorSeats.{withdrawn_at_most}
use Rattle.claims.specs.inner.SizeClaims.{Positive, problem_positive, size_test, one_each}
use Rattle.claims.specs.inner.SizeOrder.{size_order}
use Rattle.claims.specs.inner.Tournament.{winner_lt, root_is_first}
use Rattle.claims.specs.inner.TournamentReplay.{Replaying, replaying_start}
use Rattle.leximin.specs.inner.Scan.{Bounded}
use Rattle.leximin.specs.inner.Start.{start_bounded}
use Rattle.leximin.specs.inner.Sided.{Side, Sided, sided_long}
use Rattle.leximin.specs.inner.Tournament.{Champions, moves_before, moves_pass}

-- One seat moved: placed where `up` is true, and withdrawn otherwise.
abbrev pub moved_once : (up : Bool) (ps : List ℕ) (H : ℕ) (xs : List ℕ) → List ℕ
moved_once up ps H xs = after_move up one_each (size_test ps H) (length ps) xs

-- So many seats moved.
abbrev pub moved_times : (up : Bool) (ps : List ℕ) (H : ℕ) (xs : List ℕ) (k : ℕ) → List ℕ
moved_times up ps H xs k = after_moves up one_each (size_test ps H) (length ps) xs k

-- So many can be placed if the largest house has room for them, and withdrawn if one is left for each state.
abbrev pub Room : (up : Bool) (n : ℕ) (xs : List ℕ) (times : ℕ) → Type 0
Room true n xs times = sum xs + times ≤ house_limit
Room false n xs times = n + times ≤ sum xs

-- Seats some moves from the start of a problem, of which so many more can be moved.
pub record Movable (up : Bool) (ps : List ℕ) (P H : ℕ) (xs : List ℕ) (times : ℕ) : Type 0 where
  pub problem : Problem ps P H
  pub made : ℕ
  pub begun : xs ≡ moved_times up ps H (start_seats ps H) made
  pub room : Room up (length ps) (start_seats ps H) (made + times)

-- Placing takes no seat from a state.
placed_at_least : (lt : ClaimTest) (n : ℕ) (xs : List ℕ) → 0 < n → length xs ≡ n → (k i : ℕ)
    → get_or xs i 0 ≤ get_or (placed_times lt n xs k) i 0
unfolding placed_times placed
placed_at_least lt n xs some states zero i = le_refl (get_or xs i 0)
placed_at_least lt n xs some states (suc k) i =
    let ys = placed_times lt n xs k in
    let inside : first_unmet lt n ys < length ys = rw (length-placed_times n lt xs k ∙ states) (first_unmet_lt n lt ys some) in
    let before = placed_at_least lt n xs some states k i in
    ⊎_elim (λ h. omega (arith, h.1, before)) (λ h. omega (arith, h.1, before)) (at_one_more ys (first_unmet lt n ys) i inside)

-- ---- each move leaves seats that a move can be made with

module _ {ps : List ℕ} {P H : ℕ} (problem : Problem ps P H) where
  abbrev n : ℕ
  n = length ps

  abbrev lt : ClaimTest
  lt = size_test ps H

  abbrev start : List ℕ
  start = start_seats ps H

  s : Positive ps H
  s = problem_positive problem

  sided : (up : Bool) {xs : List ℕ} → length xs ≡ n → ((i : ℕ) → get_or xs i 0 ≤ house_limit) → ((i : ℕ) → i < n → 1 ≤ get_or xs i 0)
      → ((i : ℕ) → Side up (get_or start i 0) (get_or xs i 0)) → Sided up ps P H xs
  sided up states fit least side =
      record {
        seated =
            record {
              bounded = record { fillable = record { problem = problem; same_length = states }; seats_within = fit };
              least = least;
            };
        side = λ i inside. rw (← start_at ps H i inside) (side i);
      }

  placed_sided : (k : ℕ) → sum start + k ≤ house_limit → Sided true ps P H (placed_times lt n start k)
  placed_sided k room =
      sided true (length-placed_times n lt start k ∙ length_start ps H)
      (λ i. le_trans (entry_at_most_sum (placed_times lt n start k) i)
      (rw (sum-placed_times n lt start k s.some_state (length_start ps H)) room))
      (placed_times_standing n one_each lt (size_order s) start k s.some_state (start_standing s)).least
      (placed_at_least lt n start s.some_state (length_start ps H) k)

  withdrawn_sided : (k : ℕ) → n + k ≤ sum start → Sided false ps P H (withdrawn_times one_each lt n start k)
  withdrawn_sided k room =
      sided false (length-withdrawn_times n one_each lt start k ∙ length_start ps H)
      (λ i. le_trans (withdrawn_at_most one_each lt n start k i) ((start_bounded problem).seats_within i))
      (withdrawn_times_standing n one_each lt (size_order s) start k s.some_state (start_standing s) (rw (sum-list_of_one n) room)).least
      (withdrawn_at_most one_each lt n start k)

from_start_sided : {ps : List ℕ} {P H : ℕ} (up : Bool) → Problem ps P H → (k : ℕ) → Room up (length ps) (start_seats ps H) k
    → Sided up ps P H (moved_times up ps H (start_seats ps H) k)
unfolding after_moves
from_start_sided true problem k room = placed_sided problem k room
from_start_sided false problem k room = withdrawn_sided problem k room

-- Fewer seats need no more room.
room_for_fewer : (up : Bool) (n : ℕ) (xs : List ℕ) {k times : ℕ} → k ≤ times → Room up n xs times → Room up n xs k
room_for_fewer true n xs h room = omega (arith, h, room)
room_for_fewer false n xs h room = omega (arith, h, room)

pub moved_sided : {ps xs : List ℕ} {P H times : ℕ} (up : Bool) → Movable up ps P H xs times → (k : ℕ) → k ≤ times
    → Sided up ps P H (moved_times up ps H xs k)
moved_sided {ps} {xs} {P} {H} up m k h =
    rw (m.begun, after_again up one_each (size_test ps H) (length ps) (start_seats ps H) m.made k)
    (from_start_sided up m.problem (m.made + k) (room_for_fewer up (length ps) (start_seats ps H) (omega (arith, h)) m.room))

-- ---- moves by a tournament

-- So many moves from xs₀ are made, and the tournament is right for the seats as they are.
pub record Moving (up : Bool) (ps xs₀ : List ℕ) (H done : ℕ) (xs t : List ℕ) : Type 0 where
  pub seats : xs ≡ moved_times up ps H xs₀ done
  pub winners : Champions up ps H xs t

pub movable_sided : {up : Bool} {ps xs : List ℕ} {P H times : ℕ} → Movable up ps P H xs times → Sided up ps P H xs
movable_sided {up} {ps} {xs} {P} {H} m = rw (after_none up one_each (size_test ps H) (length ps) xs) (moved_sided up m 0 zero-le)

module _ {up : Bool} {ps xs₀ xs t : List ℕ} {P H times done : ℕ}
    (m : Movable up ps P H xs₀ times) (so_far : Moving up ps xs₀ H done xs t) where
  pub moving_sided : done ≤ times → Sided up ps P H xs
  moving_sided h = rw so_far.seats (moved_sided up m done h)

  -- The state at the root makes the next move.
  module _ {j : ℕ} (root : j ≡ get_or t 1 0) where
    pub root_inside : j < length ps
    root_inside = rw root (winner_lt so_far.winners 1 (omega arith) (omega (arith, m.problem.states.some_state)))

    pub root_has_seats : done ≤ times → j < length xs
    root_has_seats h = rw (sided_long (moving_sided h)) root_inside

    module _ {v : ℕ} (move : v ≡ moved_by up (get_or xs j 0)) (left : done < times) where
      pub root_moved : set xs j v ≡ moved_times up ps H xs₀ (done + 1)
      root_moved =
          let first = root_is_first so_far.winners (moves_pass up (moving_sided (omega arith))) m.problem.states.some_state in
          after_more up one_each (size_test ps H) (length ps) xs₀ done so_far.seats
          (first_moves up one_each (size_test ps H) (length ps) xs (root ∙ first) move)

      pub root_sided : Sided up ps P H (set xs j v)
      root_sided = rw root_moved (moved_sided up m (done + 1) (omega arith))

      -- Only the way up from that state's leaf is then due.
      pub root_due : Replaying (moves_before up ps H (set xs j v)) (length ps) ((length ps + j) / 2) t
      root_due = replaying_start so_far.winners j (order_agrees up one_each (size_test ps H) xs j v)

-- ---- moves by a scan

-- The state that moves is one of the states.
pub unmet_inside : {ps xs : List ℕ} {P H r : ℕ} → Bounded ps P H xs → r ≡ first_unmet (size_test ps H) (length ps) xs → r < length xs
unmet_inside {ps} {xs} {P} {H} b e =
    rw (e, b.fillable.same_length) (first_unmet_lt (length ps) (size_test ps H) xs b.fillable.problem.states.some_state)

pub met_inside : {ps xs : List ℕ} {P H r : ℕ} → Bounded ps P H xs → r ≡ last_met one_each (size_test ps H) (length ps) xs → r < length xs
met_inside {ps} {xs} {P} {H} b e =
    rw (e, b.fillable.same_length) (last_met_lt (length ps) one_each (size_test ps H) xs b.fillable.problem.states.some_state)

-- The same of the populations.
pub inside_states : {ps xs : List ℕ} {P H r : ℕ} → Bounded ps P H xs → r < length xs → r < length ps
inside_states b h = rw b.fillable.same_length at h
