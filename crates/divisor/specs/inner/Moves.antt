-- Moves of seats, placed where `up` and withdrawn otherwise: that a tournament finds the state that moves first, and that every number
-- on the way is within bounds.
-- Assumes nothing.
use Rattle.std.specs.Prelude.{◌≡◌, refl, Bool, true, false, List, ℕ, ◌+◌, ◌/◌, ◌<◌, ◌≤◌, length, get_or, set}
use Rattle.std.proofs.Common.{ap, ◌∙◌, zero-le, arith}
use Rattle.apportionment.specs.Limits.{house_limit}
use Rattle.apportionment.specs.Lists.{sum}
use Rattle.apportionment.specs.inner.Lists.{entry_at_most_sum}
use Rattle.apportionment.specs.inner.Problem.{States}
use Rattle.apportionment.specs.declared.DivisorMethod.{DivisorMethod}
use Rattle.claims.specs.inner.Order.{placed_times}
use Rattle.claims.specs.inner.Standing.{sum-placed_times}
use Rattle.claims.specs.inner.Moves.{moved_by, after_move, after_moves, order_passes, order_agrees, first_moves}
use Rattle.claims.specs.inner.Moves.{after_none, after_more, after_length}
use Rattle.claims.specs.inner.Tournament.{Winners, winner_lt, root_is_first}
use Rattle.claims.specs.inner.TournamentReplay.{Replaying, replaying_start}
use Rattle.claims.specs.inner.DivisorClaims.{method_test}
use Rattle.claims.specs.inner.DivisorSeats.{method_order, withdrawn_at_most}
use Rattle.signposts.specs.inner.Claims.{seat_limit}
use Rattle.signposts.specs.inner.Order.{ClaimsFit, no_fewest, moves_before}

-- ---- what a move makes of the seats

-- The seats after one move, of the state that comes first, and after so many.
abbrev pub moved_once : DivisorMethod → Bool → (ps ss : List ℕ) → List ℕ
moved_once m up ps ss = after_move up no_fewest (method_test m ps) (length ps) ss

abbrev pub moved_seats : DivisorMethod → Bool → (ps ss : List ℕ) → ℕ → List ℕ
moved_seats m up ps ss times = after_moves up no_fewest (method_test m ps) (length ps) ss times

-- A tournament of the states as they move.
abbrev pub Played : DivisorMethod → Bool → (ps ss tree : List ℕ) → Type 0
Played m up ps ss tree = Winners (moves_before m up ps ss) (length ps) tree

-- ---- one move

-- A move can be made: the claims fit before and after it.
pub record Turn (m : DivisorMethod) (up : Bool) (ps ss tree : List ℕ) : Type 0 where
  pub states : States ps (sum ps)
  pub all : ClaimsFit ps ss
  pub after : ClaimsFit ps (moved_once m up ps ss)
  pub played : Played m up ps ss tree

-- It was made.
pub record Turned (m : DivisorMethod) (up : Bool) (ps ss after tree : List ℕ) : Type 0 where
  pub seats : after ≡ moved_once m up ps ss
  pub played : Played m up ps after tree

module _ {m : DivisorMethod} {up : Bool} {ps ss tree : List ℕ} (k : Turn m up ps ss tree) where
  pub root_lt : get_or tree 1 0 < length ps
  root_lt = winner_lt k.played 1 (omega arith) (omega (arith, k.all.some_state))

  pub root_within : get_or tree 1 0 < length ss
  root_within = omega (arith, root_lt, k.all.same_length)

  -- The state at the root moves, which leaves its way up due.
  pub root_moved : {v : ℕ} → v ≡ moved_by up (get_or ss (get_or tree 1 0) 0) → set ss (get_or tree 1 0) v ≡ moved_once m up ps ss
  root_moved e =
      let passes = order_passes (method_order ps k.states.some_state k.states.peopled m) up ss (λ i hi. zero-le) in
      first_moves up no_fewest (method_test m ps) (length ps) ss (root_is_first k.played passes k.all.some_state) e

  pub root_due : (v : ℕ)
      → Replaying (moves_before m up ps (set ss (get_or tree 1 0) v)) (length ps) ((length ps + get_or tree 1 0) / 2) tree
  root_due v = replaying_start k.played (get_or tree 1 0) (order_agrees up no_fewest (method_test m ps) ss (get_or tree 1 0) v)

-- ---- many moves

-- Seats of which so many can be moved.
pub record Moves (up : Bool) (ps ss : List ℕ) (times : ℕ) : Type 0 where
  pub states : States ps (sum ps)
  pub all : ClaimsFit ps ss
  pub room : up ≡ true → sum ss + times ≤ house_limit

moved_few : (m : DivisorMethod) (up : Bool) {ps before : List ℕ} {times : ℕ} → Moves up ps before times → (done : ℕ) → done ≤ times
    → (i : ℕ) → i < length ps → get_or (moved_seats m up ps before done) i 0 ≤ seat_limit
unfolding after_moves
moved_few m true {ps} {before} k done h i l =
    omega (
      arith,
      k.room refl,
      sum-placed_times (length ps) (method_test m ps) before done k.all.some_state k.all.same_length,
      entry_at_most_sum (placed_times (method_test m ps) (length ps) before done) i,
    )
moved_few m false {ps} {before} k done h i l =
    omega (arith, (k.all.each i l).seats_within, withdrawn_at_most no_fewest (method_test m ps) (length ps) before done i)

-- The seats after some of the moves are within bounds.
pub moved_fits : (m : DivisorMethod) {up : Bool} {ps before : List ℕ} {times : ℕ} → Moves up ps before times
    → (done : ℕ) → done ≤ times → {ss : List ℕ} → ss ≡ moved_seats m up ps before done → ClaimsFit ps ss
moved_fits m {up} {ps} {before} k done h so_far =
    record {
      some_state = k.all.some_state;
      same_length = ap length so_far ∙ after_length up no_fewest (method_test m ps) (length ps) before done ∙ k.all.same_length;
      each = λ i l. record { people_within = (k.all.each i l).people_within; seats_within = rw so_far (moved_few m up k done h i l) };
    }

-- ---- by a tournament

-- After so many moves.
pub record Moving (m : DivisorMethod) (up : Bool) (ps before : List ℕ) (done : ℕ) (ss tree : List ℕ) : Type 0 where
  pub seats : ss ≡ moved_seats m up ps before done
  pub played : Played m up ps ss tree

module _ {m : DivisorMethod} {up : Bool} {ps before : List ℕ} where
  pub moving_none : {tree : List ℕ} → Played m up ps before tree → Moving m up ps before 0 before tree
  moving_none played = record { seats = after_none up no_fewest (method_test m ps) (length ps) before; played = played }

  module _ {done : ℕ} {ss tree : List ℕ} (so_far : Moving m up ps before done ss tree) where
    pub moving_turn : {times : ℕ} → Moves up ps before times → done < times → Turn m up ps ss tree
    moving_turn k h =
        record {
          states = k.states;
          all = moved_fits m k done (omega arith) so_far.seats;
          after = moved_fits m k (done + 1) (omega arith)
              (after_more up no_fewest (method_test m ps) (length ps) before done so_far.seats refl);
          played = so_far.played;
        }

    pub moving_more : {after tree' : List ℕ} → Turned m up ps ss after tree' → Moving m up ps before (done + 1) after tree'
    moving_more turned =
        record {
          seats = after_more up no_fewest (method_test m ps) (length ps) before done so_far.seats turned.seats;
          played = turned.played;
        }
