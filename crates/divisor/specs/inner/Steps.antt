-- From the rounded seats to the house: the moves between are within bounds, and lead to the method's allotment.
-- Assumes nothing.
use Rattle.std.specs.Prelude.{◌≡◌, Bool, true, false, List, ℕ, ◌+◌, ◌-◌, ◌≤◌, ◌<◌, leb, length, get_or}
use Rattle.std.specs.Int.{abs_diff}
use Rattle.std.proofs.Common.{sym, ap, ◌∙◌, arith, leb-true, leb-false}
use Rattle.apportionment.specs.Lists.{sum, list_of}
use Rattle.apportionment.specs.inner.Lists.{sum-list_of_zero}
use Rattle.apportionment.specs.inner.Tests.{either_way}
use Rattle.apportionment.specs.inner.Problem.{States, Fillable, entry_at_most_total}
use Rattle.apportionment.specs.Divisor.{divisor_seats}
use Rattle.apportionment.specs.declared.DivisorMethod.{DivisorMethod}
use Rattle.claims.specs.inner.Order.{ClaimOrder, Standing}
use Rattle.claims.specs.inner.DivisorClaims.{method_test}
use Rattle.claims.specs.inner.Standing.{sum-placed_times, placed_times_standing, sum-withdrawn_times, withdrawn_times_standing}
use Rattle.claims.specs.inner.DivisorRounding.{rounded_standing}
use Rattle.claims.specs.inner.DivisorSeats.{rounded_seats_at_most, method_order, standing_is_divisor}
use Rattle.signposts.specs.inner.Claims.{aim_limit}
use Rattle.signposts.specs.inner.Order.{ClaimsFit}
use Rattle.claims.specs.inner.Moves.{after_moves}
use Rattle.divisor.specs.inner.Moves.{Moves, moved_seats}
use Rattle.divisor.specs.inner.Rounding.{Filled, filled_length}

-- Rounded seats, for whichever house, and how many they are.
pub record Started (m : DivisorMethod) (ps ss : List ℕ) (given : ℕ) : Type 0 where
  pub aim : ℕ
  pub aim_fits : aim ≤ aim_limit
  pub filled : Filled m ps aim ss given

module _ {m : DivisorMethod} {ps before ss : List ℕ} {P H given : ℕ} (k : Fillable ps P H before) (start : Started m ps ss given) where
  start_sum : sum ss ≡ given
  start_sum = ap sum start.filled.seats ∙ sym start.filled.total

  states : States ps P
  states = k.problem.states

  start_fits : ClaimsFit ps ss
  start_fits =
      record {
        some_state = states.some_state;
        same_length = filled_length start.filled;
        each =
            λ i l. record {
              people_within = omega (arith, entry_at_most_total states i, states.sum_within);
              seats_within =
                  omega (
                    arith,
                    start.aim_fits,
                    ap (λ (xs : List ℕ). get_or xs i 0) start.filled.seats,
                    rounded_seats_at_most m ps start.aim i,
                  );
            };
      }

  pub start_moves : (up : Bool) {times : ℕ} → (up ≡ true → given + times ≤ H) → Moves up ps ss times
  start_moves up fits =
      record {
        states = rw states.sums at states;
        all = start_fits;
        room = λ e. omega (arith, start_sum, k.problem.house_within, fits e);
      }

  -- What is lacking can be placed, and what is too much withdrawn.
  pub moves_to_house : {times : ℕ} → times ≡ abs_diff H given → Moves (leb given H) ps ss times
  moves_to_house e = start_moves (leb given H) (λ up. omega (arith, leb-true given H up, e))

  -- Rounded seats stand, so the steps lead to the method's allotment, whichever house they were rounded for.
  start_stands : Standing (length ps) (λ _. 0) (method_test m ps) ss
  start_stands = rw start.filled.seats (rounded_standing ps states.some_state states.peopled m start.aim)

  order : ClaimOrder (length ps) (λ _. 0) (method_test m ps)
  order = method_order ps states.some_state states.peopled m

  pub withdrawn_is_divisor : H < given → {after : List ℕ} → after ≡ moved_seats m false ps ss (given - H) → after ≡ divisor_seats m ps H
  unfolding after_moves
  withdrawn_is_divisor h e =
      let some = states.some_state in
      let enough : sum (list_of (λ _. 0) (length ps)) + (given - H) ≤ sum ss = omega (arith, start_sum, sum-list_of_zero (length ps)) in
      e ∙ standing_is_divisor ps some states.peopled m _ H
      (withdrawn_times_standing (length ps) (λ _. 0) (method_test m ps) order ss (given - H) some start_stands enough)
      (omega (
        arith,
        start_sum,
        sum-withdrawn_times (length ps) (λ _. 0) (method_test m ps) order ss (given - H) some (filled_length start.filled) enough,
      ))

  pub placed_is_divisor : given ≤ H → {after : List ℕ} → after ≡ moved_seats m true ps ss (H - given) → after ≡ divisor_seats m ps H
  unfolding after_moves
  placed_is_divisor h e =
      let some = states.some_state in
      e ∙ standing_is_divisor ps some states.peopled m _ H
      (placed_times_standing (length ps) (λ _. 0) (method_test m ps) order ss (H - given) some start_stands)
      (omega (arith, start_sum, sum-placed_times (length ps) (method_test m ps) ss (H - given) some (filled_length start.filled)))

  pub moved_is_divisor : {times : ℕ} → times ≡ abs_diff H given → {after : List ℕ} → after ≡ moved_seats m (leb given H) ps ss times
      → after ≡ divisor_seats m ps H
  moved_is_divisor {times} e moved =
      either_way (leb given H)
      (λ up.
      let few = leb-true given H up in
      let all : times ≡ H - given = omega (arith, e, few) in
      placed_is_divisor few (rw (up, all) at moved))
      (λ down.
      let many = leb-false given H down in
      let all : times ≡ given - H = omega (arith, e, many) in
      withdrawn_is_divisor many (rw (down, all) at moved))
