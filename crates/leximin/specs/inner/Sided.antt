-- Seats on their way from the start: their claims are all at or above it, or all below it, so that quotients compare them.
-- Assumes nothing.
use Rattle.std.specs.Prelude.{◌≡◌, Bool, true, false, List, ℕ, ◌+◌, ◌-◌, ◌<◌, ◌≤◌, length, get_or}
use Rattle.std.proofs.Common.{le_refl, arith}
use denote.Struct.Props as logic
use Rattle.apportionment.specs.Lists.{sum}
use Rattle.apportionment.specs.inner.Problem.{Problem}
use Rattle.apportionment.specs.Leximin.{nearest}
use Rattle.claims.specs.inner.SizeClaims.{Positive, problem_positive}
use Rattle.claims.specs.inner.SizeOrder.{people}
use Rattle.claims.specs.inner.SizeQuotients.{climbs_from_start, falls_to_start}
use Rattle.claims.specs.inner.StartSeats.{state_nearest}
use Rattle.leximin.specs.inner.Scan.{Seated, state_with}
use Rattle.sizes.specs.inner.Quotients.{ClimbingClaim, FallingClaim}

-- Seats on their way up from the start have reached it, and seats on their way down do not pass it.
abbrev pub Side : (up : Bool) (start a : ℕ) → Type 0
Side true start a = start ≤ a
Side false start a = a ≤ start

-- Each is one fact, so a field of a type may hold it.
pub side_prop : (up : Bool) (start a : ℕ) → IsProp (Side up start a)
side_prop true start a = Prim.hlevel logic.props
side_prop false start a = Prim.hlevel logic.props

pub ruleset sided_props = (logic.props, side_prop)

-- Seats on their way from the start: each state's are on one side of its own.
pub record Sided (up : Bool) (ps : List ℕ) (P H : ℕ) (xs : List ℕ) : Type 0 where
  pub seated : Seated ps P H xs
  pub side : (i : ℕ) → i < length ps → Side up (nearest (get_or ps i 0) (sum ps) H) (get_or xs i 0)

pub sided_problem : {up : Bool} {ps xs : List ℕ} {P H : ℕ} → Sided up ps P H xs → Problem ps P H
sided_problem s = s.seated.bounded.fillable.problem

pub sided_long : {up : Bool} {ps xs : List ℕ} {P H : ℕ} → Sided up ps P H xs → length xs ≡ length ps
sided_long s = s.seated.bounded.fillable.same_length

pub sided_positive : {up : Bool} {ps xs : List ℕ} {P H : ℕ} → Sided up ps P H xs → Positive ps H
sided_positive s = problem_positive (sided_problem s)

module _ {ps xs : List ℕ} {P H : ℕ} (i : ℕ) (inside : i < length ps) where
  pub climbing_claim : Sided true ps P H xs → ClimbingClaim (get_or ps i 0) (get_or xs i 0) P H
  climbing_claim s =
      let positive = sided_positive s in (
        state_with s.seated.bounded i (le_refl (get_or xs i 0 + 1)),
        rw (sided_problem s).states.sums
            (climbs_from_start (get_or ps i 0) (sum ps) H _ (positive.peopled i inside) (people positive) positive.some_seat
            (state_nearest positive i inside) (get_or xs i 0) (s.side i inside)),
      )

  pub falling_claim : Sided false ps P H xs → 1 < get_or xs i 0 → FallingClaim (get_or ps i 0) (get_or xs i 0 - 1) P H
  falling_claim s h =
      let positive = sided_positive s in (
        state_with s.seated.bounded i (omega arith),
        rw (sided_problem s).states.sums
            (falls_to_start (get_or ps i 0) (sum ps) H _ (positive.peopled i inside) (people positive) positive.some_seat
            (state_nearest positive i inside) (get_or xs i 0 - 1) (omega arith) (omega (arith, s.side i inside))),
      )
