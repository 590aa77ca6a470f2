-- Which state moves first, by its claim: seats are placed where `up` and withdrawn otherwise.
-- Assumes nothing.
use Rattle.std.specs.Prelude.{◌≡◌, refl, Bool, List, ℕ, ◌-◌, ◌<◌, ◌≤◌, length, get_or}
use Rattle.std.proofs.Common.{arith}
use Rattle.apportionment.specs.Lists.{first_place}
use Rattle.apportionment.specs.declared.DivisorMethod.{DivisorMethod}
use Rattle.claims.specs.inner.Moves.{move_order}
use Rattle.claims.specs.inner.StandingOrder.{first_place_le}
use Rattle.apportionment.specs.Quantities.{less}
use Rattle.claims.specs.inner.DivisorClaims.{divisor_test, method_test}
use Rattle.claims.specs.inner.Tournament.{scan_next}
use Rattle.signposts.specs.inner.Claims.{ClaimFits, claim_for, less_claim}

-- ---- what is within bounds

-- Some states, each with a claim that fits.
pub record ClaimsFit (ps ss : List ℕ) : Type 0 where
  pub some_state : 0 < length ps
  pub same_length : length ss ≡ length ps
  pub each : (i : ℕ) → i < length ps → ClaimFits (get_or ps i 0) (get_or ss i 0)

-- ---- who moves

-- Every state may give up all its seats.
abbrev pub no_fewest : ℕ → ℕ
no_fewest i = 0

-- One claim comes before another as their products in machine words say.
pub compared : (m : DivisorMethod) (ps : List ℕ) (i a j b : ℕ)
    → method_test m ps i a j b ≡ less_claim (claim_for m (get_or ps i 0) a) (claim_for m (get_or ps j 0) b)
unfolding divisor_test less
compared m ps i a j b = refl

-- State i moves before state j.
abbrev pub moves_before : DivisorMethod → Bool → (ps ss : List ℕ) → ℕ → ℕ → Bool
moves_before m up ps ss = move_order up no_fewest (method_test m ps) ss

-- The state that moves first.
abbrev pub first_to_move : DivisorMethod → Bool → (ps ss : List ℕ) → ℕ
first_to_move m up ps ss = first_place (moves_before m up ps ss) (length ps - 1)

pub first_so_far_lt : (m : DivisorMethod) (up : Bool) {ps ss : List ℕ} {i best : ℕ} → ClaimsFit ps ss → i ≤ length ps
    → best ≡ first_place (moves_before m up ps ss) (i - 1) → best < length ps
first_so_far_lt m up {ps} {ss} {i} k h e = omega (arith, e, k.some_state, first_place_le (moves_before m up ps ss) (i - 1))

-- A state is found, the one that moves first.
pub record MovesFirst (m : DivisorMethod) (up : Bool) (ps ss : List ℕ) (i : ℕ) : Type 0 where
  pub first : i ≡ first_to_move m up ps ss
  pub within : i < length ps

-- What a scan's turns rest on.
pub ruleset scans = (scan_next, first_so_far_lt)
