-- The seats of an allotment add up to the house, whichever the method: so no state has more than the house, and every departure that a
-- listing shows is within its limits.
-- Assumes nothing.
use Rattle.std.specs.Prelude.{◌≡◌, refl, List, ℕ, ◌<◌, ◌≤◌, length, get_or}
use Rattle.std.proofs.Common.{◌∙◌, le_refl}
use Rattle.apportionment.specs.Lists.{sum}
use Rattle.apportionment.specs.inner.Lists.{length-list_of}
use Rattle.apportionment.specs.Leximin.{leximin_for, gap}
use Rattle.apportionment.specs.Divisor.{weight_of, divisor_seats}
use Rattle.apportionment.specs.Remainders.{remainder_seats, remainder_seats_at}
use Rattle.apportionment.specs.Quota.{quota_seats}
use Rattle.apportionment.specs.Allotment.{seats_of}
use Rattle.apportionment.specs.declared.DivisorMethod.{DivisorMethod}
use Rattle.apportionment.specs.declared.Method.{Method}
use Rattle.apportionment.specs.inner.Signposts.{signposts_increase}
use Rattle.claims.specs.inner.DivisorRounding.{weight_positive}
use Rattle.claims.specs.inner.DivisorSeats.{claims_met_standing, claims_met_sum}
use Rattle.apportionment.specs.inner.Problem.{Problem}
use Rattle.claims.specs.inner.SizeClaims.{problem_positive}
use Rattle.claims.specs.inner.LeximinSteps.{moved_standing, moved_total, last_step_leximin, total_at_gap}
use Rattle.problem.specs.inner.Passed.{Allottable}
use Rattle.remainders.specs.inner.House.{seats_sum_to_house}
use Rattle.quota.specs.inner.Serving.{problem_peopled}
use Rattle.quota.specs.inner.Quota.{quota_long, quota_sum}
use Rattle.allot.specs.inner.Ways.{way_of, seats_by, filled_by_way, leximin_seats_every_state}
use Rattle.allot.specs.declared.Way.{Way}
use Rattle.allot.specs.declared.Way.TheVariants.{Divisor}

-- So many seats for so many states.
pub record Shared (n H : ℕ) (seats : List ℕ) : Type 0 where
  pub states : length seats ≡ n
  pub whole : sum seats ≡ H

leximin_shared : (ps : List ℕ) (H : ℕ) → Problem ps (sum ps) H → length ps ≤ H → Shared (length ps) H (leximin_for ps H H)
leximin_shared ps H ok fits =
    let positive = problem_positive ok in
    let all : gap ps H ≤ gap ps H = le_refl (gap ps H) in
    rw (← last_step_leximin positive fits)
    (record {
      states = (moved_standing positive fits (gap ps H) all).states;
      whole = moved_total positive fits (gap ps H) all ∙ total_at_gap ps H;
    })

divisor_shared : (m : DivisorMethod) (ps : List ℕ) (H : ℕ) → Problem ps (sum ps) H → Shared (length ps) H (divisor_seats m ps H)
unfolding divisor_seats
divisor_shared m ps H ok =
    let weighs : (i : ℕ) → i < length ps → 0 < weight_of m (get_or ps i 0) =
    λ i below. weight_positive m (get_or ps i 0) (ok.states.peopled i below) in
    record {
      states = (claims_met_standing (signposts_increase m) weighs ok.states.some_state H).states;
      whole = claims_met_sum (signposts_increase m) weighs ok.states.some_state H;
    }

remainders_shared : (ps : List ℕ) (H : ℕ) → Problem ps (sum ps) H → Shared (length ps) H (remainder_seats ps H)
unfolding remainder_seats
remainders_shared ps H ok =
    record { states = length-list_of (remainder_seats_at ps H) (length ps); whole = seats_sum_to_house ok }

quota_shared : (ps : List ℕ) (H : ℕ) → Problem ps (sum ps) H → Shared (length ps) H (quota_seats ps H)
quota_shared ps H ok = record { states = quota_long (problem_peopled ok) H; whole = quota_sum (problem_peopled ok) H }

way_shared : (way : Way) (ps : List ℕ) (H : ℕ) → Problem ps (sum ps) H → (way ≡ Way.Leximin → length ps ≤ H)
    → Shared (length ps) H (seats_by way ps H)
way_shared Way.Leximin ps H ok fits = leximin_shared ps H ok (fits refl)
way_shared (Divisor m) ps H ok fits = divisor_shared m ps H ok
way_shared Way.Remainders ps H ok fits = remainders_shared ps H ok
way_shared Way.Quota ps H ok fits = quota_shared ps H ok

pub allotment_shared : (m : Method) (H : ℕ) (ps : List ℕ) (room : ℕ) → Allottable m H ps room → Shared (length ps) H (seats_of m ps H)
allotment_shared m H ps room ok =
    rw (← (filled_by_way m ps H).seats)
    (way_shared (way_of m) ps H ok.problem (λ e. ok.seat_for_each (leximin_seats_every_state m refl e)))
