-- The quota method of Balinski and Young (W-201): seats are given one by one, each to a state able to have it. P is the sum of ps.
use Rattle.std.specs.Prelude.{◌+◌, ◌-◌, ◌*◌, ◌/◌, ◌≤◌, Bool, List, ℕ, zero, suc, ltb, length, get_or, replicate}
use Rattle.apportionment.specs.{Lists.sum, Lists.among, Lists.first_place, Quantities.Fraction, Quantities.less, Divisor.one_more}

unfoldable pub able : (ps : List ℕ) (h : ℕ) (seats : List ℕ) (i : ℕ) → Bool  -- A state may have the seat numbered h: a P < p h.
able ps h seats i = ltb (get_or seats i 0 * sum ps) (get_or ps i 0 * h)

unfoldable pub quotient : (p a : ℕ) → Fraction  -- The quotient p / (a + 1).
quotient p a = record { over = p; under = a + 1 }

unfoldable pub quotient_before : (ps seats : List ℕ) (i j : ℕ) → Bool  -- State i's quotient is larger than state j's.
quotient_before ps seats i j = less (quotient (get_or ps j 0) (get_or seats j 0)) (quotient (get_or ps i 0) (get_or seats i 0))

unfoldable pub seat_goes_to : (ps : List ℕ) (h : ℕ) (seats : List ℕ) → ℕ  -- Of those able, the largest quotient's; the earliest of equals.
seat_goes_to ps h seats = first_place (among (able ps h seats) (quotient_before ps seats)) (length ps - 1)

unfoldable pub quota_seats : (ps : List ℕ) (h : ℕ) → List ℕ  -- The seats once those numbered 1 to h are given.
quota_seats ps zero = replicate (length ps) 0
quota_seats ps (suc h) =
    let seats = quota_seats ps h in
    one_more seats (seat_goes_to ps (suc h) seats)

pub record WithinQuota (p P h seats : ℕ) : Type 0 where  -- The quota is kept after seat h: p h / P, its whole part or rounded up.
  pub not_below : p * h / P ≤ seats
  pub not_above : seats ≤ (p * h + (P - 1)) / P
