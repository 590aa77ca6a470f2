-- Growth without loss (W-212): what one seat more, or another poll, may do to the seats, and the methods that keep to it.
use Rattle.std.specs.Prelude.{◌≡◌, ◌&&◌, ◌+◌, ◌<◌, Bool, true, false, List, ℕ, suc, ltb, length, get_or}
use Rattle.apportionment.specs.Refusals.{accepted}
use Rattle.apportionment.specs.declared.Method.TheVariants.{Leximin, Adams, Dean, Hill, Webster, Jefferson, Remainders, Quota}
use Rattle.apportionment.specs.{Quantities.Fraction, Quantities.at_most, Allotment.allot_refusal, Allotment.seats_of}
use Rattle.apportionment.specs.declared.Method.{Method}

pub record Allots (m : Method) (H : ℕ) (ps seats : List ℕ) : Type 0 where  -- A method accepts, and allots these seats.
  pub accepts : allot_refusal m H ps (length ps) ≡ accepted
  pub allotment : seats ≡ seats_of m ps H

pub record OneGains (before after : List ℕ) : Type 0 where  -- Precisely one state gains one seat, and no other state changes.
  pub same_states : length after ≡ length before
  pub gainer : ℕ
  pub is_state : gainer < length before
  pub gains : get_or after gainer 0 ≡ get_or before gainer 0 + 1
  pub others : (i : ℕ) → ¬ (i ≡ gainer) → get_or after i 0 ≡ get_or before i 0

abbrev pub house_monotone : Method → Bool  -- The methods under which one seat more does just that; the field calls them house monotone.
house_monotone Leximin = false
house_monotone Adams = true
house_monotone Dean = true
house_monotone Hill = true
house_monotone Webster = true
house_monotone Jefferson = true
house_monotone Remainders = false
house_monotone Quota = true

pub record AlabamaParadox (m : Method) (H : ℕ) (ps before after : List ℕ) (i : ℕ) : Type 0 where  -- State i loses by a larger house.
  pub smaller : Allots m H ps before
  pub larger : Allots m (suc H) ps after
  pub loses : get_or after i 0 < get_or before i 0

unfoldable pub factor : (p p' : ℕ) → Fraction  -- The factor by which a count grew from p to p'.
factor p p' = record { over = p'; under = p }

unfoldable pub grew_at_least_as : (ps ps' : List ℕ) (i j : ℕ) → Bool  -- State i's count grew by at least state j's factor.
grew_at_least_as ps ps' i j = at_most (factor (get_or ps j 0) (get_or ps' j 0)) (factor (get_or ps i 0) (get_or ps' i 0))

unfoldable pub loses_to : (before after : List ℕ) (i j : ℕ) → Bool  -- State i loses seats while state j gains.
loses_to before after i j = ltb (get_or after i 0) (get_or before i 0) && ltb (get_or before j 0) (get_or after j 0)

abbrev pub population_monotone : Method → Bool  -- The methods under which no state loses seats to one that did not grow by a larger factor.
population_monotone Leximin = false
population_monotone Adams = true
population_monotone Dean = true
population_monotone Hill = true
population_monotone Webster = true
population_monotone Jefferson = true
population_monotone Remainders = false
population_monotone Quota = false

pub record PopulationParadox (m : Method) (H : ℕ) (ps ps' before after : List ℕ) (i j : ℕ) : Type 0 where  -- i loses to j.
  pub same_states : length ps' ≡ length ps
  pub first : Allots m H ps before
  pub second : Allots m H ps' after
  pub grew : grew_at_least_as ps ps' i j ≡ true
  pub loses : loses_to before after i j ≡ true
