-- Where a state's seats are counted, one after the other: the whole part of a P / p, found by adding P / p.
-- Assumes nothing.
use Rattle.std.specs.Prelude.{◌≡◌, ℕ, ◌+◌, ◌*◌, ◌/◌, ◌%◌, ◌<◌, ◌≤◌}
use Rattle.std.proofs.Common.{sym, ◌∙◌, add-mul, div-add-mod', mod-lt, div-le_self, le_trans, arith}
use Rattle.std.proofs.Math.Nat.{div-eq_of_lt-le}
use Rattle.apportionment.specs.Limits.{house_limit, sum_limit}
use Rattle.quota.specs.declared.due.Spot.{Spot}

-- The spot at so many P: place p + rest, with a rest below p.
pub record SpotAt (p total : ℕ) (spot : Spot) : Type 0 where
  pub adds : spot.place * p + spot.rest ≡ total
  pub below : spot.rest < p

-- A step of such a kind can be made within machine words.
pub record Onward (p whole left : ℕ) (spot : Spot) : Type 0 where
  pub people : p ≤ sum_limit
  pub whole_within : whole ≤ sum_limit
  pub place_within : spot.place ≤ house_limit
  pub rest_below : spot.rest < p
  pub left_below : left < p

-- It was made.
pub record Moved (p whole left : ℕ) (spot after : Spot) : Type 0 where
  pub adds : after.place * p + after.rest ≡ (spot.place + whole) * p + (spot.rest + left)
  pub below : after.rest < p

-- The place is the whole part.
pub place_is : {p total : ℕ} {spot : Spot} → SpotAt p total spot → spot.place ≡ total / p
place_is {p} {total} {spot} s =
    sym (div-eq_of_lt-le {k = spot.place} p (omega (arith, s.adds)) (omega (arith, s.adds, s.below, add-mul spot.place 1 p)))

-- One P more.
pub spot_moved : (P a : ℕ) {p : ℕ} {spot after : Spot} → SpotAt p (a * P) spot → Moved p (P / p) (P % p) spot after
    → SpotAt p ((a + 1) * P) after
spot_moved P a {p} {spot} s m = record {
  adds = m.adds ∙ omega (arith, s.adds, add-mul spot.place (P / p) p, div-add-mod' P p, add-mul a 1 P);
  below = m.below;
}

-- The first spot, and the step to the next one.
pub spot_none : (P : ℕ) {p : ℕ} → 0 < p → SpotAt p (0 * P) (record { place = 0; rest = 0 })
spot_none P some = record { adds = omega arith; below = some }

pub can_move : (P a : ℕ) {p : ℕ} {spot : Spot} → SpotAt p (a * P) spot → 0 < p → p ≤ P → P ≤ sum_limit → a * P / p ≤ house_limit
    → Onward p (P / p) (P % p) spot
can_move P a {p} {spot} s some people sum_within within = record {
  people = omega (arith, people, sum_within);
  whole_within = le_trans (div-le_self P p) sum_within;
  place_within = rw (place_is s) within;
  rest_below = s.below;
  left_below = mod-lt P some;
}
