-- Each method's signpost d(a) lies between a and a + 1, for Hill between their squares. So rounding p H / P by the signposts parts a
-- state's claims at the average, and the rounded seats stand.
-- Assumes nothing.
use Rattle.std.specs.Prelude.{◌≡◌, Bool, true, false, cond, List, ℕ, suc, ◌+◌, ◌*◌, ◌/◌, ◌<◌, ◌≤◌, length, get_or}
use Rattle.std.proofs.Math.Path.{refl}
use Rattle.std.proofs.Common.{ap, ⊎_elim, le_of_eq, le_of_lt, eq-or-lt_of_le, le_trans, mul-le-mul_left, div-mul-le_self}
use Rattle.std.proofs.Math.Nat.{mul-le-mul_right, mul-lt-mul_of_pos_right, lt-div-mul-add}
use native.Mathlib.Omega.{arith}
use Rattle.std.proofs.lemmas.List.{length-map}
use Rattle.apportionment.specs.Lists.{sum}
use Rattle.apportionment.specs.inner.Lists.{entry_at_most_sum, get_d_map}
use Rattle.apportionment.specs.Quantities.{Fraction, less}
use Rattle.apportionment.specs.Divisor.{signpost, weight_of, claim_of}
use Rattle.apportionment.specs.inner.Signposts.{signposts_increase}
use Rattle.apportionment.specs.declared.DivisorMethod.{DivisorMethod}
use Rattle.apportionment.specs.declared.DivisorMethod.TheVariants.{Adams, Dean, Hill, Webster, Jefferson}
use Rattle.claims.specs.inner.Order.{Standing}
use Rattle.claims.specs.inner.Fractions.{less_of_products, not_less_of_products}
use Rattle.claims.specs.inner.DivisorClaims.{method_test, average_claim, rounded, rounded_seats}
use Rattle.claims.specs.inner.DivisorOrder.{Parts, threshold_standing}

-- ---- what the methods' signposts have in common

-- Numbers are counted by W, as they are or squared, and the signpost d(a) lies between W(a) and W(a + 1).
pub record Rounding (W : ℕ → ℕ) (d : ℕ → Fraction) : Type 0 where
  pub times : (x y : ℕ) → W (x * y) ≡ W x * W y
  pub grows : (x y : ℕ) → x < y → W x < W y
  pub low : (a : ℕ) → W a * (d a).under ≤ (d a).over
  pub high : (a : ℕ) → (d a).over ≤ W (suc a) * (d a).under

square_grows : (x y : ℕ) → x < y → x * x < y * y
square_grows x y h =
    let p : 0 < y = omega arith in omega (arith, mul-le-mul_left x (le_of_lt h), mul-lt-mul_of_pos_right h p)

pub method_rounding : (m : DivisorMethod) → Rounding (weight_of m) (signpost m)
unfolding weight_of signpost
method_rounding Adams = omega arith
method_rounding Dean = omega arith
method_rounding Hill =
    record {
      times = omega arith;
      grows = square_grows;
      low = omega arith;
      high = omega arith;
    }
method_rounding Webster = omega arith
method_rounding Jefferson = omega arith

pub weight_positive : (m : DivisorMethod) (p : ℕ) → 0 < p → 0 < weight_of m p
weight_positive m p h = omega (arith, (method_rounding m).grows 0 p h)

-- ---- one state's rounded seats

-- The claim of a state of population p under a method.
abbrev pub method_claim : DivisorMethod → (p a : ℕ) → Fraction
method_claim m p a = claim_of (signpost m) (weight_of m p) a

module _ (m : DivisorMethod) where
  -- A method's weights keep the order of numbers and of products.
  weight_at_most : (x y : ℕ) → x ≤ y → weight_of m x ≤ weight_of m y
  weight_at_most x y h =
      ⊎_elim (λ (e : x ≡ y). le_of_eq (ap (weight_of m) e)) (λ (l : x < y). le_of_lt ((method_rounding m).grows x y l))
      (eq-or-lt_of_le h)

  pub scaled_at_most : (x y p q : ℕ) → x * y ≤ p * q → weight_of m x * weight_of m y ≤ weight_of m p * weight_of m q
  scaled_at_most x y p q h =
      rw (← ((method_rounding m).times x y), ← ((method_rounding m).times p q)) (weight_at_most (x * y) (p * q) h)

  scaled_below : (x y p q : ℕ) → x * y < p * q → weight_of m x * weight_of m y < weight_of m p * weight_of m q
  scaled_below x y p q h =
      rw (← ((method_rounding m).times x y), ← ((method_rounding m).times p q)) ((method_rounding m).grows (x * y) (p * q) h)

  module _ (P H p : ℕ) where
    -- A claim does not pass the average where one seat more is still within p H / P.
    claim_within : (a : ℕ) → suc a * P ≤ p * H → less (average_claim m P H) (method_claim m p a) ≡ false
    unfolding average_claim claim_of
    claim_within a h =
        not_less_of_products (average_claim m P H) (method_claim m p a)
        (omega (
          arith,
          mul-le-mul_right (weight_of m P) ((method_rounding m).high a),
          mul-le-mul_right (signpost m a).under (scaled_at_most (suc a) P p H h),
        ))

    -- A claim passes the average where its seats are beyond p H / P.
    claim_beyond : (a : ℕ) → p * H < a * P → less (average_claim m P H) (method_claim m p a) ≡ true
    unfolding average_claim claim_of
    claim_beyond a h =
        less_of_products (average_claim m P H) (method_claim m p a)
        (omega (
          arith,
          mul-le-mul_right (weight_of m P) ((method_rounding m).low a),
          mul-lt-mul_of_pos_right (scaled_below p H a P h) ((signposts_increase m).positive a),
        ))

    module _ (h : 0 < P) where
      claim_below_whole : (a : ℕ) → a < p * H / P → less (average_claim m P H) (method_claim m p a) ≡ false
      claim_below_whole a l = claim_within a (le_trans (mul-le-mul_right P l) (div-mul-le_self (p * H) P))

      parts_at_choice : (b : Bool) → less (average_claim m P H) (method_claim m p (p * H / P)) ≡ b
          → Parts (average_claim m P H) (method_claim m p) (cond b (p * H / P) (p * H / P + 1))
      parts_at_choice true e = record { met = claim_below_whole; next = e }
      parts_at_choice false e =
          record {
            met =
                λ a l.
                ⊎_elim (λ (q : a ≡ p * H / P). rw q e) (λ (k : a < p * H / P). claim_below_whole a k)
                (eq-or-lt_of_le (omega arith));
            next = claim_beyond (p * H / P + 1) (omega (arith, lt-div-mul-add {a = p * H} h));
          }

      -- The average parts the state's claims at its rounded seats.
      pub rounded_threshold : Parts (average_claim m P H) (method_claim m p) (rounded m P H p)
      unfolding rounded
      rounded_threshold = parts_at_choice (less (average_claim m P H) (method_claim m p (p * H / P))) refl

-- ---- all states' rounded seats

pub length_rounded : (m : DivisorMethod) (ps : List ℕ) (H : ℕ) → length (rounded_seats m ps H) ≡ length ps
unfolding rounded_seats
length_rounded m ps H = length-map ps (rounded m (sum ps) H)

module _ (ps : List ℕ) (some : 0 < length ps) (peopled : (i : ℕ) → i < length ps → 0 < get_or ps i 0) where
  sum_positive : 0 < sum ps
  sum_positive = omega (arith, peopled 0 some, entry_at_most_sum ps 0)

  -- So the rounded seats stand, whatever their total.
  pub rounded_standing : (m : DivisorMethod) (H : ℕ) → Standing (length ps) (λ _. 0) (method_test m ps) (rounded_seats m ps H)
  unfolding rounded_seats
  rounded_standing m H =
      threshold_standing (signposts_increase m) (λ i h. weight_positive m (get_or ps i 0) (peopled i h))
      (average_claim m (sum ps) H)
      (rounded_seats m ps H)
      (length_rounded m ps H)
      (λ i h. rw (get_d_map (rounded m (sum ps) H) ps i h) (rounded_threshold m (sum ps) H (get_or ps i 0) sum_positive))
