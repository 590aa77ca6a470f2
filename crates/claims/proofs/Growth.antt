-- Growth without loss from one poll to another, for any increasing signposts and any weights above 0, and so for the five divisor methods.
-- A state that loses seats to a second one had a claim met before one of the second's, and at the later poll the second's is met before it;
-- so the second's count has grown by a larger factor. One seat more is shown in the file of this name in specs/inner.
-- Assumes nothing.
use Rattle.std.specs.Prelude.{◌≡◌, refl, ◌⊎◌, true, false, ◌&&◌, List, ltb, length, get_or}
use Rattle.std.proofs.Common.{sym, ◌∙◌, inl, inr, le_refl, mul-le-mul_left, mul-lt-mul_of_pos_right, lt_of_mul-lt-mul_right}
use Rattle.std.proofs.Common.{arith, ltb-true}
use Rattle.std.proofs.Math.Bool.{Bool}
use Rattle.std.proofs.lemmas.Bool.{false≢true}
use Prim.Native.Nat.{ℕ, ◌*◌, ◌<◌, ◌≤◌, zero-le}
use Rattle.apportionment.specs.Quantities.{Fraction, less}
use Rattle.apportionment.specs.Divisor.{weight_of, claim_of, claims_met, divisor_seats}
use Rattle.apportionment.specs.declared.DivisorMethod.{DivisorMethod}
use Rattle.apportionment.specs.inner.Signposts.{Increasing, signposts_increase}
use Rattle.claims.specs.Growth.{factor, grew_at_least_as, loses_to}
use Rattle.claims.specs.inner.Order.{Standing, comes}
use Rattle.claims.specs.inner.Fractions.{less_true, less_of_products, less_asymmetric, at_most_true}
use Rattle.claims.specs.inner.StandingOrder.{comes_cases}
use Rattle.claims.specs.inner.DivisorClaims.{divisor_test}
use Rattle.claims.specs.inner.DivisorRounding.{weight_positive, scaled_at_most}
use Rattle.claims.specs.inner.DivisorSeats.{claims_met_standing, method_weighs}

-- Two tests that do not hold together.
both_unless : (t u : Bool) → (t ≡ true → u ≡ true → ⊥) → (t && u) ≡ false
both_unless true true never = absurd (never refl refl)
both_unless true false never = refl
both_unless false u never = refl

-- ---- increasing signposts

-- A claim that comes before another by its value still does once its state's weight, from u to u', has grown by at least the factor of the
-- other's, from v to v'.
still_before : (d : ℕ → Fraction) (a b u v u' v' : ℕ) → 0 < u' → v' * u ≤ u' * v
    → less (claim_of d u a) (claim_of d v b) ≡ true → less (claim_of d u' a) (claim_of d v' b) ≡ true
unfolding claim_of
still_before d a b u v u' v' some grew e =
    let was = mul-lt-mul_of_pos_right (less_true (claim_of d u a) (claim_of d v b) e) some in
    let growth = mul-le-mul_left ((d a).over * (d b).under) grew in
    less_of_products (claim_of d u' a) (claim_of d v' b) (lt_of_mul-lt-mul_right u (omega (arith, was, growth)))

module _ (d : ℕ → Fraction) (w w' : ℕ → ℕ) (i j : ℕ) (some : 0 < w j) (some' : 0 < w' i) (grew : w' j * w i ≤ w' i * w j) where
  -- A claim of state i that comes before one of state j is not overtaken by it, where i's weight grew by at least j's factor: if i's came
  -- first by its value it still does, if j's now comes first by its value it did before, and not both states stand earlier in the register.
  not_overtaken : (a b : ℕ) → comes (divisor_test d w) i a j b ≡ true → comes (divisor_test d w') j b i a ≡ true → ⊥
  unfolding divisor_test
  not_overtaken a b first later = by_cases (comes_cases (divisor_test d w) i a j b first) (comes_cases (divisor_test d w') j b i a later)
    where
      earlier : (ℕ → ℕ) → Bool
      earlier v = less (claim_of d (v i) a) (claim_of d (v j) b)

      overtakes : (ℕ → ℕ) → Bool
      overtakes v = less (claim_of d (v j) b) (claim_of d (v i) a)

      kept : earlier w ≡ true → earlier w' ≡ true
      kept = still_before d a b (w i) (w j) (w' i) (w' j) some' grew

      kept_back : overtakes w' ≡ true → overtakes w ≡ true
      kept_back = still_before d b a (w' j) (w' i) (w j) (w i) some (omega (arith, grew))

      by_cases : (earlier w ≡ true) ⊎ ((overtakes w ≡ false) × (i < j)) → (overtakes w' ≡ true) ⊎ ((earlier w' ≡ false) × (j < i)) → ⊥
      by_cases (inl e) (inl o) = false≢true (sym (less_asymmetric _ _ o) ∙ kept e)
      by_cases (inl e) (inr h) = false≢true (sym h.0 ∙ kept e)
      by_cases (inr h) (inl o) = false≢true (sym h.0 ∙ kept_back o)
      by_cases (inr h) (inr h') = omega (arith, h.1, h'.1)

  -- So where seats stand by the weights w at one poll and by w' at another, state i does not lose seats while state j gains: its claim to a
  -- seat that it lost came before j's claim to one that j gained.
  no_loss_standing : {n : ℕ} {xs ys : List ℕ} → Standing n (λ _. 0) (divisor_test d w) xs → Standing n (λ _. 0) (divisor_test d w') ys
      → i < n → j < n → loses_to xs ys i j ≡ false
  unfolding loses_to
  no_loss_standing {n} {xs} {ys} first later hi hj =
      both_unless (ltb (get_or ys i 0) (get_or xs i 0)) (ltb (get_or xs j 0) (get_or ys j 0))
      (λ lost gained. not_overtaken (get_or ys i 0) (get_or xs j 0)
      (first.apart i (get_or ys i 0) j (get_or xs j 0) hi zero-le (ltb-true _ _ lost) hj (le_refl _))
      (later.apart j (get_or xs j 0) i (get_or ys i 0) hj zero-le (ltb-true _ _ gained) hi (le_refl _)))

-- Over any increasing signposts d: between two polls of n states of weights w and w', at any houses, a state whose weight grew by at least
-- another's factor does not lose seats while the other gains.
pub no_loss_over_signposts : {d : ℕ → Fraction} → Increasing d → (n : ℕ) (w w' : ℕ → ℕ)
    → ((i : ℕ) → i < n → 0 < w i) → ((i : ℕ) → i < n → 0 < w' i) → (h h' i j : ℕ) → i < n → j < n → w' j * w i ≤ w' i * w j
    → loses_to (claims_met d w n h) (claims_met d w' n h') i j ≡ false
no_loss_over_signposts {d} inc n w w' weighs weighs' h h' i j hi hj grew =
    let some : 0 < n = omega (arith, hi) in
    no_loss_standing d w w' i j (weighs j hj) (weighs' i hi) grew
    (claims_met_standing inc weighs some h) (claims_met_standing inc weighs' some h') hi hj

-- ---- the five divisor methods

-- Where a count grew by at least another's factor, so did its weight: Hill's are squares, and squares are in the order of their numbers.
weights_grew : (m : DivisorMethod) (ps ps' : List ℕ) (i j : ℕ) → grew_at_least_as ps ps' i j ≡ true
    → weight_of m (get_or ps' j 0) * weight_of m (get_or ps i 0) ≤ weight_of m (get_or ps' i 0) * weight_of m (get_or ps j 0)
unfolding grew_at_least_as factor
weights_grew m ps ps' i j grew =
    let products = at_most_true (factor (get_or ps j 0) (get_or ps' j 0)) (factor (get_or ps i 0) (get_or ps' i 0)) grew in
    scaled_at_most m (get_or ps' j 0) (get_or ps i 0) (get_or ps' i 0) (get_or ps j 0) (omega (arith, products))

module _ (ps : List ℕ) (some : 0 < length ps) (peopled : (i : ℕ) → i < length ps → 0 < get_or ps i 0) (m : DivisorMethod) where
  -- Two polls at one house under a divisor method.
  pub divisor_no_loss : (ps' : List ℕ) → length ps' ≡ length ps → ((i : ℕ) → i < length ps' → 0 < get_or ps' i 0)
      → (H i j : ℕ) → i < length ps → j < length ps → grew_at_least_as ps ps' i j ≡ true
      → loses_to (divisor_seats m ps H) (divisor_seats m ps' H) i j ≡ false
  unfolding divisor_seats
  divisor_no_loss ps' same peopled' H i j hi hj grew =
      rw same
      (no_loss_over_signposts (signposts_increase m) (length ps) (λ k. weight_of m (get_or ps k 0)) (λ k. weight_of m (get_or ps' k 0))
      (method_weighs ps some peopled m) (λ k h. weight_positive m (get_or ps' k 0) (peopled' k (rw same h)))
      H H i j hi hj (weights_grew m ps ps' i j grew))
