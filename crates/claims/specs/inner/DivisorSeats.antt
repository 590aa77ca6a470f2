-- The claims met in order are the seats that stand, so seats that stand and sum to the house are the method's allotment; and rounding for
-- a house gives no state more than one seat above it, which withdrawing never adds to.
-- Assumes nothing.
use Rattle.std.specs.Prelude.{◌≡◌, Bool, true, false, cond, List, [], ◌∷◌, length, get_or, set, replicate}
use Rattle.std.proofs.Common.{sym, ◌∙◌, le_of_eq, le_trans, le_refl, not-suc-le-zero, mul-le-mul_right, sub-le, arith}
use Rattle.std.proofs.Math.Path.{ap}
use Prim.Native.Nat.{ℕ, zero, suc, ◌+◌, ◌*◌, ◌/◌, ◌<◌, ◌≤◌, zero-le}
use Rattle.std.proofs.Math.Nat.{div-le_of_le-mul}
use Rattle.std.proofs.lemmas.List.{length-replicate, get_or-replicate}
use Rattle.apportionment.specs.Lists.{sum}
use Rattle.apportionment.specs.inner.Lists.{entry_at_most_sum, map_bounded, sum_zeros}
use Rattle.apportionment.specs.Quantities.{Fraction, less}
use Rattle.apportionment.specs.Divisor.{weight_of, claim_before, first_claim, claims_met, divisor_seats}
use Rattle.apportionment.specs.inner.Signposts.{Increasing, signposts_increase}
use Rattle.apportionment.specs.declared.DivisorMethod.{DivisorMethod}
use Rattle.claims.specs.inner.Order.{ClaimTest, ClaimOrder, Standing}
use Rattle.claims.specs.inner.Order.{wants_before, first_unmet, placed, last_met, one_less, withdrawn, withdrawn_times}
use Rattle.claims.specs.inner.Standing.{standing_unique, placed_standing, sum_placed}
use Rattle.claims.specs.inner.DivisorClaims.{divisor_test, method_test, average_claim, rounded, rounded_seats}
use Rattle.claims.specs.inner.DivisorOrder.{divisor_order}
use Rattle.claims.specs.inner.DivisorRounding.{weight_positive, method_claim}

-- ---- the claims met in order

module _ {d : ℕ → Fraction} {n : ℕ} {w : ℕ → ℕ} (inc : Increasing d) (weighs : (i : ℕ) → i < n → 0 < w i) (some : 0 < n) where
  -- Before any claim is met there is none to come before another.
  no_seats_stand : Standing n (λ _. 0) (divisor_test d w) (replicate n 0)
  no_seats_stand =
      record {
        states = length-replicate n 0;
        least = λ i h. zero-le;
        apart =
            λ i a j b hi la ha hj hb.
            absurd (not-suc-le-zero (le_trans ha (le_of_eq (get_or-replicate n i 0 0 hi))));
      }

  -- The claims met in order stand: to meet the next claim is to place a seat.
  pub claims_met_standing : (h : ℕ) → Standing n (λ _. 0) (divisor_test d w) (claims_met d w n h)
  unfolding claims_met first_claim claim_before placed first_unmet wants_before divisor_test
  claims_met_standing zero = no_seats_stand
  claims_met_standing (suc h) =
      placed_standing n (λ _. 0) (divisor_test d w) (divisor_order inc weighs) (claims_met d w n h) some (claims_met_standing h)

  pub claims_met_sum : (h : ℕ) → sum (claims_met d w n h) ≡ h
  unfolding claims_met first_claim claim_before placed first_unmet wants_before divisor_test
  claims_met_sum zero = sum_zeros n
  claims_met_sum (suc h) =
      sum_placed n (divisor_test d w) (claims_met d w n h) some (claims_met_standing h).states ∙ ap suc (claims_met_sum h)

  -- Seats that stand are the claims met, as many as there are seats.
  pub standing_is_claims_met : (xs : List ℕ) → Standing n (λ _. 0) (divisor_test d w) xs → xs ≡ claims_met d w n (sum xs)
  standing_is_claims_met xs s =
      standing_unique n (λ _. 0) (divisor_test d w) (divisor_order inc weighs) xs (claims_met d w n (sum xs)) s
      (claims_met_standing (sum xs))
      (sym (claims_met_sum (sum xs)))

-- ---- a method's seats

module _ (ps : List ℕ) (some : 0 < length ps) (peopled : (i : ℕ) → i < length ps → 0 < get_or ps i 0) (m : DivisorMethod) where
  pub method_weighs : (i : ℕ) → i < length ps → 0 < weight_of m (get_or ps i 0)
  method_weighs i h = weight_positive m (get_or ps i 0) (peopled i h)

  pub method_order : ClaimOrder (length ps) (λ _. 0) (method_test m ps)
  method_order = divisor_order (signposts_increase m) method_weighs

  -- Seats that stand in a method's order, in all H, are its allotment for H.
  pub standing_is_divisor : (xs : List ℕ) (H : ℕ) → Standing (length ps) (λ _. 0) (method_test m ps) xs → sum xs ≡ H
      → xs ≡ divisor_seats m ps H
  unfolding divisor_seats
  standing_is_divisor xs H s e =
      rw (← e) (standing_is_claims_met (signposts_increase m) method_weighs some xs s)

-- ---- how many seats a state has on the way

rounded_choice_at_most : (b : Bool) (x : ℕ) → cond b x (x + 1) ≤ x + 1
rounded_choice_at_most true x = omega arith
rounded_choice_at_most false x = omega arith

pub rounded_at_most : (m : DivisorMethod) (P H p : ℕ) → p ≤ P → rounded m P H p ≤ H + 1
unfolding rounded
rounded_at_most m P H p h =
    let whole : p * H / P ≤ H = div-le_of_le-mul P (mul-le-mul_right H h) in
    omega (arith, rounded_choice_at_most (less (average_claim m P H) (method_claim m p (p * H / P))) (p * H / P))

pub rounded_seats_at_most : (m : DivisorMethod) (ps : List ℕ) (H i : ℕ) → get_or (rounded_seats m ps H) i 0 ≤ H + 1
unfolding rounded_seats
rounded_seats_at_most m ps H =
    map_bounded (rounded m (sum ps) H) ps (H + 1) (λ j. rounded_at_most m (sum ps) H (get_or ps j 0) (entry_at_most_sum ps j))

set_lower : (xs : List ℕ) (j v : ℕ) → v ≤ get_or xs j 0 → (i : ℕ) → get_or (set xs j v) i 0 ≤ get_or xs i 0
set_lower [] j v h i = le_refl 0
set_lower (x ∷ xs) zero v h zero = h
set_lower (x ∷ xs) zero v h (suc i) = le_refl (get_or xs i 0)
set_lower (x ∷ xs) (suc j) v h zero = le_refl x
set_lower (x ∷ xs) (suc j) v h (suc i) = set_lower xs j v h i

-- Withdrawing never adds to a state's seats.
pub withdrawn_at_most : (lo : ℕ → ℕ) (lt : ClaimTest) (n : ℕ) (xs : List ℕ) (k i : ℕ)
    → get_or (withdrawn_times lo lt n xs k) i 0 ≤ get_or xs i 0
unfolding withdrawn_times withdrawn one_less
withdrawn_at_most lo lt n xs zero i = le_refl (get_or xs i 0)
withdrawn_at_most lo lt n xs (suc k) i =
    le_trans (set_lower (withdrawn_times lo lt n xs k) (last_met lo lt n (withdrawn_times lo lt n xs k)) _ (sub-le _ 1) i)
    (withdrawn_at_most lo lt n xs k i)
