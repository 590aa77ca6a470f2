-- Under increasing signposts the claims d(a) / w are in order, and seats stand where a fraction parts the claims met from those not met.
-- Assumes nothing.
use Rattle.std.specs.Prelude.{◌≡◌, true, false, List, ℕ, zero, suc, ◌<◌, ◌≤◌, length, get_or}
use Rattle.std.proofs.Common.{⊎_elim, zero-le, le_of_suc-le-suc, eq-or-lt_of_le, arith}
use Rattle.std.proofs.Math.Nat.{mul-pos, mul-lt-mul_of_pos_right}
use Rattle.apportionment.specs.Quantities.{Fraction, less}
use Rattle.apportionment.specs.Divisor.{claim_of}
use Rattle.apportionment.specs.inner.Signposts.{Increasing}
use Rattle.claims.specs.inner.Order.{ClaimOrder, Standing, comes}
use Rattle.claims.specs.inner.Fractions.{less_true, less_of_products, less_asymmetric, less_transitive, less_of_not_of_less}
use Rattle.claims.specs.inner.Fractions.{not_less_through}
use Rattle.claims.specs.inner.DivisorClaims.{divisor_test}

-- The fraction t parts the claims c of a state at x seats: it is below none of the claims met, and below the next.
pub record Parts (t : Fraction) (c : ℕ → Fraction) (x : ℕ) : Type 0 where
  pub met : (a : ℕ) → a < x → less t (c a) ≡ false
  pub next : less t (c x) ≡ true

module _ {d : ℕ → Fraction} (inc : Increasing d) where
  -- ---- one state's claims

  pub claim_positive : (w a : ℕ) → 0 < w → 0 < (claim_of d w a).under
  unfolding claim_of
  claim_positive w a p = mul-pos p (inc.positive a)

  pub claim_rises : (w a : ℕ) → 0 < w → less (claim_of d w a) (claim_of d w (suc a)) ≡ true
  unfolding claim_of
  claim_rises w a p =
      less_of_products (claim_of d w a) (claim_of d w (suc a))
      (omega (arith, mul-lt-mul_of_pos_right (less_true (d a) (d (suc a)) (inc.increases a)) p))

  -- What is below a claim is below all later claims of that state.
  pub later_claims_above : (t : Fraction) (w a b : ℕ) → 0 < w → a ≤ b → less t (claim_of d w a) ≡ true → less t (claim_of d w b) ≡ true
  later_claims_above t w a zero p h e = let q : a ≡ 0 = omega arith in rw q at e
  later_claims_above t w a (suc b) p h e =
      ⊎_elim (λ (q : a ≡ suc b). rw q at e)
      (λ (l : a < suc b).
      less_transitive t (claim_of d w b) (claim_of d w (suc b)) (claim_positive w (suc b) p)
      (later_claims_above t w a b p (le_of_suc-le-suc l) e)
      (claim_rises w b p))
      (eq-or-lt_of_le h)

  module _ {n : ℕ} {w : ℕ → ℕ} (weighs : (i : ℕ) → i < n → 0 < w i) where
    -- ---- all states' claims

    -- States of weights above 0 have their claims in order.
    pub divisor_order : ClaimOrder n (λ _. 0) (divisor_test d w)
    unfolding divisor_test
    divisor_order =
        record {
          asym = λ i a j b hi la hj lb. less_asymmetric (claim_of d (w i) a) (claim_of d (w j) b);
          through =
              λ i a j b k c hi la hj lb hk lc.
              not_less_through (claim_of d (w i) a) (claim_of d (w j) b) (claim_of d (w k) c) (claim_positive (w j) b (weighs j hj));
          rises = λ i a hi la. claim_rises (w i) a (weighs i hi);
        }

    -- Seats stand if one fraction parts every state's claims at its seats.
    pub threshold_standing : (t : Fraction) (xs : List ℕ)
        → length xs ≡ n
        → ((i : ℕ) → i < n → Parts t (claim_of d (w i)) (get_or xs i 0))
        → Standing n (λ _. 0) (divisor_test d w) xs
    unfolding divisor_test comes
    threshold_standing t xs l parts =
        record {
          states = l;
          least = λ i hi. zero-le;
          apart =
              λ i a j b hi la ha hj hb.
              rw (less_of_not_of_less (claim_of d (w i) a) t (claim_of d (w j) b) (claim_positive (w i) a (weighs i hi))
              ((parts i hi).met a ha)
              (later_claims_above t (w j) (get_or xs j 0) b (weighs j hj) hb (parts j hj).next));
        }
