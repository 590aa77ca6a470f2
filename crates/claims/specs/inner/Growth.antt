-- Growth without loss: one seat more is one claim more met, for any signposts and any weights, and so for the five divisor methods. What
-- holds of two polls is shown in the file of this name in proofs.
-- Assumes nothing.
use Rattle.std.specs.Prelude.{◌≡◌, List, length, get_or}
use Rattle.std.proofs.Common.{◌∙◌, arith}
use Prim.Native.Nat.{ℕ, zero, suc, ◌-◌, ◌<◌, ◌≤◌}
use Rattle.std.proofs.Math.Decide.{ℕ_discrete}
use Rattle.std.proofs.lemmas.List.{length-replicate}
use Rattle.apportionment.specs.Quantities.{Fraction}
use Rattle.apportionment.specs.Divisor.{signpost, weight_of, claim_before, first_claim, one_more, claims_met, divisor_seats}
use Rattle.apportionment.specs.declared.DivisorMethod.{DivisorMethod}
use Rattle.claims.specs.Growth.{OneGains}
use Rattle.claims.specs.inner.StandingMoves.{length-one_more, get_d_one_more_same, get_d_one_more_other}
use Rattle.claims.specs.inner.StandingOrder.{first_place_le}

-- ---- one state's gain

-- One more seat at a place is its state's gain and no other's.
pub one_more_gains : (xs : List ℕ) (i : ℕ) → i < length xs → OneGains xs (one_more xs i)
one_more_gains xs i h = record {
  same_states = length-one_more xs i;
  gainer = i;
  is_state = h;
  gains = omega (arith, get_d_one_more_same xs i h);
  others = λ j other. get_d_one_more_other xs i j other;
}

-- Where one state gains, none loses.
pub none_loses : {xs ys : List ℕ} → OneGains xs ys → (i : ℕ) → get_or xs i 0 ≤ get_or ys i 0
none_loses {xs} {ys} one i = by_place (ℕ_discrete i one.gainer)
  where
    by_place : Dec (i ≡ one.gainer) → get_or xs i 0 ≤ get_or ys i 0
    by_place (yes e) = rw e (omega (arith, one.gains))
    by_place (no other) = omega (arith, one.others i other)

-- ---- any signposts: one seat more

claims_met_states : (d : ℕ → Fraction) (w : ℕ → ℕ) (n h : ℕ) → length (claims_met d w n h) ≡ n
unfolding claims_met
claims_met_states d w n zero = length-replicate n 0
claims_met_states d w n (suc h) = length-one_more (claims_met d w n h) _ ∙ claims_met_states d w n h

-- One seat more is one claim more met, and one state gains it: whatever the signposts d, and so for any that increase.
pub one_claim_more : (d : ℕ → Fraction) (w : ℕ → ℕ) (n h : ℕ) → 0 < n → OneGains (claims_met d w n h) (claims_met d w n (suc h))
unfolding claims_met first_claim
one_claim_more d w n h some =
    let seats = claims_met d w n h in
    let next : first_claim d w n seats < n = omega (arith, some, first_place_le (claim_before d w seats) (n - 1)) in
    one_more_gains seats (first_claim d w n seats) (rw (claims_met_states d w n h) next)

-- ---- the five divisor methods

-- One seat more under a divisor method.
pub divisor_one_more : (m : DivisorMethod) (ps : List ℕ) (H : ℕ) → 0 < length ps
    → OneGains (divisor_seats m ps H) (divisor_seats m ps (suc H))
unfolding divisor_seats
divisor_one_more m ps H some = one_claim_more (signpost m) (λ (i : ℕ). weight_of m (get_or ps i 0)) (length ps) H some
