-- The divisor methods as orders of claims: claims go by d(a) / w for signposts d and weights w. And the seats as they are worked out: every
-- p H / P rounded by the signposts. DivisorOrder, DivisorRounding, DivisorSeats and Growth show what holds of them.
-- Assumes nothing.
use Rattle.std.specs.Prelude.{cond, List, map, ℕ, ◌+◌, ◌*◌, ◌/◌, get_or}
use Rattle.apportionment.specs.Lists.{sum}
use Rattle.apportionment.specs.Quantities.{Fraction, less}
use Rattle.apportionment.specs.Divisor.{signpost, weight_of, claim_of}
use Rattle.apportionment.specs.declared.DivisorMethod.{DivisorMethod}
use Rattle.claims.specs.inner.Order.{ClaimTest}

-- The order of claims under signposts d for states of weights w.
unfoldable pub divisor_test : (d : ℕ → Fraction) (w : ℕ → ℕ) → ClaimTest
divisor_test d w i a j b = less (claim_of d (w i) a) (claim_of d (w j) b)

-- The order of claims of a method for populations ps.
abbrev pub method_test : DivisorMethod → List ℕ → ClaimTest
method_test m ps = divisor_test (signpost m) (λ (i : ℕ). weight_of m (get_or ps i 0))

-- The average P / H turned over, as a claim is: a state has roughly the seats whose claims do not pass it.
unfoldable pub average_claim : DivisorMethod → (P H : ℕ) → Fraction
average_claim m P H = record { over = weight_of m H; under = weight_of m P }

-- p H / P rounded by the method's signposts: its whole part, and one more unless the claim there passes the average.
unfoldable pub rounded : DivisorMethod → (P H p : ℕ) → ℕ
rounded m P H p =
    let whole = p * H / P in
    cond (less (average_claim m P H) (claim_of (signpost m) (weight_of m p) whole)) whole (whole + 1)

unfoldable pub rounded_seats : DivisorMethod → (ps : List ℕ) (H : ℕ) → List ℕ
rounded_seats m ps H = map (rounded m (sum ps) H) ps
