-- Document 01, "The other methods": a claim, its quotient p / d(a), the five signposts d, and claims met in order.
-- A claim is kept as d(a) / p, the quotient turned over, so that a signpost of 0 needs no case; Hill's d is a root, so d(a)² / p².
use Rattle.std.specs.Prelude.{◌+◌, ◌-◌, ◌*◌, Bool, List, ℕ, zero, suc, length, get_or, set, replicate}
use Rattle.apportionment.specs.Words.{DivisorMethod}
use Rattle.apportionment.specs.declared.DivisorMethod.TheVariants.{Adams, Dean, Hill, Webster, Jefferson}
use Rattle.apportionment.specs.{Lists.first_place, Quantities.Fraction, Quantities.less}

unfoldable pub signpost : DivisorMethod → ℕ → Fraction  -- The signpost d(a); Hill's squared.
signpost Adams a = record { over = a; under = 1 }
signpost Dean a = record { over = 2 * a * (a + 1); under = 2 * a + 1 }
signpost Hill a = record { over = a * (a + 1); under = 1 }
signpost Webster a = record { over = 2 * a + 1; under = 2 }
signpost Jefferson a = record { over = a + 1; under = 1 }

unfoldable pub weight_of : DivisorMethod → ℕ → ℕ  -- A population as the method's quotient counts it; Hill's squared.
weight_of m p = elim m [ Adams ↦ p | Dean ↦ p | Hill ↦ p * p | Webster ↦ p | Jefferson ↦ p ]

unfoldable pub claim_of : (d : ℕ → Fraction) (w a : ℕ) → Fraction  -- For any signposts d: d(a) / w, at weight w and a seats.
claim_of d w a = record { over = (d a).over; under = w * (d a).under }

unfoldable pub claim_before : (d : ℕ → Fraction) (w : ℕ → ℕ) (seats : List ℕ) (i j : ℕ) → Bool  -- State i's quotient is larger.
claim_before d w seats i j = less (claim_of d (w i) (get_or seats i 0)) (claim_of d (w j) (get_or seats j 0))

unfoldable pub first_claim : (d : ℕ → Fraction) (w : ℕ → ℕ) (n : ℕ) (seats : List ℕ) → ℕ  -- Of equal claims, the earliest state's.
first_claim d w n seats = first_place (claim_before d w seats) (n - 1)

unfoldable pub one_more : List ℕ → ℕ → List ℕ  -- A claim is met: the state has one seat more.
one_more seats i = set seats i (get_or seats i 0 + 1)

unfoldable pub claims_met : (d : ℕ → Fraction) (w : ℕ → ℕ) (n h : ℕ) → List ℕ  -- The seats once the h first claims are met.
claims_met d w n zero = replicate n 0
claims_met d w n (suc h) = one_more (claims_met d w n h) (first_claim d w n (claims_met d w n h))

unfoldable pub divisor_seats : DivisorMethod → (ps : List ℕ) (H : ℕ) → List ℕ  -- The allotment of a divisor method.
divisor_seats m ps H = claims_met (signpost m) (λ (i : ℕ). weight_of m (get_or ps i 0)) (length ps) H
