-- Claims as the code holds them, in two machine words: what they are, how they are compared, and that they fit.
-- Assumes nothing.
use Rattle.std.specs.Prelude.{Bool, ℕ, ◌+◌, ◌*◌, ◌≤◌, ltb}
use Rattle.std.proofs.Common.{arith, le_refl, mul-le-mul, Fits}
use Rattle.std.specs.Int.{w64}
use Rattle.apportionment.specs.Limits.{house_limit, sum_limit}
use Rattle.apportionment.specs.Quantities.{Fraction}
use Rattle.apportionment.specs.Divisor.{signpost, weight_of, claim_of}
use Rattle.apportionment.specs.declared.DivisorMethod.{DivisorMethod}
use Rattle.apportionment.specs.declared.DivisorMethod.TheVariants.{Adams, Dean, Hill, Webster, Jefferson}
use Rattle.apportionment.specs.inner.MachineWords.{product_fits}
use Rattle.signposts.specs.declared.Claim.{Claim}

-- ---- claims

-- A fraction in two words.
abbrev pub held : Fraction → Claim
held f = record { over = f.over; under = f.under }

-- The claim of a state with population p and a seats.
abbrev pub claim_for : DivisorMethod → (p a : ℕ) → Claim
claim_for m p a = held (claim_of (signpost m) (weight_of m p) a)

-- One claim comes before another: by their products, as exact fractions are compared.
abbrev pub less_claim : Claim → Claim → Bool
less_claim s t = ltb (s.over * t.under) (t.over * s.under)

-- ---- what is within bounds

-- The largest house to round for, and the most seats that rounding can give a state.
abbrev pub aim_limit : ℕ
aim_limit = 2 * house_limit

abbrev pub seat_limit : ℕ
seat_limit = aim_limit + 1

-- The claim of p people with a seats fits its two words under every method.
pub record ClaimFits (p a : ℕ) : Type 0 where
  pub people_within : p ≤ sum_limit
  pub seats_within : a ≤ seat_limit

-- Its denominator does: at most the square of the largest sum for Hill, and far less for the others.
pub under_fits : (m : DivisorMethod) {p a : ℕ} → ClaimFits p a → Fits w64 (weight_of m p * (signpost m a).under)
unfolding weight_of signpost
under_fits Adams k = product_fits sum_limit 1 k.people_within (le_refl 1) tt
under_fits Dean k = product_fits sum_limit (2 * seat_limit + 1) k.people_within (omega arith) tt
under_fits Hill k = product_fits (sum_limit * sum_limit) 1 (mul-le-mul k.people_within k.people_within) (le_refl 1) tt
under_fits Webster k = product_fits sum_limit 2 k.people_within (le_refl 2) tt
under_fits Jefferson k = product_fits sum_limit 1 k.people_within (le_refl 1) tt
