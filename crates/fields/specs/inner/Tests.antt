-- What follows from tests that are made one after the other, as the definitions of the grammar make them.
-- Assumes nothing.
use Rattle.std.specs.Prelude.{◌≡◌, refl, Bool, true, false, cond, ◌&&◌, ℕ, leb, Some}
use Rattle.std.specs.Ordering.{nat_cmp}
use Rattle.std.specs.Range.{range_inclusive_start, range_inclusive_end, range_inclusive_exhausted, range_inclusive_contains}
use Rattle.std.specs.declared.ops.RangeInclusive.{RangeInclusive}
use Rattle.std.proofs.Common.{arith}
use Rattle.std.proofs.lemmas.Bool.Decides.{nat_tests}
use Rattle.apportionment.specs.Refusals.{within}
use Rattle.std.proofs.Common.{sym, true≢false}

-- A second test is made where the first holds: both hold.
pub both : (t u : Bool) → cond t u false ≡ true → (t ≡ true) × (u ≡ true)
both true u h = (refl, h)
both false u h = absurd (true≢false (sym h))

-- A second test is made where the first fails, and holds.
pub neither : (t u : Bool) → cond t false u ≡ true → u ≡ true
neither true u h = absurd (true≢false (sym h))
neither false u h = h

-- Whether a number lies between two others, as `(lo..=hi).contains` tells, and is within its limit, as `(1..=limit).contains` does.
pub between_by_range : (lo hi x : ℕ) (range : RangeInclusive ℕ) (r : Bool) → range_inclusive_start range ≡ lo
    → range_inclusive_end range ≡ hi → range_inclusive_exhausted range ≡ false
    → r ≡ range_inclusive_contains (λ x y. Some (nat_cmp x y)) range x → r ≡ (leb lo x && leb x hi)
between_by_range lo hi x range r start end left value = grind (arith, nat_tests)

pub within_by_range : (limit x : ℕ) (range : RangeInclusive ℕ) (r : Bool) → range_inclusive_start range ≡ 1
    → range_inclusive_end range ≡ limit → range_inclusive_exhausted range ≡ false
    → r ≡ range_inclusive_contains (λ x y. Some (nat_cmp x y)) range x → r ≡ within limit x
unfolding within
within_by_range limit x range r start end left value = grind (arith, nat_tests)
