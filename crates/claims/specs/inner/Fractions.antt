-- The order of fractions by cross-multiplication: what a test of two fractions says of the products, and the laws by which the tests of
-- fractions with denominators above 0 follow from one another.
-- Assumes nothing.
use Rattle.std.specs.Prelude.{◌≡◌, true, false, ◌*◌, ◌<◌, ◌≤◌}
use Rattle.std.proofs.Common.{le_of_lt, le_refl, mul-le-mul_right, mul-lt-mul_of_pos_right, le_of_mul-le-mul_right, lt_of_mul-lt-mul_right}
use Rattle.std.proofs.Common.{arith, ltb-true, ltb-false, lt-ltb, le-ltb, leb-true}
use Rattle.apportionment.specs.Quantities.{Fraction, less, at_most}

-- ---- a test and the products

pub less_true : (s t : Fraction) → less s t ≡ true → s.over * t.under < t.over * s.under
unfolding less
less_true s t e = ltb-true _ _ e

pub less_false : (s t : Fraction) → less s t ≡ false → t.over * s.under ≤ s.over * t.under
unfolding less
less_false s t e = ltb-false _ _ e

pub less_of_products : (s t : Fraction) → s.over * t.under < t.over * s.under → less s t ≡ true
unfolding less
less_of_products s t h = lt-ltb _ _ h

pub not_less_of_products : (s t : Fraction) → t.over * s.under ≤ s.over * t.under → less s t ≡ false
unfolding less
not_less_of_products s t h = le-ltb _ _ h

pub at_most_true : (s t : Fraction) → at_most s t ≡ true → s.over * t.under ≤ t.over * s.under
unfolding at_most
at_most_true s t e = leb-true _ _ e

-- ---- the laws of the order

pub less_irreflexive : (s : Fraction) → less s s ≡ false
less_irreflexive s = not_less_of_products s s (le_refl _)

pub less_asymmetric : (s t : Fraction) → less s t ≡ true → less t s ≡ false
less_asymmetric s t e = not_less_of_products t s (le_of_lt (less_true s t e))

-- s is not below t, t not below u: s is not below u.
pub not_less_through : (s t u : Fraction) → 0 < t.under → less s t ≡ false → less t u ≡ false → less s u ≡ false
not_less_through s t u p e f =
    not_less_of_products s u
    (le_of_mul-le-mul_right {k = t.under}
    (omega (arith, mul-le-mul_right s.under (less_false t u f), mul-le-mul_right u.under (less_false s t e)))
    p)

-- s is below t, t not above u: s is below u.
pub less_of_less_of_not : (s t u : Fraction) → 0 < u.under → less s t ≡ true → less u t ≡ false → less s u ≡ true
less_of_less_of_not s t u p e f =
    less_of_products s u
    (lt_of_mul-lt-mul_right t.under
    (omega (arith, mul-lt-mul_of_pos_right (less_true s t e) p, mul-le-mul_right s.under (less_false u t f))))

-- s is not above t, t below u: s is below u.
pub less_of_not_of_less : (s t u : Fraction) → 0 < s.under → less t s ≡ false → less t u ≡ true → less s u ≡ true
less_of_not_of_less s t u p e f =
    less_of_products s u
    (lt_of_mul-lt-mul_right t.under
    (omega (arith, mul-le-mul_right u.under (less_false t s e), mul-lt-mul_of_pos_right (less_true t u f) p)))

pub less_transitive : (s t u : Fraction) → 0 < u.under → less s t ≡ true → less t u ≡ true → less s u ≡ true
less_transitive s t u p e f = less_of_less_of_not s t u p e (less_asymmetric t u f)
