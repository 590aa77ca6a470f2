-- An exact departure with its sign: its size and how it is shown, and the laws that both are document 01's where it is the
-- departure of a state. The proofs of the code go by these laws.
-- Assumes nothing.
use Rattle.std.specs.Prelude.{◌≡◌, cond, ℕ, zero, suc, ◌-◌, ◌*◌, ◌<◌, ◌≤◌, ltb, ℤ, pos, negsuc, neg_ℤ, nat_abs, ◌-ℤ◌}
use Rattle.std.proofs.Common.{◌∙◌, ap, add-zero, not-suc-le-zero, arith, ltb-true, ltb-false, lt-ltb, le-ltb}
use Rattle.std.proofs.Math.Nat.{sub-zero}
use Rattle.apportionment.specs.inner.Tests.{either_way}
use Rattle.apportionment.specs.Limits.{house_limit, sum_limit}
use Rattle.apportionment.specs.Quantities.{Fraction, distance, size_of, is_below, shown_size, shown_of}
use Rattle.departure.specs.declared.Departure.{Departure}

-- The departure of a state with population p and a seats, a ≥ 1: (p H - a P) / (a P).
unfoldable pub exact_of : (p a P H : ℕ) → Departure
exact_of p a P H = record { numerator = pos (p * H) -ℤ pos (a * P); denominator = a * P }

-- The size: the departure without its sign.
unfoldable pub size : Departure → Fraction
size d = record { over = nat_abs d.numerator; under = d.denominator }

-- A number with the sign of another; zero has none.
unfoldable pub signed : ℤ → ℕ → ℤ
signed (pos n) m = pos m
signed (negsuc n) m = neg_ℤ (pos m)

-- The shown departure.
unfoldable pub shown : Departure → ℤ
shown d = signed d.numerator (shown_size (size d))

-- ---- differences

-- A difference that is below zero, and one that is not.
pub minus_below : (x y : ℕ) → x < y → pos x -ℤ pos y ≡ negsuc (y - suc x)
minus_below x zero h = absurd (not-suc-le-zero h)
minus_below x (suc y) h = simp (lt-ltb _ _ h)

pub minus_above : (x y : ℕ) → y ≤ x → pos x -ℤ pos y ≡ pos (x - y)
minus_above x zero h = simp (add-zero, sub-zero)
minus_above x (suc y) h = simp (le-ltb _ _ h)

-- Without its sign it is how far the two are apart ..
minus_distance : (x y : ℕ) → nat_abs (pos x -ℤ pos y) ≡ distance x y
unfolding distance
minus_distance x y =
    either_way (ltb x y)
    (λ e. let h : x < y = ltb-true x y e in simp (minus_below x y h) (omega arith))
    (λ e. let h : y ≤ x = ltb-false x y e in simp (minus_above x y h) (omega arith))

-- .. and its sign is that of the order.
minus_sign : (x y m : ℕ) → signed (pos x -ℤ pos y) m ≡ cond (ltb x y) (neg_ℤ (pos m)) (pos m)
unfolding signed
minus_sign x y m =
    either_way (ltb x y)
    (λ e. rw e (simp (minus_below x y (ltb-true x y e))))
    (λ e. rw e (simp (minus_above x y (ltb-false x y e))))

-- ---- the departure of a state

-- Its size is document 01's ..
pub exact_size : (p a P H : ℕ) → size (exact_of p a P H) ≡ size_of p a P H
unfolding size exact_of size_of
exact_size p a P H = ap (λ (n : ℕ). record { over = n; under = a * P }) (minus_distance (p * H) (a * P))

-- .. and it is shown as document 01 shows it.
pub exact_shown : (p a P H : ℕ) → shown (exact_of p a P H) ≡ shown_of p a P H
unfolding shown exact_of shown_of is_below
exact_shown p a P H =
    ap (λ (s : Fraction). signed (pos (p * H) -ℤ pos (a * P)) (shown_size s)) (exact_size p a P H)
    ∙ minus_sign (p * H) (a * P) (shown_size (size_of p a P H))

-- ---- sizes within the limits

-- A size that 64 bits can round: its denominator is within the limits, and its whole part at most the largest house. A state's own is less.
pub record Moderate (s : Fraction) : Type 0 where
  pub positive : 0 < s.under
  pub narrow : s.under ≤ house_limit * sum_limit
  pub low : s.over ≤ house_limit * s.under
