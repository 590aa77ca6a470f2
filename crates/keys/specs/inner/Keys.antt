-- A quotient p / (a + 1) as one whole number, its key: so large that two keys are ordered exactly as the quotients are, and equal where
-- these are equal.
-- Assumes nothing.
use Rattle.std.specs.Prelude.{◌≡◌, ltb}
use Rattle.std.proofs.Common.{sym, ◌∙◌, mul-le-mul_right, le-div_iff_mul-le, div-mul-le_self, le_of_mul-le-mul_right, arith, lt-ltb}
use Rattle.std.proofs.Common.{le-ltb, ltb-true, ltb-false}
use Prim.Native.Nat.{ℕ, suc, ◌+◌, ◌*◌, ◌/◌, ◌<◌, ◌≤◌}
use Rattle.apportionment.specs.inner.Tests.{either_way}

-- What a quotient is multiplied by before it is rounded down: two to the thirtieth, which is more than (a + 1) (b + 1) for any a and b
-- up to the largest house.
abbrev pub key_scale : ℕ
key_scale = 1073741824

-- The key of p / (a + 1).
unfoldable pub key_of : (p a : ℕ) → ℕ
key_of p a = p * key_scale / (a + 1)

module _ (p a q b : ℕ) where
  -- A smaller quotient has a smaller key: they differ by at least 1 / ((a + 1) (b + 1)), so the numbers before rounding by at least 1.
  key_less : (a + 1) * (b + 1) ≤ key_scale → q * (a + 1) < p * (b + 1) → key_of q b < key_of p a
  unfolding key_of
  key_less small h = (le-div_iff_mul-le {k = a + 1} (omega arith)).1 (le_of_mul-le-mul_right {k = b + 1} reached (omega arith))
    where
      u : ℕ
      u = q * key_scale / (b + 1)

      below : u * (b + 1) * (a + 1) ≤ q * key_scale * (a + 1)
      below = mul-le-mul_right (a + 1) (div-mul-le_self (q * key_scale) (b + 1))

      apart : (q * (a + 1) + 1) * key_scale ≤ p * (b + 1) * key_scale
      apart = mul-le-mul_right key_scale (omega (arith, h))

      reached : suc u * (a + 1) * (b + 1) ≤ p * key_scale * (b + 1)
      reached = omega (arith, below, apart, small)

  -- A quotient that is not smaller has no smaller key.
  key_at_most : p * (b + 1) ≤ q * (a + 1) → key_of p a ≤ key_of q b
  unfolding key_of
  key_at_most h = (le-div_iff_mul-le {k = b + 1} (omega arith)).1 (le_of_mul-le-mul_right {k = a + 1} reached (omega arith))
    where
      v : ℕ
      v = p * key_scale / (a + 1)

      below : v * (a + 1) * (b + 1) ≤ p * key_scale * (b + 1)
      below = mul-le-mul_right (b + 1) (div-mul-le_self (p * key_scale) (a + 1))

      scaled : p * (b + 1) * key_scale ≤ q * (a + 1) * key_scale
      scaled = mul-le-mul_right key_scale h

      reached : v * (b + 1) * (a + 1) ≤ q * key_scale * (a + 1)
      reached = omega (arith, below, scaled)

  -- So keys are ordered as the quotients are.
  pub keys_as_quotients : (a + 1) * (b + 1) ≤ key_scale → ltb (q * (a + 1)) (p * (b + 1)) ≡ ltb (key_of q b) (key_of p a)
  keys_as_quotients small = either_way (ltb (q * (a + 1)) (p * (b + 1)))
      (λ e. e ∙ sym (lt-ltb (key_of q b) (key_of p a) (key_less small (ltb-true _ _ e))))
      (λ e. e ∙ sym (le-ltb (key_of q b) (key_of p a) (key_at_most (ltb-false _ _ e))))

pub key_positive : (p a : ℕ) → 0 < p → a + 1 ≤ key_scale → 0 < key_of p a
unfolding key_of
key_positive p a some small = (le-div_iff_mul-le {k = a + 1} (omega arith)).1 (omega (arith, mul-le-mul_right key_scale some, small))
