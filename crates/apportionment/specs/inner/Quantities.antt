-- How large a size is once it is rounded: at most as many wholes as it is exactly. So no departure within the limits is shown as more than
-- the largest house less one or, below the average, as more than 100 per cent. By this the numbers fit their words and the text its room.
-- Assumes nothing.
use Rattle.std.specs.Prelude.{◌≡◌, true, ℕ, suc, ◌+◌, ◌-◌, ◌*◌, ◌/◌, ◌<◌, ◌≤◌}
use Rattle.std.proofs.Math.Nat.{mul-le-mul}
use Rattle.std.proofs.Common.{mul-pos, le_refl, mul_assoc, div-lt_iff_lt-mul, arith}
use borrow.Author.Tests.{ltb-true}
use Rattle.apportionment.specs.Limits.{house_limit}
use Rattle.apportionment.specs.Quantities.{Fraction, distance, size_of, is_below, nearest_whole, shown_scale, shown_size}

-- The nearest whole of a fraction that is at most m is at most m.
nearest_at_most : (m over under : ℕ) → 0 < under → over ≤ m * under → nearest_whole over under ≤ m
unfolding nearest_whole
nearest_at_most m over under some bound =
    let below : (2 * over + under) / (2 * under) < suc m = (div-lt_iff_lt-mul {k = 2 * under} (omega arith)).1 (omega arith) in
    omega arith

-- A size of at most k wholes is shown as at most k wholes.
pub at_most_wholes : (k : ℕ) (s : Fraction) → 0 < s.under → s.over ≤ k * s.under → shown_size s ≤ shown_scale * k
unfolding shown_size
at_most_wholes k s some low =
    nearest_at_most (shown_scale * k) (shown_scale * s.over) s.under some (omega (arith, mul_assoc shown_scale k s.under))

module _ (p a P H : ℕ) (seated : 0 < a) (some : 0 < P) where
  -- Above the average no state shows more than the largest house less one ..
  pub largest_above : p ≤ P → H ≤ house_limit → shown_size (size_of p a P H) ≤ shown_scale * (house_limit - 1)
  unfolding size_of distance
  largest_above within limited =
      at_most_wholes (house_limit - 1) (size_of p a P H) (mul-pos seated some)
      (omega (arith, mul-le-mul within limited, mul-le-mul seated (le_refl P)))

  -- .. and below it none shows more than 100 per cent.
  pub largest_below : is_below p a P H ≡ true → shown_size (size_of p a P H) ≤ shown_scale
  unfolding size_of distance is_below
  largest_below below =
      at_most_wholes 1 (size_of p a P H) (mul-pos seated some) (omega (arith, ltb-true (p * H) (a * P) below))
