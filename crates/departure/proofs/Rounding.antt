-- Rounding in two stages, the whole part and then the scaled remainder, gives the nearest number. The proof of `nearest`
-- cites these laws at the scale in which departures are shown.
-- Assumes nothing.
use mathlib.Core.Path.{◌≡◌, sym, ◌∙◌, ap}
use Prim.Native.Nat.{ℕ, ◌+◌, ◌-◌, ◌*◌, ◌/◌, ◌%◌, ◌^◌, ◌<◌, ◌≤◌}
use native.Mathlib.Nat.{add-le-add, add-mul, mul-add, mul_assoc, mul_comm, mul_left_comm, mod-lt, div-add-mod', div-eq_of_lt-le}
use native.Mathlib.Nat.{div-le_of_le-mul, le_of_lt, mul-le-mul_right}
use native.Mathlib.Omega.{arith}
use Rattle.apportionment.specs.Limits.{house_limit}
use Rattle.apportionment.specs.Quantities.{Fraction, shown_size, nearest_whole}
use Rattle.apportionment.specs.inner.Quantities.{at_most_wholes}
use Rattle.departure.specs.inner.Exact.{Moderate}

-- A whole part w with a remainder r, and the scaled remainder's quotient q with its rest s, lose nothing.
stages_add_up : (scale under w r q s : ℕ)
    → q * under + s ≡ r * scale
    → scale * (w * under + r) ≡ (w * scale + q) * under + s
stages_add_up scale under w r q s e =
    simp (mul-add, add-mul, mul_assoc, mul_comm) (omega (arith, simp mul_comm at e))

-- Of a quotient q with the rest s, the rest decides: below one half the quotient itself is nearest, from one half on the next.
quotient_is_nearest : (x under q s : ℕ) → x ≡ q * under + s → s < under - s → q ≡ nearest_whole x under
unfolding nearest_whole
quotient_is_nearest x under q s e below =
    sym
    (div-eq_of_lt-le (2 * under)
    (omega (arith, mul_left_comm q 2 under))
    (omega (arith, mul_left_comm q 2 under, add-mul q 1 (2 * under))))

next_is_nearest : (x under q s : ℕ) → x ≡ q * under + s → s < under → under - s ≤ s → q + 1 ≡ nearest_whole x under
unfolding nearest_whole
next_is_nearest x under q s e rest above =
    sym
    (div-eq_of_lt-le (2 * under)
    (omega (arith, mul_left_comm q 2 under, add-mul q 1 (2 * under)))
    (omega (arith, mul_left_comm q 2 under, add-mul q 1 (2 * under), add-mul (q + 1) 1 (2 * under))))

module _ (scale over under : ℕ) (positive : 0 < under) where
  -- The scaled remainder, the quotient of both stages, and its rest.
  abbrev pub scaled : ℕ
  scaled = over % under * scale

  abbrev pub down : ℕ
  down = over / under * scale + scaled / under

  abbrev pub rest : ℕ
  rest = scaled % under

  staged : scale * over ≡ down * under + rest
  staged =
      ap (λ (n : ℕ). scale * n) (sym (div-add-mod' over under))
      ∙ stages_add_up scale under (over / under) (over % under) (scaled / under) rest (div-add-mod' scaled under)

  pub rounds_down : rest < under - rest → down ≡ nearest_whole (scale * over) under
  rounds_down below = quotient_is_nearest (scale * over) under down rest staged below

  pub rounds_up : under - rest ≤ rest → down + 1 ≡ nearest_whole (scale * over) under
  rounds_up above = next_is_nearest (scale * over) under down rest staged (mod-lt scaled positive) above

  -- What is at most k wholes is at most k scaled, and the second stage adds less than one more.
  pub down_bounded : (k : ℕ) → over ≤ k * under → down ≤ k * scale + scale
  down_bounded k low =
      add-le-add
      (mul-le-mul_right scale (div-le_of_le-mul under (omega (arith, mul_comm k under))))
      (div-le_of_le-mul under (mul-le-mul_right scale (le_of_lt (mod-lt over positive))))

-- A moderate size is shown by a number far below 2^63.
pub moderate_fits : (s : Fraction) → Moderate s → shown_size s < 2 ^ 63
moderate_fits s moderate = omega (arith, at_most_wholes house_limit s moderate.positive moderate.low)
