-- Shares, sizes and claims are computed in machine words; the layers that do so share this bound.
-- Assumes nothing.
use Rattle.std.specs.Prelude.{ℕ, ◌*◌, ◌^◌, ◌≤◌, T, ltb}
use Rattle.std.proofs.Common.{mul-le-mul, lt_of_le_of_lt, lit<, Fits}
use Rattle.std.specs.Int.{w64}

-- A product of numbers that two bounds hold fits a machine word if the bounds' product does.
pub product_fits : (A B : ℕ) {x y : ℕ} → x ≤ A → y ≤ B → T (ltb (A * B) (2 ^ 64)) → Fits w64 (x * y)
product_fits A B hx hy t = record { fits = lt_of_le_of_lt (mul-le-mul hx hy) (lit< t) }
