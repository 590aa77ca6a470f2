-- The five signposts increase. What the divisor methods share is shown for any that do.
-- Assumes nothing.
use Rattle.std.specs.Prelude.{◌≡◌, true, ℕ, suc, ◌*◌, ◌<◌}
use Rattle.std.proofs.Common.{arith, lt-ltb}
use Rattle.apportionment.specs.Quantities.{Fraction, less}
use Rattle.apportionment.specs.Divisor.{signpost}
use Rattle.apportionment.specs.declared.DivisorMethod.{DivisorMethod}
use Rattle.apportionment.specs.declared.DivisorMethod.TheVariants.{Adams, Dean, Hill, Webster, Jefferson}

-- Signposts d are increasing fractions.
pub record Increasing (d : ℕ → Fraction) : Type 0 where
  pub positive : (a : ℕ) → 0 < (d a).under
  pub increases : (a : ℕ) → less (d a) (d (suc a)) ≡ true

-- Signposts increase whose products, taken crosswise, do.
increasing_by_products : (d : ℕ → Fraction) → ((a : ℕ) → 0 < (d a).under)
    → ((a : ℕ) → (d a).over * (d (suc a)).under < (d (suc a)).over * (d a).under) → Increasing d
unfolding less
increasing_by_products d positive products = record { positive = positive; increases = λ a. lt-ltb _ _ (products a) }

pub signposts_increase : (m : DivisorMethod) → Increasing (signpost m)
unfolding signpost
signposts_increase Adams = increasing_by_products (signpost Adams) (omega arith) (omega arith)
signposts_increase Dean = increasing_by_products (signpost Dean) (omega arith) (omega arith)
signposts_increase Hill = increasing_by_products (signpost Hill) (omega arith) (omega arith)
signposts_increase Webster = increasing_by_products (signpost Webster) (omega arith) (omega arith)
signposts_increase Jefferson = increasing_by_products (signpost Jefferson) (omega arith) (omega arith)
