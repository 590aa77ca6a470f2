-- Laws of the words about populations that the checks use: whether some population is 0, and the sum. The proofs of the checks cite
-- them, and so may whoever adds up populations.
-- Assumes nothing.
use Rattle.std.specs.Prelude.{◌≡◌, refl, Bool, true, false, List, [], ◌∷◌, ℕ, zero, suc, ◌+◌, ◌≤◌, ◌<◌, eqb, length, get_or, drop}
use Rattle.std.proofs.Common.{arith, add-one, drop_of_length-le, drop-cons, eq-eqb}
use Rattle.apportionment.specs.Lists.{sum}
use Rattle.apportionment.specs.inner.Tests.{cond_both}
use Rattle.apportionment.specs.Allotment.{has_zero}

-- ---- a population of 0

-- A population of 0 is found wherever it stands.
pub zero_is_found : (ps : List ℕ) (i : ℕ) → i < length ps → get_or ps i 0 ≡ 0 → has_zero ps ≡ true
unfolding has_zero
zero_is_found [] i h e = absurd (omega arith)
zero_is_found (p ∷ ps) zero h e = simp (eq-eqb p 0 e)
zero_is_found (p ∷ ps) (suc i) h e =
    cond_both (λ (b : Bool). b ≡ true) (eqb p 0) true (has_zero ps) (λ _. refl) (λ _. zero_is_found ps i (omega arith) e)

-- Where none is found, each place has a population above 0.
pub each_is_peopled : (ps : List ℕ) → has_zero ps ≡ false → (i : ℕ) → i < length ps → 0 < get_or ps i 0
each_is_peopled ps none i h = omega (arith, not_zero)
  where
    not_zero : get_or ps i 0 ≡ 0 → ⊥
    not_zero e = let z : ◌≡◌ {A = ℕ} 0 1 = cc (zero_is_found ps i h e) in omega arith

-- ---- the sum

-- The sum from place i on is the population there and the sum after it.
pub sum_from : (ps : List ℕ) (i : ℕ) → i < length ps → sum (drop i ps) ≡ get_or ps i 0 + sum (drop (i + 1) ps)
unfolding sum
sum_from ps i h = rw (drop-cons ps i 0, add-one)

-- Past the last place there is nothing left to add.
pub sum_past_end : (ps : List ℕ) (i : ℕ) → length ps ≤ i → sum (drop i ps) ≡ 0
unfolding sum
sum_past_end ps i h = rw drop_of_length-le
