-- Shown departures in base ten: what is written of one below zero and of any other.
-- Assumes nothing.
use Rattle.std.specs.Prelude.{◌≡◌, refl, true, false, ◌++◌, ℕ, ℤ, pos, negsuc, nat_abs}
use Rattle.std.proofs.Common.{ap, true≢false, add-one, arith, ltb-true}
use Rattle.std.specs.Int.Signed.{lt_z}
use Rattle.apportionment.specs.Text.{bytes_of}
use Rattle.apportionment.specs.Quantities.{shown_size_text, shown_text}

-- A shown number below zero is a minus sign and its size.
pub shown_below : (shown : ℤ) → lt_z shown (pos 0) ≡ true → shown_text shown ≡ bytes_of "-" ++ shown_size_text (nat_abs shown)
unfolding shown_text
shown_below (pos s) below = absurd (omega (arith, ltb-true s 0 below))
shown_below (negsuc s) below = ap (λ (n : ℕ). bytes_of "-" ++ shown_size_text n) (add-one s)

-- Any other is its size.
pub shown_above : (shown : ℤ) → lt_z shown (pos 0) ≡ false → shown_text shown ≡ shown_size_text (nat_abs shown)
unfolding shown_text
shown_above (pos s) above = refl
shown_above (negsuc s) above = absurd (true≢false above)
