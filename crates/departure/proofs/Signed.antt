-- Signed words of 64 bits, at this crate's thin signed edge: a difference fits, and a number is given the sign of a word. The proofs of
-- `difference` and `with_sign` cite these laws.
-- Assumes nothing.
use mathlib.Core.Path.{◌≡◌, refl}
use mathlib.Core.Bool.{true, false}
use Prim.Native.Nat.{ℕ, ◌<◌, ◌^◌}
use native.Mathlib.Nat.{not-suc-le-zero}
use native.Mathlib.Omega.{arith}
use lib.Dec.{ltb}
use lib.IntN.{ℤ, pos, negsuc, neg_ℤ, ◌-ℤ◌}
use lib.Signed.{lt_z}
use mir.Syntax.{w64}
use mir.Val.{SFits, to_z, of_z}
use mir.ValLaws.{to_z-of_z, to_z_pos}
use borrow.Author.Tests.{ltb-true, ltb-false}
use Rattle.apportionment.specs.inner.Tests.{either_way}
use Rattle.wide.proofs.Signed.{word, word_test}
use Rattle.departure.specs.inner.Exact.{minus_below, minus_above, signed}

-- ---- a difference

-- Of two numbers below 2^63 it fits.
minus_fits : (x y : ℕ) → x < 2 ^ 63 → y < 2 ^ 63 → SFits w64 (pos x -ℤ pos y)
minus_fits x y x_Fits y-fits =
    either_way (ltb x y)
    (λ e. rw (minus_below x y (ltb-true x y e)) (record { sfits = omega arith }))
    (λ e. rw (minus_above x y (ltb-false x y e)) (record { sfits = omega arith }))

-- The same of two words that are read as signed ones.
pub words_minus_fits : (x y : ℕ) → x < 2 ^ 63 → y < 2 ^ 63 → SFits w64 (to_z w64 x -ℤ to_z w64 y)
words_minus_fits x y x_Fits y-fits = rw (to_z_pos w64 x x_Fits, to_z_pos w64 y y-fits) (minus_fits x y x_Fits y-fits)

pub words_minus : (x y : ℕ) → x < 2 ^ 63 → y < 2 ^ 63 → to_z w64 (of_z w64 (to_z w64 x -ℤ to_z w64 y)) ≡ pos x -ℤ pos y
words_minus x y x_Fits y-fits =
    rw (to_z_pos w64 x x_Fits, to_z_pos w64 y y-fits) (to_z-of_z w64 (pos x -ℤ pos y) (minus_fits x y x_Fits y-fits))

-- ---- the sign of another number

signed_below : (n : ℤ) (m : ℕ) → lt_z n (pos 0) ≡ true → signed n m ≡ neg_ℤ (pos m)
unfolding signed
signed_below (pos k) m e = absurd (not-suc-le-zero (ltb-true k 0 e))
signed_below (negsuc k) m e = refl

signed_natural : (n : ℤ) (m : ℕ) → lt_z n (pos 0) ≡ false → signed n m ≡ pos m
unfolding signed
signed_natural (pos k) m e = refl
signed_natural (negsuc k) m e = cc

module _ (n : ℤ) (fits : SFits w64 n) where
  pub signed_word_below : (m : ℕ) → lt_z (word n fits) (pos 0) ≡ true → signed n m ≡ neg_ℤ (pos m)
  signed_word_below m e = signed_below n m (word_test n fits true e)

  pub signed_word_natural : (m : ℕ) → lt_z (word n fits) (pos 0) ≡ false → signed n m ≡ pos m
  signed_word_natural m e = signed_natural n m (word_test n fits false e)
