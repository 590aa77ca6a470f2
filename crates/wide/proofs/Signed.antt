-- Signed words of 64 bits: a word in range is read as the integer that it holds. The proofs of `departure` cite these laws.
-- Assumes nothing.
use mathlib.Core.Path.{◌≡◌}
use mathlib.Core.Bool.{Bool}
use Prim.Native.Nat.{◌<◌, ◌^◌}
use lib.IntN.{ℤ, pos}
use lib.Signed.{mag, lt_z}
use mir.Syntax.{w64}
use mir.Val.{SFits, to_z, of_z}
use mir.ValLaws.{to_z-of_z}

-- A word that holds an integer in range is read back as that integer.
pub read_back : (n : ℤ) → mag n < 2 ^ 63 → to_z w64 (of_z w64 n) ≡ n
read_back n fits = to_z-of_z w64 n (record { sfits = fits })

-- The same of a word whose range is known as a record.
module _ (n : ℤ) (fits : SFits w64 n) where
  abbrev pub word : ℤ
  word = to_z w64 (of_z w64 n)

  pub word_test : (t : Bool) → lt_z word (pos 0) ≡ t → lt_z n (pos 0) ≡ t
  word_test t e = rw (to_z-of_z w64 n fits) at e
