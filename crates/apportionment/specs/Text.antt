-- Text as bytes: words, and numbers in base ten.
use Prim.Native.Char.{code}
use Prim.Native.String.{String}
use Rattle.std.specs.Prelude.{◌∷◌, ◌++◌, ◌+◌, ◌/◌, ◌%◌, cond, List, [], ℕ, zero, suc, ltb}

abbrev pub bytes_of : String → List ℕ  -- The bytes of a word of plain ASCII.
bytes_of String.[] = []
bytes_of (String.◌∷◌ c s) = code c ∷ bytes_of s

abbrev pub digit : ℕ → List ℕ  -- The one byte of a digit.
digit d = (48 + d) ∷ []

unfoldable pub decimal_with : ℕ → ℕ → List ℕ  -- Base ten, no leading zeros; the first argument is fuel, and the number itself is enough.
decimal_with zero n = digit n
decimal_with (suc fuel) n =
    let longer = decimal_with fuel (n / 10) ++ digit (n % 10) in
    cond (ltb n 10) (digit n) longer

unfoldable pub decimal : ℕ → List ℕ  -- A number in base ten.
decimal n = decimal_with n n
