-- Lines that the desk's texts share: the first one, and in it two numbers; the line of totals; a refusal's.
use Rattle.std.specs.Prelude.{◌++◌, List, ℕ}
use Rattle.apportionment.specs.{Text.bytes_of, Text.decimal, Methods.method_text, declared.Method.Method}

unfoldable pub numbers_text : (x y : ℕ) → List ℕ  -- Two numbers of a line, each after a comma.
numbers_text x y = bytes_of "," ++ decimal x ++ bytes_of "," ++ decimal y

unfoldable pub head_line : (word : List ℕ) → Method → (H n : ℕ) → List ℕ  -- Line 1: the word, method, house, states.
head_line word m H n = word ++ bytes_of "," ++ method_text m ++ numbers_text H n ++ bytes_of "\n"

unfoldable pub total_line : (P allotted : ℕ) → List ℕ  -- The line of totals: the word, P, seats allotted.
total_line P allotted = bytes_of "total" ++ numbers_text P allotted ++ bytes_of "\n"

unfoldable pub refusal_line : (number line : ℕ) → List ℕ  -- A refusal's line: the word, its number, and the line that it is about.
refusal_line number line = bytes_of "refused" ++ numbers_text number line ++ bytes_of "\n"
