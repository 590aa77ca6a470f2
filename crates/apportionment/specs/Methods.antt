-- Document 01, "The register" and "Operations": the methods in their order, their words, and their numbers in the C interface.
use Rattle.std.specs.Prelude.{◌∷◌, ◌-◌, List, [], ℕ, cond, leb, length, get_or, Result, Ok, Err}
use Rattle.apportionment.specs.Words.{Method, Leximin, Adams, Dean, Hill, Webster, Jefferson, Remainders, Quota}
use Rattle.apportionment.specs.Text.{bytes_of}
use Rattle.apportionment.specs.declared.refusals.Refusal.{Refusal}
use Rattle.apportionment.specs.declared.refusals.Refusal.TheVariants.{MethodUnknown}

abbrev pub methods : List Method  -- The methods, in document 01's order.
methods = Leximin ∷ Adams ∷ Dean ∷ Hill ∷ Webster ∷ Jefferson ∷ Remainders ∷ Quota ∷ []

unfoldable pub method_text : Method → List ℕ  -- The word of a method.
method_text =
    elim [
      | Leximin ↦ bytes_of "leximin"
      | Adams ↦ bytes_of "adams"
      | Dean ↦ bytes_of "dean"
      | Hill ↦ bytes_of "hill"
      | Webster ↦ bytes_of "webster"
      | Jefferson ↦ bytes_of "jefferson"
      | Remainders ↦ bytes_of "remainders"
      | Quota ↦ bytes_of "quota"
    ]

abbrev pub method_number : Method → ℕ  -- The number of a method: its place in the list, counted from 0.
method_number =
    elim [ Leximin ↦ 0 | Adams ↦ 1 | Dean ↦ 2 | Hill ↦ 3 | Webster ↦ 4 | Jefferson ↦ 5 | Remainders ↦ 6 | Quota ↦ 7 ]

abbrev pub last_method : ℕ  -- The number of the last method.
last_method = length methods - 1

abbrev pub method_at : ℕ → Method  -- The method with a number; the last one for any number past it.
method_at n = get_or methods n Quota

abbrev pub method_numbered : ℕ → Result Method Refusal  -- The same where there is one; otherwise it is refused as unknown.
method_numbered n = cond (leb n last_method) (Ok (method_at n)) (Err MethodUnknown)
