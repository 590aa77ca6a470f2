-- Laws of what Methods.antt defines, which proofs cite: a method's number leads back to it, so what a test finds at each entry of the
-- list of methods holds of every method.
-- Assumes nothing.
use Rattle.std.specs.Prelude.{◌≡◌, refl, Bool, true, false, cond, List, [], ◌∷◌, ℕ, zero, suc, ◌+◌, ◌≤◌, ◌<◌, length, get_or}
use Rattle.std.specs.Prelude.{drop}
use Rattle.std.proofs.lemmas.Bool.{false≢true}
use Rattle.std.proofs.Common.{add-one, arith, drop-cons}
use Rattle.apportionment.specs.Methods.{methods, method_number, method_at, last_method}
use Rattle.apportionment.specs.inner.Tests.{either_way}
use Rattle.apportionment.specs.declared.Method.{Method}
use Rattle.apportionment.specs.declared.Method.TheVariants.{Leximin, Adams, Dean, Hill, Webster, Jefferson, Remainders, Quota}

-- ---- numbers

-- A method's number leads back to it.
pub number_names_method : (m : Method) → method_at (method_number m) ≡ m
number_names_method Leximin = refl
number_names_method Adams = refl
number_names_method Dean = refl
number_names_method Hill = refl
number_names_method Webster = refl
number_names_method Jefferson = refl
number_names_method Remainders = refl
number_names_method Quota = refl

-- What stands at a place of a list does not hang on what would be read past its end.
entry_whatever_the_end : {A : Type 0} (xs : List A) (n : ℕ) (d e : A) → n < length xs → get_or xs n d ≡ get_or xs n e
entry_whatever_the_end [] n d e within = absurd (omega arith)
entry_whatever_the_end (x ∷ xs) zero d e within = refl
entry_whatever_the_end (x ∷ xs) (suc n) d e within = entry_whatever_the_end xs n d e (omega arith)

pub method_in_list : (n : ℕ) (d : Method) → n ≤ last_method → get_or methods n d ≡ method_at n
method_in_list n d within = entry_whatever_the_end methods n d Quota (omega arith)

-- The methods from a number on: its own, and those after it.
pub methods_from : (n : ℕ) → n ≤ last_method → drop n methods ≡ method_at n ∷ drop (n + 1) methods
methods_from n within = rw (add-one, drop-cons methods n Quota (omega arith))

-- ---- tests of every method

-- Each method of a list passes a test.
abbrev all_pass : (test : Method → Bool) → List Method → Bool
all_pass test [] = true
all_pass test (m ∷ ms) = cond (test m) (all_pass test ms) false

pass_at : (test : Method → Bool) (ms : List Method) (n : ℕ) (last : Method) → all_pass test ms ≡ true → test last ≡ true
    → test (get_or ms n last) ≡ true
pass_at test [] n last all end = end
pass_at test (m ∷ ms) zero last all end = either_way (test m) (λ e. e) (λ e. absurd (false≢true (rw e at all)))
pass_at test (m ∷ ms) (suc n) last all end =
    either_way (test m) (λ e. pass_at test ms n last (rw e at all) end) (λ e. absurd (false≢true (rw e at all)))

-- A test that each method of the list passes, the last one once more, every method passes.
pub every_method : (test : Method → Bool) → all_pass test methods ≡ true → test Quota ≡ true → (m : Method) → test m ≡ true
every_method test all end m = rw (number_names_method m) at (pass_at test methods (method_number m) Quota all end)
