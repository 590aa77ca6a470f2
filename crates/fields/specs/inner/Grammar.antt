-- Laws of what Grammar.antt defines, which proofs cite.
-- Assumes nothing.
use Rattle.std.specs.Prelude.{◌≡◌, refl, Bool, true, List, [], ◌∷◌, ℕ, ◌+◌, ◌-◌, ◌*◌, ◌^◌, ◌<◌, ◌≤◌, length, get_or, drop}
use Rattle.std.proofs.Common.{pow-suc, lt_of_lt_of_le, add-one, arith, drop_of_length-le}
use Rattle.std.proofs.Math.Nat.{pow-le-pow_right}
use Rattle.apportionment.specs.Refusals.{within}
use Rattle.apportionment.specs.Lists.{same_list}
use Rattle.apportionment.specs.Methods.{method_text}
use Rattle.std.specs.List.{find}
use Rattle.apportionment.specs.declared.Method.{Method}
use Rattle.fields.specs.inner.Tests.{both}
use Rattle.apportionment.specs.inner.Checks.{within_limits}
use Rattle.fields.specs.Grammar.{all_between}
use Rattle.fields.specs.inner.Parts.{drop_step, between_at}
use Rattle.fields.specs.Grammar.{digit_limit, is_number, value_from, word_limit, is_name, first_named}

-- ---- numbers

pub value_step : (v : ℕ) (f : List ℕ) (i : ℕ) → i < length f
    → value_from v (drop i f) ≡ value_from (v * 10 + (get_or f i 0 - 48)) (drop (i + 1) f)
unfolding value_from
value_step v f i inside = rw (drop_step f i inside)

pub value_end : (v : ℕ) (f : List ℕ) (i : ℕ) → length f ≤ i → value_from v (drop i f) ≡ v
unfolding value_from
value_end v f i past = rw (drop_of_length-le f past)

-- A number's bytes are at most 10, and each is a digit.
pub record Digits (f : List ℕ) : Type 0 where
  pub few : length f ≤ digit_limit
  pub each : (i : ℕ) → i < length f → (48 ≤ get_or f i 0) × (get_or f i 0 ≤ 57)

pub number_digits : (f : List ℕ) → is_number f ≡ true → Digits f
unfolding is_number
number_digits f number =
    let parts = both (within digit_limit (length f)) (all_between 48 57 f) number in
    record { few = (within_limits digit_limit (length f) parts.0).1; each = between_at 48 57 f parts.1 }

-- One digit more after at most nine: the value has one place more, and ten places fit a machine word.
pub digit_more : (v i x : ℕ) → v < 10 ^ i → x ≤ 57 → v * 10 + (x - 48) < 10 ^ (i + 1)
digit_more v i x small digit = rw (add-one, pow-suc) (omega arith)

pub ten_places : (v i : ℕ) → v < 10 ^ i → i ≤ digit_limit → v < 10 ^ digit_limit
ten_places v i small few = lt_of_lt_of_le small (pow-le-pow_right (omega arith) few)

-- ---- names and words

pub name_length : (f : List ℕ) → is_name f ≡ true → (1 ≤ length f) × (length f ≤ word_limit)
unfolding is_name
name_length f name = within_limits word_limit (length f) (both (within word_limit (length f)) _ name).0

-- The first of some methods whose word passes the test of being the field.
pub first_named_is : (test : Method → Bool) (f : List ℕ) → ((m : Method) → test m ≡ same_list f (method_text m)) → (ms : List Method)
    → find test ms ≡ first_named f ms
unfolding first_named
first_named_is test f each [] = refl
first_named_is test f each (m ∷ ms) = rw (each m, first_named_is test f each ms)
