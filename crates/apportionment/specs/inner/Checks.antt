-- What follows once a check has not failed: the limits of a number, and the checks after it.
-- Assumes nothing.
use Rattle.std.specs.Prelude.{◌≡◌, refl, Bool, true, false, List, ◌∷◌, ℕ, ◌<◌, ◌≤◌, eqb, cond, Result, Ok, Err, is_err}
use Rattle.std.proofs.lemmas.Bool.{false≢true, lt-leb, eqb-false, not-false}
use Rattle.std.proofs.Common.{sym, ap, ◌∙◌, arith, leb-true, le-leb, eq-eqb, ne_eqb}
use Rattle.apportionment.specs.Refusals.{accepted, refusal_number, refusal_of}
use Rattle.apportionment.specs.Refusals.{within, outside, first_refusal}
use Rattle.apportionment.specs.inner.Tests.{either_way}
use Rattle.apportionment.specs.declared.refusals.Refusal.{Refusal}
use Rattle.apportionment.specs.declared.refusals.Refusal.TheVariants.{RegisterTooLong, LineIllFormed, NumberOutOfLimits, MethodUnknown}
use Rattle.apportionment.specs.declared.refusals.Refusal.TheVariants.{NameUsed, RunningSumTooLarge, TotalDiffers, StatesOutOfLimits}
use Rattle.apportionment.specs.declared.refusals.Refusal.TheVariants.{HouseOutOfLimits, PopulationZero, SumTooLarge, SeatListLength}
use Rattle.apportionment.specs.declared.refusals.Refusal.TheVariants.{HouseBelowStates, PlacingForeign, DepartureOutOfLimits}
use Rattle.apportionment.specs.declared.refusals.Refusal.TheVariants.{BufferTooShort, PlaceOutOfStates}

-- ---- limits

-- A number within its limit, and one that is not outside it.
pub within_limits : (limit x : ℕ) → within limit x ≡ true → (1 ≤ x) × (x ≤ limit)
unfolding within
within_limits limit x e =
    either_way (eqb x 0)
    (λ zero. absurd (false≢true (rw zero at e)))
    (λ some. (omega (arith, eqb-false x 0 some), leb-true x limit (rw some at e)))

pub within_true : (limit x : ℕ) → (1 ≤ x) × (x ≤ limit) → within limit x ≡ true
unfolding within
within_true limit x (some, few) = rw (ne_eqb x 0 (λ none. absurd (omega arith)), le-leb x limit few)

pub zero_not_within : (limit x : ℕ) → x ≡ 0 → within limit x ≡ false
unfolding within
zero_not_within limit x e = rw (eq-eqb x 0 e)

pub beyond_not_within : (limit x : ℕ) → limit < x → within limit x ≡ false
unfolding within
beyond_not_within limit x h = rw (ne_eqb x 0 (λ e. omega arith), lt-leb x limit h)

pub inside_limits : (limit x : ℕ) → outside limit x ≡ false → (1 ≤ x) × (x ≤ limit)
unfolding outside
inside_limits limit x e = within_limits limit x (not-false (within limit x) e)

pub inside_false : (limit x : ℕ) → (1 ≤ x) × (x ≤ limit) → outside limit x ≡ false
unfolding outside
inside_false limit x inside = rw (within_true limit x inside)

-- ---- a list of checks

-- Where nothing is refused, the first check does not fail, and nothing is refused by those after it.
pub check_passed : (t : Bool) (number : ℕ) (later : List (Bool × ℕ)) → 0 < number
    → first_refusal ((t, number) ∷ later) ≡ accepted → (t ≡ false) × (first_refusal later ≡ accepted)
unfolding first_refusal
check_passed true number later some e = absurd (omega arith)
check_passed false number later some e = (refl, e)

-- ---- numbers of refusals

-- The number of a refusal is not 0.
pub refusal_has_number : (refusal : Refusal) → eqb (refusal_number refusal) accepted ≡ false
refusal_has_number RegisterTooLong = refl
refusal_has_number LineIllFormed = refl
refusal_has_number NumberOutOfLimits = refl
refusal_has_number MethodUnknown = refl
refusal_has_number NameUsed = refl
refusal_has_number RunningSumTooLarge = refl
refusal_has_number TotalDiffers = refl
refusal_has_number StatesOutOfLimits = refl
refusal_has_number HouseOutOfLimits = refl
refusal_has_number PopulationZero = refl
refusal_has_number SumTooLarge = refl
refusal_has_number SeatListLength = refl
refusal_has_number HouseBelowStates = refl
refusal_has_number PlacingForeign = refl
refusal_has_number DepartureOutOfLimits = refl
refusal_has_number BufferTooShort = refl
refusal_has_number PlaceOutOfStates = refl

-- The refusal with a number; the last one for any number that none has.
abbrev refusal_at : ℕ → Refusal
refusal_at n =
    cond (eqb n 1) RegisterTooLong (cond (eqb n 2) LineIllFormed (cond (eqb n 3) NumberOutOfLimits (
    cond (eqb n 4) MethodUnknown (cond (eqb n 5) NameUsed (cond (eqb n 6) RunningSumTooLarge (
    cond (eqb n 7) TotalDiffers (cond (eqb n 10) StatesOutOfLimits (cond (eqb n 11) HouseOutOfLimits (
    cond (eqb n 12) PopulationZero (cond (eqb n 13) SumTooLarge (cond (eqb n 14) SeatListLength (
    cond (eqb n 15) HouseBelowStates (cond (eqb n 21) PlacingForeign (cond (eqb n 30) DepartureOutOfLimits (
    cond (eqb n 31) BufferTooShort (PlaceOutOfStates))))))))))))))))

number_leads_back : (refusal : Refusal) → refusal_at (refusal_number refusal) ≡ refusal
number_leads_back RegisterTooLong = refl
number_leads_back LineIllFormed = refl
number_leads_back NumberOutOfLimits = refl
number_leads_back MethodUnknown = refl
number_leads_back NameUsed = refl
number_leads_back RunningSumTooLarge = refl
number_leads_back TotalDiffers = refl
number_leads_back StatesOutOfLimits = refl
number_leads_back HouseOutOfLimits = refl
number_leads_back PopulationZero = refl
number_leads_back SumTooLarge = refl
number_leads_back SeatListLength = refl
number_leads_back HouseBelowStates = refl
number_leads_back PlacingForeign = refl
number_leads_back DepartureOutOfLimits = refl
number_leads_back BufferTooShort = refl
number_leads_back PlaceOutOfStates = refl

-- No two refusals have one number.
pub refusal_by_number : (r s : Refusal) → refusal_number r ≡ refusal_number s → r ≡ s
refusal_by_number r s same = sym (number_leads_back r) ∙ ap refusal_at same ∙ number_leads_back s

-- A result that is an error is a refusal, and one that is none is not.
pub refused_if_err : {A : Type 0} (r : Result A Refusal) → is_err r ≡ true → refusal_of r ≡ accepted → ⊥
refused_if_err (Ok a) err none = false≢true err
refused_if_err (Err refusal) err none = false≢true (sym (refusal_has_number refusal) ∙ eq-eqb _ _ none)

pub accepted_if_ok : {A : Type 0} (r : Result A Refusal) → is_err r ≡ false → refusal_of r ≡ accepted
accepted_if_ok (Ok a) ok = refl
accepted_if_ok (Err refusal) ok = absurd (false≢true (sym ok))
