-- Laws of what Work.antt defines, which proofs cite.
-- Assumes nothing.
use Rattle.std.specs.Prelude.{◌≡◌, Bool, List, ◌++◌, ℕ, zero, suc, ◌+◌, ◌<◌, ◌≤◌, eqb, ltb, length, get_or, Option, None, Some}
use Rattle.std.proofs.Common.{sym, add-one, arith, eq-eqb, ne_eqb, eqb-true, ltb-true, ltb-false, ext_get_or}
use Rattle.std.proofs.lemmas.Bool.{eqb-false}
use Rattle.std.specs.List.{AllWithin, HoldsAt, zip}
use Rattle.std.specs.Option.{MatchOption, unwrap_or}
use Rattle.std.proofs.lemmas.Slice.Zip.{length-zip, get_or-zip}
use Rattle.apportionment.specs.inner.Tests.{either_way}
use Rattle.register.specs.Register.{name_in_row}
use Rattle.showing.specs.Work.{state_line, state_lines, seats_if_moved, weighed_line, weighed_lines, difference_from, first_difference}

-- ---- the lines of the start and the end

pub state_lines_more : (word rows ps seats : List ℕ) (P H k : ℕ)
    → state_lines word rows ps seats P H (k + 1)
    ≡ state_lines word rows ps seats P H k ++ state_line word (name_in_row rows k) (get_or ps k 0) (get_or seats k 0) P H
unfolding state_lines
state_lines_more word rows ps seats P H k = rw add-one

-- ---- what is weighed before a step

-- State k weighed.
unfoldable pub weighed_at : (step : ℕ) (adds : Bool) (rows ps seats : List ℕ) (P H k : ℕ) → List ℕ
weighed_at step adds rows ps seats P H k =
    weighed_line step (name_in_row rows k) (get_or ps k 0) (get_or seats k 0) (seats_if_moved adds (get_or seats k 0)) P H

pub weighed_lines_more : (step : ℕ) (adds : Bool) (rows ps seats : List ℕ) (P H k : ℕ)
    → weighed_lines step adds rows ps seats P H (k + 1)
    ≡ weighed_lines step adds rows ps seats P H k ++ weighed_at step adds rows ps seats P H k
unfolding weighed_lines weighed_at
weighed_lines_more step adds rows ps seats P H k = rw add-one

-- ---- a step

-- The first difference is where the lists differ after places where they do not, or past the last place.
difference_at : (xs ys : List ℕ) (left i r : ℕ) → i ≤ r → r ≤ i + left → ((j : ℕ) → j < r → get_or xs j 0 ≡ get_or ys j 0)
    → (r < i + left → get_or xs r 0 ≡ get_or ys r 0 → ⊥) → difference_from xs ys left i ≡ r
unfolding difference_from
difference_at xs ys zero i r from to same differ = omega arith
difference_at xs ys (suc left) i r from to same differ =
    either_way (eqb i r)
    (λ here.
    let at : i ≡ r = eqb-true i r here in
    rw (at, ne_eqb (get_or xs r 0) (get_or ys r 0) (differ (omega arith))))
    (λ later.
    let before : i < r = omega (arith, eqb-false i r later) in
    rw (eq-eqb (get_or xs i 0) (get_or ys i 0) (same i before))
    (difference_at xs ys left (i + 1) r (omega arith) (omega arith) same (λ below. differ (omega arith))))

-- So a search of the pairs of two lists of one length finds it.
pub first_found : (xs ys : List ℕ) → length ys ≡ length xs → (r : Option ℕ)
    → MatchOption r (AllWithin (λ p. p.0 ≡ p.1) (zip xs ys) 0 (length (zip xs ys)))
    (λ i. (i < length (zip xs ys)) × HoldsAt (λ p. p.0 ≡ p.1 → ⊥) (zip xs ys) i × AllWithin (λ p. p.0 ≡ p.1) (zip xs ys) 0 i)
    → unwrap_or r (length xs) ≡ first_difference xs ys
unfolding first_difference
first_found xs ys paired None none =
    sym (difference_at xs ys (length xs) 0 (length xs) (omega arith) (omega arith) same (λ below. absurd (omega arith)))
  where
    same : (j : ℕ) → j < length xs → get_or xs j 0 ≡ get_or ys j 0
    same j below = rw (get_or-zip xs ys j (0, 0) below (omega arith)) at (none j (0, 0) (omega arith) (omega (arith, length-zip xs ys)))
first_found xs ys paired (Some i) found =
    sym (difference_at xs ys (length xs) 0 i (omega arith) (omega (arith, inside)) (λ j below. same j below) (λ below. differ))
  where
    inside : i < length xs
    inside = omega (arith, found.0, length-zip xs ys)

    same : (j : ℕ) → j < i → get_or xs j 0 ≡ get_or ys j 0
    same j below = rw (get_or-zip xs ys j (0, 0) (omega (arith, inside)) (omega (arith, inside))) at (found.2 j (0, 0) (omega arith) below)

    differ : get_or xs i 0 ≡ get_or ys i 0 → ⊥
    differ = rw (get_or-zip xs ys i (0, 0) inside (omega (arith, inside))) at (found.1 (0, 0))

-- Where the first difference lies past every place, there is none.
no_difference : (xs ys : List ℕ) (left i : ℕ) → i + left ≤ difference_from xs ys left i
    → (j : ℕ) → i ≤ j → j < i + left → get_or xs j 0 ≡ get_or ys j 0
unfolding difference_from
no_difference xs ys zero i past j from below = absurd (omega arith)
no_difference xs ys (suc left) i past j from below =
    either_way (eqb (get_or xs i 0) (get_or ys i 0))
    (λ same.
    either_way (eqb i j)
    (λ here. rw (eqb-true i j here) at (eqb-true (get_or xs i 0) (get_or ys i 0) same))
    (λ later.
    let next : i + 1 ≤ j = omega (arith, eqb-false i j later) in
    let rest : i + suc left ≤ difference_from xs ys left (i + 1) = rw same at past in
    no_difference xs ys left (i + 1) (omega arith) j next (omega arith)))
    (λ other.
    let here : i + suc left ≤ i = rw other at past in
    absurd (omega arith))

-- Lists of one length that are not the same differ at one of their places.
pub differ_at_a_place : (xs ys : List ℕ) → length ys ≡ length xs → (xs ≡ ys → ⊥) → first_difference xs ys < length xs
unfolding first_difference
differ_at_a_place xs ys paired differ =
    either_way (ltb (difference_from xs ys (length xs) 0) (length xs))
    (λ inside. ltb-true (difference_from xs ys (length xs) 0) (length xs) inside)
    (λ past.
    let none : length xs ≤ difference_from xs ys (length xs) 0 = ltb-false (difference_from xs ys (length xs) 0) (length xs) past in
    absurd
    (differ
    (ext_get_or 0 xs ys (sym paired) (λ j below. no_difference xs ys (length xs) 0 (omega arith) j (omega arith) (omega arith)))))
