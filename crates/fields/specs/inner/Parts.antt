-- Laws of parts of a run of bytes, which proofs cite.
-- Assumes nothing.
use Rattle.std.specs.Prelude.{◌≡◌, refl, Bool, true, false, cond, ◌&&◌, List, [], ◌∷◌, ℕ, zero, suc, ◌+◌, ◌<◌, ◌≤◌, leb, eqb, length}
use Rattle.std.specs.Prelude.{get_or, drop}
use Rattle.std.specs.List.{list_all, position_or_len}
use lib.Pointwise.{pointwise}
use Rattle.std.proofs.Common.{add-one, arith, leb-true, drop-cons}
use Rattle.apportionment.specs.Lists.{same_list}
use Rattle.apportionment.specs.inner.Tests.{cond_both, either_way}
use Rattle.fields.specs.inner.Tests.{both}
use Rattle.fields.specs.Grammar.{place_of, all_between}

-- What is left from place i on is the byte there and what is left from the next place on.
pub drop_step : (s : List ℕ) (i : ℕ) → i < length s → drop i s ≡ get_or s i 0 ∷ drop (i + 1) s
drop_step s i inside = rw (add-one, drop-cons s i 0)

-- ---- the first of a given byte

-- The first place at which a test of one byte passes.
pub place_is : (b : ℕ) (s : List ℕ) → position_or_len (λ x. eqb x b) s ≡ place_of b s
unfolding place_of
place_is b [] = refl
place_is b (x ∷ s) = either_way (eqb x b) (λ here. rw here) (λ other. rw other (omega (arith, place_is b s)))

pub place_within_lem : (b : ℕ) (s : List ℕ) → place_of b s ≤ length s
unfolding place_of
place_within_lem b [] = omega arith
place_within_lem b (x ∷ s) =
    cond_both (λ (n : ℕ). n ≤ suc (length s)) (eqb x b) 0 (suc (place_of b s)) (λ _. omega arith) (λ _. omega (arith, place_within_lem b s))

-- ---- bytes in a range

two_tests : (a b r : Bool) → ((a && b) && r) ≡ cond a (cond b r false) false
two_tests true true r = refl
two_tests true false r = refl
two_tests false b r = refl

-- A test of one byte that is made of all of them.
pub all_between_is : (lo hi : ℕ) (test : ℕ → Bool) → ((x : ℕ) → test x ≡ (leb lo x && leb x hi))
    → (s : List ℕ) → list_all test s ≡ all_between lo hi s
unfolding all_between
all_between_is lo hi test each [] = refl
all_between_is lo hi test each (x ∷ s) =
    rw (each x, all_between_is lo hi test each s) (two_tests (leb lo x) (leb x hi) (all_between lo hi s))

pub between_at : (lo hi : ℕ) (s : List ℕ) → all_between lo hi s ≡ true → (i : ℕ) → i < length s
    → (lo ≤ get_or s i 0) × (get_or s i 0 ≤ hi)
unfolding all_between
between_at lo hi [] all i inside = omega arith
between_at lo hi (x ∷ s) all zero inside =
    let parts = both (leb lo x) (cond (leb x hi) (all_between lo hi s) false) all in
    (leb-true lo x parts.0, leb-true x hi (both (leb x hi) (all_between lo hi s) parts.1).0)
between_at lo hi (x ∷ s) all (suc i) inside =
    let parts = both (leb lo x) (cond (leb x hi) (all_between lo hi s) false) all in
    between_at lo hi s (both (leb x hi) (all_between lo hi s) parts.1).1 i (omega arith)

-- ---- the same bytes

-- What `==` of two slices tells.
pub same_is : (s t : List ℕ) → pointwise eqb s t ≡ same_list s t
unfolding same_list
same_is [] [] = refl
same_is [] (y ∷ t) = refl
same_is (x ∷ s) [] = refl
same_is (x ∷ s) (y ∷ t) = rw (same_is s t)
