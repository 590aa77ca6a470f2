-- Fingerprints of names: a number for each name, so that a name is compared with those of the lines before its own only where its
-- number is theirs. What reading gives does not speak of them: a reader who only wants the grammar need not read this file.
-- Assumes nothing.
use Rattle.std.specs.Prelude.{◌≡◌, refl, Bool, true, false, cond, ◌&&◌, ◌||◌, List, [], ◌∷◌, ℕ, zero, suc, ◌+◌, ◌*◌, ◌%◌, ◌<◌, ◌≤◌, eqb}
use Rattle.std.specs.Prelude.{leb, length, get_or, take, drop}
use Rattle.std.proofs.Common.{sym, ◌∙◌, true≢false, arith, eq-eqb, ne_eqb, drop_of_length-le}
use Rattle.std.proofs.Math.Bool.{and-true}
use Rattle.apportionment.specs.inner.Tests.{either_way}
use Rattle.fields.specs.Grammar.{place_of, before, all_between}
use Rattle.fields.specs.inner.Parts.{drop_step}
use Rattle.fields.specs.Grammar.{comma, field_of}
use Rattle.lines.specs.declared.fingerprints.Field.{Field}

-- ---- the fingerprint of a name

-- A fingerprint has 32 bits.
abbrev pub fingerprint_span : ℕ
fingerprint_span = 4294967296

-- Each byte is added to a multiple of what came before it. The factor is the prime of the FNV hash of 32 bits; no proof hangs on it.
abbrev pub fingerprint_factor : ℕ
fingerprint_factor = 16777619

-- The fingerprint of one byte after those that came to h, and of all the bytes after them.
abbrev pub print_after : (h x : ℕ) → ℕ
print_after h x = (h * fingerprint_factor + x) % fingerprint_span

unfoldable pub fingerprint_from : (h : ℕ) → List ℕ → ℕ
fingerprint_from h [] = h
fingerprint_from h (x ∷ s) = fingerprint_from (print_after h x) s

unfoldable pub fingerprint_of : List ℕ → ℕ
fingerprint_of name = fingerprint_from 0 name

-- ---- the first field of a line, looked at once

-- Every byte may stand in a name, this one too.
abbrev pub plain_after : (plain : Bool) (x : ℕ) → Bool
plain_after plain x = (plain && leb 32 x) && leb x 126

-- What is known of a line's first field from place i on, after bytes that came to h and may or may not all stand in a name.
unfoldable pub field_from : (i : ℕ) (plain : Bool) (h : ℕ) → List ℕ → Field
field_from i plain h [] = record { end = i; plain = plain; print = h }
field_from i plain h (x ∷ s) =
    cond (eqb x comma)
    (record { end = i; plain = plain; print = h })
    (field_from (i + 1) (plain_after plain x) (print_after h x) s)

unfoldable pub field_read : List ℕ → Field
field_read line = field_from 0 true 0 line

pub field_stops : (plain : Bool) (h : ℕ) (s : List ℕ) (i : ℕ) → i < length s → get_or s i 0 ≡ comma
    → field_from i plain h (drop i s) ≡ record { end = i; plain = plain; print = h }
unfolding field_from
field_stops plain h s i inside here = rw (drop_step s i inside, eq-eqb (get_or s i 0) comma here)

pub field_goes_on : (plain : Bool) (h : ℕ) (s : List ℕ) (i : ℕ) → i < length s → (get_or s i 0 ≡ comma → ⊥)
    → field_from i plain h (drop i s)
    ≡ field_from (i + 1) (plain_after plain (get_or s i 0)) (print_after h (get_or s i 0)) (drop (i + 1) s)
unfolding field_from
field_goes_on plain h s i inside other = rw (drop_step s i inside, ne_eqb (get_or s i 0) comma other)

pub field_is_all : (plain : Bool) (h : ℕ) (s : List ℕ) (i : ℕ) → length s ≤ i
    → field_from i plain h (drop i s) ≡ record { end = i; plain = plain; print = h }
unfolding field_from
field_is_all plain h s i past = rw (drop_of_length-le s past)

-- It ends at the first comma ..
end_from : (i : ℕ) (plain : Bool) (h : ℕ) (s : List ℕ) → (field_from i plain h s).end ≡ i + place_of comma s
unfolding field_from place_of
end_from i plain h [] = omega arith
end_from i plain h (x ∷ s) =
    let later = end_from (i + 1) (plain_after plain x) (print_after h x) s in
    either_way (eqb x comma) (λ here. rw here (omega arith)) (λ other. rw other (omega (arith, later)))

pub field_end : (line : List ℕ) → (field_read line).end ≡ place_of comma line
unfolding field_read
field_end line = omega (arith, end_from 0 true 0 line)

-- .. its fingerprint is that of its bytes ..
print_from : (i : ℕ) (plain : Bool) (h : ℕ) (s : List ℕ) → (field_from i plain h s).print ≡ fingerprint_from h (field_of s)
unfolding field_from fingerprint_from field_of before place_of
print_from i plain h [] = refl
print_from i plain h (x ∷ s) =
    let later = print_from (i + 1) (plain_after plain x) (print_after h x) s in
    either_way (eqb x comma) (λ here. rw here) (λ other. rw other later)

pub field_print : (line : List ℕ) → (field_read line).print ≡ fingerprint_of (field_of line)
unfolding field_read fingerprint_of
field_print line = print_from 0 true 0 line

-- .. and it is plain where each of its bytes may stand in a name.
three_tests : (p a b r : Bool) → (((p && a) && b) && r) ≡ (p && cond a (cond b r false) false)
three_tests true true true r = refl
three_tests true true false r = refl
three_tests true false b r = refl
three_tests false a b r = refl

plain_from : (i : ℕ) (plain : Bool) (h : ℕ) (s : List ℕ)
    → (field_from i plain h s).plain ≡ (plain && all_between 32 126 (field_of s))
unfolding field_from all_between field_of before place_of
plain_from i plain h [] = sym (and-true plain)
plain_from i plain h (x ∷ s) =
    let later = plain_from (i + 1) (plain_after plain x) (print_after h x) s in
    either_way (eqb x comma)
    (λ here. rw here (sym (and-true plain)))
    (λ other. rw other (later ∙ three_tests plain (leb 32 x) (leb x 126) (all_between 32 126 (take (place_of comma s) s))))

pub field_plain : (line : List ℕ) → (field_read line).plain ≡ all_between 32 126 (field_of line)
unfolding field_read
field_plain line = plain_from 0 true 0 line

-- ---- a list that holds a number

unfoldable pub holds : (x : ℕ) → List ℕ → Bool
holds x [] = false
holds x (y ∷ ys) = eqb y x || holds x ys

-- One step and the end of a search that did or did not find the number before place i.
pub holds_step : (found : Bool) (x : ℕ) (ys : List ℕ) (i : ℕ) → i < length ys
    → (found || holds x (drop i ys)) ≡ ((found || eqb (get_or ys i 0) x) || holds x (drop (i + 1) ys))
unfolding holds
holds_step true x ys i inside = refl
holds_step false x ys i inside = rw (drop_step ys i inside)

pub holds_end : (found : Bool) (x : ℕ) (ys : List ℕ) (i : ℕ) → length ys ≤ i → (found || holds x (drop i ys)) ≡ found
unfolding holds
holds_end true x ys i past = refl
holds_end false x ys i past = rw (drop_of_length-le ys past)

-- A number that a list does not hold stands at none of its places.
pub holds_not : (x : ℕ) (ys : List ℕ) → holds x ys ≡ false → (i : ℕ) → i < length ys → get_or ys i 0 ≡ x → ⊥
unfolding holds
holds_not x [] none i inside equal = omega arith
holds_not x (y ∷ ys) none zero inside equal = true≢false (rw (eq-eqb y x equal) at none)
holds_not x (y ∷ ys) none (suc i) inside equal =
    either_way (eqb y x) (λ here. true≢false (rw here at none)) (λ other. holds_not x ys (rw other at none) i (omega arith) equal)
