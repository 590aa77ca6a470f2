-- Where names stand among the bytes of a register. Reading keeps for each name its fingerprint and the places where it starts and ends,
-- so that the name of a later line is compared byte by byte only where a name of its own fingerprint stands, and no line is cut again.
-- What reading gives does not speak of them: a reader who only wants the grammar need not read this file.
-- Assumes nothing.
use Rattle.std.specs.Prelude.{◌≡◌, refl, Bool, true, false, List, [], ◌∷◌, ℕ, zero, suc, ◌+◌, ◌-◌, ◌<◌, ◌≤◌, leb, eqb, length, get_or}
use Rattle.std.specs.Prelude.{take, drop}
use Rattle.std.proofs.Common.{sym, ap, ◌∙◌, true≢false, zero-le, suc-le-suc, le_refl, le_trans, arith, leb-true, leb-false, length-drop}
use Rattle.std.proofs.Common.{drop_of_length-le, take-take, drop-drop}
use Rattle.apportionment.specs.Limits.{state_limit}
use Rattle.apportionment.specs.Lists.{same_list}
use Rattle.apportionment.specs.inner.Lists.{same_list_equal}
use Rattle.apportionment.specs.inner.Tests.{cond_both, either_way}
use Rattle.fields.specs.Grammar.{place_of, before, after}
use Rattle.fields.specs.Grammar.{line_feed, comma, rest_of, line_of, last_byte, carriage_return, without_return, field_of}
use Rattle.lines.specs.Lines.{name_at, used_in}
use Rattle.lines.specs.inner.Fingerprints.{fingerprint_of, holds, holds_not}
use Rattle.lines.specs.declared.NamePlace.{NamePlace}

-- ---- a name is the front of its line

-- A list is the first of another.
pub record FrontOf (s t : List ℕ) : Type 0 where
  pub shorter : length t ≤ length s
  pub stands : t ≡ take (length t) s

take_is_front : (k : ℕ) (s : List ℕ) → FrontOf s (take k s)
take_is_front zero s = record { shorter = zero-le; stands = refl }
take_is_front (suc k) [] = record { shorter = zero-le; stands = refl }
take_is_front (suc k) (x ∷ s) =
    let rest = take_is_front k s in
    record { shorter = suc-le-suc rest.shorter; stands = ap (λ (r : List ℕ). x ∷ r) rest.stands }

all_is_front : (s : List ℕ) → FrontOf s s
all_is_front [] = record { shorter = zero-le; stands = refl }
all_is_front (x ∷ s) = record { shorter = le_refl _; stands = ap (λ (r : List ℕ). x ∷ r) (all_is_front s).stands }

front_of_front : {s t u : List ℕ} → FrontOf s t → FrontOf t u → FrontOf s u
front_of_front {s} {t} {u} e f =
    record {
      shorter = le_trans f.shorter e.shorter;
      stands = f.stands ∙ ap (take (length u)) e.stands ∙ take-take (length u) (length t) s f.shorter;
    }

without_return_is_front : (s : List ℕ) → FrontOf s (without_return s)
unfolding without_return
without_return_is_front s =
    cond_both (FrontOf s) (eqb (last_byte s) carriage_return) (take (length s - 1) s) s
    (λ _. take_is_front (length s - 1) s) (λ _. all_is_front s)

pub name_is_front : (s : List ℕ) → FrontOf s (name_at s)
unfolding name_at field_of line_of before
name_is_front s =
    let line : FrontOf s (line_of s) =
    front_of_front (take_is_front (place_of line_feed s) s) (without_return_is_front (before line_feed s)) in
    front_of_front line (take_is_front (place_of comma (line_of s)) (line_of s))

-- ---- what is left is the end of what there was

-- A list is what is left of another after as many as it lacks.
pub record EndOf (s t : List ℕ) : Type 0 where
  pub shorter : length t ≤ length s
  pub stands : t ≡ drop (length s - length t) s

pub drop_is_end : (k : ℕ) (s : List ℕ) → EndOf s (drop k s)
drop_is_end k s = record { shorter = rw (length-drop k s) (omega arith); stands = rw (length-drop k s) end }
  where
    end : drop k s ≡ drop (length s - (length s - k)) s
    end =
        either_way (leb k (length s))
        (λ few.
        let same : k ≡ length s - (length s - k) = omega (arith, leb-true k (length s) few) in
        ap (λ (i : ℕ). drop i s) same)
        (λ many.
        let past : length s ≤ k = omega (arith, leb-false k (length s) many) in
        let all : length s ≤ length s - (length s - k) = omega arith in
        drop_of_length-le s past ∙ sym (drop_of_length-le s all))

pub end_of_end : {s t u : List ℕ} → EndOf s t → EndOf t u → EndOf s u
end_of_end {s} {t} {u} e f =
    let both : (length s - length t) + (length t - length u) ≡ length s - length u = omega (arith, e.shorter, f.shorter) in
    record {
      shorter = le_trans f.shorter e.shorter;
      stands =
          f.stands
          ∙ ap (drop (length t - length u)) e.stands
          ∙ drop-drop (length t - length u) (length s - length t) s
          ∙ ap (λ (i : ℕ). drop i s) both;
    }

pub rest_is_end : (s : List ℕ) → EndOf s (rest_of s)
unfolding rest_of after
rest_is_end s = drop_is_end (place_of line_feed s + 1) s

-- ---- the names kept

-- The name on line i from here on, counted from 0.
unfoldable pub name_on : (i : ℕ) → List ℕ → List ℕ
name_on zero s = name_at s
name_on (suc i) s = name_on i (rest_of s)

-- The bytes from place a to place e.
unfoldable pub part_of : List ℕ → (a e : ℕ) → List ℕ
part_of s a e = take (e - a) (drop a s)

-- A name stands among the bytes from place a to place e.
pub record Stands (s name : List ℕ) (a e : ℕ) : Type 0 where
  pub ordered : a ≤ e
  pub inside : e ≤ length s
  pub there : part_of s a e ≡ name

-- A place lies within the bytes.
pub record Within (s : List ℕ) (place : NamePlace) : Type 0 where
  pub ordered : place.start ≤ place.end
  pub inside : place.end ≤ length s

-- What is read past the end of a list of places.
abbrev pub no_place : NamePlace
no_place = record { start = 0; end = 0 }

-- The place of the name with a number holds the name on that line, counted from 0 from `first` on.
abbrev pub StandsAt : (first : List ℕ) (places : List NamePlace) (i : ℕ) → Type 0
StandsAt first places i =
    Stands first (name_on i first) (get_or places i no_place).start (get_or places i no_place).end

-- The first k of a list of places hold the names on the k lines from `first` on.
pub record NamesAt (k : ℕ) (first : List ℕ) (places : List NamePlace) : Type 0 where
  pub few : k ≤ state_limit
  pub room : length places ≡ state_limit
  pub each : (i : ℕ) → i < k → StandsAt first places i

-- As many names as there are fingerprints, each with its own and with its place.
pub record NamesKept (first prints : List ℕ) (places : List NamePlace) : Type 0 where
  pub paired : length places ≡ length prints
  pub each : (i : ℕ) → i < length prints → StandsAt first places i
  pub printed : (i : ℕ) → i < length prints → get_or prints i 0 ≡ fingerprint_of (name_on i first)

-- Names of different fingerprints differ.
pub other_fingerprint : (xs ys : List ℕ) → (fingerprint_of xs ≡ fingerprint_of ys → ⊥) → same_list xs ys ≡ false
other_fingerprint xs ys differ =
    either_way (same_list xs ys) (λ same. absurd (differ (rw (same_list_equal xs ys same)))) (λ other. other)

-- ---- a name used before, by the names of the lines one by one

pub used_on : (k : ℕ) (s name : List ℕ) (i : ℕ) → i < k → same_list (name_on i s) name ≡ true → used_in k s name ≡ true
unfolding used_in name_on
used_on zero s name i below same = absurd (omega arith)
used_on (suc k) s name zero below same = rw same
used_on (suc k) s name (suc i) below same =
    rw (used_on k (rest_of s) name i (omega arith) same)
    (cond_both (λ (b : Bool). b ≡ true) (same_list (name_at s) name) true true (λ _. refl) (λ _. refl))

pub unused_on : (k : ℕ) (s name : List ℕ) → used_in k s name ≡ false → (i : ℕ) → i < k → same_list (name_on i s) name ≡ false
unused_on k s name unused i below =
    either_way (same_list (name_on i s) name)
    (λ same. absurd (true≢false (sym (used_on k s name i below same) ∙ unused)))
    (λ other. other)

pub used_on_none : (k : ℕ) (s name : List ℕ) → ((i : ℕ) → i < k → same_list (name_on i s) name ≡ false)
    → used_in k s name ≡ false
unfolding used_in name_on
used_on_none zero s name none = refl
used_on_none (suc k) s name none =
    rw (none 0 (omega arith)) (used_on_none k (rest_of s) name (λ i below. none (suc i) (omega arith)))

-- A name whose fingerprint is not among those kept is on none of the lines.
pub unused_without_fingerprint : {first prints : List ℕ} {places : List NamePlace} {print : ℕ} (name : List ℕ)
    → NamesKept first prints places → print ≡ fingerprint_of name → holds print prints ≡ false
    → used_in (length prints) first name ≡ false
unused_without_fingerprint {first} {prints} {places} {print} name kept its none =
    used_on_none (length prints) first name
    (λ i below. other_fingerprint (name_on i first) name
    (λ equal. holds_not print prints none i below (kept.printed i below ∙ equal ∙ sym its)))
