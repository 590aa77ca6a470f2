-- `is_name` tests the length and the two ends; the bytes were tested before.
use Rattle.std.proofs.Common.{◌≡◌, ℕ, ◌-◌, ◌<◌, Bool, true, false, not, cond, ◌&&◌, List, Option, Some, None}
use Rattle.std.proofs.Common.{length, get_or, eqb, Bor, refl, arith, ◌∙◌}
use Rattle.std.proofs.lemmas.Option.{slice_get-get_or, same_Some}
use Rattle.std.specs.List.{slice_get}
use Rattle.std.specs.Option.{option_eq, option_copied}
use Rattle.apportionment.specs.Refusals.{within}
use Rattle.apportionment.specs.inner.Checks.{within_limits}
use Rattle.apportionment.specs.inner.Tests.{either_way}
use Rattle.fields.specs.Grammar.{blank, last_byte, word_limit, all_between, is_name}
use Rattle.fields.specs.inner.Tests.{within_by_range}
use Rattle.fields.proofs.words.is_name.Goals as goal
use Rattle.fields.proofs.words.is_name.Goals.{After-contains}

-- Whether a byte that is there is a blank.
blank_at : (o : Option (Bor ℕ)) (s : List ℕ) (i : ℕ) (y : Bor ℕ) → y.now ≡ blank → option_copied o ≡ slice_get s i → i < length s
    → option_eq (λ (a : Bor ℕ) b. eqb a.now b.now) o (Some y) ≡ eqb (get_or s i 0) blank
blank_at None s i y is at inside = let there = slice_get-get_or s i 0 inside in cc
blank_at (Some x) s i y is at inside = rw (same_Some x.now (get_or s i 0) (at ∙ slice_get-get_or s i 0 inside), is)

-- All tests at once come to what they come to one after the other; the ends are known only of a field that is not empty.
at_once : (size first last plain : Bool) (f : List ℕ) → size ≡ within word_limit (length f)
    → (0 < length f → first ≡ eqb (get_or f 0 0) blank)
    → (0 < length f → last ≡ eqb (last_byte f) blank) → plain ≡ all_between 32 126 f
    → (((size && not first) && not last) && plain) ≡ is_name f
unfolding is_name
at_once size first last plain f fits start end bytes =
    either_way (within word_limit (length f))
    (λ short.
    let some : 0 < length f = omega (arith, within_limits word_limit (length f) short) in
    rw (fits, short, start some, end some, bytes) (three_tests (eqb (get_or f 0 0) blank) (eqb (last_byte f) blank) (all_between 32 126 f)))
    (λ long. rw (fits, long))
  where
    three_tests : (a b r : Bool) → ((not a && not b) && r) ≡ cond a false (cond b false r)
    three_tests true b r = refl
    three_tests false true r = refl
    three_tests false false r = refl

inside : (c : After-contains) → c.contains.result ≡ within word_limit (length c.args.f.now)
inside c =
    let n = length c.args.f.now in
    within_by_range _ n c.new.result _ c.new.ensures.start c.new.ensures.end c.new.ensures.exhausted c.contains.ensures.value

pub returns : goal.returns
unfolding last_byte
returns c =
    let f = c.args.f.now in
    rw (c.ne.ensures, c.ne-2.ensures)
    (at_once _ _ _ _ f (inside (goal.at.returns c).After-contains)
    (λ some. blank_at c.first.result f 0 _ refl c.first.ensures.value some)
    (λ some. blank_at c.last.result f (length f - 1) _ refl c.last.ensures.value (omega arith)) c.requires)
