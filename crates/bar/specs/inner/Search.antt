-- The search for the bar: a range of precedences that holds it is parted until one number is left. An end of the range is drawn in where no
-- state is between, which changes no count; so equal precedences do not keep the ends apart. `parted` and `bar_of` cite it.
-- Assumes nothing.
use Rattle.std.specs.Prelude.{◌≡◌, List, ℕ, ◌+◌, ◌-◌, ◌*◌, ◌/◌, ◌≤◌, ◌<◌, min, max, leb, length, get_or}
use Rattle.std.proofs.Common.{sym, ◌∙◌, arith, mul-le-mul, div-mul-le_self, le_trans, leb-true, leb-false}
use Rattle.std.specs.Ordering.{ord_min, ord_max, nat_cmp}
use Rattle.std.proofs.lemmas.Bool.Decides.{nat_tests}
use Rattle.apportionment.specs.inner.Tests.{either_way}
use Rattle.bar.specs.inner.Reaching.{count_reached, count_passed_by, reaching, falls, Bar, just_as_many}
use Rattle.bar.specs.declared.Range.{Range}

-- ---- the lesser and the greater of two

-- What the library's `min` and `max` answer.
pub min_is : (a b : ℕ) → ord_min nat_cmp a b ≡ min a b
min_is a b = grind (arith, nat_tests)

pub max_is : (a b : ℕ) → ord_max nat_cmp a b ≡ max a b
max_is a b = grind (arith, nat_tests)

-- ---- an end drawn in

-- A precedence where it is not below `low`, and another number where it is; and so for one that is not above `high`.
abbrev pub NotBelow : (own low none r : ℕ) → Type 0
NotBelow own low none r = (low ≤ own → r ≡ own) × (own < low → r ≡ none)

abbrev pub NotAbove : (own high none r : ℕ) → Type 0
NotAbove own high none r = (own ≤ high → r ≡ own) × (high < own → r ≡ none)

-- From `low` up to `end` there is none of the first k states.
pub record DrawnUp (xs : List ℕ) (low high k end : ℕ) : Type 0 where
  pub not_below : low ≤ end
  pub within : end ≤ high
  pub same : reaching xs low k ≡ reaching xs end k

-- Above `end` and up to `high` there is none of the first k states.
pub record DrawnDown (xs : List ℕ) (low high k end : ℕ) : Type 0 where
  pub within : low ≤ end
  pub not_above : end ≤ high
  pub same : reaching xs (end + 1) k ≡ reaching xs (high + 1) k

-- Where none of the first k states is between two precedences, none of one more is between two nearer ones if that one is not.
still_none_between : (xs : List ℕ) (low near far high k : ℕ) → low ≤ near → near ≤ far → far ≤ high
    → reaching xs low k ≡ reaching xs high k → (near ≤ get_or xs k 0 → far ≤ get_or xs k 0)
    → reaching xs near (k + 1) ≡ reaching xs far (k + 1)
still_none_between xs low near far high k above ordered below none next =
    let so_far : reaching xs near k ≡ reaching xs far k
    = omega (arith, falls xs low near k above, falls xs near far k ordered, falls xs far high k below) in
    either_way (leb near (get_or xs k 0))
    (λ e.
    let here = leb-true near (get_or xs k 0) e in
    omega (arith, count_reached xs near k here, count_reached xs far k (next here)))
    (λ e.
    let short = leb-false near (get_or xs k 0) e in
    omega (arith, count_passed_by xs near k short, count_passed_by xs far k (omega arith)))

-- One state more: the end is drawn in to it, if it is between.
pub drawn_up_on : (xs : List ℕ) (low high k best own next : ℕ) → DrawnUp xs low high k best
    → NotBelow (get_or xs k 0) low high own → next ≡ min best own → DrawnUp xs low high (k + 1) next
drawn_up_on xs low high k best own next so_far place e =
    let x = get_or xs k 0 in
    let from : low ≤ next = either_way (leb low x)
    (λ t. omega (arith, so_far.not_below, leb-true low x t, place.0 (leb-true low x t)))
    (λ t. omega (arith, so_far.not_below, so_far.within, place.1 (leb-false low x t))) in
    let none : low ≤ x → next ≤ x = λ h. omega (arith, place.0 h) in
    record {
      not_below = from;
      within = omega (arith, so_far.within);
      same = still_none_between xs low low next best k (omega arith) from (omega arith) so_far.same none;
    }

pub drawn_down_on : (xs : List ℕ) (low high k best own next : ℕ) → DrawnDown xs low high k best
    → NotAbove (get_or xs k 0) high low own → next ≡ max best own → DrawnDown xs low high (k + 1) next
drawn_down_on xs low high k best own next so_far place e =
    let x = get_or xs k 0 in
    let to : next ≤ high = either_way (leb x high)
    (λ t. omega (arith, so_far.not_above, leb-true x high t, place.0 (leb-true x high t)))
    (λ t. omega (arith, so_far.not_above, so_far.within, place.1 (leb-false x high t))) in
    let none : next + 1 ≤ x → high + 1 ≤ x = λ h. either_way (leb x high)
    (λ t. omega (arith, place.0 (leb-true x high t)))
    (λ t. omega (arith, leb-false x high t)) in
    record {
      within = omega (arith, so_far.within);
      not_above = to;
      same = still_none_between xs (best + 1) (next + 1) (high + 1) _ k (omega arith) (omega arith) (omega arith) so_far.same none;
    }

-- ---- ranges that hold the bar

-- The bar lies in the range: above it there are no more states than seats left, from its lower end on at least as many.
pub record HoldsBar (xs : List ℕ) (left : ℕ) (r : Range) : Type 0 where
  pub ordered : r.low ≤ r.high
  pub counted : r.above ≡ reaching xs (r.high + 1) (length xs)
  pub few : r.above ≤ left
  pub enough : left ≤ reaching xs r.low (length xs)

-- Less lies between the ends of a range than between those of another.
abbrev pub Narrower : (r old : Range) → Type 0
Narrower r old = r.high - r.low < old.high - old.low

-- What is asked of a search for a bar: some state, no more seats left than states, and no state outside of `least` to `greatest`.
pub record Searchable (xs : List ℕ) (left least greatest : ℕ) : Type 0 where
  pub some : 0 < length xs
  pub few : left ≤ length xs
  pub ordered : least ≤ greatest
  pub none_above : reaching xs (greatest + 1) (length xs) ≡ 0
  pub all_reach : reaching xs least (length xs) ≡ length xs

-- Then all that lies between these holds the bar.
pub whole_holds_bar : (xs : List ℕ) (left least greatest over from : ℕ) → Searchable xs left least greatest
    → HoldsBar xs left (record { low = least; high = greatest; above = 0; over = over; from = from })
whole_holds_bar xs left least greatest over from ok = record {
  ordered = ok.ordered;
  counted = sym ok.none_above;
  few = omega arith;
  enough = omega (arith, ok.few, ok.all_reach);
}

-- A range of one number is the bar, and the states above it are counted.
pub record BarFound (xs : List ℕ) (left : ℕ) (r : Range) : Type 0 where
  pub bar : Bar xs left r.low
  pub counted : r.above ≡ reaching xs (r.low + 1) (length xs)

pub one_number_is_bar : (xs : List ℕ) (left : ℕ) (r : Range) → HoldsBar xs left r → r.high ≤ r.low → BarFound xs left r
one_number_is_bar xs left r h one =
    let same : r.high ≡ r.low = omega (arith, h.ordered) in
    let above : r.above ≡ reaching xs (r.low + 1) (length xs) = rw same at h.counted in
    record { bar = record { above = omega (arith, h.few); enough = h.enough }; counted = above }

-- A number with just as many states above it as seats are left is such a range.
pub middle_holds_bar : (xs : List ℕ) (left middle above over from : ℕ)
    → above ≡ reaching xs (middle + 1) (length xs) → above ≡ left
    → HoldsBar xs left (record { low = middle; high = middle; above = above; over = over; from = from })
middle_holds_bar xs left middle above over from e just = record {
  ordered = omega arith;
  counted = e;
  few = omega arith;
  enough = (just_as_many xs left middle (sym e ∙ just)).enough;
}

-- ---- the first guess

-- Of a width shared among the states, the shares of some of them are no more than the width.
pub shares_within : (width states some : ℕ) → some ≤ states → width / states * some ≤ width
shares_within width states some h =
    let share = width / states in
    le_trans (mul-le-mul {n₁ = share} {m₁ = some} {n₂ = share} {m₂ = states} (omega arith) h) (div-mul-le_self width states)
