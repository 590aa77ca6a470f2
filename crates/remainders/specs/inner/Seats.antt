-- Whole parts with the seats that are left are the allotment of the definition, and the numbers that the code holds on the way have
-- room. The functions that fill and serve cite it.
-- Assumes nothing.
use Rattle.std.specs.Prelude.{◌≡◌, refl, true, false, cond, List, ℕ, ◌+◌, ◌-◌, ◌^◌, ◌≤◌, ◌<◌, min, max, ltb, eqb, length, get_or}
use Rattle.std.proofs.Common.{sym, ap, ◌∙◌, arith, ltb-true, ltb-false, lt-ltb, le-ltb, eqb-true}
use Rattle.std.proofs.lemmas.Bool.{eqb-false}
use Rattle.apportionment.specs.Lists.{sum, list_of}
use Rattle.apportionment.specs.Remainders.{whole_part, seats_left, remainder_seats_at, remainder_seats}
use Rattle.apportionment.specs.inner.Lists.{length-list_of, get_d_list_of, is_list_of, list_of_agrees, sum-list_of_more}
use Rattle.apportionment.specs.inner.Filling.{FilledTo}
use Rattle.apportionment.specs.inner.Tests.{either_way}
use Rattle.apportionment.specs.inner.Problem.{States, Problem}
use Rattle.apportionment.specs.inner.WholeParts.{whole_parts, whole_parts_within, left_within_states}
use Rattle.remainders.specs.inner.Precedence.{precedence_at, precedences_of, extra_in, rank_is, with_extra_at, with_extra}
use Rattle.bar.specs.inner.Reaching.{all_reach_lem, none_above}
use Rattle.remainders.specs.inner.Serving.{extra_by, spare_at, no_more_to_spare, served_by_rank}
use Rattle.bar.specs.inner.Search.{Searchable, BarFound}
use Rattle.remainders.specs.declared.Parts.{Parts}
use Rattle.bar.specs.declared.Range.{Range}

-- ---- the whole parts and the precedences

-- No number of the first k is outside of `least` to `greatest`.
pub record Spans (f : ℕ → ℕ) (k least greatest : ℕ) : Type 0 where
  pub low : (i : ℕ) → i < k → least ≤ f i
  pub high : (i : ℕ) → i < k → f i ≤ greatest

pub spans_none : (f : ℕ → ℕ) (least greatest : ℕ) → Spans f 0 least greatest
spans_none f least greatest = record {
  low = λ (i : ℕ) (h : i < 0). absurd (omega arith);
  high = λ (i : ℕ) (h : i < 0). absurd (omega arith);
}

-- One number more, and ends drawn out to leave it within.
pub spans_on : (f : ℕ → ℕ) (k least greatest low high own : ℕ) → Spans f k least greatest → own ≡ f k
    → low ≡ min least own → high ≡ max greatest own → Spans f (k + 1) low high
spans_on f k least greatest low high own so_far e l h = record {
  low = λ (i : ℕ) (m : i < k + 1).
      either_way (eqb i k)
      (λ d. rw (eqb-true i k d) (omega arith))
      (λ d. omega (arith, so_far.low i (omega (arith, eqb-false i k d))));
  high = λ (i : ℕ) (m : i < k + 1).
      either_way (eqb i k)
      (λ d. rw (eqb-true i k d) (omega arith))
      (λ d. omega (arith, so_far.high i (omega (arith, eqb-false i k d))));
}

-- The lists after filling, and what it hands back.
pub record Filled (ps : List ℕ) (H : ℕ) (precedences seats : List ℕ) (r : Parts) : Type 0 where
  pub precedences_are : precedences ≡ precedences_of ps H
  pub seats_are : seats ≡ whole_parts ps H
  pub given_is : r.given ≡ sum (whole_parts ps H)
  pub spans : Spans (precedence_at ps H) (length ps) r.least r.greatest

-- Precedences and seats of as many states, with room for one more seat each.
pub record HasRoom (xs seats : List ℕ) : Type 0 where
  pub same_length : length seats ≡ length xs
  pub seats_fit : (i : ℕ) → i < length xs → get_or seats i 0 + 1 < 2 ^ 64

parts_have_room : {ps : List ℕ} {P H : ℕ} → Problem ps P H → HasRoom (precedences_of ps H) (whole_parts ps H)
parts_have_room {ps} {P} {H} ok = record {
  same_length = length-list_of (whole_part ps H) (length ps) ∙ sym long;
  seats_fit = λ (i : ℕ) (h : i < length (precedences_of ps H)).
      rw (get_d_list_of (whole_part ps H) (length ps) i (omega (arith, long)))
      (omega (arith, sum-list_of_more (whole_part ps H) i, whole_parts_within ok (i + 1), ok.house_within));
}
  where
    long : length (precedences_of ps H) ≡ length ps
    long = length-list_of (precedence_at ps H) (length ps)

pub has_room : {ps : List ℕ} {P H : ℕ} {xs seats : List ℕ} {r : Parts} → Problem ps P H → Filled ps H xs seats r → HasRoom xs seats
has_room ok filled = rw (filled.precedences_are, filled.seats_are) (parts_have_room ok)

pub is_searchable : {ps : List ℕ} {P H : ℕ} {xs seats : List ℕ} {r : Parts} → Problem ps P H → Filled ps H xs seats r
    → Searchable xs (H - r.given) r.least r.greatest
unfolding seats_left
is_searchable {ps} {P} {H} {xs} {seats} {r} ok filled = record {
  some = omega (arith, long, ok.states.some_state);
  few = omega (arith, long, filled.given_is, left_within_states ok);
  ordered = omega (arith, filled.spans.low 0 ok.states.some_state, filled.spans.high 0 ok.states.some_state);
  none_above = none_above xs r.greatest above (length xs) (omega arith);
  all_reach = all_reach_lem xs r.least below (length xs) (omega arith);
}
  where
    long : length xs ≡ length ps
    long = ap length filled.precedences_are ∙ length-list_of (precedence_at ps H) (length ps)

    own : (i : ℕ) → i < length xs → get_or xs i 0 ≡ precedence_at ps H i
    own i h = ap (λ (l : List ℕ). get_or l i 0) filled.precedences_are
        ∙ get_d_list_of (precedence_at ps H) (length ps) i (omega (arith, long))

    below : (i : ℕ) → i < length xs → r.least ≤ get_or xs i 0
    below i h = rw (own i h) (filled.spans.low i (omega (arith, long)))

    above : (i : ℕ) → i < length xs → get_or xs i 0 ≤ r.greatest
    above i h = rw (own i h) (filled.spans.high i (omega (arith, long)))

-- ---- serving, and the definition

-- The seats once all states are served by a bar.
abbrev pub served_at : (xs : List ℕ) (bar spare : ℕ) (seats : List ℕ) (i : ℕ) → ℕ
served_at xs bar spare seats i = get_or seats i 0 + extra_by (get_or xs i 0) bar (spare_at xs bar spare i)

abbrev pub served : (xs : List ℕ) (bar spare : ℕ) (seats : List ℕ) → List ℕ
served xs bar spare seats = list_of (served_at xs bar spare seats) (length seats)

-- The states before a place are served, those from it on have what they had, and if there are any no seat is to spare for them.
pub record ServedTo (xs : List ℕ) (bar spare : ℕ) (before : List ℕ) (place : ℕ) (after : List ℕ) : Type 0 where
  pub done : FilledTo (served_at xs bar spare before) (length before) place after
  pub kept : (k : ℕ) → place ≤ k → get_or after k 0 ≡ get_or before k 0
  pub none : place < length xs → spare_at xs bar spare place ≡ 0

-- Room for one more seat each from a place on.
pub record RoomFrom (xs : List ℕ) (from : ℕ) (seats : List ℕ) : Type 0 where
  pub reached : from ≤ length xs
  pub same_length : length seats ≡ length xs
  pub seats_fit : (i : ℕ) → from ≤ i → i < length xs → get_or seats i 0 + 1 < 2 ^ 64

-- The seats once the states from a place on are served with no seat to spare.
abbrev pub served_from_at : (xs : List ℕ) (bar from : ℕ) (seats : List ℕ) (i : ℕ) → ℕ
served_from_at xs bar from seats i = get_or seats i 0 + cond (ltb i from) 0 (extra_by (get_or xs i 0) bar 0)

abbrev pub served_from : (xs : List ℕ) (bar from : ℕ) (seats : List ℕ) → List ℕ
served_from xs bar from seats = list_of (served_from_at xs bar from seats) (length seats)

pub served_from_here : (xs : List ℕ) (bar from : ℕ) (seats : List ℕ) (i : ℕ) → from ≤ i
    → served_from_at xs bar from seats i ≡ get_or seats i 0 + extra_by (get_or xs i 0) bar 0
served_from_here xs bar from seats i h = rw (le-ltb i from h)

pub serving_from_starts : (xs : List ℕ) (bar from : ℕ) (seats : List ℕ) → from ≤ length seats
    → FilledTo (served_from_at xs bar from seats) (length seats) from seats
serving_from_starts xs bar from seats h = record {
  reached = h;
  long = refl;
  right = λ (k : ℕ) (l : k < from). rw (lt-ltb k from l) (omega arith);
}

-- Serving goes on in two parts: up to the place where nothing is to spare, and from it on.
pub room_from : (xs : List ℕ) (bar spare : ℕ) (before : List ℕ) (place : ℕ) (after : List ℕ) → HasRoom xs before
    → ServedTo xs bar spare before place after → RoomFrom xs place after
room_from xs bar spare before place after room s = record {
  reached = omega (arith, s.done.reached, room.same_length);
  same_length = s.done.long ∙ room.same_length;
  seats_fit = λ (i : ℕ) (l : place ≤ i) (h : i < length xs). rw (s.kept i l) (room.seats_fit i h);
}

pub served_in_parts : (xs : List ℕ) (bar spare : ℕ) (before : List ℕ) (place : ℕ) (after : List ℕ) → HasRoom xs before
    → ServedTo xs bar spare before place after → served_from xs bar place after ≡ served xs bar spare before
served_in_parts xs bar spare before place after room s =
    is_list_of
    (served_from xs bar place after)
    (served_at xs bar spare before)
    (length before)
    (length-list_of (served_from_at xs bar place after) (length after) ∙ s.done.long)
    (λ (i : ℕ) (h : i < length before).
    get_d_list_of (served_from_at xs bar place after) (length after) i (omega (arith, s.done.long))
    ∙ either_way (ltb i place) (early i) (late i h))
  where
    early : (i : ℕ) → ltb i place ≡ true → served_from_at xs bar place after i ≡ served_at xs bar spare before i
    early i e = rw e (omega (arith, s.done.right i (ltb-true i place e)))

    late : (i : ℕ) → i < length before → ltb i place ≡ false → served_from_at xs bar place after i ≡ served_at xs bar spare before i
    late i h e =
        let later : place ≤ i = ltb-false i place e in
        let none : spare_at xs bar spare i ≡ 0
        = no_more_to_spare xs bar spare place i later (s.none (omega (arith, room.same_length))) in
        rw (e, none) (omega (arith, s.kept i later))

-- Served by the bar that was found, all have what their rank gives them.
pub served_by_found_bar : (seats : List ℕ) {xs after : List ℕ} {left : ℕ} {r : Range} → BarFound xs left r → length seats ≡ length xs
    → after ≡ served xs r.low (left - r.above) seats → after ≡ with_extra xs left seats
served_by_found_bar seats {xs} {after} {left} {r} found same e =
    e ∙ list_of_agrees
    (served_at xs r.low (left - r.above) seats)
    (with_extra_at xs left seats)
    (length seats)
    (λ (i : ℕ) (h : i < length seats).
    ap (λ (x : ℕ). get_or seats i 0 + x) (rw found.counted (served_by_rank xs left r.low found.bar i (omega arith))))

-- At each place, a whole part with the seat beyond it is the definition's number.
seat_is_allotted : {ps : List ℕ} {P : ℕ} → States ps P → (H i : ℕ) → i < length ps
    → with_extra_at (precedences_of ps H) (seats_left ps H) (whole_parts ps H) i ≡ remainder_seats_at ps H i
unfolding remainder_seats_at extra_in
seat_is_allotted {ps} k H i h = rw (get_d_list_of (whole_part ps H) (length ps) i h, rank_is k H i h)

pub parts_are_allotted : {ps : List ℕ} {P : ℕ} → States ps P → (H : ℕ)
    → with_extra (precedences_of ps H) (seats_left ps H) (whole_parts ps H) ≡ remainder_seats ps H
unfolding remainder_seats
parts_are_allotted {ps} k H =
    is_list_of
    (with_extra (precedences_of ps H) (seats_left ps H) (whole_parts ps H))
    (remainder_seats_at ps H)
    (length ps)
    (length-list_of each (length (whole_parts ps H)) ∙ long)
    (λ (i : ℕ) (h : i < length ps). get_d_list_of each (length (whole_parts ps H)) i (omega (arith, long)) ∙ seat_is_allotted k H i h)
  where
    each : ℕ → ℕ
    each = with_extra_at (precedences_of ps H) (seats_left ps H) (whole_parts ps H)

    long : length (whole_parts ps H) ≡ length ps
    long = length-list_of (whole_part ps H) (length ps)

pub seats_are_allotted : {ps : List ℕ} {P H : ℕ} {xs seats : List ℕ} {r : Parts} → Problem ps P H → Filled ps H xs seats r
    → with_extra xs (H - r.given) seats ≡ remainder_seats ps H
unfolding seats_left
seats_are_allotted {ps} {P} {H} ok filled =
    rw (filled.precedences_are, filled.seats_are, filled.given_is) (parts_are_allotted ok.states H)
