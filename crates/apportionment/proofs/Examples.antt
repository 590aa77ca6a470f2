-- The starred examples of documents 01 and 02 as one list, and one fact: each holds under the definitions themselves.
-- Assumes nothing.
use mathlib.Core.Path.{◌≡◌, refl}
use mathlib.Core.Bool.{Bool, true, ◌&&◌}
use mathlib.Core.List.{List, [], ◌∷◌}
use Prim.Native.Nat.{ℕ}
use Rattle.apportionment.specs.Lists.{sum, same_list, first_place, among, count_below, list_of}
use Rattle.apportionment.specs.Text.{bytes_of, decimal, decimal_with}
use Rattle.apportionment.specs.Quantities.{less, at_most, distance, size_of, is_below, nearest_whole, shown_size, shown_of}
use Rattle.apportionment.specs.Quantities.{shown_size_text, shown_text, mark_of, mark_text}
use Rattle.apportionment.specs.Leximin.{sizes_of, insert, largest_first, list_less, more_at_first, size_list, chosen_before, with_first}
use Rattle.apportionment.specs.Leximin.{allotments, first_of, first_of_all, leximin_for}
use Rattle.apportionment.specs.Divisor.{signpost, weight_of, claim_of, claim_before, first_claim, one_more, claims_met, divisor_seats}
use Rattle.apportionment.specs.Remainders.{whole_part, remainder, served_before, seats_left, rank, remainder_seats_at, remainder_seats}
use Rattle.apportionment.specs.Quota.{able, quotient, quotient_before, seat_goes_to, quota_seats}
use Rattle.apportionment.specs.Allotment.{seats_of}
use Rattle.apportionment.specs.declared.Mark.{Mark}
use Rattle.apportionment.specs.declared.Mark.TheVariants.{In, High, Over}
use Rattle.apportionment.specs.declared.Method.{Method}
use Rattle.apportionment.specs.declared.Method.TheVariants.{Leximin, Adams, Webster, Remainders, Quota}

-- An example: a method allots these seats; or one state's departure is shown and marked so.
pub data Example : Type 0 where
  allots : Method → (ps : List ℕ) (H : ℕ) (seats : List ℕ) → Example
  shows : (p a P H : ℕ) (text : List ℕ) (mark : Mark) → Example

-- An example holds.
unfoldable pub holds : Example → Bool
holds (allots m ps H seats) = same_list (seats_of m ps H) seats
holds (shows p a P H text mark) =
    same_list (shown_text (shown_of p a P H)) text && same_list (mark_text (mark_of (size_of p a P H))) (mark_text mark)

unfoldable pub all_hold : List Example → Bool
all_hold [] = true
all_hold (e ∷ es) = holds e && all_hold es

unfoldable pub starred : List Example
starred =
    allots Leximin (26 ∷ 27 ∷ 28 ∷ 29 ∷ 91 ∷ []) 20 (3 ∷ 3 ∷ 3 ∷ 3 ∷ 8 ∷ [])
    ∷ allots Leximin (69 ∷ 70 ∷ 150 ∷ []) 14 (3 ∷ 3 ∷ 8 ∷ [])
    ∷ allots Leximin (69 ∷ 70 ∷ 150 ∷ []) 15 (4 ∷ 4 ∷ 7 ∷ [])
    ∷ allots Leximin (100 ∷ 200 ∷ []) 3 (1 ∷ 2 ∷ [])
    ∷ allots Leximin (100 ∷ 200 ∷ []) 4 (1 ∷ 3 ∷ [])
    ∷ allots Leximin (4 ∷ 13 ∷ 13 ∷ []) 10 (2 ∷ 4 ∷ 4 ∷ [])
    ∷ allots Leximin (10 ∷ 5 ∷ 5 ∷ 5 ∷ 5 ∷ 5 ∷ 5 ∷ []) 10 (3 ∷ 2 ∷ 1 ∷ 1 ∷ 1 ∷ 1 ∷ 1 ∷ [])
    ∷ allots Leximin (1 ∷ 1000 ∷ []) 2 (1 ∷ 1 ∷ [])
    ∷ allots Leximin (3 ∷ 3 ∷ []) 3 (2 ∷ 1 ∷ [])
    ∷ allots Webster (1 ∷ 99 ∷ []) 2 (0 ∷ 2 ∷ [])
    ∷ allots Adams (1 ∷ 99 ∷ []) 2 (1 ∷ 1 ∷ [])
    ∷ allots Remainders (1 ∷ 3 ∷ []) 2 (0 ∷ 2 ∷ [])
    ∷ allots Quota (1 ∷ 1 ∷ 4 ∷ []) 3 (1 ∷ 0 ∷ 2 ∷ [])
    ∷ allots Quota (5117 ∷ 4400 ∷ 162 ∷ 161 ∷ 160 ∷ []) 100 (52 ∷ 44 ∷ 2 ∷ 1 ∷ 1 ∷ [])
    ∷ shows 11 1 20 2 (bytes_of "10.000") In
    ∷ shows 1101 1 2000 2 (bytes_of "10.100") High
    ∷ shows 115004 1 200000 2 (bytes_of "15.004") Over
    ∷ []

-- Every starred example holds: antt goes through the allotments themselves.
pub starred_hold : all_hold starred ≡ true
unfolding starred all_hold holds seats_of same_list sum decimal decimal_with less at_most distance size_of is_below nearest_whole
    shown_size shown_of shown_size_text shown_text mark_of mark_text sizes_of insert largest_first list_less more_at_first size_list
    chosen_before with_first allotments first_of first_of_all leximin_for signpost weight_of claim_of claim_before first_claim first_place
    one_more claims_met divisor_seats count_below list_of whole_part remainder served_before seats_left rank remainder_seats_at
    remainder_seats among able quotient quotient_before seat_goes_to quota_seats
starred_hold = refl
