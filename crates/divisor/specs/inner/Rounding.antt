-- Rounded seats in machine words: those of one state, and the list of all as a loop fills it in from the front.
-- Assumes nothing.
use Rattle.std.specs.Prelude.{◌≡◌, Bool, cond, List, ℕ, ◌+◌, ◌*◌, ◌/◌, ◌≤◌, ◌<◌, length, get_or, set}
use Rattle.std.proofs.Common.{sym, ap, ◌∙◌, arith}
use Rattle.apportionment.specs.Limits.{sum_limit}
use Rattle.apportionment.specs.Lists.{sum, list_of}
use Rattle.apportionment.specs.Quantities.{less}
use Rattle.apportionment.specs.Divisor.{weight_of}
use Rattle.apportionment.specs.declared.DivisorMethod.{DivisorMethod}
use Rattle.apportionment.specs.inner.Lists.{map_is_list_of, sum-list_of_none, sum-list_of_more}
use Rattle.apportionment.specs.inner.Filling.{FilledTo, fill_starts, fill_goes_on, fill_ends}
use Rattle.apportionment.specs.inner.Problem.{States, sum_above_zero, entry_at_most_total}
use Rattle.claims.specs.inner.DivisorClaims.{average_claim, rounded, rounded_seats}
use Rattle.claims.specs.inner.DivisorRounding.{length_rounded}
use Rattle.claims.specs.inner.DivisorSeats.{rounded_at_most}
use Rattle.signposts.specs.declared.Claim.{Claim}
use Rattle.signposts.specs.inner.Claims.{claim_for, less_claim, aim_limit, seat_limit}

-- ---- one state

-- The share p A / P is worked out in machine words, and rounded, for a house A that may be up to twice the largest one.
pub record ShareFits (p P A : ℕ) : Type 0 where
  pub one_of_all : p ≤ P
  pub someone : 0 < P
  pub sum_within : P ≤ sum_limit
  pub aim_within : A ≤ aim_limit

pub each_share_fits : {ps : List ℕ} {P A : ℕ} → States ps P → A ≤ aim_limit → (i : ℕ) → ShareFits (get_or ps i 0) P A
each_share_fits k aim i =
    record { one_of_all = entry_at_most_total k i; someone = sum_above_zero k; sum_within = k.sum_within; aim_within = aim }

-- The test against the average, in machine words, says which seats are the rounded ones.
pub rounded_by_test : (m : DivisorMethod) (P A p : ℕ) {over under : ℕ} {claim : Claim} {found t : Bool}
    → over ≡ weight_of m A → under ≡ weight_of m P → claim ≡ claim_for m p (p * A / P)
    → found ≡ less_claim (record { over = over; under = under }) claim → found ≡ t
    → cond t (p * A / P) (p * A / P + 1) ≡ rounded m P A p
unfolding rounded less average_claim
rounded_by_test m P A p e f g test answer = rw (← answer, test, e, f, g)

-- ---- all states

-- The rounded seats of the state at each place.
abbrev pub rounded_at : DivisorMethod → (P A : ℕ) (ps : List ℕ) (i : ℕ) → ℕ
rounded_at m P A ps i = rounded m P A (get_or ps i 0)

-- What filling in the rounded seats leaves and hands back.
pub record Filled (m : DivisorMethod) (ps : List ℕ) (A : ℕ) (ss : List ℕ) (given : ℕ) : Type 0 where
  pub seats : ss ≡ rounded_seats m ps A
  pub total : given ≡ sum (rounded_seats m ps A)

pub filled_length : {m : DivisorMethod} {ps : List ℕ} {A : ℕ} {ss : List ℕ} {given : ℕ} → Filled m ps A ss given → length ss ≡ length ps
filled_length {m} {ps} {A} f = ap length f.seats ∙ length_rounded m ps A

-- The first i states have their rounded seats, which are `given` in all.
pub record Filling (m : DivisorMethod) (P A : ℕ) (ps : List ℕ) (i : ℕ) (ss : List ℕ) (given : ℕ) : Type 0 where
  pub done : FilledTo (rounded_at m P A ps) (length ps) i ss
  pub total : given ≡ sum (list_of (rounded_at m P A ps) i)
  pub small : given ≤ i * seat_limit

module _ (m : DivisorMethod) {P A : ℕ} {ps : List ℕ} (k : States ps P) (aim : A ≤ aim_limit) where
  pub filling_none : (ss : List ℕ) → length ss ≡ length ps → Filling m P A ps 0 ss 0
  filling_none ss long =
      record { done = fill_starts _ _ ss long; total = sym (sum-list_of_none (rounded_at m P A ps)); small = omega arith }

  pub own_at_most : (i own : ℕ) → own ≡ rounded_at m P A ps i → own ≤ seat_limit
  own_at_most i own e = omega (arith, e, rounded_at_most m P A (get_or ps i 0) (entry_at_most_total k i))

  pub filling_more : {i given own : ℕ} {ss : List ℕ} → Filling m P A ps i ss given → i < length ps
      → own ≡ rounded_at m P A ps i → Filling m P A ps (i + 1) (set ss i own) (given + own)
  filling_more {i} {given} {own} {ss} f h e =
      record {
        done = fill_goes_on _ _ i own ss h e f.done;
        total = omega (arith, f.total, e, sum-list_of_more (rounded_at m P A ps) i);
        small = omega (arith, f.small, own_at_most i own e);
      }

  rounded_by_place : rounded_seats m ps A ≡ list_of (rounded_at m P A ps) (length ps)
  unfolding rounded_seats
  rounded_by_place = rw k.sums (map_is_list_of (rounded m (sum ps) A) ps)

  pub filling_done : {i given : ℕ} {ss : List ℕ} → Filling m P A ps i ss given → length ps ≤ i → Filled m ps A ss given
  filling_done {i} f past =
      let all : i ≡ length ps = omega (arith, f.done.reached) in
      record { seats = fill_ends _ _ _ _ past f.done ∙ sym rounded_by_place; total = f.total ∙ rw (all, rounded_by_place) }
