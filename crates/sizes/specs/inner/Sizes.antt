-- Sizes as the code holds them, without the factor P that all sizes of a problem share, and that their order is that of the exact sizes.
-- Assumes nothing.
use Rattle.std.specs.Prelude.{◌≡◌, List, Bool, true, false, cond, ℕ, ◌+◌, ◌*◌, ◌/◌, ◌<◌, ◌≤◌, ltb, get_or}
use Rattle.std.proofs.Common.{arith, add-one, le_trans, mul-le-mul, mul_assoc, mul-lt-mul_of_pos_right, mul-le-mul_right, Fits, lt-ltb}
use Rattle.std.proofs.Common.{le-ltb, ltb-true, ltb-false}
use Rattle.std.proofs.Math.Nat.{div-le_of_le-mul}
use Rattle.std.specs.Int.{w64}
use Rattle.apportionment.specs.Limits.{house_limit, sum_limit}
use Rattle.apportionment.specs.inner.Problem.{Problem, sum_above_zero, entry_at_most_total}
use Rattle.apportionment.specs.inner.Tests.{either_way}
use Rattle.apportionment.specs.inner.MachineWords.{product_fits}
use Rattle.apportionment.specs.Quantities.{distance, size_of, less}
use Rattle.claims.specs.inner.SizeClaims.{sized_claim_before, size_before}
use Rattle.sizes.specs.declared.Size.{Size}
use Rattle.sizes.specs.declared.Claim.{Claim}

-- ---- what is within bounds

-- One state of a problem, by its population.
pub record State (p P H : ℕ) : Type 0 where
  pub people : p ≤ P
  pub peopled : 0 < P
  pub sum_within : P ≤ sum_limit
  pub some_seat : 0 < H
  pub house_within : H ≤ house_limit

pub state_at : {ps : List ℕ} {P H : ℕ} → Problem ps P H → (i : ℕ) → State (get_or ps i 0) P H
state_at r i =
    record {
      people = entry_at_most_total r.states i;
      peopled = sum_above_zero r.states;
      sum_within = r.states.sum_within;
      some_seat = r.some_seat;
      house_within = r.house_within;
    }

-- The state with so many seats, at most one more than the largest house has: its size fits.
pub record WithSeats (p a P H : ℕ) : Type 0 where
  pub state : State p P H
  pub seats_within : a ≤ house_limit + 1

-- The most that stands above and below in a size: at the largest sum and house, with one seat more than the house has.
abbrev pub over_limit : ℕ
over_limit = sum_limit * (house_limit + 1)

abbrev pub under_limit : ℕ
under_limit = house_limit + 1

-- A size that can be multiplied with another's seats.
pub record Small (s : Size) : Type 0 where
  pub over : s.over ≤ over_limit
  pub under : s.under ≤ under_limit

pub record SmallClaim (c : Claim) : Type 0 where
  pub old : Small c.old
  pub new : Small c.new

-- ---- sizes and claims

unfoldable pub size_for : (p a P H : ℕ) → Size
size_for p a P H = record { over = distance (p * H) (a * P); under = a }

unfoldable pub less_size : Size → Size → Bool
less_size s t = ltb (s.over * t.under) (t.over * s.under)

unfoldable pub claim_for : (p a P H : ℕ) → Claim
claim_for p a P H = record { old = size_for p a P H; new = size_for p (a + 1) P H }

-- s is less than t or, where they are equal, u is less than v.
unfoldable pub first_then : Size → Size → Size → Size → Bool
first_then s t u v = cond (less_size s t) true (cond (less_size t s) false (less_size u v))

-- The order of claims, as the theory has it for exact sizes.
unfoldable pub less_claim : Claim → Claim → Bool
less_claim own other =
    cond (less_size own.new own.old)
    (cond (less_size other.new other.old) (first_then other.old own.old own.new other.new) true)
    (cond (less_size other.new other.old) false
    (cond (less_size own.old own.new)
    (cond (less_size other.old other.new) (first_then own.new other.new other.old own.old) false)
    (less_size other.old other.new)))

distance_at_most : (x y b : ℕ) → x ≤ b → y ≤ b → distance x y ≤ b
unfolding distance
distance_at_most x y b hx hy = omega arith

pub size_small : {p a P H : ℕ} → WithSeats p a P H → Small (size_for p a P H)
unfolding size_for
size_small {p} {a} {P} {H} m =
    record {
      over =
          distance_at_most (p * H) (a * P) over_limit
          (mul-le-mul {m₂ = house_limit + 1} (le_trans m.state.people m.state.sum_within) (omega (arith, m.state.house_within)))
          (omega (arith, mul-le-mul m.seats_within m.state.sum_within));
      under = omega (arith, m.seats_within);
    }

-- What working out a size, and a claim, hands back.
pub record SizeIs (p a P H : ℕ) (s : Size) : Type 0 where
  pub is : s ≡ size_for p a P H
  pub small : Small s

pub record ClaimIs (p a P H : ℕ) (c : Claim) : Type 0 where
  pub is : c ≡ claim_for p a P H
  pub small : SmallClaim c

pub size_is : {p a P H d : ℕ} → WithSeats p a P H → d ≡ distance (p * H) (a * P) → SizeIs p a P H (record { over = d; under = a })
unfolding size_for
size_is {p} {a} {P} {H} {d} m e = record { is = rw e; small = rw e (size_small m) }

pub claim_is : {p a P H : ℕ} {s t : Size} → SizeIs p a P H s → SizeIs p (a + 1) P H t → ClaimIs p a P H (record { old = s; new = t })
unfolding claim_for
claim_is i j = record { is = rw (i.is, j.is); small = record { old = i.small; new = j.small } }

-- ---- the order is that of the exact sizes

-- A common factor leaves an order as it is.
scaled_test : (x y P : ℕ) → 0 < P → ltb (x * P) (y * P) ≡ ltb x y
scaled_test x y P pos =
    either_way (ltb x y)
    (λ e. rw e (lt-ltb _ _ (mul-lt-mul_of_pos_right (ltb-true x y e) pos)))
    (λ e. rw e (le-ltb _ _ (mul-le-mul_right P (ltb-false x y e))))

pub size_order_kept : (p a q b P H : ℕ) → 0 < P → less_size (size_for p a P H) (size_for q b P H) ≡ less (size_of p a P H) (size_of q b P H)
unfolding less_size size_for less size_of
size_order_kept p a q b P H pos =
    rw (← mul_assoc (distance (p * H) (a * P)) b P, ← mul_assoc (distance (q * H) (b * P)) a P)
    (rw (scaled_test (distance (p * H) (a * P) * b) (distance (q * H) (b * P) * a) P pos))

pub sizes_compared : {p a q b P H : ℕ} {s t : Size} → 0 < P → SizeIs p a P H s → SizeIs q b P H t
    → less_size s t ≡ less (size_of p a P H) (size_of q b P H)
sizes_compared {p} {a} {q} {b} {P} {H} pos is it = rw (is.is, it.is) (size_order_kept p a q b P H pos)

pub claim_order_kept : (p a q b P H : ℕ) → 0 < P → less_claim (claim_for p a P H) (claim_for q b P H) ≡ size_before P H p a q b
unfolding less_claim claim_for first_then size_before sized_claim_before
claim_order_kept p a q b P H pos = simp (size_order_kept, add-one, pos)

-- ---- a state's share of the house

-- What is divided by the sum.
pub share_fits : {p P H : ℕ} → State p P H → Fits w64 (p * H)
share_fits s = product_fits sum_limit house_limit (le_trans s.people s.sum_within) s.house_within tt

-- Its whole part.
pub whole_at_most_house : {p P H : ℕ} → State p P H → p * H / P ≤ H
whole_at_most_house {p} {P} {H} s = div-le_of_le-mul P (mul-le-mul_right H s.people)
