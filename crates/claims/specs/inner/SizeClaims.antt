-- Leximin's claims, ordered by the sizes before and after the seat. A claim falls, is level or rises as the new size is less than, equal
-- to or more than the present one. Falling claims come first, the larger present size first and then the smaller new one; then level
-- claims, all equal; then rising claims, the smaller new size first and then the larger present one.
-- Assumes nothing.
use Rattle.std.specs.Prelude.{Bool, true, false, cond, List, ℕ, suc, ◌+◌, ◌*◌, ◌/◌, ◌<◌, eqb, length, get_or}
use Rattle.apportionment.specs.Lists.{sum}
use Rattle.apportionment.specs.inner.Problem.{Problem}
use Rattle.apportionment.specs.Quantities.{Fraction, less, size_of}
use Rattle.claims.specs.inner.Order.{ClaimTest}

-- A claim from size `old` to size `new` comes before one from `old'` to `new'`.
unfoldable pub sized_claim_before : (old new old' new' : Fraction) → Bool
sized_claim_before old new old' new' =
    cond (less new old)
    (cond (less new' old') (cond (less old' old) true (cond (less old old') false (less new new'))) true)
    (cond (less new' old') false
    (cond (less old new)
    (cond (less old' new') (cond (less new new') true (cond (less new' new) false (less old' old))) false)
    (less old' new')))

-- The claim of a state of population p with a seats comes before that of population q with b.
unfoldable pub size_before : (P H p a q b : ℕ) → Bool
size_before P H p a q b =
    sized_claim_before (size_of p a P H) (size_of p (suc a) P H) (size_of q b P H) (size_of q (suc b) P H)

-- Leximin's order of claims for populations ps and house H.
unfoldable pub size_test : (ps : List ℕ) (H : ℕ) → ClaimTest
size_test ps H i a j b = size_before (sum ps) H (get_or ps i 0) a (get_or ps j 0) b

-- Every state has at least one seat.
abbrev pub one_each : ℕ → ℕ
one_each i = 1

-- What the theory asks of populations and a house: some state, some seat, and people in every state, however many of each.
pub record Positive (ps : List ℕ) (H : ℕ) : Type 0 where
  pub some_state : 0 < length ps
  pub some_seat : 0 < H
  pub peopled : (i : ℕ) → i < length ps → 0 < get_or ps i 0

-- A problem within its limits has them.
pub problem_positive : {ps : List ℕ} {P H : ℕ} → Problem ps P H → Positive ps H
problem_positive r = record { some_state = r.states.some_state; some_seat = r.some_seat; peopled = r.states.peopled }

-- A state's nearest seats as they are worked out: the whole part of p H / P or one more, at least 1, the fewer where equally near.
unfoldable pub nearest_rounded : (p P H : ℕ) → ℕ
nearest_rounded p P H =
    let whole = p * H / P in
    cond (eqb whole 0) 1 (cond (less (size_of p (whole + 1) P H) (size_of p whole P H)) (whole + 1) whole)
