-- Whose turn it is: of the places that pass a test, the first in an order of claims. The quota method looks so for the state that has the
-- next seat, among those able to have it.
-- Assumes nothing.
use Rattle.std.specs.Prelude.{◌≡◌, true, false, List, length, get_or}
use Rattle.std.proofs.Common.{sym, arith}
use Rattle.std.proofs.Math.Bool.{Bool}
use Rattle.std.proofs.lemmas.Bool.{false≢true}
use Prim.Native.Nat.{ℕ, ◌-◌, ◌<◌, ◌≤◌}
use Rattle.std.proofs.Math.Nat.{mul-lt-mul_of_pos_left}
use Rattle.apportionment.specs.Lists.{among, first_place}
use Rattle.apportionment.specs.Quantities.{less}
use Rattle.apportionment.specs.Quota.{quotient}
use Rattle.apportionment.specs.inner.Tests.{either_way}
use Rattle.claims.specs.inner.Order.{ClaimTest, ClaimOrder, comes, wants_before}
use Rattle.claims.specs.inner.Fractions.{less_asymmetric, not_less_through, less_of_products}
use Rattle.claims.specs.inner.StandingOrder.{first_place_le, first_place_first, not_comes}

-- ---- the order of quotients

-- The quotient p / (a + 1) of state i with a seats is larger than that of state j with b.
unfoldable pub quotient_test : (ps : List ℕ) → ClaimTest
quotient_test ps i a j b = less (quotient (get_or ps j 0) b) (quotient (get_or ps i 0) a)

-- It is an order of claims: a state's quotients fall.
pub quotient_order : (ps : List ℕ) → ((i : ℕ) → i < length ps → 0 < get_or ps i 0) → ClaimOrder (length ps) (λ _. 0) (quotient_test ps)
unfolding quotient_test quotient
quotient_order ps peopled = record {
  asym = λ i a j b hi la hj lb e. less_asymmetric _ _ e;
  through = λ i a j b k c hi la hj lb hk lc e f. not_less_through _ (quotient (get_or ps j 0) b) _ (omega arith) f e;
  rises = λ i a hi la. less_of_products _ _ (mul-lt-mul_of_pos_left (omega arith) (peopled i hi));
}

-- ---- among those that pass a test

module _ (test : ℕ → Bool) (before : ℕ → ℕ → Bool) (i j : ℕ) where
  pub among_true : among test before i j ≡ true → (test i ≡ true) × (test j ≡ true → before i j ≡ true)
  unfolding among
  among_true e = either_way (test i) (λ ti. (ti, λ tj. rw (ti, tj) at e)) (λ ti. absurd (false≢true (rw ti at e)))

  pub among_false : among test before i j ≡ false → test i ≡ true → (test j ≡ true) × (before i j ≡ false)
  unfolding among
  among_false e ti =
      either_way (test j) (λ tj. (tj, rw (ti, tj) at e)) (λ tj. absurd (false≢true (sym (rw (ti, tj) at e))))

  pub not_among : (test i ≡ true → (test j ≡ true) × (before i j ≡ false)) → among test before i j ≡ false
  unfolding among
  not_among h = either_way (test i) (λ ti. rw (ti, (h ti).0, (h ti).1)) (λ ti. rw ti)

-- ---- whose turn it is

-- Of n places those that pass a test, the first in the order of their claims at these seats.
unfoldable pub turn_of : ClaimTest → (n : ℕ) (test : ℕ → Bool) (xs : List ℕ) → ℕ
turn_of lt n test xs = first_place (among test (wants_before lt xs)) (n - 1)

module _ {n : ℕ} {lt : ClaimTest} (order : ClaimOrder n (λ _. 0) lt) (some : 0 < n) (test : ℕ → Bool) (xs : List ℕ) where
  pub turn_lt : turn_of lt n test xs < n
  unfolding turn_of
  turn_lt = omega (arith, first_place_le (among test (wants_before lt xs)) (n - 1))

  first : (i : ℕ) → i < n
      → (among test (wants_before lt xs) i (turn_of lt n test xs) ≡ false)
      × (i < turn_of lt n test xs → among test (wants_before lt xs) (turn_of lt n test xs) i ≡ true)
  unfolding turn_of wants_before
  first i hi = first_place_first before (n - 1) asym through i (omega arith)
    where
      before : ℕ → ℕ → Bool
      before = among test (wants_before lt xs)

      asym : (i j : ℕ) → i ≤ n - 1 → j ≤ n - 1 → before i j ≡ true → before j i ≡ false
      asym i j hi hj e =
          let so = among_true test (wants_before lt xs) i j e in
          not_among test (wants_before lt xs) j i (λ tj.
          (so.0, order.asym i _ j _ (omega arith) (omega arith) (omega arith) (omega arith) (so.1 tj)))

      through : (i j k : ℕ) → i ≤ n - 1 → j ≤ n - 1 → k ≤ n - 1 → before i j ≡ false → before j k ≡ false → before i k ≡ false
      through i j k hi hj hk e f = not_among test (wants_before lt xs) i k (λ ti.
          let one = among_false test (wants_before lt xs) i j e ti in
          let two = among_false test (wants_before lt xs) j k f one.0 in (
            two.0,
            order.through i _ j _ k _ (omega arith) (omega arith) (omega arith) (omega arith) (omega arith) (omega arith)
                one.1 two.1,
          ))

  -- Where some place passes the test, the one whose turn it is does.
  pub turn_passes : (i : ℕ) → i < n → test i ≡ true → test (turn_of lt n test xs) ≡ true
  turn_passes i hi ti = (among_false test (wants_before lt xs) i (turn_of lt n test xs) (first i hi).0 ti).0

  -- No claim of a place that passes comes before its own.
  pub none_comes : (i : ℕ) → i < n → test i ≡ true
      → comes lt i (get_or xs i 0) (turn_of lt n test xs) (get_or xs (turn_of lt n test xs) 0) ≡ false
  unfolding wants_before
  none_comes i hi ti =
      let turn = turn_of lt n test xs in
      not_comes lt i _ turn _ (among_false test (wants_before lt xs) i turn (first i hi).0 ti).1
      (λ earlier. (among_true test (wants_before lt xs) turn i ((first i hi).1 earlier)).1 ti)
