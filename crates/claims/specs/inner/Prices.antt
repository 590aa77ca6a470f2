-- Seats at a price cost least. Let state i with a seats cost c i a, and let u and v name a price u - v: no seat more of any state costs
-- less than the price, and no seat fewer saves more. Then seats of another distribution of the same total cost no less, and where they
-- cost as much, register order decides between the two.
-- Assumes nothing.
use Rattle.std.specs.Prelude.{◌≡◌, refl, Bool, true, false, cond, ◌⊎◌, List, [], ◌∷◌, ℕ, zero, suc, ◌+◌, ◌-◌, ◌*◌, ◌<◌, ◌≤◌, ltb, length}
use Rattle.std.specs.Prelude.{get_or}
use Rattle.std.proofs.Math.Path.{sym}
use Rattle.std.proofs.Common.{◌∙◌, ap, inl, inr, ⊎_elim, le_refl, arith, ltb-true, ltb-false, lt-ltb, le-ltb}
use Rattle.std.proofs.lemmas.Bool.{false≢true}
use Rattle.std.proofs.Math.Nat.{le-suc_iff}
use Rattle.apportionment.specs.Lists.{sum, list_of}
use Rattle.apportionment.specs.inner.Lists.{entry_at_most_sum}
use Rattle.apportionment.specs.Leximin.{more_at_first}
use Rattle.claims.specs.inner.Order.{ClaimTest, ClaimOrder, Standing, comes, first_unmet}
use Rattle.claims.specs.inner.StandingOrder.{Claim, claims_through, before_no_earlier, never_falls}
use Rattle.claims.specs.inner.Standing.{first_unmet_lt, first_unmet_first}
use Rattle.claims.specs.inner.SizeClaims.{one_each}
use Rattle.apportionment.specs.inner.Tests.{cond_both}
use Rattle.claims.specs.inner.SizeShape.{le_or_lt}
use Rattle.claims.specs.inner.Allotments.{Allotment}
use Rattle.claims.specs.inner.StandingMoves.{le_same_sum}

-- ---- one state

-- Where each seat from x up to b costs at least u - v, so do they together.
seats_more : (f : ℕ → ℕ) (u v x b : ℕ) → x ≤ b → ((a : ℕ) → x ≤ a → a < b → u + f a ≤ f (suc a) + v)
    → f x + u * b + v * x ≤ f b + u * x + v * b
seats_more f u v x zero le h = let e : x ≡ 0 = omega arith in rw e (le_refl _)
seats_more f u v x (suc b) le h =
    ⊎_elim
    (λ (under : x ≤ b). omega (arith, seats_more f u v x b under (λ a p q. h a p (omega arith)), h b under (omega arith)))
    (λ (e : x ≡ suc b). rw e (le_refl _))
    (le-suc_iff.0 le)

-- Where each seat from b up to x costs at most u - v, so do they together.
seats_fewer : (f : ℕ → ℕ) (u v b x : ℕ) → b ≤ x → ((a : ℕ) → b ≤ a → a < x → f (suc a) + v ≤ u + f a)
    → f x + u * b + v * x ≤ f b + u * x + v * b
seats_fewer f u v b zero le h = let e : b ≡ 0 = omega arith in rw e (le_refl _)
seats_fewer f u v b (suc x) le h =
    ⊎_elim
    (λ (under : b ≤ x). omega (arith, seats_fewer f u v b x under (λ a p q. h a p (omega arith)), h x under (omega arith)))
    (λ (e : b ≡ suc x). rw e (le_refl _))
    (le-suc_iff.0 le)

-- ---- all states

-- The sum of f 0, f 1, .. f (n - 1).
abbrev pub sum_of : (ℕ → ℕ) → ℕ → ℕ
sum_of f n = sum (list_of f n)

-- What holds of each state holds of the sums over all.
sums_priced : (u v n : ℕ) (f g x y s : ℕ → ℕ) → ((i : ℕ) → i < n → f i + u * y i + v * x i + s i ≤ g i + u * x i + v * y i)
    → sum_of f n + u * sum_of y n + v * sum_of x n + sum_of s n ≤ sum_of g n + u * sum_of x n + v * sum_of y n
unfolding sum list_of
sums_priced u v zero f g x y s h = omega arith
sums_priced u v (suc n) f g x y s h =
    omega (
      arith,
      h 0 (omega arith),
      sums_priced u v n (λ i. f (suc i)) (λ i. g (suc i)) (λ i. x (suc i)) (λ i. y (suc i)) (λ i. s (suc i))
          (λ i lt. h (suc i) (omega arith)),
    )

sum_of_seats : (n : ℕ) (xs : List ℕ) → length xs ≡ n → sum_of (λ (i : ℕ). get_or xs i 0) n ≡ sum xs
unfolding sum list_of
sum_of_seats zero [] e = refl
sum_of_seats zero (x ∷ xs) e = absurd (omega arith)
sum_of_seats (suc n) [] e = absurd (omega arith)
sum_of_seats (suc n) (x ∷ xs) e = ap (x +◌) (sum_of_seats n xs (omega arith))

none_left : (n : ℕ) (s : ℕ → ℕ) → sum_of s n ≡ 0 → (i : ℕ) → i < n → s i ≡ 0
unfolding sum list_of
none_left zero s e i h = absurd (omega arith)
none_left (suc n) s e zero h = omega arith
none_left (suc n) s e (suc i) h = none_left n (λ k. s (suc k)) (omega arith) i (omega arith)

-- ---- register order

-- Of two distributions of a total, where the first has no fewer seats before state j and no more from j on, they are the same or the first
-- has more at the first state where they differ.
same_or_more : (j : ℕ) (xs ys : List ℕ) → length xs ≡ length ys
    → ((i : ℕ) → i < length xs → i < j → get_or ys i 0 ≤ get_or xs i 0)
    → ((i : ℕ) → i < length xs → j ≤ i → get_or xs i 0 ≤ get_or ys i 0)
    → sum xs ≡ sum ys → (xs ≡ ys) ⊎ (more_at_first xs ys ≡ true)
unfolding sum more_at_first
same_or_more zero xs ys e earlier later same = inl (le_same_sum xs ys e (λ i h. later i h (omega arith)) same)
same_or_more (suc j) [] [] e earlier later same = inl refl
same_or_more (suc j) [] (y ∷ ys) e earlier later same = absurd (omega arith)
same_or_more (suc j) (x ∷ xs) [] e earlier later same = absurd (omega arith)
same_or_more (suc j) (x ∷ xs) (y ∷ ys) e earlier later same =
    ⊎_elim
    (λ (le : x ≤ y).
    let first : x ≡ y = omega (arith, earlier 0 (omega arith) (omega arith)) in
    ⊎_elim
    (λ (rest : xs ≡ ys). inl (cc))
    (λ (rest : more_at_first xs ys ≡ true). inr (rw (le-ltb y x le, le-ltb x y (omega arith)) rest))
    (same_or_more j xs ys (omega arith)
    (λ i h k. earlier (suc i) (omega arith) (omega arith))
    (λ i h k. later (suc i) (omega arith) (omega arith))
    (omega arith)))
    (λ (lt : y < x). inr (rw (lt-ltb y x lt)))
    (le_or_lt x y)

-- ---- seats at a price

-- No seat more of up to `most` costs less than u - v, and no seat fewer down to one saves more; strictly so for a seat more of a state
-- before j, and for a seat fewer from j on.
pub record Priced (n most : ℕ) (c : ℕ → ℕ → ℕ) (xs : List ℕ) (j u v : ℕ) : Type 0 where
  pub unmet : (i a : ℕ) → i < n → get_or xs i 0 ≤ a → a < most → u + c i a ≤ c i (suc a) + v
  pub unmet_earlier : (i a : ℕ) → i < n → i < j → get_or xs i 0 ≤ a → a < most → u + c i a < c i (suc a) + v
  pub met : (i a : ℕ) → i < n → 1 ≤ a → a < get_or xs i 0 → c i (suc a) + v ≤ u + c i a
  pub met_later : (i a : ℕ) → i < n → j ≤ i → 1 ≤ a → a < get_or xs i 0 → c i (suc a) + v < u + c i a

-- What seats cost in all.
abbrev pub cost_of : (n : ℕ) (c : ℕ → ℕ → ℕ) → List ℕ → ℕ
cost_of n c xs = sum_of (λ (i : ℕ). c i (get_or xs i 0)) n

module _ (n most : ℕ) (c : ℕ → ℕ → ℕ) (xs : List ℕ) (j u v : ℕ) (priced : Priced n most c xs j u v) (ys : List ℕ)
    (each : (i : ℕ) → i < n → 1 ≤ get_or ys i 0) (at_most : (i : ℕ) → i < n → get_or ys i 0 ≤ most) where
  abbrev x : ℕ → ℕ
  x i = get_or xs i 0

  abbrev y : ℕ → ℕ
  y i = get_or ys i 0

  -- What a state's other seats cost above the price: at least one for each seat more before state j, and for each seat fewer from j on.
  excess : ℕ → ℕ
  excess i = cond (ltb i j) (y i - x i) (x i - y i)

  -- State i's other seats cost the price and e more.
  abbrev CostMore : (i e : ℕ) → Type 0
  CostMore i e = c i (x i) + u * y i + v * x i + e ≤ c i (y i) + u * x i + v * y i

  more_priced : (i : ℕ) → i < n → x i ≤ y i → CostMore i (excess i)
  unfolding excess
  more_priced i hi le = cond_both (CostMore i) (ltb i j) (y i - x i) (x i - y i) before_j (λ _. from_j)
    where
      room : (a : ℕ) → a < y i → a < most
      room a h = omega (arith, at_most i hi)

      before_j : ltb i j ≡ true → CostMore i (y i - x i)
      before_j e =
          let step : (a : ℕ) → x i ≤ a → a < y i → suc u + c i a ≤ c i (suc a) + v =
          λ a p q. omega (arith, priced.unmet_earlier i a hi (ltb-true i j e) p (room a q)) in
          omega (arith, seats_more (c i) (suc u) v (x i) (y i) le step)

      from_j : CostMore i (x i - y i)
      from_j = omega (arith, seats_more (c i) u v (x i) (y i) le (λ a p q. priced.unmet i a hi p (room a q)))

  fewer_priced : (i : ℕ) → i < n → y i < x i → CostMore i (excess i)
  unfolding excess
  fewer_priced i hi lt = cond_both (CostMore i) (ltb i j) (y i - x i) (x i - y i) (λ _. before_j) from_j
    where
      some : (a : ℕ) → y i ≤ a → 1 ≤ a
      some a h = omega (arith, each i hi)

      before_j : CostMore i (y i - x i)
      before_j = omega (arith, seats_fewer (c i) u v (y i) (x i) (omega arith) (λ a p q. priced.met i a hi (some a p) q))

      from_j : ltb i j ≡ false → CostMore i (x i - y i)
      from_j e =
          let step : (a : ℕ) → y i ≤ a → a < x i → c i (suc a) + suc v ≤ u + c i a =
          λ a p q. omega (arith, priced.met_later i a hi (ltb-false i j e) (some a p) q) in
          omega (arith, seats_fewer (c i) u (suc v) (y i) (x i) (omega arith) step)

  state_priced : (i : ℕ) → i < n → CostMore i (excess i)
  state_priced i hi = ⊎_elim (more_priced i hi) (fewer_priced i hi) (le_or_lt (x i) (y i))

  module _ (length_x : length xs ≡ n) (length_y : length ys ≡ n) (same : sum xs ≡ sum ys) where
    costs_bound : cost_of n c xs + sum_of excess n ≤ cost_of n c ys
    costs_bound =
        let sums = sums_priced u v n (λ (i : ℕ). c i (x i)) (λ (i : ℕ). c i (y i)) x y excess state_priced in
        let e : sum_of x n ≡ sum_of y n = sum_of_seats n xs length_x ∙ same ∙ sym (sum_of_seats n ys length_y) in
        omega (arith, sums, ap (u *◌) e, ap (v *◌) e)

    pub priced_costs_least : cost_of n c xs ≤ cost_of n c ys
    priced_costs_least = omega (arith, costs_bound)

    pub priced_wins_ties : cost_of n c xs ≡ cost_of n c ys → (xs ≡ ys) ⊎ (more_at_first xs ys ≡ true)
    unfolding excess
    priced_wins_ties e =
        let none : (i : ℕ) → i < n → excess i ≡ 0 = none_left n excess (omega (arith, costs_bound)) in
        same_or_more j xs ys (length_x ∙ sym length_y)
        (λ i h k. let z : y i - x i ≡ 0 = rw (lt-ltb i j k) at (none i (omega arith)) in omega arith)
        (λ i h k. let z : x i - y i ≡ 0 = rw (le-ltb i j k) at (none i (omega arith)) in omega arith)
        same

-- ---- seats that stand

-- Of claims below `most` seats, that comes first whose seat costs less.
abbrev pub ByCost : (most : ℕ) (c : ℕ → ℕ → ℕ) (lt : ClaimTest) → Type 0
ByCost most c lt =
    (i a j b : ℕ) → 1 ≤ a → a < most → 1 ≤ b → b < most → lt i a j b ≡ ltb (c i (suc a) + c j b) (c j (suc b) + c i a)

-- A claim that comes before another, ordered by costs p and q, costs no more, and less unless its state is earlier.
comes_costs : (p q i j : ℕ) → cond (ltb p q) true (cond (ltb q p) false (ltb i j)) ≡ true → (p ≤ q) × (j ≤ i → p < q)
comes_costs p q i j = by_test (ltb p q) (ltb q p) refl refl
  where
    by_test : (s t : Bool) → ltb p q ≡ s → ltb q p ≡ t → cond s true (cond t false (ltb i j)) ≡ true → (p ≤ q) × (j ≤ i → p < q)
    by_test true t ep eq e = let lt = ltb-true p q ep in (omega arith, λ _. lt)
    by_test false true ep eq e = absurd (false≢true e)
    by_test false false ep eq e = let lt = ltb-true i j e in (ltb-false q p eq, λ le. absurd (omega arith))

-- Seats that stand are at the price of the first claim not met.
module _ (n most : ℕ) (c : ℕ → ℕ → ℕ) (lt : ClaimTest) (order : ClaimOrder n one_each lt) (by_cost : ByCost most c lt)
    (xs : List ℕ) (standing : Standing n one_each lt xs) (some : 0 < n) (room : sum xs < most) where
  abbrev first : ℕ
  first = first_unmet lt n xs

  below_most : (i : ℕ) → get_or xs i 0 < most
  below_most i = omega (arith, entry_at_most_sum xs i)

  first_lt : first < n
  first_lt = first_unmet_lt n lt xs some

  -- No claim that is not met comes before the first one, and that one comes before those of earlier states.
  not_before_first : (i a : ℕ) → i < n → get_or xs i 0 ≤ a
      → (lt i a first (get_or xs first 0) ≡ false) × (i < first → lt first (get_or xs first 0) i a ≡ true)
  not_before_first i a hi le =
      let least = standing.least in
      let later : Claim n one_each = (i, a, hi, omega (arith, least i hi)) in
      let next : Claim n one_each = (i, get_or xs i 0, hi, least i hi) in
      let first_next : Claim n one_each = (first, get_or xs first 0, first_lt, least first first_lt) in
      let falls = never_falls n one_each lt order i (get_or xs i 0) a hi (least i hi) le in
      let (no_earlier, earlier) = first_unmet_first n one_each lt order xs some least i hi in (
        claims_through n one_each lt order later next first_next falls no_earlier,
        λ h. before_no_earlier n one_each lt order first_next next later (earlier h) falls,
      )

  -- The price: what the first claim not met costs.
  abbrev u : ℕ
  u = c first (suc (get_or xs first 0))

  abbrev v : ℕ
  v = c first (get_or xs first 0)

  costs_with_first : (i a : ℕ) → 1 ≤ a → a < most
      → (lt i a first (get_or xs first 0) ≡ ltb (c i (suc a) + v) (u + c i a))
      × (lt first (get_or xs first 0) i a ≡ ltb (u + c i a) (c i (suc a) + v))
  costs_with_first i a sa ha =
      let sf = standing.least first first_lt in
      let hf = below_most first in
      (by_cost i a first (get_or xs first 0) sa ha sf hf, by_cost first (get_or xs first 0) i a sf hf sa ha)

  unmet_costs : (i a : ℕ) → i < n → get_or xs i 0 ≤ a → a < most
      → (u + c i a ≤ c i (suc a) + v) × (i < first → u + c i a < c i (suc a) + v)
  unmet_costs i a hi le ha =
      let (here, there) = costs_with_first i a (omega (arith, standing.least i hi)) ha in
      let (no_earlier, earlier) = not_before_first i a hi le in
      (ltb-false _ _ (sym here ∙ no_earlier), λ h. ltb-true _ _ (sym there ∙ earlier h))

  met_costs : (i a : ℕ) → i < n → 1 ≤ a → a < get_or xs i 0
      → (c i (suc a) + v ≤ u + c i a) × (first ≤ i → c i (suc a) + v < u + c i a)
  unfolding comes
  met_costs i a hi sa h =
      let (here, there) = costs_with_first i a sa (omega (arith, below_most i)) in
      let apart = standing.apart i a first (get_or xs first 0) hi sa h first_lt (le_refl _) in
      comes_costs (c i (suc a) + v) (u + c i a) i first (rw (here, there) at (apart))

  standing_priced : Priced n most c xs first u v
  standing_priced =
      record {
        unmet = λ i a hi le ha. (unmet_costs i a hi le ha).0;
        unmet_earlier = λ i a hi h le ha. (unmet_costs i a hi le ha).1 h;
        met = λ i a hi sa h. (met_costs i a hi sa h).0;
        met_later = λ i a hi le sa h. (met_costs i a hi sa h).1 le;
      }

  at_most_lem : (ys : List ℕ) → Allotment n (sum xs) ys → (i : ℕ) → i < n → get_or ys i 0 ≤ most
  at_most_lem ys other i hi = omega (arith, entry_at_most_sum ys i, other.whole)

  -- Seats that stand cost no more than any other allotment of their total.
  pub standing_costs_least : (ys : List ℕ) → Allotment n (sum xs) ys → cost_of n c xs ≤ cost_of n c ys
  standing_costs_least ys other =
      priced_costs_least n most c xs first u v standing_priced ys other.each (at_most_lem ys other)
      standing.states other.states (sym other.whole)

  -- Where another allotment costs as much, they have more seats at the first difference.
  pub standing_wins_ties : (ys : List ℕ) → Allotment n (sum xs) ys → cost_of n c xs ≡ cost_of n c ys
      → (xs ≡ ys) ⊎ (more_at_first xs ys ≡ true)
  standing_wins_ties ys other =
      priced_wins_ties n most c xs first u v standing_priced ys other.each (at_most_lem ys other)
      standing.states other.states (sym other.whole)
