-- Seats that stand in leximin's order of claims have the least list of all with their total, and are the leximin allotment for it: sizes
-- are weighed so that lists compare as sums of weights, and the sum is least where seats stand.
-- Assumes nothing.
use Rattle.std.specs.Prelude.{◌≡◌, Bool, cond, ◌⊎◌, ltb, length, get_or}
use Rattle.std.proofs.Math.Path.{refl, sym, ap}
use Rattle.std.proofs.Common.{◌∙◌, mul-pos, le_antisymm, arith, ltb-true, ltb-false, le-ltb}
use Rattle.std.proofs.Math.Bool.{true, false}
use Rattle.std.proofs.lemmas.Bool.{false≢true}
use Rattle.std.proofs.Math.Logic.{inl, inr, ⊎_elim}
use mathlib.Core.List.{List, [], ◌∷◌}
use Prim.Native.Nat.{ℕ, suc, ◌+◌, ◌*◌, ◌<◌, ◌≤◌}
use Rattle.apportionment.specs.Lists.{sum, list_of}
use Rattle.apportionment.specs.inner.Lists.{entry_at_most_sum}
use Rattle.apportionment.specs.Quantities.{Fraction, size_of}
use Rattle.apportionment.specs.Leximin.{sizes_of, size_list, list_less, more_at_first, chosen_before, leximin_for, allotments}
use Rattle.claims.specs.inner.Order.{Standing}
use Rattle.claims.specs.inner.SizeClaims.{Positive, one_each, size_test, size_before}
use Rattle.claims.specs.inner.SizeOrder.{people, size_order}
use Rattle.apportionment.specs.inner.Tests.{cond_both, either_way}
use Rattle.claims.specs.inner.Every.{Every, every_implied}
use Rattle.claims.specs.inner.Weights.{Over, factorial, factorial_pos, size_over, Weighing, coarser, weight, powers_weigh, total}
use Rattle.claims.specs.inner.Weights.{sorted_order, claim_order_by_weight}
use Rattle.claims.specs.inner.Allotments.{Allotment, every_allotment, in_allotments, winner_first}
use Rattle.claims.specs.inner.Prices.{cost_of, ByCost, standing_costs_least, standing_wins_ties}

-- ---- register order

more_asymmetric : (xs ys : List ℕ) → more_at_first xs ys ≡ true → more_at_first ys xs ≡ false
unfolding more_at_first
more_asymmetric [] ys e = absurd (false≢true e)
more_asymmetric (x ∷ xs) [] e = refl
more_asymmetric (x ∷ xs) (y ∷ ys) e = by_test (ltb y x) (ltb x y) refl refl (more_asymmetric xs ys) e
  where
    by_test : (s t : Bool) → ltb y x ≡ s → ltb x y ≡ t → (more_at_first xs ys ≡ true → more_at_first ys xs ≡ false)
        → cond s true (cond t false (more_at_first xs ys)) ≡ true → cond t true (cond s false (more_at_first ys xs)) ≡ false
    by_test true true es et rest h = absurd (omega (arith, ltb-true y x es, ltb-true x y et))
    by_test true false es et rest h = refl
    by_test false true es et rest h = absurd (false≢true h)
    by_test false false es et rest h = rest h

more_irreflexive : (xs : List ℕ) → more_at_first xs xs ≡ false
more_irreflexive xs = either_way (more_at_first xs xs) (more_asymmetric xs xs) (λ e. e)

-- ---- the sizes of an allotment

module _ (P H : ℕ) where
  length_sizes : (ps ys : List ℕ) → length ys ≡ length ps → length (sizes_of P H ps ys) ≡ length ps
  unfolding sizes_of
  length_sizes [] ys e = refl
  length_sizes (p ∷ ps) [] e = e
  length_sizes (p ∷ ps) (y ∷ ys) e = ap suc (length_sizes ps ys (omega arith))

  every_size : (O : Fraction → Type 0) (ps ys : List ℕ) → length ys ≡ length ps
      → ((i : ℕ) → i < length ps → O (size_of (get_or ps i 0) (get_or ys i 0) P H)) → Every O (sizes_of P H ps ys)
  unfolding sizes_of
  every_size O [] ys e h = tt
  every_size O (p ∷ ps) [] e h = absurd (omega arith)
  every_size O (p ∷ ps) (y ∷ ys) e h = (h 0 (omega arith), every_size O ps ys (omega arith) (λ i lt. h (suc i) (omega arith)))

  total_sizes : (w : Fraction → ℕ) (ps ys : List ℕ) → length ys ≡ length ps
      → total w (sizes_of P H ps ys) ≡ cost_of (length ps) (λ (i a : ℕ). w (size_of (get_or ps i 0) a P H)) ys
  unfolding sizes_of total sum list_of
  total_sizes w [] ys e = refl
  total_sizes w (p ∷ ps) [] e = absurd (omega arith)
  total_sizes w (p ∷ ps) (y ∷ ys) e = ap (w (size_of p y P H) +◌) (total_sizes w ps ys (omega arith))

-- ---- sizes weighed

-- How many times a size outweighs a smaller one: more than there are states, so that one larger size outweighs a smaller one of every
-- state (`sorted_order`), and 3 at least, so that claims are in the order of what they add (`claim_order_by_weight`). n + 3 is both,
-- whatever n is.
abbrev base : List ℕ → ℕ
base ps = length ps + 3

-- The weight of a size at up to `most` seats.
abbrev size_weight : (ps : List ℕ) (most : ℕ) → Fraction → ℕ
size_weight ps most = weight (base ps) (factorial most * sum ps)

-- The weight of state i's size at a seats.
abbrev state_weight : (ps : List ℕ) (H most i a : ℕ) → ℕ
state_weight ps H most i a = size_weight ps most (size_of (get_or ps i 0) a (sum ps) H)

module _ (ps : List ℕ) (H most : ℕ) (positive : Positive ps H) where
  abbrev C : ℕ
  C = factorial most * sum ps

  weighing : Weighing (base ps) (Over C) (size_weight ps most)
  weighing = powers_weigh (base ps) C (omega arith) (mul-pos (factorial_pos most) (people positive))

  -- Leximin's claims are ordered by what they add to the weight.
  by_weight : ByCost most (state_weight ps H most) (size_test ps H)
  unfolding size_test size_before
  by_weight i a j b sa ha sb hb =
      let over : (i a : ℕ) → 1 ≤ a → a ≤ most → Over C (size_of (get_or ps i 0) a (sum ps) H) =
      λ i a some le. size_over most (get_or ps i 0) a (sum ps) H some le in
      claim_order_by_weight (Over C) (size_weight ps most) (coarser (omega arith) weighing) _ _ _ _
      (over i a sa (omega arith))
      (over i (suc a) (omega arith) ha)
      (over j b sb (omega arith))
      (over j (suc b) (omega arith) hb)

  module _ (t : ℕ) (le : t ≤ most) where
    sizes_over : (ys : List ℕ) → Allotment (length ps) t ys → Every (Over C) (sizes_of (sum ps) H ps ys)
    sizes_over ys h =
        every_size (sum ps) H (Over C) ps ys h.states
        (λ i hi.
        let most_here : get_or ys i 0 ≤ most = omega (arith, entry_at_most_sum ys i, h.whole) in
        size_over most (get_or ps i 0) (get_or ys i 0) (sum ps) H (h.each i hi) most_here)

    -- The lists of two allotments of a total compare as their weights.
    lists_by_weight : (ys zs : List ℕ) → Allotment (length ps) t ys → Allotment (length ps) t zs
        → list_less (size_list ps H ys) (size_list ps H zs)
        ≡ ltb (cost_of (length ps) (state_weight ps H most) ys) (cost_of (length ps) (state_weight ps H most) zs)
    unfolding size_list
    lists_by_weight ys zs hy hz =
        let ly = length_sizes (sum ps) H ps ys hy.states in
        let lz = length_sizes (sum ps) H ps zs hz.states in
        rw (
          ← total_sizes (sum ps) H (size_weight ps most) ps ys hy.states,
          ← total_sizes (sum ps) H (size_weight ps most) ps zs hz.states,
        )
        (sorted_order (base ps) (Over C) (size_weight ps most) weighing (omega arith)
        (sizes_of (sum ps) H ps ys) (sizes_of (sum ps) H ps zs)
        (ly ∙ sym lz) (omega arith) (sizes_over ys hy) (sizes_over zs hz))

-- ---- seats that stand are chosen

module _ (ps : List ℕ) (H : ℕ) (positive : Positive ps H) (xs : List ℕ) (standing : Standing (length ps) one_each (size_test ps H) xs) where
  abbrev most : ℕ
  most = suc (sum xs)

  abbrev cost : List ℕ → ℕ
  cost = cost_of (length ps) (state_weight ps H most)

  pub own_allotment : Allotment (length ps) (sum xs) xs
  own_allotment = record { states = standing.states; each = standing.least; whole = refl }

  module _ (ys : List ℕ) (other : Allotment (length ps) (sum xs) ys) where
    weighs_least : cost xs ≤ cost ys
    weighs_least =
        standing_costs_least (length ps) most (state_weight ps H most) (size_test ps H) (size_order positive) (by_weight ps H most positive)
        xs standing positive.some_state (omega arith) ys other

    wins_ties : ltb (cost xs) (cost ys) ≡ false → (xs ≡ ys) ⊎ (more_at_first xs ys ≡ true)
    wins_ties e =
        standing_wins_ties (length ps) most (state_weight ps H most) (size_test ps H) (size_order positive) (by_weight ps H most positive)
        xs standing positive.some_state (omega arith) ys other (le_antisymm weighs_least (ltb-false (cost xs) (cost ys) e))

    less_by_weight : list_less (size_list ps H xs) (size_list ps H ys) ≡ ltb (cost xs) (cost ys)
    less_by_weight = lists_by_weight ps H most positive (sum xs) (omega arith) xs ys own_allotment other

    -- No other has a list less than theirs.
    pub never_less : list_less (size_list ps H ys) (size_list ps H xs) ≡ false
    never_less =
        lists_by_weight ps H most positive (sum xs) (omega arith) ys xs other own_allotment ∙ le-ltb (cost ys) (cost xs) weighs_least

    -- No other is chosen before them.
    not_chosen : chosen_before ps H ys xs ≡ false
    unfolding chosen_before
    not_chosen =
        rw (never_less, less_by_weight)
        (cond_both (λ (b : Bool). b ≡ false) (ltb (cost xs) (cost ys)) false (more_at_first ys xs)
        (λ _. refl)
        (λ e. ⊎_elim (λ (same : xs ≡ ys). rw (← same) (more_irreflexive xs)) (more_asymmetric xs ys) (wins_ties e)))

    -- They are chosen before every other.
    pub chosen : (ys ≡ xs) ⊎ (chosen_before ps H xs ys ≡ true)
    unfolding chosen_before
    chosen =
        rw (never_less, less_by_weight)
        (cond_both (λ (b : Bool). (ys ≡ xs) ⊎ (b ≡ true)) (ltb (cost xs) (cost ys)) true (more_at_first xs ys)
        (λ _. inr refl)
        (λ e. ⊎_elim (λ (same : xs ≡ ys). inl (sym same)) (λ (more : more_at_first xs ys ≡ true). inr more) (wins_ties e)))

-- Seats that stand are the leximin allotment for their total.
pub standing_leximin : {ps : List ℕ} {H : ℕ} {xs : List ℕ} → Positive ps H → Standing (length ps) one_each (size_test ps H) xs
    → leximin_for ps H (sum xs) ≡ xs
unfolding leximin_for
standing_leximin {ps} {H} {xs} positive standing =
    winner_first (chosen_before ps H) xs (allotments (length ps) (sum xs))
    (every_implied
    (λ (ys : List ℕ) (other : Allotment (length ps) (sum xs) ys).
    (not_chosen ps H positive xs standing ys other, chosen ps H positive xs standing ys other))
    (allotments (length ps) (sum xs))
    (every_allotment (length ps) (sum xs)))
    (in_allotments (length ps) (sum xs) xs (own_allotment ps H positive xs standing))
