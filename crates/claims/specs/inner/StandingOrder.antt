-- Which place `first_place` picks, and what follows from an order of claims alone: `comes` is an order of claims too, and no two
-- states' claims are equal in it. `Standing` cites these facts.
-- Assumes nothing.
use Rattle.std.specs.Prelude.{◌≡◌, refl, ◌⊎◌, Bool, true, false, cond, ℕ, zero, suc, ◌<◌, ◌≤◌, ltb}
use Rattle.std.proofs.Common.{sym, ◌∙◌, subst, inl, inr, ⊎_elim, le_refl, le_trans, le_of_lt, le_of_suc-le-suc, not-suc-le-zero}
use Rattle.std.proofs.Common.{eq-or-lt_of_le, lt_irrefl, arith, ltb-true, ltb-false, lt-ltb, le-ltb}
use Rattle.std.proofs.lemmas.Bool.{false≢true}
use Rattle.std.proofs.Math.Nat.{le_step}
use Rattle.apportionment.specs.Lists.{first_place}
use Rattle.apportionment.specs.inner.Tests.{cond_both, either_way}
use Rattle.claims.specs.inner.Order.{ClaimTest, ClaimOrder, comes}

-- ---- tests that are never true both ways and whose failures are passed on

unless_false : (t : Bool) → (t ≡ false → ⊥) → t ≡ true
unless_false true h = refl
unless_false false h = absurd (h refl)

module _ {A : Type 0} (before : A → A → Bool) (asym : (p q : A) → before p q ≡ true → before q p ≡ false)
    (through : (p q r : A) → before p q ≡ false → before q r ≡ false → before p r ≡ false) where
  irreflexive : (p : A) → before p p ≡ false
  irreflexive p = either_way (before p p) (asym p p) (λ e. e)

  -- p comes before q, and r does not: so p comes before r.
  before_what_is_not : (p q r : A) → before p q ≡ true → before r q ≡ false → before p r ≡ true
  before_what_is_not p q r pq rq = unless_false (before p r) (λ pr. false≢true (sym (through p r q pr rq) ∙ pq))

  -- p is not after q, which comes before r: so p comes before r.
  not_after_what_is : (p q r : A) → before q p ≡ false → before q r ≡ true → before p r ≡ true
  not_after_what_is p q r qp qr = unless_false (before p r) (λ pr. false≢true (sym (through q p r qp pr) ∙ qr))

-- ---- the place picked

pub first_place_le : (before : ℕ → ℕ → Bool) (k : ℕ) → first_place before k ≤ k
unfolding first_place
first_place_le before zero = le_refl 0
first_place_le before (suc k) =
    cond_both (λ (best : ℕ). best ≤ suc k) (before (suc k) (first_place before k)) (suc k) (first_place before k)
    (λ _. le_refl (suc k)) (λ _. le_step (first_place_le before k))

-- Whatever holds of a place and itself, of a place and an earlier one that it does not come before, and still holds when a later place
-- takes over, holds of every place and the place picked.
pub first_place_holds : (before : ℕ → ℕ → Bool) (holds : ℕ → ℕ → Type 0) (k : ℕ)
    → ((i : ℕ) → i ≤ k → holds i i)
    → ((i j : ℕ) → i < j → j ≤ k → before j i ≡ false → holds j i)
    → ((l i j : ℕ) → l < j → i < j → j ≤ k → before j i ≡ true → holds l i → holds l j)
    → (l : ℕ) → l ≤ k → holds l (first_place before k)
unfolding first_place
first_place_holds before holds zero same keeps takes l h = subst (λ m. holds m 0) (only h) (same 0 (le_refl 0))
  where
    only : l ≤ 0 → 0 ≡ l
    only b = omega arith
first_place_holds before holds (suc k) same keeps takes l h =
    let best = first_place before k in
    let earlier : best < suc k = omega (arith, first_place_le before k) in
    let rest : l < suc k → holds l best =
    λ below. first_place_holds before holds k
    (λ i b. same i (le_step b)) (λ i j ij b. keeps i j ij (le_step b)) (λ l' i j lj ij b. takes l' i j lj ij (le_step b))
    l (le_of_suc-le-suc below) in
    cond_both (holds l) (before (suc k) best) (suc k) best
    (λ e. ⊎_elim
    (λ last. subst (λ m. holds m (suc k)) (sym last) (same (suc k) (le_refl (suc k))))
    (λ below. takes l best (suc k) below earlier (le_refl (suc k)) e (rest below)) (eq-or-lt_of_le h))
    (λ e. ⊎_elim
    (λ last. subst (λ m. holds m best) (sym last) (keeps best (suc k) earlier (le_refl (suc k)) e)) rest (eq-or-lt_of_le h))

-- Under a test that is never true both ways and whose failures are passed on, no place comes before the place picked, and it comes before
-- each earlier place.
pub first_place_first : (before : ℕ → ℕ → Bool) (k : ℕ)
    → ((i j : ℕ) → i ≤ k → j ≤ k → before i j ≡ true → before j i ≡ false)
    → ((i j l : ℕ) → i ≤ k → j ≤ k → l ≤ k → before i j ≡ false → before j l ≡ false → before i l ≡ false)
    → (i : ℕ) → i ≤ k
    → (before i (first_place before k) ≡ false) × (i < first_place before k → before (first_place before k) i ≡ true)
first_place_first before k asym through = first_place_holds before First k same keeps takes
  where
    First : ℕ → ℕ → Type 0
    First i j = (before i j ≡ false) × (i < j → before j i ≡ true)

    Place : Type 0
    Place = (i : ℕ) × (i ≤ k)

    test : Place → Place → Bool
    test p q = before p.0 q.0

    asym' : (p q : Place) → test p q ≡ true → test q p ≡ false
    asym' p q = asym p.0 q.0 p.1 q.1

    through' : (p q r : Place) → test p q ≡ false → test q r ≡ false → test p r ≡ false
    through' p q r = through p.0 q.0 r.0 p.1 q.1 r.1

    same : (i : ℕ) → i ≤ k → First i i
    same i h = (irreflexive test asym' through' (i, h), λ b. absurd (lt_irrefl i b))

    keeps : (i j : ℕ) → i < j → j ≤ k → before j i ≡ false → First j i
    keeps i j ij h e = (e, λ ji. absurd (omega (arith, ij, ji)))

    takes : (l i j : ℕ) → l < j → i < j → j ≤ k → before j i ≡ true → First l i → First l j
    takes l i j lj ij h e f =
        let hl : l ≤ k = omega (arith, lj, h) in
        let hi : i ≤ k = omega (arith, ij, h) in (
          through l i j hl hi h f.0 (asym j i h hi e),
          λ b. before_what_is_not test asym' through' (j, h) (i, hi) (l, hl) e f.0,
        )

-- ---- `comes`, read by its cases

-- (i, a) comes before (j, b): by value, or at no later value because its state is earlier.
pub comes_cases : (lt : ClaimTest) (i a j b : ℕ) → comes lt i a j b ≡ true → (lt i a j b ≡ true) ⊎ ((lt j b i a ≡ false) × (i < j))
unfolding comes
comes_cases lt i a j b e = by_test (lt i a j b) (lt j b i a) refl refl e
  where
    by_test : (t u : Bool) → lt i a j b ≡ t → lt j b i a ≡ u → cond t true (cond u false (ltb i j)) ≡ true
        → (lt i a j b ≡ true) ⊎ ((lt j b i a ≡ false) × (i < j))
    by_test true u et eu c = inl et
    by_test false true et eu c = absurd (false≢true c)
    by_test false false et eu c = inr (eu, ltb-true i j c)

not_comes_cases : (lt : ClaimTest) (i a j b : ℕ) → comes lt i a j b ≡ false → (lt j b i a ≡ true) ⊎ ((lt i a j b ≡ false) × (j ≤ i))
unfolding comes
not_comes_cases lt i a j b e = by_test (lt i a j b) (lt j b i a) refl refl e
  where
    by_test : (t u : Bool) → lt i a j b ≡ t → lt j b i a ≡ u → cond t true (cond u false (ltb i j)) ≡ false
        → (lt j b i a ≡ true) ⊎ ((lt i a j b ≡ false) × (j ≤ i))
    by_test true u et eu c = absurd (false≢true (sym c))
    by_test false true et eu c = inl eu
    by_test false false et eu c = inr (et, ltb-false i j c)

pub comes_by_value : (lt : ClaimTest) (i a j b : ℕ) → lt i a j b ≡ true → comes lt i a j b ≡ true
unfolding comes
comes_by_value lt i a j b e = rw e refl

pub comes_by_state : (lt : ClaimTest) (i a j b : ℕ) → lt j b i a ≡ false → i < j → comes lt i a j b ≡ true
unfolding comes
comes_by_state lt i a j b e h = either_way (lt i a j b) (λ before. rw before) (λ after. rw (after, e, lt-ltb i j h))

not_comes_by_value : (lt : ClaimTest) (i a j b : ℕ) → lt i a j b ≡ false → lt j b i a ≡ true → comes lt i a j b ≡ false
unfolding comes
not_comes_by_value lt i a j b e h = rw (e, h) refl

not_comes_by_state : (lt : ClaimTest) (i a j b : ℕ) → lt i a j b ≡ false → j ≤ i → comes lt i a j b ≡ false
unfolding comes
not_comes_by_state lt i a j b e h = either_way (lt j b i a) (λ before. rw (e, before)) (λ after. rw (e, after, le-ltb i j h))

-- (i, a) does not come before (j, b) where its value does not and, if its state is earlier, the other's value does.
pub not_comes : (lt : ClaimTest) (i a j b : ℕ) → lt i a j b ≡ false → (i < j → lt j b i a ≡ true) → comes lt i a j b ≡ false
not_comes lt i a j b e h =
    either_way (ltb i j)
    (λ earlier. not_comes_by_value lt i a j b e (h (ltb-true i j earlier)))
    (λ later. not_comes_by_state lt i a j b e (ltb-false i j later))

-- Of the claims of two states one comes before the other.
pub comes_otherwise : (lt : ClaimTest) (i a j b : ℕ) → comes lt i a j b ≡ false → (i ≡ j → ⊥) → comes lt j b i a ≡ true
comes_otherwise lt i a j b e apart = ⊎_elim (comes_by_value lt j b i a)
    (λ h. comes_by_state lt j b i a h.0 (omega (arith, h.1, apart))) (not_comes_cases lt i a j b e)

-- ---- `comes` is an order of claims

-- A claim of one of n states at no fewer than its fewest seats.
abbrev pub Claim : ℕ → (ℕ → ℕ) → Type 0
Claim n lo = (i : ℕ) × (a : ℕ) × (i < n) × (lo i ≤ a)

-- The test of two such claims.
abbrev pub between : {n : ℕ} {lo : ℕ → ℕ} → ClaimTest → Claim n lo → Claim n lo → Bool
between lt p q = lt p.0 p.1 q.0 q.1

module _ (n : ℕ) (lo : ℕ → ℕ) (lt : ClaimTest) (order : ClaimOrder n lo lt) where
  pub claims_asym : (p q : Claim n lo) → between lt p q ≡ true → between lt q p ≡ false
  claims_asym p q = order.asym p.0 p.1 q.0 q.1 p.2 p.3 q.2 q.3

  pub claims_through : (p q r : Claim n lo) → between lt p q ≡ false → between lt q r ≡ false → between lt p r ≡ false
  claims_through p q r =
      order.through p.0 p.1 q.0 q.1 r.0 r.1 p.2 p.3 q.2 q.3 r.2 r.3

  pub claims_irreflexive : (p : Claim n lo) → between lt p p ≡ false
  claims_irreflexive = irreflexive (between lt) claims_asym claims_through

  -- p comes before q, and r does not: so p comes before r.
  pub before_no_earlier : (p q r : Claim n lo) → between lt p q ≡ true → between lt r q ≡ false → between lt p r ≡ true
  before_no_earlier = before_what_is_not (between lt) claims_asym claims_through

  -- q does not come before p, and does before r: so p comes before r.
  pub no_later_before : (p q r : Claim n lo) → between lt q p ≡ false → between lt q r ≡ true → between lt p r ≡ true
  no_later_before = not_after_what_is (between lt) claims_asym claims_through

  pub claims_trans : (p q r : Claim n lo) → between lt p q ≡ true → between lt q r ≡ true → between lt p r ≡ true
  claims_trans p q r pq qr = before_no_earlier p q r pq (claims_asym q r qr)

  -- A state's claims come in turn, also those further on.
  pub rises_far : (i a b : ℕ) → i < n → lo i ≤ a → a < b → lt i a i b ≡ true
  rises_far i a zero hi la h = absurd (not-suc-le-zero h)
  rises_far i a (suc b) hi la h =
      ⊎_elim (λ e. rw (← e) (order.rises i a hi la))
      (λ below.
      let lb : lo i ≤ b = omega (arith, la, below) in
      claims_trans (i, a, hi, la) (i, b, hi, lb) (i, suc b, hi, le_step lb) (rises_far i a b hi la below) (order.rises i b hi lb))
      (eq-or-lt_of_le (le_of_suc-le-suc h))

  -- A state's later claim does not come before an earlier one.
  pub never_falls : (i a b : ℕ) → i < n → lo i ≤ a → a ≤ b → lt i b i a ≡ false
  never_falls i a b hi la h = ⊎_elim
      (λ e. subst (λ c. lt i c i a ≡ false) e (claims_irreflexive (i, a, hi, la)))
      (λ below. claims_asym (i, a, hi, la) (i, b, hi, le_trans la h) (rises_far i a b hi la below)) (eq-or-lt_of_le h)

  not_comes_after : (p q : Claim n lo) → between lt q p ≡ true → between (comes lt) p q ≡ false
  not_comes_after p q qp = not_comes_by_value lt p.0 p.1 q.0 q.1 (claims_asym q p qp) qp

  -- No two claims come before each other.
  comes_asym : (p q : Claim n lo) → between (comes lt) p q ≡ true → between (comes lt) q p ≡ false
  comes_asym p q e = ⊎_elim (not_comes_after q p)
      (λ h. not_comes_by_state lt q.0 q.1 p.0 p.1 h.0 (le_of_lt h.1))
      (comes_cases lt p.0 p.1 q.0 q.1 e)

  -- Where p does not come before q, nor q before r, neither does p before r: r comes before p by value if either step is one by value.
  comes_through : (p q r : Claim n lo) → between (comes lt) p q ≡ false → between (comes lt) q r ≡ false → between (comes lt) p r ≡ false
  comes_through p q r pq qr =
      by_cases (not_comes_cases lt p.0 p.1 q.0 q.1 pq) (not_comes_cases lt q.0 q.1 r.0 r.1 qr)
    where
      Not : Claim n lo → Claim n lo → Type 0
      Not p q = (between lt q p ≡ true) ⊎ ((between lt p q ≡ false) × (q.0 ≤ p.0))

      by_cases : Not p q → Not q r → between (comes lt) p r ≡ false
      by_cases (inl qp) (inl rq) = not_comes_after p r (claims_trans r q p rq qp)
      by_cases (inl qp) (inr h) = not_comes_after p r (no_later_before r q p h.0 qp)
      by_cases (inr h) (inl rq) = not_comes_after p r (before_no_earlier r q p rq h.0)
      by_cases (inr h) (inr h') =
          not_comes_by_state lt p.0 p.1 r.0 r.1 (claims_through p q r h.0 h'.0) (le_trans h'.1 h.1)

  -- `comes` is an order of claims, so all that is said above of `lt` holds of it.
  pub comes_order : ClaimOrder n lo (comes lt)
  comes_order = record {
    asym = λ i a j b hi la hj lb. comes_asym (i, a, hi, la) (j, b, hj, lb);
    through = λ i a j b k c hi la hj lb hk lc. comes_through (i, a, hi, la) (j, b, hj, lb) (k, c, hk, lc);
    rises = λ i a hi la. comes_by_value lt i a i (suc a) (order.rises i a hi la);
  }
