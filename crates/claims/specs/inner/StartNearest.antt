-- A state's nearest seats. No seats are nearer and fewer seats are less near; they are less than one away from p H / P, and so they are
-- the whole part of p H / P or one more, which is how they are worked out.
-- Assumes nothing.
use Rattle.std.specs.Prelude.{◌≡◌, Bool, true, false, cond, ◌⊎◌, eqb}
use Rattle.std.proofs.lemmas.Bool.{false≢true, eqb-false}
use Rattle.std.proofs.Math.Logic.{⊎_elim}
use Prim.Native.Nat.{ℕ, zero, suc, ◌+◌, ◌*◌, ◌/◌, ◌<◌, ◌≤◌, suc-le-suc, zero-le}
use Rattle.std.proofs.Common.{mul-pos, mul-le-mul_right, lt_of_mul-lt-mul_right, lt-suc_self, le_antisymm, le_of_suc-le-suc}
use Rattle.std.proofs.Common.{not-suc-le-zero, pos_of_ne-zero, div-mul-le_self, eq-or-lt_of_le, add-one, eqb-true}
use Rattle.std.proofs.Math.Nat.{le_refl, lt-div-mul-add}
use native.Mathlib.Omega.{arith, by_contra}
use Rattle.apportionment.specs.inner.Tests.{cond_both}
use Rattle.apportionment.specs.Quantities.{less, size_of}
use Rattle.apportionment.specs.Leximin.{nearest_up_to, nearest}
use Rattle.claims.specs.inner.Fractions.{less_irreflexive, less_asymmetric, not_less_through, less_of_less_of_not}
use Rattle.claims.specs.inner.SizeClaims.{nearest_rounded}
use Rattle.claims.specs.inner.SizeShape.{le_or_lt, size_positive, size_falls, size_rises}

-- For a state, a seats are nearer than b: their size is smaller.
abbrev pub nearer : (p P H a b : ℕ) → Bool
nearer p P H a b = less (size_of p a P H) (size_of p b P H)

-- Seats a are the nearest of all: none are nearer, and fewer are less near.
pub record Nearest (p P H a : ℕ) : Type 0 where
  pub some : 1 ≤ a
  pub least : (b : ℕ) → 1 ≤ b → nearer p P H b a ≡ false
  pub fewest : (b : ℕ) → 1 ≤ b → b < a → nearer p P H a b ≡ true

-- The same among 1 to k seats.
record NearestUpTo (p P H k a : ℕ) : Type 0 where
  some : 1 ≤ a
  least : (b : ℕ) → 1 ≤ b → b ≤ k → nearer p P H b a ≡ false
  fewest : (b : ℕ) → 1 ≤ b → b < a → nearer p P H a b ≡ true

module _ (p P H : ℕ) (peopled : 0 < p) (people : 0 < P) (seated : 0 < H) where
  -- ---- the definition gives nearest seats

  -- One more seat tried: it takes over where it is nearer, and else the nearest stay.
  one_more_tried : (k a : ℕ) → NearestUpTo p P H k a → NearestUpTo p P H (suc k) (cond (nearer p P H (suc k) a) (suc k) a)
  one_more_tried k a n =
      cond_both (NearestUpTo p P H (suc k)) (nearer p P H (suc k) a) (suc k) a
      (λ e.
      let closer : (b : ℕ) → 1 ≤ b → b ≤ k → nearer p P H (suc k) b ≡ true =
      λ b h q. less_of_less_of_not _ (size_of p a P H) _ (size_positive p b P H people h) e (n.least b h q) in
      record {
        some = suc-le-suc zero-le;
        least = λ b h q.
            ⊎_elim (λ i. rw i (less_irreflexive _)) (λ i. less_asymmetric _ _ (closer b h (le_of_suc-le-suc i))) (eq-or-lt_of_le q);
        fewest = λ b h q. closer b h (le_of_suc-le-suc q);
      })
      (λ e. record {
        some = n.some;
        least = λ b h q. ⊎_elim (λ i. rw i e) (λ i. n.least b h (le_of_suc-le-suc i)) (eq-or-lt_of_le q);
        fewest = n.fewest;
      })

  nearest_up_to_lem : (k : ℕ) → NearestUpTo p P H k (nearest_up_to p P H k)
  unfolding nearest_up_to
  nearest_up_to_lem zero =
      record { some = le_refl 1; least = λ b h q. absurd (omega arith); fewest = λ b h q. absurd (omega arith) }
  nearest_up_to_lem (suc k) = one_more_tried k (nearest_up_to p P H k) (nearest_up_to_lem k)

  -- More than H seats are less near than H, as a population is at most P.
  beyond_house : p ≤ P → (b : ℕ) → H < b → nearer p P H b H ≡ false
  beyond_house l b h =
      less_asymmetric _ _ (size_rises p P H H b peopled people seated (omega (arith, mul-le-mul_right H l)) h)

  pub nearest_law : p ≤ P → Nearest p P H (nearest p P H)
  unfolding nearest
  nearest_law l =
      record {
        some = n.some;
        least = λ b h.
            ⊎_elim (n.least b h)
            (λ q. not_less_through _ (size_of p H P H) _ (size_positive p H P H people seated)
            (beyond_house l b q) (n.least H seated (le_refl H)))
            (le_or_lt b H);
        fewest = n.fewest;
      }
    where
      n : NearestUpTo p P H H (nearest_up_to p P H H)
      n = nearest_up_to_lem H

  pub nearest_at_most_house : p ≤ P → nearest p P H ≤ H
  nearest_at_most_house l =
      by_contra _ _ (λ h. false≢true (cc ((nearest_law l).fewest H seated h, beyond_house l (nearest p P H) h)))

  -- ---- nearest seats are less than one away from p H / P

  pub nearest_below : (a : ℕ) → Nearest p P H a → a * P < p * H + P
  nearest_below zero n = absurd (not-suc-le-zero n.some)
  nearest_below (suc zero) n = omega (arith, mul-pos peopled seated)
  nearest_below (suc (suc b)) n =
      by_contra _ _
      (λ h.
      let farther = size_rises p P H (suc b) (suc (suc b)) peopled people seated (omega arith) (lt-suc_self _) in
      false≢true (cc (n.least (suc b) (suc-le-suc zero-le))))

  pub nearest_above : (a : ℕ) → Nearest p P H a → p * H < a * P + P
  nearest_above a n =
      by_contra _ _
      (λ h. false≢true (cc (n.least (suc a) (suc-le-suc zero-le), size_falls p P H a (suc a) people (lt-suc_self a) (omega arith))))

  -- ---- so they are rounded seats

  module _ (v a : ℕ) (low : v * P ≤ p * H) (high : p * H < suc v * P) (n : Nearest p P H a) where
    at_least_whole : v ≤ a
    at_least_whole = le_of_suc-le-suc (lt_of_mul-lt-mul_right P (omega (arith, nearest_above a n)))

    at_most_one_more : a ≤ suc v
    at_most_one_more = le_of_suc-le-suc (lt_of_mul-lt-mul_right P (omega (arith, nearest_below a n)))

    one_or_more : 1 ≤ v → cond (nearer p P H (suc v) v) (suc v) v ≡ a
    one_or_more h =
        cond_both (λ (x : ℕ). x ≡ a) (nearer p P H (suc v) v) (suc v) v
        (λ e. ⊎_elim (λ i. cc (n.least (suc v) (suc-le-suc zero-le), e, i)) (λ i. le_antisymm i at_most_one_more) whole_or_more)
        (λ e. ⊎_elim (λ i. i) (λ i. cc (n.fewest v h i, le_antisymm i at_most_one_more, e)) whole_or_more)
      where
        whole_or_more : (v ≡ a) ⊎ (v < a)
        whole_or_more = eq-or-lt_of_le at_least_whole

    rounded_is : cond (eqb v 0) 1 (cond (nearer p P H (v + 1) v) (v + 1) v) ≡ a
    rounded_is =
        cond_both (λ (x : ℕ). x ≡ a) (eqb v 0) 1 (cond (nearer p P H (v + 1) v) (v + 1) v)
        (λ e. le_antisymm n.some (omega (arith, at_most_one_more, eqb-true v 0 e)))
        (λ e. rw add-one (one_or_more (pos_of_ne-zero (eqb-false v 0 e))))

  -- Rounding gives the nearest seats.
  pub nearest_rounded_lem : p ≤ P → nearest_rounded p P H ≡ nearest p P H
  unfolding nearest_rounded
  nearest_rounded_lem l =
      rounded_is (p * H / P) (nearest p P H) (div-mul-le_self (p * H) P) (omega (arith, lt-div-mul-add {a = p * H} people)) (nearest_law l)
