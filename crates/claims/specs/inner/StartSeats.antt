-- The start stands: with each state's nearest seats every claim met falls and no claim not met does.
-- Assumes nothing.
use Rattle.std.specs.Prelude.{◌≡◌, true, false, List, ℕ, suc, ◌*◌, ◌<◌, ◌≤◌, length, get_or}
use Rattle.std.proofs.Common.{⊎_elim, suc-le-suc, zero-le, le_refl, le_trans, le_of_lt, eq-or-lt_of_le}
use Rattle.std.proofs.lemmas.List.{length-map}
use Rattle.apportionment.specs.Lists.{sum}
use Rattle.apportionment.specs.inner.Lists.{entry_at_most_sum, get_d_map}
use Rattle.apportionment.specs.Quantities.{Fraction, less}
use Rattle.apportionment.specs.Leximin.{nearest, start_seats}
use Rattle.claims.specs.inner.Order.{Standing}
use Rattle.claims.specs.inner.StandingOrder.{comes_by_value}
use Rattle.claims.specs.inner.Fractions.{less_asymmetric}
use Rattle.claims.specs.inner.SizeClaims.{sized_claim_before, size_before, size_test, one_each, Positive}
use Rattle.claims.specs.inner.SizeShape.{le_or_lt, size_falls, size_rises}
use Rattle.claims.specs.inner.SizeOrder.{people}
use Rattle.claims.specs.inner.StartNearest.{nearer, Nearest, nearest_law}

-- ---- one state with x seats, its nearest

module _ (p P H x : ℕ) (y : 0 < p) (z : 0 < P) (w : 0 < H) (n : Nearest p P H x) where
  pub claims_met_fall : (a : ℕ) → 1 ≤ a → a < x → nearer p P H (suc a) a ≡ true
  claims_met_fall a h k = ⊎_elim last earlier (eq-or-lt_of_le k)
    where
      last : suc a ≡ x → nearer p P H (suc a) a ≡ true
      last e = rw e (n.fewest a h k)

      earlier : suc a < x → nearer p P H (suc a) a ≡ true
      earlier l =
          ⊎_elim (size_falls p P H a (suc a) z (le_refl (suc a)))
          (λ q. cc (n.least (suc a) (suc-le-suc zero-le), size_rises p P H (suc a) x y z w (le_of_lt q) l))
          (le_or_lt (suc a * P) (p * H))

  pub others_do_not_fall : (b : ℕ) → x ≤ b → nearer p P H (suc b) b ≡ false
  others_do_not_fall b k = ⊎_elim next later (eq-or-lt_of_le k)
    where
      next : x ≡ b → nearer p P H (suc b) b ≡ false
      next e = rw (← e) (n.least (suc x) (suc-le-suc zero-le))

      later : x < b → nearer p P H (suc b) b ≡ false
      later l =
          ⊎_elim (λ q. less_asymmetric _ _ (size_rises p P H b (suc b) y z w q (le_refl (suc b))))
          (λ q. cc (n.least b (le_trans n.some k), size_falls p P H x b z l (le_of_lt q)))
          (le_or_lt (p * H) (b * P))

-- A claim that falls comes before one that does not.
falls_before_lem : (s t s' t' : Fraction) → less t s ≡ true → less t' s' ≡ false → sized_claim_before s t s' t' ≡ true
unfolding sized_claim_before
falls_before_lem s t s' t' e f = rw (e, f)

-- ---- all states

pub length_start : (ps : List ℕ) (H : ℕ) → length (start_seats ps H) ≡ length ps
unfolding start_seats
length_start ps H = length-map ps _

pub start_at : (ps : List ℕ) (H i : ℕ) → i < length ps → get_or (start_seats ps H) i 0 ≡ nearest (get_or ps i 0) (sum ps) H
unfolding start_seats
start_at ps H i h = get_d_map _ ps i h

module _ {ps : List ℕ} {H : ℕ} (s : Positive ps H) where
  pub state_nearest : (i : ℕ) → i < length ps → Nearest (get_or ps i 0) (sum ps) H (nearest (get_or ps i 0) (sum ps) H)
  state_nearest i h =
      nearest_law (get_or ps i 0) (sum ps) H (s.peopled i h) (people s) s.some_seat (entry_at_most_sum ps i)

  start_nearest : (i : ℕ) → i < length ps → Nearest (get_or ps i 0) (sum ps) H (get_or (start_seats ps H) i 0)
  start_nearest i h = rw (start_at ps H i h) (state_nearest i h)

  pub start_standing : Standing (length ps) one_each (size_test ps H) (start_seats ps H)
  unfolding size_test size_before
  start_standing =
      record {
        states = length_start ps H;
        least = λ i h. (start_nearest i h).some;
        apart = λ i a j b hi h k hj l.
            comes_by_value (size_test ps H) i a j b
            (falls_before_lem _ _ _ _
            (claims_met_fall (get_or ps i 0) (sum ps) H _ (s.peopled i hi) (people s) s.some_seat (start_nearest i hi) a h k)
            (others_do_not_fall (get_or ps j 0) (sum ps) H _ (s.peopled j hj) (people s) s.some_seat (start_nearest j hj) b l));
      }
