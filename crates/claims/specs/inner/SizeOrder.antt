-- Leximin's claims are in order: the test of two claims by their sizes orders them by value, and a state's claims come in turn.
-- Assumes nothing.
use Rattle.std.specs.Prelude.{◌≡◌, refl, Bool, true, false, not, cond, List, ℕ, suc, ◌<◌, ◌≤◌, length, get_or}
use Rattle.std.proofs.Common.{⊎_elim, lt_of_lt_of_le}
use Rattle.std.proofs.Math.Nat.{le_step}
use Rattle.apportionment.specs.Lists.{sum}
use Rattle.apportionment.specs.inner.Lists.{entry_at_most_sum}
use Rattle.apportionment.specs.inner.Tests.{either_way}
use Rattle.apportionment.specs.Quantities.{Fraction, less, size_of}
use Rattle.claims.specs.inner.Order.{ClaimOrder}
use Rattle.claims.specs.inner.Fractions.{less_asymmetric, not_less_through}
use Rattle.claims.specs.inner.SizeClaims.{sized_claim_before, size_before, size_test, one_each, Positive}
use Rattle.claims.specs.inner.SizeTests.{Ordered, none_ordered, reversed_ordered, then_by, then_by_ordered, classed, classed_ordered}
use Rattle.claims.specs.inner.SizeShape.{size_positive, middle_smaller}

-- ---- claims by their two sizes

-- A claim's two sizes, the present one and the new one.
pub record SizedClaim : Type 0 where
  pub old : Fraction
  pub new : Fraction
  pub old_positive : 0 < old.under
  pub new_positive : 0 < new.under

-- The test of two claims by their sizes.
unfoldable pub before : SizedClaim → SizedClaim → Bool
before x y = sized_claim_before x.old x.new y.old y.new

smaller_new_ordered : Ordered (λ (x y : SizedClaim). less x.new y.new)
smaller_new_ordered =
    record {
      asym = λ x y. less_asymmetric x.new y.new;
      through = λ x y z. not_less_through x.new y.new z.new y.new_positive;
    }

larger_old_ordered : Ordered (λ (x y : SizedClaim). less y.old x.old)
larger_old_ordered =
    reversed_ordered
    record {
      asym = λ x y. less_asymmetric x.old y.old;
      through = λ x y z. not_less_through x.old y.old z.old y.old_positive;
    }

-- Falling claims, by the larger present size and then the smaller new one; then those that do not rise, all equal; then rising ones, by the
-- smaller new size and then the larger present one.
by_classes : SizedClaim → SizedClaim → Bool
by_classes x y =
    classed (less x.new x.old) (less y.new y.old)
    (then_by (less y.old x.old) (less x.old y.old) (less x.new y.new))
    (classed (not (less x.old x.new)) (not (less y.old y.new)) false
    (then_by (less x.new y.new) (less y.new x.new) (less y.old x.old)))

by_classes_ordered : Ordered by_classes
unfolding by_classes
by_classes_ordered =
    classed_ordered (λ (x : SizedClaim). less x.new x.old)
    (then_by_ordered larger_old_ordered smaller_new_ordered)
    (classed_ordered (λ (x : SizedClaim). not (less x.old x.new)) none_ordered
    (then_by_ordered smaller_new_ordered larger_old_ordered))

-- The two ways to write the test agree: by the classes of rising claims, r and r'.
classes_agree : (c c' r r' g t : Bool)
    → cond c (cond c' g true) (cond c' false (cond r (cond r' t false) r')) ≡ classed c c' g (classed (not r) (not r') false t)
unfolding classed
classes_agree c c' true true g t = refl
classes_agree c c' true false g t = refl
classes_agree c c' false true g t = refl
classes_agree c c' false false g t = refl

before_by_classes : (x y : SizedClaim) → before x y ≡ by_classes x y
unfolding before sized_claim_before by_classes then_by
before_by_classes x y =
    classes_agree (less x.new x.old) (less y.new y.old) (less x.old x.new) (less y.old y.new) _ _

-- The test of two claims by their sizes orders them by value.
pub claims_ordered : Ordered before
claims_ordered =
    record {
      asym = λ x y e. rw before_by_classes (by_classes_ordered.asym x y (rw before_by_classes at e));
      through = λ x y z e f.
          rw before_by_classes (by_classes_ordered.through x y z (rw before_by_classes at e) (rw before_by_classes at f));
    }

-- ---- leximin's claims

-- Some people live in the states.
pub people : {ps : List ℕ} {H : ℕ} → Positive ps H → 0 < sum ps
people {ps} s = lt_of_lt_of_le (s.peopled 0 s.some_state) (entry_at_most_sum ps 0)

falling_in_turn : (s t u : Fraction) → less t s ≡ true → sized_claim_before s t t u ≡ true
unfolding sized_claim_before
falling_in_turn s t u e = either_way (less u t) (λ f. rw (e, f)) (λ f. rw (e, f))

rising_in_turn : (s t u : Fraction) → less t u ≡ true → sized_claim_before s t t u ≡ true
unfolding sized_claim_before
rising_in_turn s t u e =
    either_way (less t s) (falling_in_turn s t u)
    (λ h.
    let stays = less_asymmetric t u e in
    either_way (less s t) (λ f. rw (h, stays, f, e)) (λ f. rw (h, stays, f, e)))

-- A state's claims come in turn.
pub claims_in_turn : (p P H a : ℕ) → 0 < p → 0 < P → 0 < H → size_before P H p a p (suc a) ≡ true
unfolding size_before
claims_in_turn p P H a y z w =
    ⊎_elim (falling_in_turn (size_of p a P H) (size_of p (suc a) P H) (size_of p (suc (suc a)) P H))
    (rising_in_turn (size_of p a P H) (size_of p (suc a) P H) (size_of p (suc (suc a)) P H))
    (middle_smaller p P H a y z w)

-- The claim of a state with a seats ..
abbrev pub sized_of : (p a P H : ℕ) → 0 < P → 0 < a → SizedClaim
sized_of p a P H z h =
    record {
      old = size_of p a P H;
      new = size_of p (suc a) P H;
      old_positive = size_positive p a P H z h;
      new_positive = size_positive p (suc a) P H z (le_step h);
    }

-- .. and of state i.
abbrev sized_claim : {ps : List ℕ} {H : ℕ} → Positive ps H → (i a : ℕ) → 1 ≤ a → SizedClaim
sized_claim {ps} {H} s i a h = sized_of (get_or ps i 0) a (sum ps) H (people s) h

-- Leximin's claims are in order.
pub size_order : {ps : List ℕ} {H : ℕ} → Positive ps H → ClaimOrder (length ps) one_each (size_test ps H)
unfolding size_test size_before before
size_order {ps} {H} s =
    record {
      asym = λ i a j b _ ha _ hb. claims_ordered.asym (sized_claim s i a ha) (sized_claim s j b hb);
      through = λ i a j b k c _ ha _ hb _ hc.
          claims_ordered.through (sized_claim s i a ha) (sized_claim s j b hb) (sized_claim s k c hc);
      rises = λ i a hi _. claims_in_turn (get_or ps i 0) (sum ps) H a (s.peopled i hi) (people s) s.some_seat;
    }
