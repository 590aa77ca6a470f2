-- Leximin's claims by quotients. At or above a state's start no claim falls, level claims come first, and rising ones in the order of
-- p / (a + 1); below it every claim falls, and claims come in the order of p / a. So two products part most claims, with a look at one
-- state's sizes where a claim may be level, and the present sizes part only those of equal quotients.
-- Assumes nothing.
use Rattle.std.specs.Prelude.{◌≡◌, Bool, true, false, cond, ltb}
use Rattle.std.proofs.Math.Path.{refl}
use Rattle.std.proofs.Common.{sym, ◌∙◌, mul-pos, mul-lt-mul_of_pos_right, mul-le-mul_right, lt_of_mul-lt-mul_right, lt-ltb, le-ltb}
use Rattle.std.proofs.Common.{ltb-true, ltb-false}
use Prim.Native.Nat.{ℕ, suc, ◌+◌, ◌*◌, ◌<◌, ◌≤◌}
use native.Mathlib.Omega.{arith, by_contra}
use Rattle.std.proofs.Math.Numerals.{add-one}
use Rattle.apportionment.specs.inner.Tests.{either_way}
use Rattle.apportionment.specs.Quantities.{less, distance, size_of}
use Rattle.claims.specs.inner.Fractions.{less_asymmetric, not_less_through, less_of_less_of_not}
use Rattle.claims.specs.inner.SizeClaims.{sized_claim_before, size_before}
use Rattle.claims.specs.inner.SizeOrder.{SizedClaim, sized_of}
use Rattle.claims.specs.inner.StartNearest.{nearer, Nearest, nearest_below, nearest_above}
use Rattle.claims.specs.inner.StartSeats.{claims_met_fall, others_do_not_fall}

-- ---- products compared

-- Two tests that hold of the same numbers are the same test.
same_test : (x y u v : ℕ) → (x < y → u < v) → (u < v → x < y) → ltb x y ≡ ltb u v
same_test x y u v to from =
    either_way (ltb u v)
    (λ e. rw e (lt-ltb x y (from (ltb-true u v e))))
    (λ e. rw e (le-ltb x y (by_contra _ _ (λ h. omega (arith, ltb-false u v e, to h)))))

-- Of m without u and n without v: the products with what is left out are compared as those with what is left.
left_over_test : (x y m n u v : ℕ) → u + x ≡ m → v + y ≡ n → ltb (u * n) (v * m) ≡ ltb (y * m) (x * n)
left_over_test x y m n u v e f =
    rw (← e, ← f) (same_test (u * (v + y)) (v * (u + x)) (y * (u + x)) (x * (v + y)) (λ h. omega arith) (λ h. omega arith))

too_much_test : (x y m n u v : ℕ) → u + m ≡ x → v + n ≡ y → ltb (v * m) (u * n) ≡ ltb (y * m) (x * n)
too_much_test x y m n u v e f =
    rw (← e, ← f) (same_test (v * m) (u * n) ((v + n) * m) ((u + m) * n) (λ h. omega arith) (λ h. omega arith))

-- A common factor leaves an order as it is.
quotient_test_lem : (p a q b P H : ℕ) → 0 < P → 0 < H → ltb (q * H * (a * P)) (p * H * (b * P)) ≡ ltb (q * a) (p * b)
quotient_test_lem p a q b P H z w =
    same_test (q * H * (a * P)) (p * H * (b * P)) (q * a) (p * b) (λ h. lt_of_mul-lt-mul_right (H * P) (omega arith))
    (λ h. omega (arith, mul-lt-mul_of_pos_right h (mul-pos w z)))

distance_up : (x y : ℕ) → x ≤ y → distance x y + x ≡ y
unfolding distance
distance_up x y h = omega arith

distance_down : (x y : ℕ) → y ≤ x → distance x y + y ≡ x
unfolding distance
distance_down x y h = omega arith

-- Sizes with too many seats are in the order of the larger quotient, and sizes with too few in that of the smaller one.
module _ (p a q b P H : ℕ) (z : 0 < P) (w : 0 < H) where
  sizes_above : p * H ≤ a * P → q * H ≤ b * P → less (size_of p a P H) (size_of q b P H) ≡ ltb (q * a) (p * b)
  unfolding less size_of
  sizes_above h k =
      left_over_test (p * H) (q * H) (a * P) (b * P) (distance (p * H) (a * P)) (distance (q * H) (b * P))
      (distance_up (p * H) (a * P) h) (distance_up (q * H) (b * P) k) ∙ quotient_test_lem p a q b P H z w

  sizes_below : a * P ≤ p * H → b * P ≤ q * H → less (size_of q b P H) (size_of p a P H) ≡ ltb (q * a) (p * b)
  unfolding less size_of
  sizes_below h k =
      too_much_test (p * H) (q * H) (a * P) (b * P) (distance (p * H) (a * P)) (distance (q * H) (b * P))
      (distance_down (p * H) (a * P) h) (distance_down (q * H) (b * P) k) ∙ quotient_test_lem p a q b P H z w

-- ---- claims at or above the start, and below it

-- A claim at or above the start: it does not fall, and with its seat the state has too many.
pub record Climbs (p P H a : ℕ) : Type 0 where
  pub some : 0 < a
  pub stays : nearer p P H (suc a) a ≡ false
  pub past : p * H ≤ suc a * P

-- A claim below the start: it falls, and without its seat the state has too few.
pub record Falls (p P H a : ℕ) : Type 0 where
  pub nears : nearer p P H (suc a) a ≡ true
  pub short : a * P ≤ p * H

module _ (p P H x : ℕ) (y : 0 < p) (z : 0 < P) (w : 0 < H) (n : Nearest p P H x) where
  pub climbs_from_start : (a : ℕ) → x ≤ a → Climbs p P H a
  climbs_from_start a h =
      record {
        some = omega (arith, n.some);
        stays = others_do_not_fall p P H x y z w n a h;
        past = omega (arith, nearest_above p P H y z w x n, mul-le-mul_right P h);
      }

  pub falls_to_start : (a : ℕ) → 1 ≤ a → a < x → Falls p P H a
  falls_to_start a some h =
      record {
        nears = claims_met_fall p P H x y z w n a some h;
        short = omega (arith, nearest_below p P H y z w x n, mul-le-mul_right P h);
      }

-- ---- their order

-- A claim rises: the state's size is larger with the seat.
abbrev pub rising : (P H p a : ℕ) → Bool
rising P H p a = less (size_of p a P H) (size_of p (a + 1) P H)

-- The larger p / (a + 1) first, unless the other claim is level and it is not; of equal ones, the larger present size.
unfoldable pub climbs_before : (P H p a q b : ℕ) → Bool
climbs_before P H p a q b =
    cond (ltb (q * (a + 1)) (p * (b + 1))) (rising P H q b)
    (cond (ltb (p * (b + 1)) (q * (a + 1))) (cond (rising P H p a) false (rising P H q b)) (less (size_of q b P H) (size_of p a P H)))

-- The larger p / a first and, of equal ones, the smaller new size.
unfoldable pub falls_before : (P H p a q b : ℕ) → Bool
falls_before P H p a q b =
    cond (ltb (q * a) (p * b)) true (cond (ltb (p * b) (q * a)) false (less (size_of p (a + 1) P H) (size_of q (b + 1) P H)))

-- Two claims that do not fall and have equal new sizes are in the order of their present sizes, level or not: a level one has kept its own.
module _ (x y : SizedClaim) (stays : less x.new x.old ≡ false) (equal : less x.new y.new ≡ false)
    (too : less y.new x.new ≡ false) where
  by_present : (r r' : Bool) → less x.old x.new ≡ r → less y.old y.new ≡ r'
      → cond r (cond r' (less y.old x.old) false) r' ≡ less y.old x.old
  by_present true true e f = refl
  by_present true false e f =
      let below : less x.old y.new ≡ true = less_of_less_of_not x.old x.new y.new y.new_positive e too in
      sym (less_asymmetric x.old y.old (less_of_less_of_not x.old y.new y.old y.old_positive below f))
  by_present false true e f =
      let below : less y.old x.new ≡ true = less_of_less_of_not y.old y.new x.new x.new_positive f equal in
      sym (less_of_less_of_not y.old x.new x.old x.old_positive below e)
  by_present false false e f =
      let above : less y.old x.new ≡ false = not_less_through y.old y.new x.new y.new_positive f too in
      sym (not_less_through y.old x.new x.old x.new_positive above stays)

-- The classes first and then the quotients, or the other way round: the same order, if at equal quotients the classes do not matter.
quotients_first : (l g r r' t : Bool) → (l ≡ false → g ≡ false → cond r (cond r' t false) r' ≡ t)
    → cond r (cond r' (cond l true (cond g false t)) false) r' ≡ cond l r' (cond g (cond r false r') t)
quotients_first true g true true t equal = refl
quotients_first true g true false t equal = refl
quotients_first true g false r' t equal = refl
quotients_first false true true true t equal = refl
quotients_first false true true false t equal = refl
quotients_first false true false r' t equal = refl
quotients_first false false r r' t equal = equal refl refl

module _ {P H : ℕ} (z : 0 < P) (w : 0 < H) (p a q b : ℕ) where
  pub climbs_by_quotient : Climbs p P H a → Climbs q P H b → size_before P H p a q b ≡ climbs_before P H p a q b
  unfolding size_before sized_claim_before climbs_before
  climbs_by_quotient c d =
      let one = sizes_above p (suc a) q (suc b) P H z w c.past d.past in
      let other = sizes_above q (suc b) p (suc a) P H z w d.past c.past in
      simp (c.stays, d.stays, one, other, add-one)
      (quotients_first (ltb (q * suc a) (p * suc b)) (ltb (p * suc b) (q * suc a)) (less (size_of p a P H) (size_of p (suc a) P H))
      (less (size_of q b P H) (size_of q (suc b) P H)) (less (size_of q b P H) (size_of p a P H))
      (λ e f. by_present (sized_of p a P H z c.some) (sized_of q b P H z d.some) c.stays (one ∙ e) (other ∙ f) _ _ refl refl))

  pub falls_by_quotient : Falls p P H a → Falls q P H b → size_before P H p a q b ≡ falls_before P H p a q b
  unfolding size_before sized_claim_before falls_before
  falls_by_quotient c d =
      simp (
        c.nears,
        d.nears,
        sizes_below p a q b P H z w c.short d.short,
        sizes_below q b p a P H z w d.short c.short,
        add-one,
      )
