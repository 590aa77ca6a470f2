-- Sizes weighed by plain numbers, so that the order of sorted lists of sizes is the order of their sums of weights. A size smaller than
-- another weighs many times less; no weight is ever computed.
-- Assumes nothing.
use Rattle.std.specs.Prelude.{◌≡◌, refl, cond, ℕ, zero, suc, ◌+◌, ◌*◌, ◌/◌, ◌^◌, ◌<◌, ◌≤◌, ltb, length}
use Rattle.std.proofs.Common.{sym, ◌∙◌, ap, ⊎_elim, mul_assoc, mul_comm, mul_left_comm, mul-pos, mul-le-mul_right, lt_of_mul-lt-mul_right}
use Rattle.std.proofs.Common.{le_of_mul-le-mul_right, lt-ltb, le-ltb}
use Rattle.std.proofs.Math.Bool.{Bool, true, false}
use mathlib.Core.List.{List, [], ◌∷◌}
use Rattle.std.specs.Int.{◌∣◌}
use Rattle.std.proofs.Math.Nat.{mul-lt-mul_of_pos_right, le-suc_iff, one-le-pow, pow-succ', pow-le-pow_right, dvd-mul_right}
use Rattle.std.proofs.Math.Nat.{dvd-mul_left_of_dvd, mul-dvd-mul_right, div-mul_cancel}
use native.Mathlib.Omega.{arith}
use Rattle.apportionment.specs.Quantities.{Fraction, less, size_of}
use Rattle.apportionment.specs.Leximin.{insert, largest_first, list_less}
use Rattle.claims.specs.inner.Fractions.{less_true, less_false}
use Rattle.apportionment.specs.inner.Tests.{cond_both}
use Rattle.claims.specs.inner.Every.{Every, every_implied}
use Rattle.claims.specs.inner.SizeClaims.{sized_claim_before}

-- ---- a common denominator

-- C is a multiple of the fraction's denominator.
abbrev pub Over : ℕ → Fraction → Type 0
Over C s = C / s.under * s.under ≡ C

-- The numerator of a fraction brought to the denominator C.
unfoldable pub scaled : ℕ → Fraction → ℕ
scaled C s = s.over * (C / s.under)

factor_pos : (k u : ℕ) → 0 < k * u → 0 < k
factor_pos zero u h = omega arith
factor_pos (suc k) u h = omega arith

pairs_swap : (a d k l : ℕ) → a * d * (k * l) ≡ a * k * (l * d)
pairs_swap a d k l = simp (mul_assoc, mul_comm, mul_left_comm)

-- Numerators a and c over b and d, brought to C by the factors k and l.
module _ (C a b c d k l : ℕ) (some : 0 < C) (eb : k * b ≡ C) (ed : l * d ≡ C) where
  first_brought : a * d * (k * l) ≡ a * k * C
  first_brought = pairs_swap a d k l ∙ ap (a * k *◌) ed

  second_brought : c * b * (k * l) ≡ c * l * C
  second_brought = ap (c * b *◌) (mul_comm k l) ∙ pairs_swap c b l k ∙ ap (c * l *◌) eb

  crossed_lt : a * d < c * b → a * k < c * l
  crossed_lt h =
      let pos : 0 < k * l = mul-pos (factor_pos k b (omega arith)) (factor_pos l d (omega arith)) in
      let m : a * d * (k * l) < c * b * (k * l) = mul-lt-mul_of_pos_right h pos in
      lt_of_mul-lt-mul_right C (rw (← first_brought, ← second_brought) m)

  crossed_le : a * d ≤ c * b → a * k ≤ c * l
  crossed_le h = le_of_mul-le-mul_right (rw (← first_brought, ← second_brought) (mul-le-mul_right (k * l) h)) some

-- At a common denominator fractions compare as their numerators.
module _ (C : ℕ) (some : 0 < C) (s t : Fraction) (over_s : Over C s) (over_t : Over C t) where
  less_scaled : less s t ≡ true → scaled C s < scaled C t
  unfolding scaled
  less_scaled h =
      crossed_lt C s.over s.under t.over t.under (C / s.under) (C / t.under) some over_s over_t (less_true s t h)

  not_less_scaled : less s t ≡ false → scaled C t ≤ scaled C s
  unfolding scaled
  not_less_scaled h =
      crossed_le C t.over t.under s.over s.under (C / t.under) (C / s.under) some over_t over_s (less_false s t h)

-- The product of 1, 2, .. m.
unfoldable pub factorial : ℕ → ℕ
factorial zero = 1
factorial (suc m) = suc m * factorial m

pub factorial_pos : (m : ℕ) → 0 < factorial m
unfolding factorial
factorial_pos zero = omega arith
factorial_pos (suc m) = mul-pos (omega arith) (factorial_pos m)

divides_factorial : (m a : ℕ) → 0 < a → a ≤ m → a ∣ factorial m
unfolding factorial
divides_factorial zero a some h = absurd (omega arith)
divides_factorial (suc m) a some h =
    ⊎_elim
    (λ (e : a ≤ m). dvd-mul_left_of_dvd a (divides_factorial m a some e) (suc m))
    (λ (e : a ≡ suc m). rw e (dvd-mul_right (suc m) (factorial m)))
    (le-suc_iff.0 h)

-- Sizes of up to m seats have the common denominator m! P.
pub size_over : (m p a P H : ℕ) → 0 < a → a ≤ m → Over (factorial m * P) (size_of p a P H)
unfolding size_of
size_over m p a P H some h = div-mul_cancel (a * P) (mul-dvd-mul_right a (divides_factorial m a some h) P)

-- ---- weights

-- Weights w of the fractions that O picks: a lesser one weighs W times less, and one that is not less weighs no less.
pub record Weighing (W : ℕ) (O : Fraction → Type 0) (w : Fraction → ℕ) : Type 0 where
  pub positive : (s : Fraction) → 0 < w s
  pub lighter : {s t : Fraction} → O s → O t → less s t ≡ true → W * w s ≤ w t
  pub no_lighter : {s t : Fraction} → O s → O t → less s t ≡ false → w t ≤ w s

-- Weights so many times apart are fewer times apart as well.
pub coarser : {U W : ℕ} {O : Fraction → Type 0} {w : Fraction → ℕ} → U ≤ W → Weighing W O w → Weighing U O w
coarser {w = w} le weighing =
    record {
      positive = weighing.positive;
      lighter = λ {s} os ot h. omega (arith, mul-le-mul_right (w s) le, weighing.lighter os ot h);
      no_lighter = λ os ot h. weighing.no_lighter os ot h;
    }

-- Powers of W weigh fractions with a common denominator.
unfoldable pub weight : (W C : ℕ) → Fraction → ℕ
weight W C s = W ^ scaled C s

pub powers_weigh : (W C : ℕ) → 0 < W → 0 < C → Weighing W (Over C) (weight W C)
unfolding weight
powers_weigh W C some_w some_c =
    record {
      positive = λ s. one-le-pow (scaled C s) W some_w;
      lighter = λ {s} {t} over_s over_t h. rw (← pow-succ') (pow-le-pow_right some_w (less_scaled C some_c s t over_s over_t h));
      no_lighter = λ {s} {t} over_s over_t h. pow-le-pow_right some_w (not_less_scaled C some_c s t over_s over_t h);
    }

-- ---- lists of sizes

-- The sum of the weights of a list.
unfoldable pub total : (Fraction → ℕ) → List Fraction → ℕ
total w [] = 0
total w (s ∷ ss) = w s + total w ss

-- None weighs more than one before it.
abbrev Descending : (Fraction → ℕ) → List Fraction → Type 0
Descending w [] = Unit
Descending w (s ∷ ss) = Every (λ (t : Fraction). w t ≤ w s) ss × Descending w ss

-- A test tells whether c is below d.
data Tells (c d : ℕ) : Bool → Type 0 where
  below : c < d → Tells c d true
  not_below : d ≤ c → Tells c d false

told : {c d : ℕ} (b : Bool) → (b ≡ true → c < d) → (b ≡ false → d ≤ c) → Tells c d b
told true on_true on_false = below (on_true refl)
told false on_true on_false = not_below (on_false refl)

tells_ltb : {c d : ℕ} {b : Bool} → Tells c d b → b ≡ ltb c d
tells_ltb (below h) = sym (lt-ltb _ _ h)
tells_ltb (not_below h) = sym (le-ltb _ _ h)

shifted : {a b c d : ℕ} {t : Bool} → b ≤ a → a ≤ b → Tells c d t → Tells (a + c) (b + d) t
shifted ge le (below h) = below (omega arith)
shifted ge le (not_below h) = not_below (omega arith)

-- Sorting keeps what holds of every size, the length and the weight.
every_insert : (P : Fraction → Type 0) (s : Fraction) (ts : List Fraction) → P s → Every P ts → Every P (insert s ts)
unfolding insert
every_insert P s [] h hs = (h, tt)
every_insert P s (t ∷ ts) h hs =
    cond_both (Every P) (less s t) (t ∷ insert s ts) (s ∷ t ∷ ts) (λ _. (hs.0, every_insert P s ts h hs.1)) (λ _. (h, hs))

every_sorted : (P : Fraction → Type 0) (ss : List Fraction) → Every P ss → Every P (largest_first ss)
unfolding largest_first
every_sorted P [] h = tt
every_sorted P (s ∷ ss) h = every_insert P s (largest_first ss) h.0 (every_sorted P ss h.1)

length_insert : (s : Fraction) (ts : List Fraction) → length (insert s ts) ≡ suc (length ts)
unfolding insert
length_insert s [] = refl
length_insert s (t ∷ ts) =
    cond_both
    (λ (us : List Fraction). length us ≡ suc (suc (length ts)))
    (less s t)
    (t ∷ insert s ts)
    (s ∷ t ∷ ts)
    (λ _. ap suc (length_insert s ts))
    (λ _. refl)

length_sorted : (ss : List Fraction) → length (largest_first ss) ≡ length ss
unfolding largest_first
length_sorted [] = refl
length_sorted (s ∷ ss) = length_insert s (largest_first ss) ∙ ap suc (length_sorted ss)

total_insert : (w : Fraction → ℕ) (s : Fraction) (ts : List Fraction) → total w (insert s ts) ≡ w s + total w ts
unfolding insert total
total_insert w s [] = refl
total_insert w s (t ∷ ts) =
    cond_both
    (λ (us : List Fraction). total w us ≡ w s + (w t + total w ts))
    (less s t)
    (t ∷ insert s ts)
    (s ∷ t ∷ ts)
    (λ _. omega (arith, total_insert w s ts))
    (λ _. refl)

total_sorted : (w : Fraction → ℕ) (ss : List Fraction) → total w (largest_first ss) ≡ total w ss
unfolding largest_first total
total_sorted w [] = refl
total_sorted w (s ∷ ss) = total_insert w s (largest_first ss) ∙ ap (w s +◌) (total_sorted w ss)

total_bounded : (w : Fraction → ℕ) (b : ℕ) (ss : List Fraction) → Every (λ (t : Fraction). w t ≤ b) ss → total w ss ≤ length ss * b
unfolding total
total_bounded w b [] h = omega arith
total_bounded w b (s ∷ ss) h = omega (arith, h.0, total_bounded w b ss h.1)

module _ (W : ℕ) (O : Fraction → Type 0) (w : Fraction → ℕ) (weighing : Weighing W O w) (some : 0 < W) where
  lighter_le : (s t : Fraction) → O s → O t → less s t ≡ true → w s ≤ w t
  lighter_le s t os ot h = omega (arith, weighing.lighter os ot h, mul-le-mul_right (w s) some)

  insert_descends : (s : Fraction) (ts : List Fraction) → O s → Every O ts → Descending w ts → Descending w (insert s ts)
  unfolding insert
  insert_descends s [] os ots d = (tt, tt)
  insert_descends s (t ∷ ts) os ots d =
      cond_both
      (Descending w)
      (less s t)
      (t ∷ insert s ts)
      (s ∷ t ∷ ts)
      (λ h. (
        every_insert (λ (u : Fraction). w u ≤ w t) s ts (lighter_le s t os ots.0 h) d.0,
        insert_descends s ts os ots.1 d.1,
      ))
      (λ h.
      let le : w t ≤ w s = weighing.no_lighter os ots.0 h in
      ((le, every_implied (λ (u : Fraction) (below : w u ≤ w t). omega arith) ts d.0), d))

  sorted_descends : (ss : List Fraction) → Every O ss → Descending w (largest_first ss)
  unfolding largest_first
  sorted_descends [] os = tt
  sorted_descends (s ∷ ss) os = insert_descends s (largest_first ss) os.0 (every_sorted O ss os.1) (sorted_descends ss os.1)

  -- A list, largest first, whose first size is less than t weighs less than t alone.
  first_less : (s t : Fraction) (ss : List Fraction) → suc (length ss) < W → O s → O t → Descending w (s ∷ ss) → less s t ≡ true
      → total w (s ∷ ss) < w t
  unfolding total
  first_less s t ss short os ot d h =
      omega (
        arith,
        total_bounded w (w s) ss d.0,
        mul-lt-mul_of_pos_right short (weighing.positive s),
        weighing.lighter os ot h,
      )

  -- The order of lists that are largest first is the order of their sums of weights: decided by the first sizes, or else by the rest.
  by_first_or_rest : (s t : Fraction) (ss ts : List Fraction) → suc (length ss) < W → suc (length ts) < W → O s → O t
      → Descending w (s ∷ ss) → Descending w (t ∷ ts) → Tells (total w ss) (total w ts) (list_less ss ts)
      → Tells (total w (s ∷ ss)) (total w (t ∷ ts)) (list_less (s ∷ ss) (t ∷ ts))
  unfolding list_less total
  by_first_or_rest s t ss ts short_s short_t os ot ds dt rest =
      cond_both Sums (less s t) true (cond (less t s) false (list_less ss ts))
      (λ st. below (omega (arith, first_less s t ss short_s os ot ds st)))
      (λ st. cond_both Sums (less t s) false (list_less ss ts) (first_more st) (first_same st))
    where
      Sums : Bool → Type 0
      Sums = Tells (w s + total w ss) (w t + total w ts)

      first_more : less s t ≡ false → less t s ≡ true → Sums false
      first_more st ts' = not_below (omega (arith, first_less t s ts short_t ot os dt ts'))

      first_same : less s t ≡ false → less t s ≡ false → Sums (list_less ss ts)
      first_same st ts' = shifted (weighing.no_lighter os ot st) (weighing.no_lighter ot os ts') rest

  descending_order : (us vs : List Fraction) → length us ≡ length vs → length us < W → Every O us → Every O vs
      → Descending w us → Descending w vs → Tells (total w us) (total w vs) (list_less us vs)
  unfolding list_less total
  descending_order [] [] same short ous ovs du dv = not_below (omega arith)
  descending_order [] (t ∷ ts) same short ous ovs du dv = absurd (omega arith)
  descending_order (s ∷ ss) [] same short ous ovs du dv = absurd (omega arith)
  descending_order (s ∷ ss) (t ∷ ts) same short (os, oss) (ot, ots) du dv =
      by_first_or_rest s t ss ts short (omega arith) os ot du dv
      (descending_order ss ts (omega arith) (omega arith) oss ots du.1 dv.1)

  pub sorted_order : (ss ts : List Fraction) → length ss ≡ length ts → length ss < W → Every O ss → Every O ts
      → list_less (largest_first ss) (largest_first ts) ≡ ltb (total w ss) (total w ts)
  sorted_order ss ts same short oss ots =
      rw (← total_sorted w ss, ← total_sorted w ts)
      (tells_ltb
      (descending_order (largest_first ss) (largest_first ts)
      (length_sorted ss ∙ same ∙ sym (length_sorted ts))
      (rw (length_sorted ss) short)
      (every_sorted O ss oss)
      (every_sorted O ts ots)
      (sorted_descends ss oss)
      (sorted_descends ts ots)))

-- ---- claims

-- With weights three times apart, a claim comes before another exactly where its move adds less weight.
module _ (O : Fraction → Type 0) (w : Fraction → ℕ) (weighing : Weighing 3 O w)
    (old new old' new' : Fraction) (oo : O old) (on : O new) (oo' : O old') (on' : O new') where
  -- The test tells whether the first move adds less.
  abbrev Adds : Bool → Type 0
  Adds = Tells (w new + w old') (w new' + w old)

  both_fall_alike : less old' old ≡ false → less old old' ≡ false → Adds (less new new')
  both_fall_alike h h' =
      told (less new new')
      (λ n. omega (arith, weighing.positive new, weighing.lighter on on' n, weighing.no_lighter oo oo' h'))
      (λ n. omega (arith, weighing.no_lighter on on' n, weighing.no_lighter oo' oo h))

  both_fall : less new old ≡ true → less new' old' ≡ true
      → Adds (cond (less old' old) true (cond (less old old') false (less new new')))
  both_fall f f' =
      cond_both Adds (less old' old) true (cond (less old old') false (less new new'))
      (λ h. below (omega (arith, weighing.positive old, weighing.lighter on oo f, weighing.lighter oo' oo h)))
      (λ h. cond_both Adds (less old old') false (less new new') falls_further (both_fall_alike h))
    where
      falls_further : less old old' ≡ true → Adds false
      falls_further h = not_below (omega (arith, weighing.lighter on' oo' f', weighing.lighter oo oo' h))

  both_rise_alike : less new new' ≡ false → less new' new ≡ false → Adds (less old' old)
  both_rise_alike h h' =
      told (less old' old)
      (λ n. omega (arith, weighing.positive old', weighing.lighter oo' oo n, weighing.no_lighter on' on h'))
      (λ n. omega (arith, weighing.no_lighter oo' oo n, weighing.no_lighter on on' h))

  both_rise : less old new ≡ true → less old' new' ≡ true
      → Adds (cond (less new new') true (cond (less new' new) false (less old' old)))
  both_rise r r' =
      cond_both Adds (less new new') true (cond (less new' new) false (less old' old))
      (λ h. below (omega (arith, weighing.positive new, weighing.lighter oo' on' r', weighing.lighter on on' h)))
      (λ h. cond_both Adds (less new' new) false (less old' old) rises_further (both_rise_alike h))
    where
      rises_further : less new' new ≡ true → Adds false
      rises_further h = not_below (omega (arith, weighing.lighter oo on r, weighing.lighter on' on h))

  only_first_falls : less new old ≡ true → less new' old' ≡ false → Adds true
  only_first_falls f h' = below (omega (arith, weighing.positive new, weighing.lighter on oo f, weighing.no_lighter on' oo' h'))

  only_second_falls : less new old ≡ false → less new' old' ≡ true → Adds false
  only_second_falls h f' = not_below (omega (arith, weighing.lighter on' oo' f', weighing.no_lighter on oo h))

  only_first_rises : less old new ≡ true → less old' new' ≡ false → Adds false
  only_first_rises r h' = not_below (omega (arith, weighing.lighter oo on r, weighing.no_lighter oo' on' h'))

  first_level : less new old ≡ false → less old new ≡ false → Adds (less old' new')
  first_level h r =
      told (less old' new')
      (λ r'. omega (arith, weighing.positive old', weighing.lighter oo' on' r', weighing.no_lighter oo on r))
      (λ r'. omega (arith, weighing.no_lighter oo' on' r', weighing.no_lighter on oo h))

  pub claim_order_by_weight : sized_claim_before old new old' new' ≡ ltb (w new + w old') (w new' + w old)
  unfolding sized_claim_before
  claim_order_by_weight =
      tells_ltb
      (cond_both Adds (less new old) _ _
      (λ f. cond_both Adds (less new' old') _ _ (both_fall f) (only_first_falls f))
      (λ h. cond_both Adds (less new' old') _ _
      (only_second_falls h)
      (λ _. cond_both Adds (less old new) _ _
      (λ r. cond_both Adds (less old' new') _ _ (both_rise r) (only_first_rises r))
      (first_level h))))
