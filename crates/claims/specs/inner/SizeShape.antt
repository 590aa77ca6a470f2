-- How a state's size changes with its seats: it falls while a P is at most p H and rises from there on, so a middle size is smaller than
-- the one before it or the one after it. All that is said of leximin's claims and of the nearest seats rests on these.
-- Assumes nothing.
use Rattle.std.specs.Prelude.{◌≡◌, true, ◌⊎◌, ℕ, suc, ◌+◌, ◌*◌, ◌<◌, ◌≤◌}
use Rattle.std.proofs.Common.{inl, inr, ⊎_elim, mul-pos, mul-le-mul_right, mul-lt-mul_of_pos_right, lt-suc_self, le_of_lt, lt_of_not-le}
use Rattle.std.proofs.Common.{arith}
use Rattle.std.proofs.Math.Nat.{mul-lt-mul_of_pos_left}
use Rattle.std.proofs.Math.Decide.{dec_le}
use Rattle.apportionment.specs.Quantities.{less, distance, size_of}
use Rattle.claims.specs.inner.Fractions.{less_of_products}

-- Either of two numbers is at most the other, or more.
pub le_or_lt : (a b : ℕ) → (a ≤ b) ⊎ (b < a)
le_or_lt a b = elim (dec_le a b) [ yes h ↦ inl h | no h ↦ inr (lt_of_not-le h) ]

-- ---- distances compared

distance_below : (n x : ℕ) → x ≤ n → distance n x + x ≡ n
unfolding distance
distance_below n x h = omega arith

distance_above : (n x : ℕ) → n ≤ x → x ≡ n + distance n x
unfolding distance
distance_above n x h = omega arith

products_below : (u v x y : ℕ) → x < y → u + y ≡ v + x → u * x < v * y
products_below u v x y h e = omega (arith, mul-le-mul_right {m = u} {n = v} x (omega arith), mul-lt-mul_of_pos_left {k = v} h (omega arith))

products_above : (n u v x y : ℕ) → 0 < n → u < v → x ≡ n + u → y ≡ n + v → u * y < v * x
products_above n u v x y z h p q = rw (p, q) (omega (arith, mul-lt-mul_of_pos_right h z))

-- Of two numbers up to n the larger is nearer to it, as a share of itself.
nearer_below : (n x y : ℕ) → x < y → y ≤ n → distance n y * x < distance n x * y
nearer_below n x y h k =
    products_below (distance n y) (distance n x) x y h
    (omega (arith, distance_below n y k, distance_below n x (omega arith)))

-- Of two numbers from n on the smaller is.
nearer_above : (n x y : ℕ) → 0 < n → n ≤ x → x < y → distance n x * y < distance n y * x
nearer_above n x y z h k =
    let p = distance_above n x h in
    let q = distance_above n y (omega arith) in
    products_above n (distance n x) (distance n y) x y z (omega (arith, p, q)) p q

-- ---- a state's sizes

pub size_positive : (p a P H : ℕ) → 0 < P → 0 < a → 0 < (size_of p a P H).under
unfolding size_of
size_positive p a P H h k = mul-pos k h

pub size_falls : (p P H a b : ℕ) → 0 < P → a < b → b * P ≤ p * H → less (size_of p b P H) (size_of p a P H) ≡ true
unfolding size_of
size_falls p P H a b z h k = less_of_products _ _ (nearer_below (p * H) (a * P) (b * P) (mul-lt-mul_of_pos_right h z) k)

pub size_rises : (p P H a b : ℕ) → 0 < p → 0 < P → 0 < H → p * H ≤ a * P → a < b → less (size_of p a P H) (size_of p b P H) ≡ true
unfolding size_of
size_rises p P H a b y z w h k =
    less_of_products _ _ (nearer_above (p * H) (a * P) (b * P) (mul-pos y w) h (mul-lt-mul_of_pos_right k z))

-- A middle size is smaller than the one before it or the one after it.
pub middle_smaller : (p P H a : ℕ) → 0 < p → 0 < P → 0 < H
    → (less (size_of p (suc a) P H) (size_of p a P H) ≡ true) ⊎ (less (size_of p (suc a) P H) (size_of p (suc (suc a)) P H) ≡ true)
middle_smaller p P H a y z w =
    ⊎_elim (λ h. inl (size_falls p P H a (suc a) z (lt-suc_self a) h))
    (λ h. inr (size_rises p P H (suc a) (suc (suc a)) y z w (le_of_lt h) (lt-suc_self (suc a))))
    (le_or_lt (suc a * P) (p * H))
