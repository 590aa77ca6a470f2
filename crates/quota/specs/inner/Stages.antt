-- The stages that a state goes through while seats are given by turns. It is outside until it is able to have a seat beyond its whole part,
-- then it waits with the key of its quotient, and once it is served it is able to have no more up to the house. Two tournaments hold who is
-- next: of those outside to wait, and of those who wait to be served.
-- Assumes nothing.
use Rattle.std.specs.Prelude.{◌≡◌, Bool, true, cond, List, ℕ, zero, suc, ◌+◌, ◌-◌, ◌*◌, ◌/◌, ◌<◌, ◌≤◌, ltb, length, get_or}
use Rattle.std.proofs.Math.Path.{refl}
use Rattle.std.proofs.Common.{sym, ap, ◌∙◌, mul_comm, mul-le-mul, mul-le-mul_left, le_trans, div-lt_iff_lt-mul, le-div_iff_mul-le, arith}
use Rattle.std.proofs.Common.{lit≤, lt-ltb, le-ltb}
use Rattle.apportionment.specs.Limits.{house_limit}
use Rattle.apportionment.specs.Lists.{sum, among, first_place}
use Rattle.apportionment.specs.Quantities.{less}
use Rattle.apportionment.specs.Remainders.{whole_part}
use Rattle.apportionment.specs.Quota.{able, quotient, quotient_before, seat_goes_to}
use Rattle.apportionment.specs.inner.Tests.{either_way}
use Rattle.apportionment.specs.inner.Lists.{entry_at_most_sum}
use Rattle.claims.specs.inner.StandingOrder.{first_place_le}
use Rattle.keys.specs.inner.Keys.{key_of, keys_as_quotients, key_positive}
use Rattle.keys.specs.inner.Tournament.{larger, Played, root_lt, root_first}
use Rattle.quota.specs.inner.Serving.{Peopled}
use Rattle.quota.specs.inner.Quota.{someone}

-- ---- stages

-- The stage of a state of population p, of whole part m and with x seats, at place k: its entries in the two lists. The entry of one
-- outside is the larger the sooner it waits, H less the place from which it does.
pub data Stage (p P H m k x outer key : ℕ) : Type 0 where
  outside : x ≡ m → outer ≡ H - m * P / p → key ≡ 0 → Stage p P H m k x outer key
  waits : x ≡ m → outer ≡ 0 → key ≡ key_of p m → m * P / p ≤ k → Stage p P H m k x outer key
  served : x ≡ m + 1 → outer ≡ 0 → key ≡ 0 → Stage p P H m k x outer key

-- Every state is at a stage.
pub record Staged (ps : List ℕ) (H k : ℕ) (xs outers keys : List ℕ) : Type 0 where
  pub seats_long : length xs ≡ length ps
  pub outers_long : length outers ≡ length ps
  pub keys_long : length keys ≡ length ps
  pub each : (i : ℕ) → i < length ps
      → Stage (get_or ps i 0) (sum ps) H (whole_part ps H i) k (get_or xs i 0) (get_or outers i 0) (get_or keys i 0)

pub stage_later : {p P H m k l x outer key : ℕ} → k ≤ l → Stage p P H m k x outer key → Stage p P H m l x outer key
stage_later h (outside e f g) = outside e f g
stage_later h (waits e f g here) = waits e f g (le_trans here h)
stage_later h (served e f g) = served e f g

-- A state outside, from the place on that its entry tells, waits.
pub stage_admitted : {p P H m k x outer key : ℕ} → k < H → H - k ≤ outer → Stage p P H m k x outer key → Stage p P H m k x 0 (key_of p x)
stage_admitted {p} {P} {H} {m} {k} h due (outside e f g) = waits e refl (ap (key_of p) e) (omega (arith, h, due, f))
stage_admitted h due (waits e f g here) = absurd (omega (arith, h, due, f))
stage_admitted h due (served e f g) = absurd (omega (arith, h, due, f))

-- A state with a key waits, and is served with a seat more.
pub stage_served : {p P H m k x outer key : ℕ} → 0 < key → Stage p P H m k x outer key → Stage p P H m k (x + 1) outer 0
stage_served some (outside e f g) = absurd (omega (arith, some, g))
stage_served some (waits e f g here) = served (rw e) f refl
stage_served some (served e f g) = absurd (omega (arith, some, g))

-- Where no state outside is due, a state's key tells whether it is able to have the next number's seat, and its quotient.
key_tells : {p P H m k x outer key : ℕ} → 0 < p → 0 < P → m ≡ p * H / P → k < H → outer < H - k → Stage p P H m k x outer key
    → key ≡ cond (ltb (x * P) (p * (k + 1))) (key_of p x) 0
key_tells {p} {P} {H} {m} {k} some sum whole h none (outside e f g) =
    let later : k + 1 ≤ m * P / p = omega (arith, h, none, f) in
    let late : p * (k + 1) ≤ m * P = rw (mul_comm p (k + 1)) ((le-div_iff_mul-le some).0 later) in
    rw (e, le-ltb (m * P) (p * (k + 1)) late, g)
key_tells {p} {P} {H} {m} {k} some sum whole h none (waits e f g here) =
    let now_able : m * P < p * (k + 1) = rw (mul_comm p (k + 1)) ((div-lt_iff_lt-mul some).0 (omega (arith, here))) in
    rw (e, lt-ltb (m * P) (p * (k + 1)) now_able, g)
key_tells {p} {P} {H} {m} {k} some sum whole h none (served e f g) =
    let past : p * H < (m + 1) * P = (div-lt_iff_lt-mul sum).0 (omega (arith, whole)) in
    let within : p * (k + 1) ≤ p * H = mul-le-mul_left p (omega (arith, h)) in
    rw (e, le-ltb ((m + 1) * P) (p * (k + 1)) (omega (arith, past, within)), g)

-- ---- whose turn it is

first_place_agrees : (f g : ℕ → ℕ → Bool) (k : ℕ) → ((i j : ℕ) → i ≤ k → j ≤ k → f i j ≡ g i j) → first_place f k ≡ first_place g k
unfolding first_place
first_place_agrees f g zero h = refl
first_place_agrees f g (suc k) h =
    rw (
      first_place_agrees f g k (λ i j hi hj. h i j (omega arith) (omega arith)),
      h (suc k) (first_place g k) (omega arith) (omega (arith, first_place_le g k)),
    )

module _ {ps : List ℕ} (ok : Peopled ps) {H k : ℕ} {xs outers keys : List ℕ} (all : Staged ps H k xs outers keys) (inside : k < H)
    (within : sum xs ≤ house_limit) (none : (i : ℕ) → i < length ps → get_or outers i 0 < H - k) where
  key_at : (i : ℕ) → i < length ps → get_or keys i 0 ≡ cond (able ps (k + 1) xs i) (key_of (get_or ps i 0) (get_or xs i 0)) 0
  unfolding able whole_part
  key_at i hi = key_tells (ok.people i hi) (someone ok) refl inside (none i hi) (all.each i hi)

  few : (i : ℕ) → get_or xs i 0 + 1 ≤ house_limit + 1
  few i = omega (arith, entry_at_most_sum xs i, within)

  same_order : (i j : ℕ) → i < length ps → j < length ps
      → larger keys i j ≡ among (able ps (k + 1) xs) (quotient_before ps xs) i j
  unfolding larger among quotient_before less quotient
  same_order i j hi hj =
      rw (key_at i hi, key_at j hj)
      (either_way (able ps (k + 1) xs i)
      (λ one. either_way (able ps (k + 1) xs j)
      (λ two. rw (one, two) (sym (keys_as_quotients (get_or ps i 0) (get_or xs i 0) (get_or ps j 0) (get_or xs j 0)
      (le_trans (mul-le-mul (few i) (few j)) (lit≤ tt)))))
      (λ two. rw (one, two) (lt-ltb 0 (key_of (get_or ps i 0) (get_or xs i 0))
      (key_positive (get_or ps i 0) (get_or xs i 0) (ok.people i hi) (le_trans (few i) (lit≤ tt))))))
      (λ one. rw one (le-ltb (cond (able ps (k + 1) xs j) (key_of (get_or ps j 0) (get_or xs j 0)) 0) 0 (omega arith))))

  module _ {tree : List ℕ} (played : Played keys tree) where
    some_key : 0 < length keys
    some_key = omega (arith, ok.some, all.keys_long)

    pub turn_is_root : get_or tree 1 0 ≡ seat_goes_to ps (k + 1) xs
    unfolding seat_goes_to
    turn_is_root =
        root_first keys played some_key
        ∙ rw all.keys_long
        (first_place_agrees (larger keys) (among (able ps (k + 1) xs) (quotient_before ps xs)) (length ps - 1)
        (λ i j hi hj. same_order i j (omega (arith, ok.some)) (omega (arith, ok.some))))

    -- Where some state is able, the root has a key.
    pub root_waits : able ps (k + 1) xs (seat_goes_to ps (k + 1) xs) ≡ true → 0 < get_or keys (get_or tree 1 0) 0
    root_waits one =
        let root = get_or tree 1 0 in
        let inside_list : root < length ps = omega (arith, root_lt keys played some_key, all.keys_long) in
        let is_able : able ps (k + 1) xs root ≡ true = rw turn_is_root one in
        rw (key_at root inside_list, is_able)
        (key_positive (get_or ps root 0) (get_or xs root 0) (ok.people root inside_list) (le_trans (few root) (lit≤ tt)))
