-- `remainders::precedence` meets its contract: what the whole part leaves of p H is its remainder, and its weight leaves room for p.
use mathlib.Core.Path.{◌≡◌, sym}
use Prim.Native.Nat.{ℕ, ◌-◌, ◌*◌, ◌%◌, ◌≤◌}
use native.Mathlib.Omega.{arith}
use native.Mathlib.Nat.{div-mul-le_self, mod-eq-sub-div-mul, mod-lt}
use Rattle.apportionment.specs.Limits.{sum_limit}
use Rattle.remainders.specs.inner.Precedence.{precedence_of, Share, weighted_fits, weighted_leaves_room}
use Rattle.remainders.proofs.precedence.Goals as goal

-- What the whole part leaves is the remainder.
left_is_remainder : {p whole P H : ℕ} → Share p whole P H → p * H - whole * P ≡ p * H % P
left_is_remainder {p} {whole} {P} {H} s = rw s.whole_is (sym (mod-eq-sub-div-mul (p * H) P))

-- The total, the population and what the whole part leaves are within the largest sum.
within_limit : {p whole P H : ℕ} → Share p whole P H → (P ≤ sum_limit) × (p ≤ sum_limit) × (p * H - whole * P ≤ sum_limit)
within_limit {p} {whole} {P} {H} s = (
  s.sum_within,
  omega (arith, s.people, s.sum_within),
  omega (arith, left_is_remainder s, mod-lt (p * H) s.someone, s.sum_within),
)

pub overflow_mul-remainder : goal.overflow_mul-remainder
overflow_mul-remainder c = c.requires.fits

pub overflow_mul-remainder-2 : goal.overflow_mul-remainder-2
overflow_mul-remainder-2 c =
    rw c.requires.whole_is
    (omega (arith, c.requires.fits.fits, div-mul-le_self (c.args.population * c.args.house) c.args.total))

pub overflow_sub-remainder : goal.overflow_sub-remainder
overflow_sub-remainder c = rw c.requires.whole_is (div-mul-le_self (c.args.population * c.args.house) c.args.total)

pub overflow_mul-result : goal.overflow_mul-result
overflow_mul-result c =
    let small = within_limit c.requires in
    weighted_fits (omega (arith, small.0, small.1, small.2))

pub overflow_add-result : goal.overflow_add-result
overflow_add-result c =
    let small = within_limit c.requires in
    weighted_leaves_room (omega (arith, small.0, small.1, small.2)) (omega (arith, small.0, small.1, small.2))

pub returns : goal.returns
unfolding precedence_of
returns c = rw (left_is_remainder c.requires)
