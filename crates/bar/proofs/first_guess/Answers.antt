-- `bar::first_guess` meets its contract: the shares of the seats left are no more than what lies between the ends.
use native.Mathlib.Omega.{arith}
use Prim.Native.Nat.{◌-◌}
use Rattle.bar.specs.inner.Search.{shares_within}
use Rattle.bar.proofs.first_guess.Goals as goal

pub overflow_mul-result : goal.overflow_mul-result
overflow_mul-result c =
    record { fits = omega (arith, shares_within (c.args.high - 1 - c.args.low) c.args.states c.args.left c.requires.1) }

pub overflow_sub-result-2 : goal.overflow_sub-result-2
overflow_sub-result-2 c = omega (arith, shares_within (c.args.high - 1 - c.args.low) c.args.states c.args.left c.requires.1)

pub returns : goal.returns
returns c = omega (arith, shares_within (c.args.high - 1 - c.args.low) c.args.states c.args.left c.requires.1)
