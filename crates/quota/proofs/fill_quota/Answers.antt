-- `quota::fill_quota` meets its contract: there is a count for each number of the house, which the limit allows, and all are zeros.
use native.Mathlib.Omega.{arith}
use lib.ListN.{length-take}
use Rattle.apportionment.specs.Limits.{house_limit}
use Rattle.apportionment.specs.inner.Lists.{sum_first_zeros}
use Rattle.quota.proofs.fill_quota.Goals as goal

pub slice_bounds-fill_counted-end : goal.slice_bounds-fill_counted-end
slice_bounds-fill_counted-end c =
    simp length-take (omega (arith, c.requires.problem.house_within))

pub fill_counted-requires : goal.fill_counted-requires
fill_counted-requires c =
    record {
      fillable = c.requires;
      due_len = (simp length-take (omega (arith, c.requires.problem.house_within)), sum_first_zeros c.args.house house_limit);
    }
