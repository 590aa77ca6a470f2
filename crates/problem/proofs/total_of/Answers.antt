use Rattle.std.proofs.Common.{◌≡◌, ◌∙◌, sym, arith}
use Rattle.apportionment.specs.Lists.{sum}
use Rattle.problem.specs.inner.Populations.{sum_from, sum_past_end}
use Rattle.problem.specs.inner.Total.{total_is_sum, total_past_limit}
use Rattle.problem.proofs.total_of.Goals as goal

pub returns-then-total-p : goal.returns-then-total-p
returns-then-total-p c =
    let ps = c.args.populations.now in
    sym (total_past_limit ps (omega (arith, sum_from ps c.loop-p.p-index c.loop-p-test.true)))

pub loop-p-preserved : goal.loop-p-preserved
loop-p-preserved c = omega (arith, sum_from c.args.populations.now c.loop-p.p-index c.loop-p-test.true)

pub returns : goal.returns
returns c =
    let ps = c.args.populations.now in
    let all : sum ps ≡ c.loop-p.total = omega (arith, sum_past_end ps c.loop-p.p-index c.loop-p-test.false) in
    sym (total_is_sum ps (omega arith) ∙ all)
