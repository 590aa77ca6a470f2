-- `Page::put_decimal` meets its contract: a number below ten is its digit, any other its tens followed by its last digit.
use Rattle.std.proofs.Common.{arith, ◌≡◌, ◌<◌, ◌%◌}
use Rattle.apportionment.specs.inner.Decimal.{decimal_one, decimal_more}
use Rattle.writing.specs.inner.Page.{appended_then}
use Rattle.writing.proofs.Page.+put_decimal.Goals as goal
use Rattle.writing.proofs.Page.+put_decimal.Goals.{then-n-ge10, else-n-ge10}

pub returns : goal.returns
returns t c =
    let below : c.args.n < 10 → c.args.n % 10 ≡ c.args.n = λ few. omega arith in
    elim c.if-n-ge10.branch [
      | then-n-ge10 w ↦ rw (decimal_more c.args.n (omega arith)) (appended_then w.put_decimal.ensures (rw w.self-is at c.put_digit.ensures))
      | else-n-ge10 w ↦ rw (decimal_one c.args.n (omega arith)) (rw (w.self-is, below (omega arith)) at c.put_digit.ensures)
    ]
