-- The page has room for the line of any two numbers.
use Rattle.std.proofs.Common.{arith, rules}
use Rattle.text.specs.inner.Bounds.{refusal_line_length}
use Rattle.work.specs.inner.Way.{ends_on_page}
use Rattle.work.proofs.print_refusal.Goals as goal

pub print_page-requires-clause-fits : goal.print_page-requires-clause-fits
print_page-requires-clause-fits g c = λ size written returned.
    let fits = refusal_line_length c.args.number c.args.line (omega arith) (omega arith) in
    search (rules, ends_on_page)
