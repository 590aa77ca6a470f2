-- The start can be shown, and so can the placing that the steps end at; the page has room for both.
use Rattle.std.proofs.Common.{arith, rules}
use Rattle.showing.specs.inner.Room.{start_fits, end_fits}
use Rattle.work.specs.inner.Way.{ends_on_page, on_the_way_shown, start_shown}
use Rattle.work.proofs.show_way.Goals as goal

pub print_page-requires : goal.print_page-requires
print_page-requires g c =
    let shown = start_shown c.requires in
    let fits = start_fits shown in
    record { callable = record { at = λ a. search rules }; fits = λ size written returned. search (rules, ends_on_page) }

pub print_page-requires-2 : goal.print_page-requires-2
print_page-requires-2 g c =
    let shown = on_the_way_shown c.requires _ c.in_ok-end.ensures (omega arith) in
    let fits = end_fits shown in
    record { callable = record { at = λ a. search rules }; fits = λ size written returned. search (rules, ends_on_page) }
