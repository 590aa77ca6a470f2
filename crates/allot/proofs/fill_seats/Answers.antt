-- `allot::fill_seats` meets its contract: each way's own function gives the seats and the steps of that way, which is the method's.
use mathlib.Core.Path.{refl}
use Rattle.allot.specs.inner.Ways.{filled_as_found, leximin_seats_every_state}
use Rattle.allot.proofs.fill_seats.Goals as goal

pub fill_leximin-requires : goal.fill_leximin-requires
fill_leximin-requires c =
    let every = leximin_seats_every_state c.args.method c.way_of-way.ensures c.in-Leximin.is in
    (c.requires.0, c.requires.1 every)

pub returns-in-Leximin : goal.returns-in-Leximin
returns-in-Leximin c =
    filled_as_found c.args.method _ _ c.way_of-way.ensures c.in-Leximin.is
    c.fill_leximin.ensures.seats
    c.fill_leximin.ensures.steps

pub returns-in-Divisor : goal.returns-in-Divisor
returns-in-Divisor c =
    filled_as_found c.args.method _ _ c.way_of-way.ensures c.in-Divisor.is
    c.fill_divisor.ensures
    refl

pub returns-in-Remainders : goal.returns-in-Remainders
returns-in-Remainders c =
    filled_as_found c.args.method _ _ c.way_of-way.ensures c.in-Remainders.is
    c.fill_remainders.ensures
    refl

pub returns-in-Quota : goal.returns-in-Quota
returns-in-Quota c =
    filled_as_found c.args.method _ _ c.way_of-way.ensures c.in-Quota.is
    c.fill_quota.ensures
    refl
