use Rattle.apportionment.specs.inner.Filling.{fill_goes_on, fill_ends, rest_is_kept}
use mathlib.Core.Path.{refl}
use native.Mathlib.Omega.{arith}
use lib.ListN.{get_or}
use Rattle.remainders.specs.inner.Serving.{at_most_one_served}
use Rattle.remainders.specs.inner.Seats.{served_from_here, serving_from_starts}
use Rattle.remainders.proofs.serve_above.Goals as goal

pub loop-i-init : goal.loop-i-init
loop-i-init c =
    let xs = c.args.precedences.now in (
      serving_from_starts xs c.args.bar _ _ (omega (arith, c.requires.reached, c.requires.same_length)),
      (λ k h. refl),
      omega arith,
    )

pub overflow_add-seats : goal.overflow_add-seats
overflow_add-seats c =
    let i = c.loop-i.i in
    let own = get_or c.args.precedences.now i 0 in
    omega (
      arith,
      c.loop-i.invariant.1 i (omega arith),
      c.requires.seats_fit i c.loop-i.invariant.2 c.loop-i-test.true,
      at_most_one_served own c.args.bar 0,
      c.extra_seat.ensures,
    )

pub loop-i-preserved : goal.loop-i-preserved
loop-i-preserved c =
    let seats = c.args.seats.now in
    let i = c.loop-i.i in
    let kept = c.loop-i.invariant.1 in
    let here = served_from_here c.args.precedences.now c.args.bar c.args.from seats i c.loop-i.invariant.2 in (
      fill_goes_on _ _ _ _ _
          (omega (arith, c.requires.same_length, c.loop-i-test.true))
          (omega (arith, kept i (omega arith), c.extra_seat.ensures, here))
          c.loop-i.invariant.0,
      rest_is_kept c.loop-i.seats seats i _ kept,
      omega (arith, c.loop-i.invariant.2),
    )

pub returns : goal.returns
returns c =
    fill_ends _ _ _ _ (omega (arith, c.requires.same_length, c.loop-i-test.false)) c.loop-i.invariant.0
