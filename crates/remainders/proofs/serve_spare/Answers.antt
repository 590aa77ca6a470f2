use Rattle.apportionment.specs.inner.Filling.{fill_starts, fill_goes_on, rest_is_kept}
use mathlib.Core.Path.{◌≡◌, refl, sym, ap, ◌∙◌}
use native.Mathlib.Omega.{arith}
use lib.ListN.{length, get_or}
use Rattle.remainders.specs.inner.Serving.{extra_by, spare_after, spare_at, spare_one_more, at_most_one_served}
use Rattle.remainders.proofs.serve_spare.Goals as goal

pub loop-i-init : goal.loop-i-init
unfolding spare_at
loop-i-init c = (fill_starts _ _ _ refl, (λ k h. refl), refl)

pub returns-then-rest-eq0 : goal.returns-then-rest-eq0
returns-then-rest-eq0 c =
    let so_far = c.loop-i.invariant in
    record { done = so_far.0; kept = so_far.1; none = λ h. sym so_far.2 ∙ c.if-rest-eq0.true }

pub overflow_add-seats : goal.overflow_add-seats
overflow_add-seats c =
    let i = c.loop-i.i in
    let own = get_or c.args.precedences.now i 0 in
    omega (
      arith,
      c.loop-i.invariant.1 i (omega arith),
      c.requires.seats_fit i c.loop-i-test.true,
      at_most_one_served own c.args.bar c.loop-i.rest,
      c.extra_seat.ensures,
    )

pub loop-i-preserved : goal.loop-i-preserved
loop-i-preserved c =
    let xs = c.args.precedences.now in
    let bar = c.args.bar in
    let i = c.loop-i.i in
    let kept = c.loop-i.invariant.1 in
    let rest = c.loop-i.invariant.2 in
    let extra = c.extra_seat.ensures ∙ ap (extra_by (get_or xs i 0) bar) rest in
    let spare = c.spare_after-rest.ensures ∙ ap (spare_after (get_or xs i 0) bar) rest in (
      fill_goes_on _ _ _ _ _
          (omega (arith, c.requires.same_length, c.loop-i-test.true))
          (omega (arith, kept i (omega arith), extra))
          c.loop-i.invariant.0,
      rest_is_kept c.loop-i.seats c.args.seats.now i _ kept,
      spare ∙ sym (spare_one_more xs bar c.args.spare i),
    )

pub returns : goal.returns
returns c =
    let xs = c.args.precedences.now in
    let all : c.loop-i.i ≡ length xs = omega (arith, c.loop-i-test.false) in
    let so_far = c.loop-i.invariant in
    record {
      done = rw all at so_far.0;
      kept = λ k h. so_far.1 k (omega arith);
      none = λ h. absurd (omega arith);
    }
