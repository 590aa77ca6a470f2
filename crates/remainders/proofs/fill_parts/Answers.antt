use mathlib.Core.Path.{◌≡◌, refl, ap, ◌∙◌}
use Prim.Native.Nat.{ℕ, ◌+◌}
use native.Mathlib.Omega.{arith}
use lib.ListN.{length, get_or}
use Rattle.apportionment.specs.Lists.{sum, list_of}
use Rattle.apportionment.specs.Remainders.{whole_part}
use Rattle.apportionment.specs.inner.Lists.{sum-list_of_more}
use Rattle.apportionment.specs.inner.Problem.{sum_above_zero}
use Rattle.apportionment.specs.inner.Filling.{fill_starts, fill_goes_on, fill_ends}
use Rattle.apportionment.specs.inner.WholeParts.{share_fits, whole_part_is, whole_parts_within}
use Rattle.bar.specs.inner.Search.{min_is, max_is}
use Rattle.remainders.specs.inner.Precedence.{precedence_of, state_share}
use Rattle.remainders.specs.inner.Seats.{spans_none, spans_on}
use Rattle.remainders.proofs.fill_parts.Goals as goal

pub loop-i-init : goal.loop-i-init
unfolding list_of sum
loop-i-init c =
    (fill_starts _ _ _ c.requires.precedences_len, fill_starts _ _ _ c.requires.fillable.same_length, refl, spans_none _ _ _)

pub overflow_mul-whole : goal.overflow_mul-whole
overflow_mul-whole c =
    share_fits c.requires.fillable.problem c.loop-i.i

pub nonzero_div-whole : goal.nonzero_div-whole
nonzero_div-whole c =
    omega (arith, sum_above_zero c.requires.fillable.problem.states)

pub precedence-own-requires : goal.precedence-own-requires
precedence-own-requires c =
    state_share c.requires.fillable.problem c.loop-i.i

pub overflow_add-given : goal.overflow_add-given
overflow_add-given c =
    let ok = c.requires.fillable.problem in
    let i = c.loop-i.i in
    omega (
      arith,
      c.loop-i.invariant.2,
      whole_part_is ok i,
      sum-list_of_more (whole_part c.args.populations.now c.args.house) i,
      whole_parts_within ok (i + 1),
      ok.house_within,
    )

pub loop-i-preserved : goal.loop-i-preserved
loop-i-preserved c =
    let ps = c.args.populations.now in
    let H = c.args.house in
    let i = c.loop-i.i in
    let p = get_or ps i 0 in
    let so_far = c.loop-i.invariant in
    let ok = c.requires.fillable.problem in
    let whole = whole_part_is ok i in
    let own = c.precedence-own.ensures ∙ ap (λ (P : ℕ). precedence_of p P H) ok.states.sums in
    let least = c.min-least.ensures ∙ min_is _ _ in
    let greatest = c.max-greatest.ensures ∙ max_is _ _ in (
      fill_goes_on _ _ _ _ _ c.loop-i-test.true own so_far.0,
      fill_goes_on _ _ _ _ _ c.loop-i-test.true whole so_far.1,
      omega (arith, so_far.2, sum-list_of_more (whole_part ps H) i, whole),
      spans_on _ _ _ _ _ _ _ so_far.3 own least greatest,
    )

pub returns : goal.returns
returns c =
    let ps = c.args.populations.now in
    let H = c.args.house in
    let so_far = c.loop-i.invariant in
    let all : c.loop-i.i ≡ length ps = omega (arith, so_far.0.reached, c.loop-i-test.false) in
    let sum_to : ℕ → ℕ = λ (k : ℕ). sum (list_of (whole_part ps H) k) in
    record {
      precedences_are = fill_ends _ _ _ _ c.loop-i-test.false so_far.0;
      seats_are = fill_ends _ _ _ _ c.loop-i-test.false so_far.1;
      given_is = so_far.2 ∙ ap sum_to all;
      spans = rw all at so_far.3;
    }
