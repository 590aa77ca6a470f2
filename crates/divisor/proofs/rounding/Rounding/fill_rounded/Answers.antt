use Rattle.std.proofs.Common.{arith}
use Rattle.divisor.specs.inner.Rounding.{each_share_fits, own_at_most, filling_none, filling_more, filling_done}
use Rattle.divisor.proofs.rounding.Rounding.fill_rounded.Goals as goal

pub loop-i-init : goal.loop-i-init
loop-i-init c = filling_none c.args.self.method c.requires.0 c.requires.2 _ c.requires.1

pub rounded_of-own-requires : goal.rounded_of-own-requires
rounded_of-own-requires c = each_share_fits c.requires.0 c.requires.2 c.loop-i.i

pub overflow_add-given : goal.overflow_add-given
overflow_add-given c =
    let own = own_at_most c.args.self.method c.requires.0 c.requires.2 c.loop-i.i c.rounded_of-own.result c.rounded_of-own.ensures in
    omega (arith, own, c.loop-i.invariant.small, c.requires.0.states_within)

pub loop-i-preserved : goal.loop-i-preserved
loop-i-preserved c =
    filling_more c.args.self.method c.requires.0 c.requires.2 c.loop-i.invariant c.loop-i-test.true c.rounded_of-own.ensures

pub returns : goal.returns
returns c = filling_done c.args.self.method c.requires.0 c.requires.2 c.loop-i.invariant c.loop-i-test.false
