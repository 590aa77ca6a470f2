-- `keys::KeysContest::better_of` meets its contract: whichever of the two keys is larger, and by place where they are equal.
use native.Mathlib.Omega.{arith}
use Rattle.keys.specs.inner.Tournament.{later_larger, first_larger, equal_earlier, equal_later}
use Rattle.keys.proofs.KeysContest.better_of.Goals as goal

pub returns-then-one-other : goal.returns-then-one-other
returns-then-one-other c =
    later_larger c.args.self.now.keys.now _ _ c.if-one-other.true

pub returns-then-other-one : goal.returns-then-other-one
returns-then-other-one c =
    first_larger c.args.self.now.keys.now _ _ c.if-other-one.true

pub returns-then-a-b : goal.returns-then-a-b
returns-then-a-b c =
    equal_earlier c.args.self.now.keys.now _ _ c.if-one-other.false (omega arith)

pub returns : goal.returns
returns c =
    equal_later c.args.self.now.keys.now _ _ c.if-other-one.false (omega arith)
