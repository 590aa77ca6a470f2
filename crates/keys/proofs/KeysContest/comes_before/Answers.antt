-- `keys::KeysContest::comes_before` meets its contract: the larger key comes first.
use Rattle.std.proofs.Common.{refl}
use Rattle.keys.specs.inner.Tournament.{larger}
use Rattle.keys.proofs.KeysContest.comes_before.Goals as goal

pub returns : goal.returns
unfolding larger
returns c = refl
