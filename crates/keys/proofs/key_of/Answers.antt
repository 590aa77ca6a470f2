-- `keys::key_of` meets its contract: the product fits, since the sum of all populations is below two to the thirty-second.
use mathlib.Core.Path.{refl}
use Rattle.keys.specs.inner.Keys.{key_of}
use Rattle.keys.proofs.key_of.Goals as goal

pub returns : goal.returns
unfolding key_of
returns c = refl
