-- `keys::set_key` meets its contract: a changed key leaves due only the way up from its place.
use Rattle.keys.specs.inner.Tournament.{key_changed}
use Rattle.keys.proofs.set_key.Goals as goal

pub replay-requires-clause-inside : goal.replay-requires-clause-inside
replay-requires-clause-inside c =
    (key_changed c.args.keys.now c.args.place c.args.key c.requires.0 c.requires.1).0

pub replay-requires-clause-due : goal.replay-requires-clause-due
replay-requires-clause-due c =
    (key_changed c.args.keys.now c.args.place c.args.key c.requires.0 c.requires.1).1
