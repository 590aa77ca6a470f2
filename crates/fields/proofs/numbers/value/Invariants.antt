-- `value` takes up one digit after the other: the digits before the place reached came to `v`, which has no more places than they are.
use Rattle.std.proofs.Common.{◌≡◌, ◌^◌, ◌<◌, drop}
use Rattle.fields.specs.Grammar.{value_from}
use Rattle.fields.proofs.numbers.value.Given as goal

abbrev pub invariant-loop-digit : goal.invariant-loop-digit
invariant-loop-digit l = (l.v < 10 ^ l.digit-index) × (value_from 0 l.f ≡ value_from l.v (drop l.digit-index l.f))
