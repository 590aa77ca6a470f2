-- `read_field` goes down the line: what is to be known of its first field is what is known of the rest after the bytes passed.
use Rattle.std.proofs.Common.{◌≡◌, ◌<◌, drop}
use Rattle.lines.specs.inner.Fingerprints.{fingerprint_span, field_from, field_read}
use Rattle.lines.proofs.fingerprints.read_field.Given as goal

abbrev pub invariant-loop-end : goal.invariant-loop-end
invariant-loop-end l = (l.h < fingerprint_span) × (field_read l.line ≡ field_from l.end l.plain l.h (drop l.end l.line))
