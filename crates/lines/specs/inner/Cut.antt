-- What reading a state's line hands on, so that no line is cut twice. A reader who only wants the grammar need not read this file.
-- Assumes nothing.
use Rattle.std.specs.Prelude.{◌≡◌, List, ℕ, length}
use Rattle.fields.specs.Grammar.{place_of}
use Rattle.fields.specs.Grammar.{line_feed}
use Rattle.lines.specs.Lines.{name_at, number_at}
use Rattle.lines.specs.inner.Fingerprints.{fingerprint_of}
use Rattle.lines.specs.declared.pairs.StateLine.{StateLine}

-- A line hands on its population, its name's fingerprint and length, and the place where it ends.
unfoldable pub line_read : List ℕ → StateLine
line_read s = record {
  population = number_at s;
  print = fingerprint_of (name_at s);
  width = length (name_at s);
  end = place_of line_feed s;
}

-- So the code makes it, by the parts that it has.
pub line_by_parts : {p print end : ℕ} (s name : List ℕ) → p ≡ number_at s → print ≡ fingerprint_of name → name ≡ name_at s
    → end ≡ place_of line_feed s
    → record { population = p; print = print; width = length name; end = end } ≡ line_read s
unfolding line_read
line_by_parts s name people printed named ended = cc
