-- The rows of a register's states, for crates that walk them or that look a name up: where the name of each row stands.
-- Assumes nothing.
use Rattle.std.specs.Prelude.{◌≡◌, refl, List, ℕ, ◌+◌, ◌<◌, ◌≤◌, length, get_or, Result, IfOk}
use Rattle.std.proofs.Common.{add-one, arith}
use Rattle.apportionment.specs.Limits.{state_limit}
use Rattle.fields.specs.Grammar.{word_limit}
use Rattle.fields.specs.inner.Grammar.{name_length}
use Rattle.apportionment.specs.Refusals.{accepted}
use Rattle.apportionment.specs.declared.refusals.Refused.{Refused}
use Rattle.lines.specs.declared.NamePlace.{NamePlace}
use Rattle.lines.specs.inner.Places.{FrontOf, EndOf, end_of_end, rest_is_end, name_is_front, no_place, Stands, NamesAt}
use Rattle.register.specs.Register.{reading_of}
use Rattle.register.specs.Register.{rows_of, lines_after, name_in_row}
use Rattle.register.specs.inner.Names.{lines_next}
use Rattle.register.specs.inner.Sound.{reading_named}
use Rattle.register.specs.declared.Reading.{Reading}
use Rattle.register.specs.inner.Kept.{lines_are_end, name_on_line}

-- ---- walking the rows

pub rows_next : (k : ℕ) (rows : List ℕ) → lines_after (k + 1) rows ≡ lines_after 1 (lines_after k rows)
unfolding lines_after
rows_next k rows = rw add-one (lines_next k rows)

-- The first of the rows that are left after k of them is row k.
pub name_of_first : (k : ℕ) (rows : List ℕ) → name_in_row (lines_after k rows) 0 ≡ name_in_row rows k
unfolding lines_after
name_of_first k rows = refl

-- ---- where names stand

-- The rows from a state's on are an end of the register ..
pub row_is_end : (s : List ℕ) (k : ℕ) → EndOf s (lines_after k (rows_of s))
row_is_end s k = end_of_end (rest_is_end s) (lines_are_end k (rows_of s))

-- .. which its name starts.
pub name_is_first : (rows : List ℕ) (k : ℕ) → FrontOf (lines_after k rows) (name_in_row rows k)
name_is_first rows k = name_is_front (lines_after k rows)

-- Room for the places of as many names as there may be.
abbrev pub PlacesRoom : (places : List NamePlace) → Type 0
PlacesRoom places = length places ≡ state_limit

-- The first n of a list of places hold the names of the first n rows, counted from where the rows start.
abbrev pub Placed : (n : ℕ) (rows : List ℕ) (places : List NamePlace) → Type 0
Placed n rows places = NamesAt n rows places

-- So does the list of a register that is read.
abbrev pub PlacedIn : (s : List ℕ) (places : List NamePlace) → Result Reading Refused → Type 0
PlacedIn s places read = IfOk read (λ reading. Placed reading.states (rows_of s) places)

-- The name of the row with one place stands where the list says.
pub record PlacedAt (place : ℕ) (rows : List ℕ) (places : List NamePlace) : Type 0 where
  pub few : place < state_limit
  pub known : place < length places
  pub stands : Stands rows (name_in_row rows place) (get_or places place no_place).start (get_or places place no_place).end

pub placed_at : {n : ℕ} {rows : List ℕ} {places : List NamePlace} → Placed n rows places → (place : ℕ) → place < n
    → PlacedAt place rows places
placed_at {n} {rows} {places} all place below = record {
  few = omega (arith, all.few);
  known = omega (arith, all.few, all.room);
  stands = rw (name_on_line place rows) at (all.each place below);
}

-- ---- names are short

-- The most bytes of a name.
abbrev pub name_limit : ℕ
name_limit = word_limit

pub name_limited : (s : List ℕ) → (reading_of s).refusal ≡ accepted
    → (k : ℕ) → k < (reading_of s).states → length (name_in_row (rows_of s) k) ≤ name_limit
name_limited s good k below = (name_length _ (reading_named s good k below)).1
