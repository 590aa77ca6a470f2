-- What is written as a register is read back: names and populations within the limits, on a line each, after a head and before their sum.
-- So whoever writes a register shows only what its lines are.
-- Assumes nothing.
use Rattle.std.specs.Prelude.{◌≡◌, true, false, List, [], ◌∷◌, ◌++◌, get_or, set, take, drop, replicate}
use Rattle.std.proofs.Math.Path.{refl}
use Rattle.std.proofs.Common.{sym, ap, ◌∙◌, append-nil, le-ltb, take-append-drop, length-drop, length-take-le, take-suc, get_or-take}
use Rattle.std.proofs.Common.{get_or-drop, take-take, ext_get_or}
use Prim.Native.Nat.{ℕ, zero, suc, ◌+◌, ◌-◌, ◌<◌, ◌≤◌}
use Rattle.std.proofs.Math.Numerals.{add-one}
use native.Mathlib.Omega.{arith}
use Rattle.std.proofs.Math.ListN.{length}
use Rattle.std.proofs.lemmas.List.{length-replicate, set_at}
use Rattle.std.proofs.Math.Seq.{take_all, append_snoc}
use Rattle.apportionment.specs.Limits.{state_limit, house_limit, sum_limit, register_limit}
use Rattle.apportionment.specs.Refusals.{accepted}
use Rattle.apportionment.specs.Lists.{sum, same_list}
use Rattle.apportionment.specs.inner.Lists.{entry_at_most_sum, zeros_at}
use Rattle.apportionment.specs.Text.{bytes_of, decimal}
use Rattle.apportionment.specs.declared.Method.{Method}
use Rattle.fields.specs.Grammar.{place_of, all_between}
use Rattle.fields.specs.Grammar.{comma, rest_of, is_name}
use Rattle.fields.specs.inner.Grammar.{name_length}
use Rattle.fields.specs.inner.Written.{Without, Printable, name_printable, number_printable}
use Rattle.lines.specs.Lines.{name_at, used_in, state_refusal}
use Rattle.lines.specs.inner.Places.{used_on_none}
use Rattle.lines.specs.inner.Written.{Pair, pair_text, pair_written, pair_number, state_written, closing_written, name_without_comma}
use Rattle.lines.specs.inner.Written.{HeadFields, head_text, head_fields, head_written}
use Rattle.lines.specs.Lines.{HeadOutcome}
use Rattle.register.specs.Register.{no_populations, accepts, end_of, closing_of, states_from, states_of, lines_of, reading_of}
use Rattle.register.specs.Register.{populations_in}
use Rattle.register.specs.Register.{lines_after, name_of}
use Rattle.register.specs.inner.Names.{lines_next}
use Rattle.register.specs.inner.Register.{states_passed}
use Rattle.register.specs.inner.Kept.{name_on_line}
use Rattle.register.specs.inner.Rows.{name_limit}
use Rattle.register.specs.inner.Sound.{sum_last, reading_sound, reading_lined, reading_named, reading_apart, name_there}
use Rattle.register.specs.Register.{ReadingOutcome}

-- ---- what may be written

-- States that a register may have: their names, by places from 0 on, and their populations.
pub record Writable (name : ℕ → List ℕ) (ps : List ℕ) : Type 0 where
  pub states : (1 ≤ length ps) × (length ps ≤ state_limit)
  pub peopled : (i : ℕ) → i < length ps → 1 ≤ get_or ps i 0
  pub limited : sum ps ≤ sum_limit
  pub named : (i : ℕ) → i < length ps → is_name (name i) ≡ true
  pub whole : (i : ℕ) → i < length ps → Without comma (name i)
  pub apart : (i j : ℕ) → i < j → j < length ps → same_list (name i) (name j) ≡ false

-- Their names are short.
pub writable_short : {name : ℕ → List ℕ} {ps : List ℕ} → Writable name ps → (i : ℕ) → i < length ps → length (name i) ≤ name_limit
writable_short {name} fit i below = (name_length (name i) (fit.named i below)).1

-- The bytes of a register, line by line: its head, a row for each state, and the closing line. What is left from a state's row on, or from
-- the closing line on, goes by places.
pub record LaidOut (s : List ℕ) (m : Method) (H : ℕ) (name : ℕ → List ℕ) (ps : List ℕ) (rows : ℕ → List ℕ) : Type 0 where
  pub head : s ≡ head_text (bytes_of "register") m H (length ps) ++ rows 0
  pub each : (k : ℕ) → k < length ps → rows k ≡ pair_text (name k) (decimal (get_or ps k 0)) ++ rows (suc k)
  pub last : rows (length ps) ≡ pair_text (bytes_of "total") (decimal (sum ps))

-- ---- what is read

-- Populations with 0s past them, as many as a register may have.
unfoldable pub padded : (k : ℕ) → List ℕ → List ℕ
padded k ps = take k ps ++ replicate (state_limit - k) 0

-- What reading gives where it accepts.
unfoldable pub reading_with : Method → (H : ℕ) (ps : List ℕ) → ReadingOutcome
reading_with m H ps =
    accepts (record { refusal = accepted; method = m; house = H; states = length ps }) (sum ps) (padded (length ps) ps)

-- One population more.
padded_more : (k : ℕ) (ps : List ℕ) → k < length ps → length ps ≤ state_limit
    → set (padded k ps) k (get_or ps k 0) ≡ padded (k + 1) ps
unfolding padded
padded_more k ps inside few =
    let left : state_limit - k ≡ suc (state_limit - (k + 1)) = omega arith in
    rw (left, set_at (take k ps) 0 (replicate (state_limit - (k + 1)) 0) (get_or ps k 0) k (length-take-le k ps (omega arith)), add-one)
    (sym (ap (λ (xs : List ℕ). xs ++ replicate (state_limit - suc k) 0) (take-suc ps k 0 inside)
    ∙ append_snoc (take k ps) (get_or ps k 0) (replicate (state_limit - suc k) 0)))

sum_more : (k : ℕ) (ps : List ℕ) → k < length ps → sum (take k ps) + get_or ps k 0 ≡ sum (take (k + 1) ps)
sum_more k ps inside = rw (add-one, take-suc ps k 0 inside) (sym (sum_last (take k ps) (get_or ps k 0)))

sum_front : (k : ℕ) (ps : List ℕ) → sum (take k ps) ≤ sum ps
unfolding sum
sum_front zero ps = omega arith
sum_front (suc k) [] = omega arith
sum_front (suc k) (p ∷ ps) = omega (arith, sum_front k ps)

-- ---- from the rows

-- What is read from each row on, and from the closing line on.
record Rows (name : ℕ → List ℕ) (ps : List ℕ) (rows : ℕ → List ℕ) : Type 0 where
  pub each : (k : ℕ) → k < length ps → Pair (rows k) (name k) (decimal (get_or ps k 0)) (rows (suc k))
  pub last : Pair (rows (length ps)) (bytes_of "total") (decimal (sum ps)) []

module _ {name : ℕ → List ℕ} {ps : List ℕ} {rows : ℕ → List ℕ} (written : Rows name ps rows) where
  rows_are_lines : (k : ℕ) → k ≤ length ps → lines_after k (rows 0) ≡ rows k
  unfolding lines_after
  rows_are_lines zero few = refl
  rows_are_lines (suc k) few =
      lines_next k (rows 0) ∙ rw (rows_are_lines k (omega arith)) (written.each k (omega arith)).then

  -- The name on each row.
  name_in_rows : (k : ℕ) → k < length ps → name_at (lines_after k (rows 0)) ≡ name k
  name_in_rows k below = rw (rows_are_lines k (omega arith)) (written.each k below).name

  module _ (fit : Writable name ps) (head : HeadOutcome) where
    unused : (k : ℕ) → k < length ps → used_in k (rows 0) (name k) ≡ false
    unused k below =
        used_on_none k (rows 0) (name k)
        (λ i earlier. rw (name_on_line i (rows 0), name_in_rows i (omega arith)) (fit.apart i k earlier below))

    row_accepted : (k : ℕ) → k < length ps → state_refusal (rows 0) k (sum (take k ps)) (rows k) ≡ accepted
    row_accepted k below =
        state_written (written.each k below) (omega (arith, entry_at_most_sum ps k, fit.limited)) (rows 0) k (sum (take k ps))
        (fit.named k below) (unused k below) (fit.peopled k below)
        (omega (arith, sum_more k ps below, sum_front (k + 1) ps, fit.limited))

    -- The closing line has their sum, and nothing follows it.
    closing_accepts : (populations : List ℕ)
        → closing_of head (sum ps) populations (rows (length ps)) ≡ accepts head (sum ps) populations
    unfolding closing_of end_of
    closing_accepts populations =
        let some = entry_at_most_sum ps 0 in
        rw (
          closing_written written.last fit.limited refl (omega (arith, fit.peopled 0 fit.states.0)),
          written.last.then,
        )

    states_written : (left k : ℕ) → k + left ≡ length ps
        → states_from head (rows 0) left k (sum (take k ps)) (padded k ps) (rows k) ≡ accepts head (sum ps) (padded (length ps) ps)
    unfolding states_from
    states_written zero k all =
        let end : k ≡ length ps = omega arith in
        rw (end, take_all (length ps) ps (omega arith)) (closing_accepts (padded (length ps) ps))
    states_written (suc left) k all =
        let row = written.each k (omega arith) in
        let number = pair_number row (omega (arith, entry_at_most_sum ps k, fit.limited)) in
        states_passed head (rows 0) (suc left) left k (sum (take k ps)) (padded k ps) (rows k) refl (row_accepted k (omega arith))
        ∙ rw (number, row.then, sum_more k ps (omega arith), padded_more k ps (omega arith) fit.states.1, add-one k)
        (rw (add-one k) at (states_written left (k + 1) (omega arith)))

-- ---- the whole register

-- The bytes of a register that may be written: not too long, laid out in lines, and all that they say within the limits.
pub record Written (s : List ℕ) (m : Method) (H : ℕ) (name : ℕ → List ℕ) (ps : List ℕ) (rows : ℕ → List ℕ) : Type 0 where
  pub short : length s ≤ register_limit
  pub lines : LaidOut s m H name ps rows
  pub house : (1 ≤ H) × (H ≤ house_limit)
  pub fit : Writable name ps

-- The two words that every register has.
word_printable : (Printable (bytes_of "register")) × (Printable (bytes_of "total"))
unfolding all_between
word_printable = (refl, refl)

word_whole : (Without comma (bytes_of "register")) × (Without comma (bytes_of "total"))
unfolding place_of
word_whole = (refl, refl)

module _ {s : List ℕ} {m : Method} {H : ℕ} {name : ℕ → List ℕ} {ps : List ℕ} {rows : ℕ → List ℕ} (so : Written s m H name ps rows) where
  first_line : HeadFields s (bytes_of "register") m H (length ps) (rows 0)
  first_line =
      rw so.lines.head
      (head_fields (bytes_of "register") m H (length ps) (rows 0) word_printable.0 word_whole.0 (omega (arith, so.house))
      (omega (arith, so.fit.states)))

  state_rows : Rows name ps rows
  state_rows =
      let fit = so.fit in
      record {
        each = λ k below.
            rw (so.lines.each k below)
            (pair_written (name k) (decimal (get_or ps k 0)) (rows (suc k)) (name_printable (name k) (fit.named k below))
            (fit.whole k below) (number_printable (get_or ps k 0) (omega (arith, entry_at_most_sum ps k, fit.limited))));
        last =
            rw so.lines.last
            (rw append-nil at (pair_written (bytes_of "total") (decimal (sum ps)) [] word_printable.1 word_whole.1
            (number_printable (sum ps) (omega (arith, fit.limited)))));
      }

  -- It is read back ..
  pub written_read : reading_of s ≡ reading_with m H ps
  unfolding reading_of lines_of states_of reading_with no_populations sum padded
  written_read =
      rw (le-ltb register_limit (length s) so.short, head_written first_line so.house so.fit.states, first_line.then)
      (states_written state_rows so.fit _ (length ps) 0 (omega arith))

  -- .. with each name.
  pub written_name : (i : ℕ) → i < length ps → name_of s i ≡ name i
  unfolding reading_with accepts
  written_name i below =
      name_there s i (rw written_read refl) (rw written_read below)
      ∙ rw first_line.then (name_in_rows state_rows i below)

-- ---- a register that is read may be written

-- A reading that accepts, with what it says.
no_refusal : (r : ReadingOutcome) → r.refusal ≡ accepted → r.line ≡ 0
    → r ≡ accepts (record { refusal = accepted; method = r.method; house = r.house; states = r.states }) r.total r.populations
unfolding accepts
no_refusal r good lined = ap (λ (x : ℕ). answered x r.line) good ∙ ap (λ (x : ℕ). answered accepted x) lined
  where
    answered : (refusal line : ℕ) → ReadingOutcome
    answered refusal line =
        record {
          refusal = refusal;
          line = line;
          method = r.method;
          house = r.house;
          states = r.states;
          total = r.total;
          populations = r.populations;
        }

module _ (s : List ℕ) (good : (reading_of s).refusal ≡ accepted) where
  abbrev r : ReadingOutcome
  r = reading_of s

  pub read_count : length (populations_in r) ≡ r.states
  read_count =
      let sound = reading_sound s good in
      length-take-le r.states r.populations (omega (arith, sound.states, sound.populations.room))

  pub reading_writable : Writable (name_of s) (populations_in r)
  reading_writable =
      let sound = reading_sound s good in
      record {
        states = rw read_count sound.states;
        peopled = λ i below.
            rw (get_or-take r.states r.populations i 0 (omega (arith, read_count)))
            (sound.populations.peopled i (omega (arith, read_count)));
        limited = rw (sym sound.populations.summed) sound.populations.limited;
        named = λ i below. rw (name_there s i good (omega (arith, read_count))) (reading_named s good i (omega (arith, read_count)));
        whole = λ i below. rw (name_there s i good (omega (arith, read_count))) (name_without_comma (lines_after i (rest_of s)));
        apart = λ i j earlier below.
            rw (name_there s i good (omega (arith, read_count)), name_there s j good (omega (arith, read_count)))
            (reading_apart s good i j earlier (omega (arith, read_count)));
      }

  -- Past its states a register has 0s.
  zeros_past : drop r.states r.populations ≡ replicate (state_limit - r.states) 0
  zeros_past =
      let so = (reading_sound s good).populations in
      ext_get_or 0 _ _
      (length-drop r.states r.populations ∙ rw so.room (sym (length-replicate (state_limit - r.states) 0)))
      (λ i below. get_or-drop r.states r.populations i 0 ∙ so.zeros (r.states + i) (omega arith)
      ∙ sym (zeros_at (state_limit - r.states) i))

  read_padded : padded r.states (populations_in r) ≡ r.populations
  unfolding padded
  read_padded =
      rw (take-take r.states r.states r.populations (omega arith), ← zeros_past) (take-append-drop r.states r.populations)

  -- What was read is what its method, house and populations give.
  pub read_with : r ≡ reading_with r.method r.house (populations_in r)
  unfolding reading_with
  read_with =
      no_refusal r good (reading_lined s good)
      ∙ rw (read_count, ← (reading_sound s good).populations.summed, read_padded)
