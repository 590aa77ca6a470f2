-- The law that the others rest on: a register written from a sound method, house, names and populations is accepted, and reading gives them
-- back, names too.
-- Assumes nothing.
use Rattle.std.specs.Prelude.{◌≡◌, ℕ, suc, ◌<◌, ◌≤◌, length, get_or}
use Rattle.std.proofs.Math.Path.{ap}
use Rattle.std.proofs.Common.{◌∙◌, arith}
use mathlib.Core.List.{List, ◌++◌}
use Rattle.apportionment.specs.Limits.{house_limit}
use Rattle.apportionment.specs.Lists.{sum}
use Rattle.apportionment.specs.Text.{bytes_of}
use Rattle.apportionment.specs.declared.Method.{Method}
use Rattle.register.specs.Register.{reading_of}
use Rattle.register.specs.Register.{name_of}
use Rattle.register.specs.inner.Written.{Writable, writable_short, LaidOut, reading_with, Written, written_read, written_name}
use Rattle.text.specs.Shared.{numbers_text, head_line}
use Rattle.cleaning.specs.Clean.{stored_text}
use Rattle.cleaning.specs.Clean.{no_tail}
use Rattle.cleaning.specs.inner.Stored.{rows_from, head_then_rows, row_then_rows, last_row, pair_without_tail}
use Rattle.cleaning.specs.inner.Room.{clean_length}

module _ (m : Method) {H : ℕ} (house : (1 ≤ H) × (H ≤ house_limit)) {name : ℕ → List ℕ} {ps : List ℕ} (fit : Writable name ps) where
  abbrev text : List ℕ
  text = stored_text (bytes_of "register") m H name no_tail ps

  laid_out : LaidOut text m H name ps (rows_from name no_tail ps)
  unfolding head_line numbers_text
  laid_out =
      record {
        head = head_then_rows (bytes_of "register") m H name no_tail ps;
        each = λ k below.
            row_then_rows name no_tail ps k below
            ∙ ap (λ (line : List ℕ). line ++ rows_from name no_tail ps (suc k)) (pair_without_tail (name k) (get_or ps k 0));
        last = last_row name no_tail ps ∙ pair_without_tail (bytes_of "total") (sum ps);
      }

  written : Written text m H name ps (rows_from name no_tail ps)
  written =
      record {
        short =
            omega (
              arith,
              fit.states,
              clean_length m H name ps house.1 fit.states.1 fit.limited (writable_short fit),
            );
        lines = laid_out;
        house = house;
        fit = fit;
      }

  pub reads_back : reading_of text ≡ reading_with m H ps
  reads_back = written_read written

  pub names_back : (i : ℕ) → i < length ps → name_of text i ≡ name i
  names_back = written_name written
