-- The text of a stored form as lines, whatever its first word and its states' tails.
-- Assumes nothing.
use Rattle.std.specs.Prelude.{◌≡◌, refl, List, [], ◌∷◌, ◌++◌, ℕ, suc, ◌+◌, ◌<◌, length, get_or, take, drop}
use Rattle.std.proofs.Common.{ap, append_assoc, append-nil, add-zero, zero-add, add-one, arith, length-take-le, take-suc, drop-cons}
use Rattle.std.proofs.Math.Seq.{drop-length}
use Rattle.apportionment.specs.Lists.{sum}
use Rattle.apportionment.specs.Text.{bytes_of, decimal}
use Rattle.apportionment.specs.declared.Method.{Method}
use Rattle.text.specs.Shared.{head_line}
use Rattle.cleaning.specs.Clean.{pair_line, state_lines, stored_text}

-- ---- writing on

lines_append : (name tail : ℕ → List ℕ) (k : ℕ) (ps qs : List ℕ)
    → state_lines name tail k (ps ++ qs) ≡ state_lines name tail k ps ++ state_lines name tail (k + length ps) qs
unfolding state_lines
lines_append name tail k [] qs = rw add-zero
lines_append name tail k (p ∷ ps) qs =
    let shift : suc k + length ps ≡ k + suc (length ps) = omega arith in
    rw (lines_append name tail (suc k) ps qs, shift, append_assoc)

-- One state more.
pub lines_more : (name tail : ℕ → List ℕ) (ps : List ℕ) (k : ℕ) → k < length ps
    → state_lines name tail 0 (take (k + 1) ps) ≡ state_lines name tail 0 (take k ps) ++ pair_line (name k) (get_or ps k 0) (tail k)
unfolding state_lines
lines_more name tail ps k inside =
    rw (
      add-one,
      take-suc ps k 0 inside,
      lines_append name tail 0 (take k ps) (get_or ps k 0 ∷ []),
      length-take-le k ps (omega arith),
      zero-add,
    )
    (ap (λ (line : List ℕ). state_lines name tail 0 (take k ps) ++ line) (append-nil (pair_line (name k) (get_or ps k 0) (tail k))))

-- A line without a tail.
pub pair_without_tail : (word : List ℕ) (n : ℕ) → pair_line word n [] ≡ word ++ bytes_of "," ++ decimal n ++ bytes_of "\n"
unfolding pair_line
pair_without_tail word n = rw append-nil

-- The same names and tails give the same text.
lines_agree : (f g tail : ℕ → List ℕ) (k : ℕ) (ps : List ℕ) → ((i : ℕ) → i < k + length ps → f i ≡ g i)
    → state_lines f tail k ps ≡ state_lines g tail k ps
unfolding state_lines
lines_agree f g tail k [] same = refl
lines_agree f g tail k (p ∷ ps) same = rw (same k (omega arith), lines_agree f g tail (suc k) ps (λ i below. same i (omega arith)))

pub stored_agree : (word : List ℕ) (m : Method) (H : ℕ) (f g tail : ℕ → List ℕ) (ps : List ℕ) → ((i : ℕ) → i < length ps → f i ≡ g i)
    → stored_text word m H f tail ps ≡ stored_text word m H g tail ps
unfolding stored_text
stored_agree word m H f g tail ps same = rw (lines_agree f g tail 0 ps (λ i below. same i (omega arith)))

-- ---- line by line

-- What is left from the line of the state with a place on.
abbrev pub rows_from : (name tail : ℕ → List ℕ) (ps : List ℕ) (k : ℕ) → List ℕ
rows_from name tail ps k = state_lines name tail k (drop k ps) ++ pair_line (bytes_of "total") (sum ps) []

-- First the head ..
pub head_then_rows : (word : List ℕ) (m : Method) (H : ℕ) (name tail : ℕ → List ℕ) (ps : List ℕ)
    → stored_text word m H name tail ps ≡ head_line word m H (length ps) ++ rows_from name tail ps 0
unfolding stored_text
head_then_rows word m H name tail ps = rw append_assoc

-- .. then the line of each state ..
pub row_then_rows : (name tail : ℕ → List ℕ) (ps : List ℕ) (k : ℕ) → k < length ps
    → rows_from name tail ps k ≡ pair_line (name k) (get_or ps k 0) (tail k) ++ rows_from name tail ps (suc k)
unfolding state_lines
row_then_rows name tail ps k inside = rw (drop-cons ps k 0 inside, append_assoc)

-- .. and last the closing line.
pub last_row : (name tail : ℕ → List ℕ) (ps : List ℕ) → rows_from name tail ps (length ps) ≡ pair_line (bytes_of "total") (sum ps) []
unfolding state_lines
last_row name tail ps = rw (drop-length ps)
