-- Laws of where a name stands, which proofs cite.
-- Assumes nothing.
use Rattle.std.specs.Prelude.{◌≡◌, List, ℕ, ◌+◌, ◌≤◌, eqb, length, take, drop}
use Rattle.std.proofs.Common.{sym, ap, ◌∙◌, zero-le, arith}
use Rattle.apportionment.specs.Refusals.{accepted}
use Rattle.apportionment.specs.inner.Tests.{either_way}
use Rattle.register.specs.Register.{rows_of, lines_after, name_in_row, name_refusal_of, name_of}
use Rattle.register.specs.inner.Rows.{row_is_end, name_is_first}
use Rattle.desk.specs.Interface.{part_of}

-- ---- where the part stands

pub line_shorter : (s : List ℕ) (place : ℕ) → length (lines_after place (rows_of s)) ≤ length s
line_shorter s place = (row_is_end s place).shorter

-- The bytes of the part are the name, and none where it is refused.
pub part_is_name : (s : List ℕ) (place : ℕ) → take (part_of s place).length (drop (part_of s place).start s) ≡ name_of s place
unfolding part_of name_of
part_is_name s place =
    either_way (eqb (name_refusal_of s place).number accepted)
    (λ named. rw named
    (ap (take (length (name_in_row (rows_of s) place))) (sym (row_is_end s place).stands) ∙ sym (name_is_first (rows_of s) place).stands))
    (λ refused. rw refused)

-- The part lies within the register.
pub part_within : (s : List ℕ) (place : ℕ) → (part_of s place).start + (part_of s place).length ≤ length s
unfolding part_of
part_within s place =
    either_way (eqb (name_refusal_of s place).number accepted)
    (λ named. rw named (omega (arith, (row_is_end s place).shorter, (name_is_first (rows_of s) place).shorter)))
    (λ refused. rw refused zero-le)
