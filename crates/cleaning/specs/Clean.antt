-- A register as it is written, where a state's line may have more after its population: its tail; and W-204, the clean form of a register.
use Rattle.std.specs.Prelude.{◌∷◌, ◌++◌, ◌≡◌, List, [], ℕ, suc, length}
use Rattle.apportionment.specs.{Lists.sum, Text.bytes_of, Text.decimal, declared.Method.Method}
use Rattle.register.specs.{Register.reading_of, Register.populations_in, Register.name_of, Register.ReadingOutcome}
use Rattle.text.specs.Shared.{head_line}
use Rattle.handover.specs.{Handover.written_of, Handover.WritingIs, Handover.printed_of, Handover.Written}

unfoldable pub pair_line : (word : List ℕ) (number : ℕ) (tail : List ℕ) → List ℕ  -- A state's name and population, or `total` and the sum.
pair_line word number tail = word ++ bytes_of "," ++ decimal number ++ tail ++ bytes_of "\n"

unfoldable pub state_lines : (name tail : ℕ → List ℕ) (k : ℕ) (ps : List ℕ) → List ℕ  -- The states from place k on.
state_lines name tail k [] = []
state_lines name tail k (p ∷ ps) = pair_line (name k) p (tail k) ++ state_lines name tail (suc k) ps

unfoldable pub stored_text : (word : List ℕ) → Method → (H : ℕ) (name tail : ℕ → List ℕ) (ps : List ℕ) → List ℕ
stored_text word m H name tail ps = head_line word m H (length ps) ++ state_lines name tail 0 ps ++ pair_line (bytes_of "total") (sum ps) []

abbrev pub no_tail : ℕ → List ℕ  -- A register's states have no tails.
no_tail k = []

unfoldable pub clean_in : ReadingOutcome → (name : ℕ → List ℕ) → List ℕ  -- The clean form of what was read, with the states' names.
clean_in r name = stored_text (bytes_of "register") r.method r.house name no_tail (populations_in r)

unfoldable pub clean_of : (register : List ℕ) → List ℕ  -- The clean form of a register that reading does not refuse.
clean_of register = clean_in (reading_of register) (name_of register)

unfoldable pub cleaned_of : (register : List ℕ) (room : ℕ) → Written  -- What is handed back: reading's refusals, 31, or the length.
cleaned_of register room = written_of (reading_of register).refusal (reading_of register).line (clean_of register) room

abbrev pub CleanIs : (register before : List ℕ) → Written → (after : List ℕ) → Type 0  -- What writing it promises.
CleanIs register before r after = WritingIs (reading_of register).refusal (reading_of register).line (clean_of register) before r after

abbrev pub clean_printed : (register : List ℕ) → List ℕ  -- What the clean program prints.
clean_printed register = printed_of (reading_of register).refusal (reading_of register).line (clean_of register)

pub record Agree (s t : List ℕ) : Type 0 where  -- Two registers agree: method, house, and in order populations and names.
  pub method : (reading_of s).method ≡ (reading_of t).method
  pub house : (reading_of s).house ≡ (reading_of t).house
  pub populations : populations_in (reading_of s) ≡ populations_in (reading_of t)
  pub names : (place : ℕ) → name_of s place ≡ name_of t place
