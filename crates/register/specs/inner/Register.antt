-- Laws of what Register.antt defines, which proofs cite.
-- Assumes nothing.
use Rattle.std.specs.Prelude.{◌≡◌, refl, List, ℕ, zero, suc, ◌+◌, ◌<◌, ◌≤◌, set}
use Rattle.std.proofs.Common.{arith, eq-eqb, ne_eqb}
use Rattle.apportionment.specs.Refusals.{accepted}
use Rattle.fields.specs.Grammar.{rest_of}
use Rattle.lines.specs.Lines.{number_at, state_refusal}
use Rattle.lines.specs.Lines.{HeadOutcome}
use Rattle.register.specs.Register.{refused, closing_of, states_from}

pub states_none : (head : HeadOutcome) (first : List ℕ) (left k sum : ℕ) (populations s : List ℕ) → left ≤ 0
    → states_from head first left k sum populations s ≡ closing_of head sum populations s
unfolding states_from
states_none head first zero k sum populations s none = refl
states_none head first (suc left) k sum populations s none = absurd (omega arith)

pub states_refused : (head : HeadOutcome) (first : List ℕ) (left k sum : ℕ) (populations s : List ℕ) → 0 < left
    → (state_refusal first k sum s ≡ accepted → ⊥)
    → states_from head first left k sum populations s ≡ refused (state_refusal first k sum s) (k + 2)
unfolding states_from
states_refused head first zero k sum populations s some bad = absurd (omega arith)
states_refused head first (suc left) k sum populations s some bad = rw (ne_eqb (state_refusal first k sum s) accepted bad)

-- Equal numbers taken and equal bytes left are read on alike.
pub same_left : (head : HeadOutcome) (first : List ℕ) (left k sum : ℕ) (populations : List ℕ) {p q : ℕ} {s t : List ℕ} → p ≡ q → s ≡ t
    → states_from head first left (k + 1) (sum + p) (set populations k p) s
    ≡ states_from head first left (k + 1) (sum + q) (set populations k q) t
same_left head first left k sum populations people rest = cc

pub states_passed : (head : HeadOutcome) (first : List ℕ) (left next k sum : ℕ) (populations s : List ℕ) → left ≡ suc next
    → state_refusal first k sum s ≡ accepted
    → states_from head first left k sum populations s
    ≡ states_from head first next (k + 1) (sum + number_at s) (set populations k (number_at s)) (rest_of s)
unfolding states_from
states_passed head first left next k sum populations s one good =
    rw (one, eq-eqb (state_refusal first k sum s) accepted good)
