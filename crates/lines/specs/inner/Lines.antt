-- What holds of a line of the register that is not refused, and the refusals of a head and of a state's line by the parts that the code
-- has.
-- Assumes nothing.
use Rattle.std.specs.Prelude.{◌≡◌, refl, ◌&&◌, Bool, true, false, cond, not, List, [], ◌∷◌, Option, ℕ, ◌+◌, ◌≤◌, ltb, eqb}
use Rattle.std.proofs.Common.{arith, eqb-true, ltb-false}
use Rattle.std.proofs.lemmas.Bool.{eqb-false, not-false}
use Rattle.apportionment.specs.Limits.{state_limit, house_limit, sum_limit}
use Rattle.apportionment.specs.Refusals.{accepted, line_ill_formed, number_out_of_limits, method_unknown, name_used, running_sum_too_large}
use Rattle.apportionment.specs.Refusals.{outside, first_refusal}
use Rattle.apportionment.specs.inner.Checks.{inside_limits, check_passed}
use Rattle.apportionment.specs.inner.Tests.{either_way}
use Rattle.apportionment.specs.Lists.{same_list}
use Rattle.apportionment.specs.Text.{bytes_of}
use Rattle.apportionment.specs.declared.Method.{Method}
use Rattle.fields.specs.inner.Tests.{both}
use Rattle.fields.specs.Grammar.{ended, line_of, field_of, is_number, value_of, is_name, is_method_field, method_named}
use Rattle.lines.specs.Lines.{method_field, house_field, count_field, head_formed, is_head, is_unknown}
use Rattle.lines.specs.Lines.{HeadOutcome, head_refusal, head_refused, head_read, head_of}
use Rattle.lines.specs.Lines.{name_at, number_field, number_at, pair_formed, used_in, is_state_line, is_closing_line, state_refusal}

-- ---- tests made at once are tests made one after the other

pub three_at_once : (t u v : Bool) → ((t && u) && v) ≡ cond t (cond u v false) false
three_at_once true true v = refl
three_at_once true false v = refl
three_at_once false u v = refl

pub five_at_once : (t u v w x : Bool) → ((((t && u) && v) && w) && x) ≡ cond t (cond u (cond v (cond w x false) false) false) false
five_at_once true true true true x = refl
five_at_once true true true false x = refl
five_at_once true true false w x = refl
five_at_once true false v w x = refl
five_at_once false u v w x = refl

-- Parts that are the same pass the same tests. `cc` looks at all that is known, which is little here, and much where a line was cut.
pub same_head : {t t' : Bool} {w w' m m' h h' n n' : List ℕ} → t ≡ t' → w ≡ w' → m ≡ m' → h ≡ h' → n ≡ n'
    → head_formed t w m h n ≡ head_formed t' w' m' h' n'
same_head ending word method house count = cc

pub same_pair : {t t' u u' : Bool} {n n' : List ℕ} → t ≡ t' → u ≡ u' → n ≡ n' → pair_formed t u n ≡ pair_formed t' u' n'
same_pair ending first digits = cc

-- ---- the head

pub head_numbers : (s : List ℕ) → is_head s ≡ true → (is_number (house_field s) ≡ true) × (is_number (count_field s) ≡ true)
unfolding is_head head_formed
head_numbers s head =
    let ending = (both (ended s) _ head).1 in
    let word = (both (same_list (field_of (line_of s)) (bytes_of "register")) _ ending).1 in
    both (is_number (house_field s)) _ (both (is_method_field (method_field s)) _ word).1

-- What a well-formed head says: 4 for an unknown method, then 3 for a house or a count outside its limits.
unfoldable pub head_says : Option Method → (house states : ℕ) → HeadOutcome
head_says named house states =
    cond (is_unknown named) (head_refused method_unknown)
    (cond (outside house_limit house) (head_refused number_out_of_limits)
    (cond (outside state_limit states) (head_refused number_out_of_limits) (head_read named house states)))

-- So the code says it, which looks at the parts only of a head that is well-formed.
pub head_by_parts : (s : List ℕ)
    → head_of s
    ≡ cond (is_head s) (head_says (method_named (method_field s)) (value_of (house_field s)) (value_of (count_field s)))
    (head_refused line_ill_formed)
unfolding head_of head_refusal first_refusal head_says
head_by_parts s =
    by_tests (is_head s) (is_unknown (method_named (method_field s))) (outside house_limit (value_of (house_field s)))
    (outside state_limit (value_of (count_field s)))
    (head_read (method_named (method_field s)) (value_of (house_field s)) (value_of (count_field s)))
  where
    by_tests : (t u v w : Bool) (read : HeadOutcome)
        → (let refusal = cond (not t) line_ill_formed (cond u method_unknown (cond v number_out_of_limits
        (cond w number_out_of_limits accepted))) in
        cond (eqb refusal accepted) read (head_refused refusal))
        ≡ cond t (cond u (head_refused method_unknown) (cond v (head_refused number_out_of_limits)
        (cond w (head_refused number_out_of_limits) read))) (head_refused line_ill_formed)
    by_tests false u v w read = refl
    by_tests true true v w read = refl
    by_tests true false true w read = refl
    by_tests true false false true read = refl
    by_tests true false false false read = refl

-- What a head that is not refused says is within its limits.
pub record HeadSound (head : HeadOutcome) : Type 0 where
  pub house : (1 ≤ head.house) × (head.house ≤ house_limit)
  pub states : (1 ≤ head.states) × (head.states ≤ state_limit)

abbrev read_of : List ℕ → HeadOutcome
read_of s = head_read (method_named (method_field s)) (value_of (house_field s)) (value_of (count_field s))

pub head_sound : (s : List ℕ) → (head_of s).refusal ≡ accepted → HeadSound (head_of s)
unfolding head_of head_refused head_refusal head_read
head_sound s good =
    either_way (eqb (head_refusal s) accepted)
    (λ here. rw here (sound (eqb-true (head_refusal s) accepted here)))
    (λ here. absurd (eqb-false (head_refusal s) accepted here (rw here at good)))
  where
    sound : head_refusal s ≡ accepted → HeadSound (read_of s)
    sound none =
        let line = check_passed (not (is_head s)) _ _ (omega arith) none in
        let method = check_passed (is_unknown (method_named (method_field s))) _ _ (omega arith) line.1 in
        let house = check_passed (outside house_limit (value_of (house_field s))) _ _ (omega arith) method.1 in
        let states = check_passed (outside state_limit (value_of (count_field s))) _ _ (omega arith) house.1 in
        record {
          house = inside_limits house_limit (value_of (house_field s)) house.0;
          states = inside_limits state_limit (value_of (count_field s)) states.0;
        }

-- ---- a line of two fields: a state's, or the closing one

pub pair_parts : (passes : Bool) (s : List ℕ) → pair_formed (ended s) passes (number_field s) ≡ true
    → (passes ≡ true) × (is_number (number_field s) ≡ true)
unfolding pair_formed
pair_parts passes s pair = both passes _ (both (ended s) _ pair).1

pub state_parts : (s : List ℕ) → is_state_line s ≡ true → (is_name (name_at s) ≡ true) × (is_number (number_field s) ≡ true)
unfolding is_state_line
state_parts s = pair_parts (is_name (name_at s)) s

pub closing_number : (s : List ℕ) → is_closing_line s ≡ true → is_number (number_field s) ≡ true
unfolding is_closing_line
closing_number s line = (pair_parts (same_list (name_at s) (bytes_of "total")) s line).1

-- The refusal of a well-formed state's line by its population p and whether its name was used before.
unfoldable pub entry_refusal : (used : Bool) (sum p : ℕ) → ℕ
entry_refusal used sum p = first_refusal (
    (outside sum_limit p, number_out_of_limits)
    ∷ (used, name_used)
    ∷ (ltb sum_limit (sum + p), running_sum_too_large)
    ∷ [])

pub state_by_parts : (first : List ℕ) (k sum : ℕ) (s : List ℕ)
    → state_refusal first k sum s ≡ cond (is_state_line s) (entry_refusal (used_in k first (name_at s)) sum (number_at s)) line_ill_formed
unfolding state_refusal entry_refusal first_refusal
state_by_parts first k sum s = either_way (is_state_line s) (λ formed. rw formed) (λ ill. rw ill)

-- A state's line that is not refused.
pub record StateSound (first : List ℕ) (k sum : ℕ) (s : List ℕ) : Type 0 where
  pub named : is_name (name_at s) ≡ true
  pub numbered : is_number (number_field s) ≡ true
  pub peopled : 1 ≤ number_at s
  pub unused : used_in k first (name_at s) ≡ false
  pub fits : sum + number_at s ≤ sum_limit

pub state_sound : (first : List ℕ) (k sum : ℕ) (s : List ℕ) → state_refusal first k sum s ≡ accepted → StateSound first k sum s
unfolding state_refusal
state_sound first k sum s good =
    let line = check_passed (not (is_state_line s)) _ _ (omega arith) good in
    let number = check_passed (outside sum_limit (number_at s)) _ _ (omega arith) line.1 in
    let name = check_passed (used_in k first (name_at s)) _ _ (omega arith) number.1 in
    let total = check_passed (ltb sum_limit (sum + number_at s)) _ _ (omega arith) name.1 in
    let parts = state_parts s (not-false (is_state_line s) line.0) in
    record {
      named = parts.0;
      numbered = parts.1;
      peopled = (inside_limits sum_limit (number_at s) number.0).0;
      unused = name.0;
      fits = ltb-false sum_limit (sum + number_at s) total.0;
    }
