-- `read_state` cuts the line once and makes the checks over its parts. What the parts and the answers are stands first.
use mathlib.Core.Path.{◌≡◌, sym, ap, ap₂, ◌∙◌}
use mathlib.Core.List.{List}
use Prim.Native.Nat.{ℕ}
use Rattle.fields.specs.Grammar.{all_between}
use Rattle.fields.specs.Grammar.{field_of, fields_after, value_of, is_name}
use Rattle.lines.specs.Lines.{name_at, number_field, number_at, used_in, is_state_line, state_refusal}
use Rattle.apportionment.specs.Refusals.{refusal_of}
use Rattle.std.proofs.Common.{rules, length, Err}
use Rattle.lines.specs.inner.Lines.{entry_refusal, state_parts, state_by_parts, same_pair}
use Rattle.lines.specs.inner.Fingerprints.{fingerprint_of, field_end, field_plain, field_print}
use Rattle.lines.specs.inner.Cut.{line_by_parts}
use Rattle.lines.proofs.pairs.read_state.Goals as goal
use Rattle.lines.proofs.pairs.read_state.Goals.{After-check_entry, After-fields_from-digits, After-is_pair}
use Rattle.lines.proofs.pairs.read_state.Goals.{After-value-population}

-- The bytes from the line on.
abbrev bytes : After-fields_from-digits → List ℕ
bytes c = c.args.s.now

name_is : (c : After-fields_from-digits) → c.field_to-name.result.now ≡ name_at (bytes c)
unfolding name_at
name_is c = c.field_to-name.ensures ∙ ap field_of c.line_to-line.ensures

digits_are : (c : After-fields_from-digits) → c.fields_from-digits.result.now ≡ number_field (bytes c)
unfolding number_field
digits_are c = c.fields_from-digits.ensures ∙ ap fields_after c.line_to-line.ensures

print_is : (c : After-fields_from-digits) → c.read_field-field.result.print ≡ fingerprint_of c.field_to-name.result.now
print_is c =
    ap (λ f. f.print) c.read_field-field.ensures
    ∙ field_print _
    ∙ ap fingerprint_of (sym c.field_to-name.ensures)

formed : (c : After-is_pair) → c.is_pair.result ≡ is_state_line (bytes (goal.at.After-is_pair c).After-fields_from-digits)
unfolding is_state_line
formed c = c.is_pair.ensures
    ∙ same_pair c.is_ended.ensures (c.is_name.ensures ∙ ap is_name (name_is (goal.at.After-is_pair c).After-fields_from-digits))
    (digits_are (goal.at.After-is_pair c).After-fields_from-digits)

-- What was cut, from where the population is known.
abbrev cut : After-value-population → After-fields_from-digits
cut c = (goal.at.After-value-population c).After-fields_from-digits

population_is : (c : After-value-population) → c.value-population.result ≡ number_at (bytes (cut c))
unfolding number_at
population_is c = c.value-population.ensures ∙ ap value_of (digits_are (cut c))

-- The refusal that the definition gives.
abbrev refusal_at : After-value-population → ℕ
refusal_at c =
    let a = c.args in
    entry_refusal (used_in (length a.names.prints.now) a.names.first.now (name_at a.s.now)) a.sum (number_at a.s.now)

refusal_is : (c : After-check_entry) → refusal_of c.check_entry.result ≡ refusal_at (goal.at.After-check_entry c).After-value-population
refusal_is c =
    let names = c.args.names in
    let line = (goal.at.After-check_entry c).After-value-population in
    c.check_entry.ensures
    ∙ ap₂ (λ used p. entry_refusal used c.args.sum p)
    (c.hold.ensures ∙ ap (used_in (length names.prints.now) names.first.now) (name_is (cut line)))
    (population_is line)

pub field_to-name-requires : goal.field_to-name-requires
field_to-name-requires c = ap (λ f. f.end) c.read_field-field.ensures ∙ field_end _

pub fields_from-digits-requires : goal.fields_from-digits-requires
fields_from-digits-requires c = ap (λ f. f.end) c.read_field-field.ensures ∙ field_end _

pub is_name-requires : goal.is_name-requires
is_name-requires c =
    ap (λ f. f.plain) c.read_field-field.ensures
    ∙ field_plain _
    ∙ ap (all_between 32 126) (sym c.field_to-name.ensures)

pub returns-then-not-is_pair-clause-refusal : goal.returns-then-not-is_pair-clause-refusal
returns-then-not-is_pair-clause-refusal c =
    let ill = sym (formed (goal.at.returns-then-not-is_pair-clause-refusal c).After-is_pair) ∙ c.if-not-is_pair.true in
    sym (state_by_parts _ _ _ _ ∙ rw ill)

pub value-population-requires : goal.value-population-requires
value-population-requires c =
    rw (digits_are (goal.at.value-population-requires c).After-fields_from-digits)
    (state_parts _ (sym (formed (goal.at.value-population-requires c).After-is_pair) ∙ c.if-not-is_pair.false)).1

pub hold-requires : goal.hold-requires
hold-requires c = print_is (goal.at.hold-requires c).After-fields_from-digits

-- The line is well-formed where the population is known, and so is refused as its parts are.
by_parts : (c : After-check_entry)
    → state_refusal c.args.names.first.now (length c.args.names.prints.now) c.args.sum c.args.s.now ≡ refusal_of c.check_entry.result
by_parts c =
    let line = goal.at.After-value-population (goal.at.After-check_entry c).After-value-population in
    let formed_there = sym (formed line.After-is_pair) ∙ c.if-not-is_pair.false in
    state_by_parts _ _ _ _ ∙ rw formed_there (sym (refusal_is c))

pub returns-in_err-check_entry-clause-refusal : goal.returns-in_err-check_entry-clause-refusal
returns-in_err-check_entry-clause-refusal c =
    let given : c.from_residual.result ≡ Err c.in_err-check_entry.field-0.0 = search rules in
    rw given
    (sym (by_parts (goal.at.returns-in_err-check_entry-clause-refusal c).After-check_entry ∙ ap refusal_of c.in_err-check_entry.was))

pub returns-clause-refusal : goal.returns-clause-refusal
returns-clause-refusal c =
    sym (by_parts (goal.at.returns-clause-refusal c).After-check_entry ∙ ap refusal_of c.in_ok-check_entry.was)

pub returns-clause-read : goal.returns-clause-read
returns-clause-read c =
    let line = (goal.at.returns-clause-read c).After-value-population in
    line_by_parts _ _ (population_is line) (print_is (cut line)) (name_is (cut line)) c.line_end-end.ensures
