-- `check_closing` cuts the line once and makes the checks over its parts. What the parts and the answers are stands first.
use mathlib.Core.Path.{◌≡◌, sym, ap, ◌∙◌}
use mathlib.Core.List.{List}
use Prim.Native.Nat.{ℕ}
use native.Mathlib.Omega.{arith}
use borrow.Author.Tests.{eq-eqb, ne_eqb}
use Rattle.fields.specs.Grammar.{field_of, fields_after, value_of}
use Rattle.fields.specs.inner.Parts.{same_is}
use Rattle.lines.specs.Lines.{name_at, number_field, number_at, is_closing_line, closing_refusal}
use Rattle.lines.specs.inner.Lines.{closing_number, same_pair}
use Rattle.apportionment.specs.Refusals.{first_refusal}
use Rattle.apportionment.specs.Lists.{same_list}
use Rattle.apportionment.specs.Text.{bytes_of}
use Rattle.lines.proofs.pairs.check_closing.Goals as goal
use Rattle.lines.proofs.pairs.check_closing.Goals.{After-fields_from-digits, After-is_pair, After-value-total}

-- The bytes from the line on, where it is cut.
abbrev bytes : After-fields_from-digits → List ℕ
bytes c = c.args.s.now

word_is : (c : After-fields_from-digits) → c.field_to-word.result.now ≡ name_at (bytes c)
unfolding name_at
word_is c = c.field_to-word.ensures ∙ ap field_of c.line_to-line.ensures

digits_are : (c : After-fields_from-digits) → c.fields_from-digits.result.now ≡ number_field (bytes c)
unfolding number_field
digits_are c = c.fields_from-digits.ensures ∙ ap fields_after c.line_to-line.ensures

formed : (c : After-is_pair) → c.is_pair.result ≡ is_closing_line (bytes (goal.at.After-is_pair c).After-fields_from-digits)
unfolding is_closing_line
formed c = c.is_pair.ensures
    ∙ same_pair c.is_ended.ensures
    (c.eq.ensures
    ∙ same_is _ _
    ∙ ap (same_list c.field_to-word.result.now) c.as_slice.ensures
    ∙ ap (λ word. same_list word (bytes_of "total")) (word_is (goal.at.After-is_pair c).After-fields_from-digits))
    (digits_are (goal.at.After-is_pair c).After-fields_from-digits)

-- Where the total is known the line was cut.
abbrev cut : After-value-total → After-fields_from-digits
cut c = (goal.at.After-value-total c).After-fields_from-digits

total_is : (c : After-value-total) → c.value-total.result ≡ number_at (bytes (cut c))
unfolding number_at
total_is c = c.value-total.ensures ∙ ap value_of (digits_are (cut c))

pub returns-then-not-is_pair : goal.returns-then-not-is_pair
unfolding closing_refusal first_refusal
returns-then-not-is_pair c = simp (sym (formed (goal.at.returns-then-not-is_pair c).After-is_pair) ∙ c.if-not-is_pair.true)

pub value-total-requires : goal.value-total-requires
value-total-requires c =
    rw (digits_are (goal.at.value-total-requires c).After-fields_from-digits)
    (closing_number _ (sym (formed (goal.at.value-total-requires c).After-is_pair) ∙ c.if-not-is_pair.false))

pub returns-then-outside : goal.returns-then-outside
unfolding closing_refusal first_refusal
returns-then-outside c =
    simp (
      sym (formed (goal.at.returns-then-outside c).After-is_pair) ∙ c.if-not-is_pair.false,
      rw (total_is (goal.at.returns-then-outside c).After-value-total) at (sym c.outside.ensures ∙ c.if-outside.true),
    )

pub returns-then-total-sum : goal.returns-then-total-sum
unfolding closing_refusal first_refusal
returns-then-total-sum c =
    simp (
      sym (formed (goal.at.returns-then-total-sum c).After-is_pair) ∙ c.if-not-is_pair.false,
      rw (total_is (goal.at.returns-then-total-sum c).After-value-total) at (sym c.outside.ensures ∙ c.if-outside.false),
      rw (total_is (goal.at.returns-then-total-sum c).After-value-total) at (ne_eqb _ _ c.if-total-sum.true),
    )

pub returns : goal.returns
unfolding closing_refusal first_refusal
returns c =
    simp (
      sym (formed (goal.at.returns c).After-is_pair) ∙ c.if-not-is_pair.false,
      rw (total_is (goal.at.returns c).After-value-total) at (sym c.outside.ensures ∙ c.if-outside.false),
      rw (total_is (goal.at.returns c).After-value-total) at (eq-eqb c.value-total.result c.args.sum (omega arith)),
    )
