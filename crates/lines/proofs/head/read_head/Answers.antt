-- `read_head` cuts the line once. What its parts are stands first.
use mathlib.Core.Path.{sym, ◌≡◌, ap, ◌∙◌}
use mathlib.Core.List.{List}
use Prim.Native.Nat.{ℕ}
use Rattle.fields.specs.Grammar.{line_of, field_of, fields_after}
use Rattle.lines.specs.Lines.{method_field, house_field, count_field, is_head}
use Rattle.lines.specs.inner.Lines.{head_numbers, head_by_parts, same_head}
use Rattle.lines.proofs.head.read_head.Goals as goal
use Rattle.lines.proofs.head.read_head.Goals.{After-fields_from-count, After-is_head}

-- The bytes from the line on, where it is cut, and the first field.
abbrev bytes : After-fields_from-count → List ℕ
bytes c = c.args.s.now

abbrev word : After-fields_from-count → List ℕ
word c = c.field_to-word.result.now

word_is : (c : After-fields_from-count) → word c ≡ field_of (line_of (bytes c))
word_is c = c.field_to-word.ensures ∙ ap field_of c.line_to-line.ensures

method_is : (c : After-fields_from-count) → c.field_to-method.result.now ≡ method_field (bytes c)
unfolding method_field
method_is c = c.field_to-method.ensures
    ∙ ap field_of (c.fields_from-later.ensures ∙ ap fields_after c.line_to-line.ensures)

house_is : (c : After-fields_from-count) → c.field_to-house.result.now ≡ house_field (bytes c)
unfolding house_field
house_is c = c.field_to-house.ensures
    ∙ ap field_of (c.fields_from-last.ensures
    ∙ ap fields_after (c.fields_from-later.ensures ∙ ap fields_after c.line_to-line.ensures))

count_is : (c : After-fields_from-count) → c.fields_from-count.result.now ≡ count_field (bytes c)
unfolding count_field
count_is c = c.fields_from-count.ensures
    ∙ ap fields_after (c.fields_from-last.ensures
    ∙ ap fields_after (c.fields_from-later.ensures ∙ ap fields_after c.line_to-line.ensures))

formed : (c : After-is_head) → c.is_head.result ≡ is_head (bytes (goal.at.After-is_head c).After-fields_from-count)
unfolding is_head
formed c = c.is_head.ensures
    ∙ same_head c.is_ended.ensures (word_is (goal.at.After-is_head c).After-fields_from-count)
    (method_is (goal.at.After-is_head c).After-fields_from-count) (house_is (goal.at.After-is_head c).After-fields_from-count)
    (count_is (goal.at.After-is_head c).After-fields_from-count)

pub returns-then-not-is_head : goal.returns-then-not-is_head
returns-then-not-is_head c =
    simp (head_by_parts, sym (formed (goal.at.returns-then-not-is_head c).After-is_head) ∙ c.if-not-is_head.true)

pub value-requires : goal.value-requires
value-requires c =
    rw
    (house_is (goal.at.value-requires c).After-fields_from-count)
    (head_numbers _ (sym (formed (goal.at.value-requires c).After-is_head) ∙ c.if-not-is_head.false)).0

pub value-requires-2 : goal.value-requires-2
value-requires-2 c =
    rw
    (count_is (goal.at.value-requires-2 c).After-fields_from-count)
    (head_numbers _ (sym (formed (goal.at.value-requires-2 c).After-is_head) ∙ c.if-not-is_head.false)).1

pub returns : goal.returns
returns c =
    c.says.ensures
    ∙ simp (
      head_by_parts,
      sym (formed ((goal.at.returns c).After-is_head)) ∙ c.if-not-is_head.false,
      c.method_named.ensures,
      c.value.ensures,
      c.value-2.ensures,
      method_is ((goal.at.returns c).After-fields_from-count),
      house_is ((goal.at.returns c).After-fields_from-count),
      count_is ((goal.at.returns c).After-fields_from-count),
    )
