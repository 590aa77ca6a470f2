-- `is_method_field` tests the length, and then the bytes.
use Rattle.std.proofs.Common.{◌≡◌, rules, tests, length, sym, ◌∙◌, refl}
use Rattle.std.proofs.lemmas.Iterator.{YieldsList-from_slice}
use Rattle.std.proofs.lemmas.Iterator.Search.{all_from_yields_List}
use Rattle.std.specs.Char.{is_ascii_graphic}
use Rattle.apportionment.specs.Refusals.{within}
use Rattle.fields.specs.Grammar.{word_limit, is_method_field}
use Rattle.fields.specs.inner.Tests.{within_by_range}
use Rattle.fields.specs.inner.Parts.{all_between_is}
use Rattle.fields.proofs.words.is_method_field.Goals as goal
use Rattle.fields.proofs.words.is_method_field.Goals.{After-contains}

inside : (c : After-contains) → c.contains.result ≡ within word_limit (length c.args.f.now)
inside c =
    let n = length c.args.f.now in
    within_by_range _ n c.new.result _ c.new.ensures.start c.new.ensures.end c.new.ensures.exhausted c.contains.ensures.value

pub returns-then-contains : goal.returns-then-contains
unfolding is_method_field
returns-then-contains c =
    all_from_yields_List is_ascii_graphic _ _ _ c.all.ensures.ran (YieldsList-from_slice c.args.f.now cc)
    (λ x b q k. search (rules, tests))
    ∙ all_between_is 33 126 is_ascii_graphic (λ x. refl) c.args.f.now
    ∙ rw (sym (inside (goal.at.returns-then-contains c).After-contains), c.if-contains.true)

pub returns-else-contains : goal.returns-else-contains
unfolding is_method_field
returns-else-contains c = rw (sym (inside (goal.at.returns-else-contains c).After-contains), c.if-contains.false)
