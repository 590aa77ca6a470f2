-- `is_number` tests the length, and then the digits.
use Rattle.std.proofs.Common.{◌≡◌, rules, tests, length, sym, ◌∙◌, refl}
use Rattle.std.proofs.lemmas.Iterator.{YieldsList-from_slice}
use Rattle.std.proofs.lemmas.Iterator.Search.{all_from_yields_List}
use Rattle.std.specs.Char.{is_ascii_digit}
use Rattle.apportionment.specs.Refusals.{within}
use Rattle.fields.specs.Grammar.{is_number}
use Rattle.fields.specs.inner.Tests.{within_by_range}
use Rattle.fields.specs.inner.Parts.{all_between_is}
use Rattle.fields.proofs.numbers.is_number.Goals as goal
use Rattle.fields.proofs.numbers.is_number.Goals.{After-contains}

inside : (c : After-contains) → c.contains.result ≡ within 10 (length c.args.f.now)
inside c =
    let n = length c.args.f.now in
    within_by_range _ n c.new.result _ c.new.ensures.start c.new.ensures.end c.new.ensures.exhausted c.contains.ensures.value

pub returns-then-contains : goal.returns-then-contains
unfolding is_number
returns-then-contains c =
    all_from_yields_List is_ascii_digit _ _ _ c.all.ensures.ran (YieldsList-from_slice c.args.f.now cc)
    (λ x b q k. search (rules, tests))
    ∙ all_between_is 48 57 is_ascii_digit (λ x. refl) c.args.f.now
    ∙ rw (sym (inside (goal.at.returns-then-contains c).After-contains), c.if-contains.true)

pub returns-else-contains : goal.returns-else-contains
unfolding is_number
returns-else-contains c = rw (sym (inside (goal.at.returns-else-contains c).After-contains), c.if-contains.false)
