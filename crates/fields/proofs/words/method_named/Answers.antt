-- `method_named` looks for the first method whose word the field is.
use Rattle.std.proofs.Common.{◌≡◌, ◌∙◌, sym, rules, tests, eqb, refl, Option, Some, None}
use Rattle.std.specs.Option.{option_map}
use Rattle.std.proofs.lemmas.Iterator.{YieldsList-from_slice}
use Rattle.std.proofs.lemmas.Iterator.Consumers.{YieldsList-from_copied}
use Rattle.std.proofs.lemmas.Iterator.Search.{find_from_yields_List}
use lib.Pointwise.{pointwise}
use Rattle.apportionment.specs.Methods.{methods, method_text}
use Rattle.apportionment.specs.declared.Method.{Method}
use Rattle.fields.specs.Grammar.{method_named}
use Rattle.fields.specs.inner.Grammar.{first_named_is}
use Rattle.fields.specs.inner.Parts.{same_is}
use Rattle.fields.proofs.words.method_named.Goals as goal

unchanged : {A : Type 0} (o : Option A) → option_map (λ (x : A). x) o ≡ o
unchanged None = refl
unchanged (Some x) = refl

pub returns : goal.returns
unfolding method_named
returns c =
    let f = c.args.f.now in
    let found =
    find_from_yields_List (λ (m : Method). pointwise eqb f (method_text m)) _ _ c.find.result c.find.ensures.ran
    (YieldsList-from_copied (YieldsList-from_slice methods cc)) (λ x b q k. search (rules, tests)) in
    sym (unchanged c.find.result) ∙ found ∙ first_named_is _ f (λ m. same_is f (method_text m)) methods
