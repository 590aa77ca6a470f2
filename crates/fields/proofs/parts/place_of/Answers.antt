-- `place_of` looks for the first byte `b`.
use Rattle.std.proofs.Common.{◌≡◌, ℕ, ◌≤◌, Option, Some, None, cond, ltb, eqb, length, arith, rules, tests, ◌∙◌}
use Rattle.std.proofs.lemmas.Bool.Decides.{nat_tests}
use Rattle.std.proofs.lemmas.Iterator.{YieldsList-from_slice}
use Rattle.std.proofs.lemmas.Iterator.Search.{position_from_yields_List}
use Rattle.std.specs.Option.{unwrap_or}
use Rattle.fields.specs.Grammar.{place_of}
use Rattle.fields.specs.inner.Parts.{place_is, place_within_lem}
use Rattle.fields.proofs.parts.place_of.Goals as goal

found_or_all : (p n : ℕ) (r : Option ℕ) → r ≡ cond (ltb p n) (Some p) None → p ≤ n → unwrap_or r n ≡ p
found_or_all p n r is within = grind (arith, nat_tests)

pub returns : goal.returns
returns c =
    let b = c.args.b in
    let s = c.args.s.now in
    let found =
    position_from_yields_List (λ (x : ℕ). eqb x b) _ _ c.position.result c.position.ensures.ran (YieldsList-from_slice s cc)
    (λ x b q k. search (rules, tests)) in
    c.unwrap_or.ensures ∙ found_or_all (place_of b s) (length s) c.position.result (rw (place_is b s) at found) (place_within_lem b s)
