-- `problem::has_zero` meets its contract: `contains` tests one population after another, as the definition does.
use Rattle.std.proofs.Common.{◌≡◌, refl, ◌∙◌, eqb, ℕ, Bool, true, false, cond, ◌||◌}
use Rattle.std.specs.List.{list_any}
use Rattle.std.proofs.lemmas.List.Recursion.{same_from_clauses}
use Rattle.apportionment.specs.Allotment.{has_zero}
use Rattle.problem.proofs.has_zero.Goals as goal

either : (b rest : Bool) → (b || rest) ≡ cond b true rest
either true rest = refl
either false rest = refl

pub returns : goal.returns
unfolding has_zero
returns c =
    c.contains.ensures.value
    ∙ same_from_clauses (list_any (λ p. eqb p 0)) has_zero (λ (p : ℕ) (rest : Bool). cond (eqb p 0) true rest) refl
    (λ p ps. either (eqb p 0) (list_any (λ q. eqb q 0) ps))
    (λ _ _. refl)
    c.args.populations.now
