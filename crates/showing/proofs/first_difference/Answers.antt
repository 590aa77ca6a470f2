-- `showing::first_difference` meets its contract: it is the place of the first pair of two numbers that differ.
use Rattle.std.proofs.Common.{◌≡◌, rules, tests}
use Rattle.std.proofs.lemmas.Iterator.{IsFirst-from_position, YieldsList-from_slice, YieldsList-from_zip}
use Rattle.showing.specs.inner.Work.{first_found}
use Rattle.showing.proofs.first_difference.Goals as goal

pub returns : goal.returns
returns c =
    let xs = c.args.xs.now in
    let ys = c.args.ys.now in
    let first = IsFirst-from_position c.position.new.self _ _ (λ p. p.0 ≡ p.1 → ⊥) (λ p. p.0 ≡ p.1) c.position.ensures.ran
    (YieldsList-from_zip (YieldsList-from_slice xs cc) (YieldsList-from_slice ys cc)) (λ x q k. search (rules, tests))
    (λ x q k. search (rules, tests)) in
    rw c.unwrap_or.ensures (first_found xs ys c.requires _ first)
