-- `without_return` looks at the last byte, if there is one.
use Rattle.std.proofs.Common.{◌≡◌, ℕ, ◌+◌, ◌-◌, List, [], ◌∷◌, Option, Some, None, true, false, length, drop, take, eqb, refl, arith}
use Rattle.std.proofs.Common.{◌∙◌, ap, Bor, drop_of_length-le}
use Rattle.std.proofs.Math.Bool.{and-true}
use Rattle.std.specs.Option.{unwrap_or, MatchOption}
use lib.Pointwise.{pointwise}
use Rattle.fields.specs.Grammar.{carriage_return, without_return, last_byte}
use Rattle.fields.specs.inner.Parts.{drop_step}
use Rattle.fields.proofs.cut.without_return.Goals as goal

last_is : (s : List ℕ) → pointwise eqb (drop (length s - 1) s) (carriage_return ∷ []) ≡ eqb (last_byte s) carriage_return
unfolding last_byte
last_is [] = refl
last_is (x ∷ s) =
    let n = length (x ∷ s) - 1 in
    rw (drop_step (x ∷ s) n (omega arith), drop_of_length-le (x ∷ s) {i = n + 1} (omega arith)) (and-true _)

cut : (s : Bor (List ℕ)) (r : Option (Bor (List ℕ)))
    → MatchOption r (pointwise eqb (drop (length s.now - 1) s.now) (carriage_return ∷ []) ≡ false)
    (λ x. (pointwise eqb (drop (length s.now - 1) s.now) (carriage_return ∷ []) ≡ true)
    × (x.now ≡ take (length s.now - 1) s.now)
    × (length x.now + 1 ≡ length s.now))
    → (unwrap_or r s).now ≡ without_return s.now
unfolding without_return
cut s None h = rw (rw (last_is s.now) at h)
cut s (Some x) h = h.1 ∙ rw (rw (last_is s.now) at h.0)

pub returns : goal.returns
returns c = ap (λ x. x.now) c.unwrap_or.ensures ∙ cut c.args.s c.strip_suffix.result c.strip_suffix.ensures.cases
