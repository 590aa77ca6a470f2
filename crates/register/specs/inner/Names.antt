-- Laws of the name at a place, which proofs cite.
-- Assumes nothing.
use Rattle.std.specs.Prelude.{◌≡◌, refl, List, ℕ, zero, suc}
use Rattle.fields.specs.Grammar.{rest_of}
use Rattle.register.specs.Register.{lines_after}

pub lines_next : (k : ℕ) (s : List ℕ) → lines_after (suc k) s ≡ rest_of (lines_after k s)
unfolding lines_after
lines_next zero s = refl
lines_next (suc k) s = lines_next k (rest_of s)
