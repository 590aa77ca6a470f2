-- The tournament among the states: how it decides between two of them, and what its functions ask and hand back. A move places a seat
-- where `up` is true, and withdraws one otherwise.
-- Assumes nothing.
use Rattle.std.specs.Prelude.{Bool, List, ℕ, ◌<◌, length}
use Rattle.claims.specs.inner.SizeClaims.{size_test, one_each}
use Rattle.claims.specs.inner.SizeOrder.{size_order}
use Rattle.claims.specs.inner.Tournament.{Passes, Winners}
use Rattle.claims.specs.inner.Moves.{move_order, order_passes}
use Rattle.leximin.specs.inner.Sided.{Sided, sided_positive}

-- State i moves rather than state j.
abbrev pub moves_before : (up : Bool) (ps : List ℕ) (H : ℕ) (xs : List ℕ) → ℕ → ℕ → Bool
moves_before up ps H xs = move_order up one_each (size_test ps H) xs

-- Two states of the list.
abbrev pub Pair : (ps : List ℕ) (i j : ℕ) → Type 0
Pair ps i j = (i < length ps) × (j < length ps)

-- Every place of the tournament is right.
abbrev pub Champions : (up : Bool) (ps : List ℕ) (H : ℕ) (xs t : List ℕ) → Type 0
Champions up ps H xs t = Winners (moves_before up ps H xs) (length ps) t

-- The order is one for a tournament.
pub moves_pass : {ps xs : List ℕ} {P H : ℕ} (up : Bool) → Sided up ps P H xs → Passes (length ps) (moves_before up ps H xs)
moves_pass {ps} {xs} up s = order_passes (size_order (sided_positive s)) up xs s.seated.least
