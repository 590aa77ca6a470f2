-- Moves under any order of claims, in either direction: the first claim not met is met where `up` is true, and otherwise the last one met
-- is given up.
-- Assumes nothing.
use Rattle.std.specs.Prelude.{◌≡◌, refl, Bool, true, false, cond, List, ℕ, zero, suc, ◌+◌, ◌-◌, ◌<◌, ◌≤◌, length, get_or, set}
use Rattle.std.proofs.Common.{sym, ap, ◌∙◌, arith, add-one}
use Rattle.apportionment.specs.Lists.{first_place}
use Rattle.apportionment.specs.Divisor.{one_more}
use Rattle.claims.specs.inner.Order.{ClaimTest, ClaimOrder, wants_before, first_unmet, placed, placed_times}
use Rattle.claims.specs.inner.Order.{gives_up_before, last_met, one_less, withdrawn, withdrawn_times}
use Rattle.claims.specs.inner.Standing.{length-placed_times, length-withdrawn_times}
use Rattle.claims.specs.inner.Tournament.{Passes}
use Rattle.claims.specs.inner.TournamentReplay.{AgreeBut}
use Rattle.claims.specs.inner.TournamentOrders.{wants_passes, gives_passes, wants_agree, gives_agree}

-- State i moves rather than state j.
unfoldable pub move_order : (up : Bool) (lo : ℕ → ℕ) → ClaimTest → List ℕ → ℕ → ℕ → Bool
move_order up lo lt xs = cond up (wants_before lt xs) (gives_up_before lo lt xs)

-- A state's seats after its move.
unfoldable pub moved_by : (up : Bool) → ℕ → ℕ
moved_by up x = cond up (x + 1) (x - 1)

-- The seats of n states after one move, of the state that comes first, and after so many.
unfoldable pub after_move : (up : Bool) (lo : ℕ → ℕ) → ClaimTest → (n : ℕ) → List ℕ → List ℕ
after_move up lo lt n xs = cond up (placed lt n xs) (withdrawn lo lt n xs)

unfoldable pub after_moves : (up : Bool) (lo : ℕ → ℕ) → ClaimTest → (n : ℕ) → List ℕ → (k : ℕ) → List ℕ
after_moves up lo lt n xs k = cond up (placed_times lt n xs k) (withdrawn_times lo lt n xs k)

-- ---- the order is one for a tournament, and a state's seats bear on no other states' order

pub order_passes : {n : ℕ} {lo : ℕ → ℕ} {lt : ClaimTest} → ClaimOrder n lo lt → (up : Bool) (xs : List ℕ)
    → ((i : ℕ) → i < n → lo i ≤ get_or xs i 0) → Passes n (move_order up lo lt xs)
unfolding move_order
order_passes order true xs least = wants_passes order xs least
order_passes order false xs least = gives_passes order xs

pub order_agrees : (up : Bool) (lo : ℕ → ℕ) (lt : ClaimTest) (xs : List ℕ) (j v : ℕ)
    → AgreeBut j (move_order up lo lt xs) (move_order up lo lt (set xs j v))
unfolding move_order
order_agrees true lo lt xs j v = wants_agree lt xs j v
order_agrees false lo lt xs j v = gives_agree lt xs j v lo

-- ---- one move, and one after others

-- The state that comes first moves.
pub first_moves : (up : Bool) (lo : ℕ → ℕ) (lt : ClaimTest) (n : ℕ) (xs : List ℕ) {i v : ℕ}
    → i ≡ first_place (move_order up lo lt xs) (n - 1) → v ≡ moved_by up (get_or xs i 0) → set xs i v ≡ after_move up lo lt n xs
unfolding move_order moved_by after_move placed one_more first_unmet withdrawn one_less last_met
first_moves true lo lt n xs first move = rw (move, first)
first_moves false lo lt n xs first move = rw (move, first)

pub after_none : (up : Bool) (lo : ℕ → ℕ) (lt : ClaimTest) (n : ℕ) (xs : List ℕ) → xs ≡ after_moves up lo lt n xs 0
unfolding after_moves placed_times withdrawn_times
after_none true lo lt n xs = refl
after_none false lo lt n xs = refl

pub after_one_more : (up : Bool) (lo : ℕ → ℕ) (lt : ClaimTest) (n : ℕ) (xs : List ℕ) (k : ℕ)
    → after_moves up lo lt n xs (k + 1) ≡ after_move up lo lt n (after_moves up lo lt n xs k)
unfolding after_moves after_move placed_times withdrawn_times
after_one_more true lo lt n xs k = rw (add-one k)
after_one_more false lo lt n xs k = rw (add-one k)

-- One move from the seats after k.
pub after_more : (up : Bool) (lo : ℕ → ℕ) (lt : ClaimTest) (n : ℕ) (xs : List ℕ) (k : ℕ) {ys zs : List ℕ}
    → ys ≡ after_moves up lo lt n xs k → zs ≡ after_move up lo lt n ys → zs ≡ after_moves up lo lt n xs (k + 1)
after_more up lo lt n xs k so_far once = once ∙ ap (after_move up lo lt n) so_far ∙ sym (after_one_more up lo lt n xs k)

-- So many moves and then so many more are the moves of the sum.
pub after_again : (up : Bool) (lo : ℕ → ℕ) (lt : ClaimTest) (n : ℕ) (xs : List ℕ) (j k : ℕ)
    → after_moves up lo lt n (after_moves up lo lt n xs j) k ≡ after_moves up lo lt n xs (j + k)
after_again up lo lt n xs j zero =
    sym (after_none up lo lt n (after_moves up lo lt n xs j)) ∙ ap (after_moves up lo lt n xs) (omega arith)
after_again up lo lt n xs j (suc k) =
    let after : ℕ → List ℕ = after_moves up lo lt n xs in
    ap (after_moves up lo lt n (after j)) (omega arith)
    ∙ after_one_more up lo lt n (after j) k
    ∙ ap (after_move up lo lt n) (after_again up lo lt n xs j k)
    ∙ sym (after_one_more up lo lt n xs (j + k))
    ∙ ap after (omega arith)

pub after_length : (up : Bool) (lo : ℕ → ℕ) (lt : ClaimTest) (n : ℕ) (xs : List ℕ) (k : ℕ)
    → length (after_moves up lo lt n xs k) ≡ length xs
unfolding after_moves
after_length true lo lt n xs k = length-placed_times n lt xs k
after_length false lo lt n xs k = length-withdrawn_times n lo lt xs k
