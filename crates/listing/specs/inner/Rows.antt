-- The lines of the states, told from the rows of the register, which hold the states' names.
-- Assumes nothing.
use Rattle.std.specs.Prelude.{◌≡◌, refl, List, ◌++◌, ℕ, zero, suc, ◌+◌, ◌<◌, get_or}
use Rattle.std.proofs.Common.{add-one, arith}
use Rattle.apportionment.specs.Refusals.{accepted}
use Rattle.register.specs.Register.{reading_of, populations_in}
use Rattle.register.specs.Register.{rows_of, name_in_row, name_of}
use Rattle.register.specs.inner.Sound.{name_there}
use Rattle.register.specs.Register.{ReadingOutcome}
use Rattle.listing.specs.Listing.{state_line, state_lines, seats_in, listing_in, listing_of}

-- One state more.
pub state_lines_more : (name : ℕ → List ℕ) (ps seats : List ℕ) (P H k : ℕ)
    → state_lines name ps seats P H (k + 1) ≡ state_lines name ps seats P H k ++ state_line (name k) (get_or ps k 0) (get_or seats k 0) P H
unfolding state_lines
state_lines_more name ps seats P H k = rw add-one

-- The same names give the same lines ..
same_names : (f g : ℕ → List ℕ) (ps seats : List ℕ) (P H k : ℕ) → ((i : ℕ) → i < k → f i ≡ g i)
    → state_lines f ps seats P H k ≡ state_lines g ps seats P H k
unfolding state_lines
same_names f g ps seats P H zero same = refl
same_names f g ps seats P H (suc k) same =
    rw (same_names f g ps seats P H k (λ i below. same i (omega arith)), same k (omega arith))

-- .. and the same listing.
pub same_listing : (f g : ℕ → List ℕ) (r : ReadingOutcome) (seats : List ℕ) → ((i : ℕ) → i < r.states → f i ≡ g i)
    → listing_in r f seats ≡ listing_in r g seats
unfolding listing_in
same_listing f g r seats same = rw (same_names f g (populations_in r) seats r.total r.house r.states same)

-- The listing of a register that is read, by its rows.
pub listing_by_rows : (s : List ℕ) → (reading_of s).refusal ≡ accepted
    → listing_of s ≡ listing_in (reading_of s) (name_in_row (rows_of s)) (seats_in (reading_of s))
unfolding listing_of
listing_by_rows s good =
    same_listing (name_of s) (name_in_row (rows_of s)) (reading_of s) (seats_in (reading_of s)) (λ i below. name_there s i good below)
