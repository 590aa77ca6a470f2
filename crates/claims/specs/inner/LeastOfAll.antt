-- Document 01, "Leximin", as a theorem: the leximin allotment for a total has the least list of all with that total and, where several have
-- it, more seats at the first state where they differ. It holds for every total with a seat for each state, passed on the way or not;
-- the claim about moves (`crates/placing/proofs/Claim.antt`) cites it for the seats that stand.
-- Assumes nothing.
use Rattle.std.specs.Prelude.{◌≡◌, true, false, ◌⊎◌, List, length}
use Rattle.std.proofs.Common.{⊎_elim}
use Prim.Native.Nat.{ℕ, ◌+◌, ◌-◌, ◌<◌, ◌≤◌}
use native.Mathlib.Omega.{arith}
use Rattle.apportionment.specs.Lists.{sum, list_of}
use Rattle.apportionment.specs.inner.Lists.{sum-list_of_one}
use Rattle.apportionment.specs.Leximin.{size_list, list_less, chosen_before, leximin_for, start_seats, start_total}
use Rattle.claims.specs.inner.Order.{Standing, placed_times, withdrawn_times}
use Rattle.claims.specs.inner.Standing.{placed_times_standing, sum-placed_times, withdrawn_times_standing, sum-withdrawn_times}
use Rattle.claims.specs.inner.SizeClaims.{Positive, one_each, size_test}
use Rattle.claims.specs.inner.SizeShape.{le_or_lt}
use Rattle.claims.specs.inner.SizeOrder.{size_order}
use Rattle.claims.specs.inner.StartSeats.{start_standing}
use Rattle.claims.specs.inner.Allotments.{Allotment}
use Rattle.claims.specs.inner.Optimal.{own_allotment, never_less, chosen, standing_leximin}

-- Of all allotments of a total, each state with a seat, xs has the least list and is chosen.
pub record LeastOfAll (ps : List ℕ) (H total : ℕ) (xs : List ℕ) : Type 0 where
  -- It is one of them.
  pub allotted : Allotment (length ps) total xs
  -- None has a list less than its list.
  pub none_less : (ys : List ℕ) → Allotment (length ps) total ys → list_less (size_list ps H ys) (size_list ps H xs) ≡ false
  -- It is chosen before every other one.
  pub chosen_first : (ys : List ℕ) → Allotment (length ps) total ys → (ys ≡ xs) ⊎ (chosen_before ps H xs ys ≡ true)

-- Seats of a total that stand in leximin's order of claims.
abbrev StandingAt : (ps : List ℕ) (H total : ℕ) → Type 0
StandingAt ps H total = (xs : List ℕ) × Standing (length ps) one_each (size_test ps H) xs × (sum xs ≡ total)

module _ {ps : List ℕ} {H : ℕ} (s : Positive ps H) where
  -- Seats placed one by one from the start lead to any total from its own up.
  placed_to : (total : ℕ) → start_total ps H ≤ total → StandingAt ps H total
  unfolding start_total
  placed_to total below =
      let lacking : ℕ = total - start_total ps H in (
        placed_times (size_test ps H) (length ps) (start_seats ps H) lacking,
        placed_times_standing (length ps) one_each (size_test ps H) (size_order s) (start_seats ps H) lacking s.some_state
            (start_standing s),
        omega (arith, sum-placed_times (length ps) (size_test ps H) (start_seats ps H) lacking s.some_state (start_standing s).states),
      )

  -- Seats withdrawn one by one lead to any total below it that has a seat for each state.
  withdrawn_to : (total : ℕ) → length ps ≤ total → total < start_total ps H → StandingAt ps H total
  unfolding start_total
  withdrawn_to total enough above =
      let spare : ℕ = start_total ps H - total in
      let left : sum (list_of one_each (length ps)) + spare ≤ sum (start_seats ps H) = omega (arith, sum-list_of_one (length ps)) in (
        withdrawn_times one_each (size_test ps H) (length ps) (start_seats ps H) spare,
        withdrawn_times_standing (length ps) one_each (size_test ps H) (size_order s) (start_seats ps H) spare
            s.some_state (start_standing s) left,
        omega (
          arith,
          sum-withdrawn_times (length ps) one_each (size_test ps H) (size_order s) (start_seats ps H) spare
              s.some_state (start_standing s).states left,
        ),
      )

  -- Seats that stand are least of all with their total.
  standing_least : (xs : List ℕ) → Standing (length ps) one_each (size_test ps H) xs → LeastOfAll ps H (sum xs) xs
  standing_least xs standing =
      record {
        allotted = own_allotment ps H s xs standing;
        none_less = never_less ps H s xs standing;
        chosen_first = chosen ps H s xs standing;
      }

  -- The leximin allotment for a total is least of all with that total.
  pub leximin_least_of_all : (total : ℕ) → length ps ≤ total → LeastOfAll ps H total (leximin_for ps H total)
  leximin_least_of_all total enough =
      let found : StandingAt ps H total = ⊎_elim (placed_to total) (withdrawn_to total enough) (le_or_lt (start_total ps H) total) in
      rw (← found.2, standing_leximin s found.1) (standing_least found.0 found.1)
