-- The scans: the best state of those looked at is the theory's first place, so what a scan ends with is the state that moves.
-- Assumes nothing.
use Rattle.std.specs.Prelude.{◌≡◌, refl, Option, Some, None, Bool, cond, List, ℕ, zero, suc, ◌+◌, ◌-◌, ◌<◌, ◌≤◌, length, get_or}
use Rattle.std.proofs.Common.{arith, add-sub_cancel, sub-one, subst, lt-ltb, le-ltb}
use Rattle.apportionment.specs.Limits.{house_limit}
use Rattle.apportionment.specs.Lists.{first_place}
use Rattle.apportionment.specs.inner.Tests.{either_way}
use Rattle.apportionment.specs.inner.Problem.{Problem, Fillable, sum_above_zero}
use Rattle.claims.specs.inner.Order.{wants_before, gives_up_before}
use Rattle.claims.specs.inner.SizeClaims.{size_test, one_each}
use Rattle.sizes.specs.inner.Sizes.{WithSeats, state_at, ClaimIs, less_claim, claim_order_kept}
use Rattle.leximin.specs.declared.scan.Candidate.{Candidate}
use Rattle.leximin.specs.declared.scan.Giver.{Giver}
use Rattle.sizes.specs.declared.Claim.{Claim}

-- Seats for the states of a problem, none beyond the largest house: what a scan for placing asks.
pub record Bounded (ps : List ℕ) (P H : ℕ) (xs : List ℕ) : Type 0 where
  pub fillable : Fillable ps P H xs
  pub seats_within : (i : ℕ) → get_or xs i 0 ≤ house_limit

-- A state with up to one seat more than it has.
pub state_with : {ps xs : List ℕ} {P H a : ℕ} → Bounded ps P H xs → (i : ℕ) → a ≤ get_or xs i 0 + 1 → WithSeats (get_or ps i 0) a P H
state_with b i h = record { state = state_at b.fillable.problem i; seats_within = omega (arith, h, b.seats_within i) }

-- ---- one more place looked at

pub first_place_next : (before : ℕ → ℕ → Bool) (i : ℕ) → 0 < i
    → first_place before i ≡ cond (before i (first_place before (i - 1))) i (first_place before (i - 1))
unfolding first_place
first_place_next before zero h = omega arith
first_place_next before (suc k) h = rw (sub-one (suc k))

-- ---- placing

unfoldable pub better_candidate : Candidate → ℕ → Claim → Candidate
better_candidate best i c = cond (less_claim c best.claim) (record { place = i; claim = c }) best

-- The candidate is state j with its next claim.
pub record CandidateIs (ps xs : List ℕ) (P H j : ℕ) (c : Candidate) : Type 0 where
  pub place : c.place ≡ j
  pub claim : ClaimIs (get_or ps j 0) (get_or xs j 0) P H c.claim

-- Comparing two claims as they are held is comparing them by the test of claims.
pub claims_compared : {ps : List ℕ} {P H : ℕ} → Problem ps P H → (i a j b : ℕ) {c d : Claim}
    → ClaimIs (get_or ps i 0) a P H c → ClaimIs (get_or ps j 0) b P H d → less_claim c d ≡ size_test ps H i a j b
unfolding size_test
claims_compared {ps} {P} {H} problem i a j b ci dj =
    rw (ci.is, dj.is, ← problem.states.sums) (claim_order_kept (get_or ps i 0) a (get_or ps j 0) b P H (sum_above_zero problem.states))

module _ (ps xs : List ℕ) (P H : ℕ) (problem : Problem ps P H) where
  abbrev before : ℕ → ℕ → Bool
  before = wants_before (size_test ps H) xs

  pub claim_test : (i j : ℕ) {c d : Claim} → ClaimIs (get_or ps i 0) (get_or xs i 0) P H c → ClaimIs (get_or ps j 0) (get_or xs j 0) P H d
      → less_claim c d ≡ wants_before (size_test ps H) xs i j
  unfolding wants_before
  claim_test i j ci dj = claims_compared problem i (get_or xs i 0) j (get_or xs j 0) ci dj

  pub candidate_next : (i : ℕ) {best : Candidate} {c : Claim} → 0 < i
      → CandidateIs ps xs P H (first_place (wants_before (size_test ps H) xs) (i - 1)) best
      → ClaimIs (get_or ps i 0) (get_or xs i 0) P H c
      → CandidateIs ps xs P H (first_place (wants_before (size_test ps H) xs) (i + 1 - 1)) (better_candidate best i c)
  unfolding better_candidate
  candidate_next i {best} {c} pos is ci =
      rw (add-sub_cancel i 1, first_place_next before i pos, ← claim_test i (first_place before (i - 1)) ci is.claim)
      (either_way (less_claim c best.claim) (λ e. rw e (record { place = refl; claim = ci })) (λ e. rw e is))

-- ---- withdrawing

-- Such seats, at least one for each state: what a scan for withdrawing asks.
pub record Seated (ps : List ℕ) (P H : ℕ) (xs : List ℕ) : Type 0 where
  pub bounded : Bounded ps P H xs
  pub least : (i : ℕ) → i < length ps → 1 ≤ get_or xs i 0

-- What is known of a state that may give up a seat: if it has one to spare, the claim that its last seat met.
abbrev pub SpareIs : (p a P H : ℕ) → Option Claim → Type 0
SpareIs p a P H None = a ≤ 1
SpareIs p a P H (Some c) = (1 < a) × ClaimIs p (a - 1) P H c

pub record GiverAt (p a P H j : ℕ) (g : Giver) : Type 0 where
  pub place : g.place ≡ j
  pub spare : SpareIs p a P H g.spare

abbrev pub GiverIs : (ps xs : List ℕ) (P H j : ℕ) → Giver → Type 0
GiverIs ps xs P H j g = GiverAt (get_or ps j 0) (get_or xs j 0) P H j g

unfoldable pub better_giver : Giver → Giver → Giver
better_giver best next =
    elim next.spare
    [ None ↦ best | Some claim ↦ elim best.spare [ None ↦ next | Some held ↦ cond (less_claim claim held) best next ] ]

module _ (ps xs : List ℕ) (P H : ℕ) (problem : Problem ps P H) where
  abbrev gives : ℕ → ℕ → Bool
  gives = gives_up_before one_each (size_test ps H) xs

  giver_picks : (i j : ℕ) {best next : Giver} → GiverIs ps xs P H j best → GiverIs ps xs P H i next
      → (s t : Option Claim) → next.spare ≡ s → best.spare ≡ t → GiverIs ps xs P H (cond (gives i j) i j) (better_giver best next)
  unfolding gives_up_before better_giver
  giver_picks i j {best} {next} b n None t es et =
      let none : get_or xs i 0 ≤ 1 = subst (SpareIs (get_or ps i 0) (get_or xs i 0) P H) es n.spare in
      rw (es, le-ltb _ _ none) b
  giver_picks i j {best} {next} b n (Some c) None es et =
      let some = subst (SpareIs (get_or ps i 0) (get_or xs i 0) P H) es n.spare in
      let none : get_or xs j 0 ≤ 1 = subst (SpareIs (get_or ps j 0) (get_or xs j 0) P H) et b.spare in
      rw (es, et, lt-ltb _ _ some.0, le-ltb _ _ none) (record { place = n.place; spare = some })
  giver_picks i j {best} {next} b n (Some c) (Some d) es et =
      let some = subst (SpareIs (get_or ps i 0) (get_or xs i 0) P H) es n.spare in
      let other = subst (SpareIs (get_or ps j 0) (get_or xs j 0) P H) et b.spare in
      let same : less_claim c d ≡ size_test ps H i (get_or xs i 0 - 1) j (get_or xs j 0 - 1) =
      claims_compared problem i (get_or xs i 0 - 1) j (get_or xs j 0 - 1) some.1 other.1 in
      rw (es, et, lt-ltb _ _ some.0, lt-ltb _ _ other.0, ← same)
      (either_way (less_claim c d)
      (λ e. rw e (record { place = b.place; spare = other })) (λ e. rw e (record { place = n.place; spare = some })))

  pub giver_next : (i : ℕ) {best next : Giver} → 0 < i
      → GiverIs ps xs P H (first_place (gives_up_before one_each (size_test ps H) xs) (i - 1)) best → GiverIs ps xs P H i next
      → GiverIs ps xs P H (first_place (gives_up_before one_each (size_test ps H) xs) (i + 1 - 1)) (better_giver best next)
  giver_next i {best} {next} pos b n =
      rw (add-sub_cancel i 1, first_place_next gives i pos)
      (giver_picks i (first_place gives (i - 1)) b n next.spare best.spare refl refl)
