-- The orders in which states are given a seat or give one up are orders for a tournament, under any order of claims; and a state's seats
-- bear on no other states' order.
-- Assumes nothing.
use Rattle.std.specs.Prelude.{◌≡◌, true, false, List, ℕ, ◌-◌, ◌<◌, ◌≤◌, ltb, set}
use Rattle.std.proofs.Common.{arith, lt-ltb, ltb-true}
use Rattle.std.proofs.Math.ListN.{get_or}
use Rattle.std.proofs.Math.Seq.{get_or-set_other}
use Rattle.apportionment.specs.inner.Tests.{either_way}
use Rattle.claims.specs.inner.Order.{ClaimTest, ClaimOrder, wants_before, gives_up_before}
use Rattle.claims.specs.inner.StandingOrder.{Claim, claims_through, claims_trans}
use Rattle.claims.specs.inner.Standing.{gives_up, keeps_seat}
use Rattle.claims.specs.inner.Tournament.{Passes}
use Rattle.claims.specs.inner.TournamentReplay.{AgreeBut}

-- State i gives up a seat rather than state j where it is above its fewest and, if j is too, i's last claim does not come first.
gives_up_where : (lo : ℕ → ℕ) (lt : ClaimTest) (xs : List ℕ) (i j : ℕ) → lo i < get_or xs i 0
    → (lo j < get_or xs j 0 → lt i (get_or xs i 0 - 1) j (get_or xs j 0 - 1) ≡ false) → gives_up_before lo lt xs i j ≡ true
unfolding gives_up_before
gives_up_where lo lt xs i j h rest =
    either_way (ltb (lo j) (get_or xs j 0))
    (λ more. rw (lt-ltb (lo i) (get_or xs i 0) h, more, rest (ltb-true (lo j) (get_or xs j 0) more)))
    (λ none. rw (lt-ltb (lo i) (get_or xs i 0) h, none))

-- It does not where, if it is above its fewest, j is too and i's last claim comes first.
keeps_seat_where : (lo : ℕ → ℕ) (lt : ClaimTest) (xs : List ℕ) (i j : ℕ)
    → (lo i < get_or xs i 0 → (lo j < get_or xs j 0) × (lt i (get_or xs i 0 - 1) j (get_or xs j 0 - 1) ≡ true))
    → gives_up_before lo lt xs i j ≡ false
unfolding gives_up_before
keeps_seat_where lo lt xs i j rest =
    either_way (ltb (lo i) (get_or xs i 0))
    (λ more. let kept = rest (ltb-true (lo i) (get_or xs i 0) more) in rw (more, lt-ltb (lo j) (get_or xs j 0) kept.0, kept.1))
    (λ none. rw none)

module _ {n : ℕ} {lo : ℕ → ℕ} {lt : ClaimTest} (order : ClaimOrder n lo lt) (xs : List ℕ) where
  -- Placing.
  pub wants_passes : ((i : ℕ) → i < n → lo i ≤ get_or xs i 0) → Passes n (wants_before lt xs)
  unfolding wants_before
  wants_passes least =
      record {
        comes = λ i j k ij jk hk. claims_trans n lo lt order (next k hk) (next j (omega arith)) (next i (omega arith));
        stays = λ i j k ij jk hk. claims_through n lo lt order (next k hk) (next j (omega arith)) (next i (omega arith));
      }
    where
      next : (i : ℕ) → i < n → Claim n lo
      next i hi = (i, get_or xs i 0, hi, least i hi)

  -- Withdrawing.
  pub gives_passes : Passes n (gives_up_before lo lt xs)
  gives_passes =
      record {
        comes = λ i j k ij jk hk kj ji.
            let gk = gives_up lo lt xs k j kj in
            let gj = gives_up lo lt xs j i ji in
            gives_up_where lo lt xs k i gk.0 (λ above.
            claims_through n lo lt order (last k hk gk.0) (last j (omega arith) gj.0) (last i (omega arith) above)
            (gk.1 gj.0) (gj.1 above));
        stays = λ i j k ij jk hk kj ji. keeps_seat_where lo lt xs k i (λ above.
            let kk = keeps_seat lo lt xs k j kj above in
            let kept = keeps_seat lo lt xs j i ji kk.0 in (
              kept.0,
              claims_trans n lo lt order (last k hk above) (last j (omega arith) kk.0) (last i (omega arith) kept.0)
                  kk.1 kept.1,
            ));
      }
    where
      last : (i : ℕ) → i < n → lo i < get_or xs i 0 → Claim n lo
      last i hi h = (i, get_or xs i 0 - 1, hi, omega arith)

-- ---- a state's seats bear on no other states' order

module _ (lt : ClaimTest) (xs : List ℕ) (j v : ℕ) where
  pub wants_agree : AgreeBut j (wants_before lt xs) (wants_before lt (set xs j v))
  unfolding wants_before
  wants_agree a b ha hb = rw (get_or-set_other xs j a v 0 ha, get_or-set_other xs j b v 0 hb)

  pub gives_agree : (lo : ℕ → ℕ) → AgreeBut j (gives_up_before lo lt xs) (gives_up_before lo lt (set xs j v))
  unfolding gives_up_before
  gives_agree lo a b ha hb = rw (get_or-set_other xs j a v 0 ha, get_or-set_other xs j b v 0 hb)
