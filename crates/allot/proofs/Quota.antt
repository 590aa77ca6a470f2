-- What a caller of allotting has from its contract under the quota method: the quota is kept, in the seats handed back and after every seat
-- on the way to them.
-- Assumes nothing.
use mathlib.Core.Path.{◌≡◌}
use mathlib.Core.Bool.{true}
use mathlib.Core.List.{List}
use Prim.Native.Nat.{ℕ, suc, ◌<◌, ◌≤◌}
use lib.ListN.{length, get_or}
use Rattle.apportionment.specs.Lists.{sum}
use Rattle.std.specs.Prelude.{Result}
use Rattle.apportionment.specs.Refusals.{accepted, refusal_of}
use Rattle.apportionment.specs.Allotment.{seats_of}
use Rattle.apportionment.specs.Quota.{able, quota_seats, WithinQuota}
use Rattle.apportionment.specs.declared.Method.TheVariants.{Quota}
use Rattle.problem.specs.inner.Passed.{allot_passed}
use Rattle.quota.specs.inner.Serving.{Peopled, problem_peopled}
use Rattle.quota.specs.inner.Quota.{quota_kept, some_able}
use Rattle.allot.specs.Allot.{AllotmentIs}
use Rattle.allot.specs.inner.Allot.{seats_unless_refused}
use Rattle.apportionment.specs.declared.refusals.Refusal.{Refusal}

-- Every state has its quota of the house; it had its quota of h seats after each seat h on the way; and some state was able to have each
-- seat, the one numbered h + 1 after the one numbered h.
pub record QuotaKept (ps : List ℕ) (H : ℕ) (seats : List ℕ) : Type 0 where
  pub last : seats ≡ quota_seats ps H
  pub kept : (i : ℕ) → i < length ps → WithinQuota (get_or ps i 0) (sum ps) H (get_or seats i 0)
  pub kept_at : (h i : ℕ) → h ≤ H → i < length ps → WithinQuota (get_or ps i 0) (sum ps) h (get_or (quota_seats ps h) i 0)
  pub one_able : (h : ℕ) → h < H → (i : ℕ) × (i < length ps) × (able ps (suc h) (quota_seats ps h) i ≡ true)

-- An allotment by quota that was not refused keeps it.
pub allotted_keeps_quota : {H : ℕ} {ps before after : List ℕ} {r : Result ℕ Refusal} → AllotmentIs Quota H ps before after r
    → refusal_of r ≡ accepted → QuotaKept ps H after
unfolding seats_of
allotted_keeps_quota {H} {ps} {before} {after} {r} promise none =
    let given = seats_unless_refused promise none in
    let ok : Peopled ps = problem_peopled (allot_passed Quota H ps (length before) given.0).problem in
    let seats : after ≡ quota_seats ps H = given.1 in
    record {
      last = seats;
      kept = λ i hi. rw seats (quota_kept ok H i hi);
      kept_at = λ h i within hi. quota_kept ok h i hi;
      one_able = λ h within. some_able ok h;
    }
