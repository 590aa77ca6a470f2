-- The four ways of allotting, which of them each method takes, and that a method's seats and steps are those of its way.
-- Assumes nothing.
use Rattle.std.specs.Prelude.{◌≡◌, refl, true, List, ℕ}
use Rattle.apportionment.specs.Leximin.{leximin_for, gap}
use Rattle.apportionment.specs.Divisor.{divisor_seats}
use Rattle.apportionment.specs.Remainders.{remainder_seats}
use Rattle.apportionment.specs.Quota.{quota_seats}
use Rattle.apportionment.specs.Allotment.{seats_of, steps_of, seats_every_state}
use Rattle.apportionment.specs.declared.DivisorMethod.{DivisorMethod}
use Rattle.apportionment.specs.declared.Method.{Method}
use Rattle.apportionment.specs.declared.Method.TheVariants.{Leximin, Adams, Dean, Hill, Webster, Jefferson, Remainders, Quota}
use Rattle.allot.specs.inner.Allot.{Filled}
use Rattle.allot.specs.declared.Way.{Way}
use Rattle.allot.specs.declared.Way.TheVariants.{Divisor}

-- The way of each method.
unfoldable pub way_of : Method → Way
way_of Leximin = Way.Leximin
way_of Adams = Divisor DivisorMethod.Adams
way_of Dean = Divisor DivisorMethod.Dean
way_of Hill = Divisor DivisorMethod.Hill
way_of Webster = Divisor DivisorMethod.Webster
way_of Jefferson = Divisor DivisorMethod.Jefferson
way_of Remainders = Way.Remainders
way_of Quota = Way.Quota

-- The seats and the steps by each way.
abbrev pub seats_by : Way → (ps : List ℕ) (H : ℕ) → List ℕ
seats_by Way.Leximin ps H = leximin_for ps H H
seats_by (Divisor d) ps H = divisor_seats d ps H
seats_by Way.Remainders ps H = remainder_seats ps H
seats_by Way.Quota ps H = quota_seats ps H

abbrev pub steps_by : Way → (ps : List ℕ) (H : ℕ) → ℕ
steps_by Way.Leximin ps H = gap ps H
steps_by (Divisor d) ps H = 0
steps_by Way.Remainders ps H = 0
steps_by Way.Quota ps H = 0

-- A method's seats and steps are those of its way.
pub filled_by_way : (m : Method) (ps : List ℕ) (H : ℕ) → Filled m ps H (seats_by (way_of m) ps H) (steps_by (way_of m) ps H)
unfolding seats_of steps_of way_of
filled_by_way Leximin ps H = record { seats = refl; steps = refl }
filled_by_way Adams ps H = record { seats = refl; steps = refl }
filled_by_way Dean ps H = record { seats = refl; steps = refl }
filled_by_way Hill ps H = record { seats = refl; steps = refl }
filled_by_way Webster ps H = record { seats = refl; steps = refl }
filled_by_way Jefferson ps H = record { seats = refl; steps = refl }
filled_by_way Remainders ps H = record { seats = refl; steps = refl }
filled_by_way Quota ps H = record { seats = refl; steps = refl }

-- So what was filled in by the way that was found is what the method gives.
pub filled_as_found : (m : Method) (ps : List ℕ) (H : ℕ) {found way : Way} {xs : List ℕ} {made : ℕ} → found ≡ way_of m → found ≡ way
    → xs ≡ seats_by way ps H → made ≡ steps_by way ps H → Filled m ps H xs made
filled_as_found m ps H e f seats steps = rw (seats, steps, ← f, e) (filled_by_way m ps H)

-- A method whose way is leximin gives every state a seat; Adams, Dean and Hill do in any case.
pub leximin_seats_every_state : (m : Method) {found : Way} → found ≡ way_of m → found ≡ Way.Leximin → seats_every_state m ≡ true
unfolding way_of
leximin_seats_every_state Leximin e f = refl
leximin_seats_every_state Adams e f = refl
leximin_seats_every_state Dean e f = refl
leximin_seats_every_state Hill e f = refl
leximin_seats_every_state Webster e f = cc
leximin_seats_every_state Jefferson e f = cc
leximin_seats_every_state Remainders e f = cc
leximin_seats_every_state Quota e f = cc
