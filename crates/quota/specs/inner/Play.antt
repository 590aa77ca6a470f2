-- What the functions that give seats by turns ask and promise.
-- Assumes nothing.
use Rattle.std.specs.Prelude.{◌≡◌, refl, true, cond, List, eqb, set}
use Rattle.std.proofs.Common.{sym, ◌∙◌, le_trans, zero-mul, add-one, arith, Fits, get_or-set_same, get_or-set_other, ne_eqb, eqb-true}
use Prim.Native.Nat.{ℕ, suc, ◌+◌, ◌-◌, ◌*◌, ◌/◌, ◌<◌, ◌≤◌}
use Rattle.std.proofs.Math.Decide.{ℕ_discrete}
use Rattle.std.proofs.Math.Nat.{zero-div}
use Rattle.std.specs.Int.{w64}
use Rattle.std.proofs.Math.ListN.{length, get_or, length-set}
use Rattle.apportionment.specs.Limits.{house_limit}
use Rattle.apportionment.specs.Lists.{sum, list_of}
use Rattle.apportionment.specs.Divisor.{one_more}
use Rattle.apportionment.specs.Remainders.{whole_part}
use Rattle.apportionment.specs.Quota.{able, seat_goes_to}
use Rattle.apportionment.specs.inner.Lists.{length-list_of, get_d_list_of, sum-list_of_more}
use Rattle.apportionment.specs.inner.Problem.{States, Problem}
use Rattle.apportionment.specs.inner.Tests.{either_way}
use Rattle.apportionment.specs.inner.WholeParts.{whole_parts, share_fits}
use Rattle.claims.specs.inner.StandingMoves.{sum-set}
use Rattle.keys.specs.inner.Keys.{key_of}
use Rattle.keys.specs.inner.Tournament.{Played, root_lt, root_largest}
use Rattle.quota.specs.inner.Serving.{Peopled, problem_peopled}
use Rattle.quota.specs.inner.Rounds.{ready_by, due_at, waiting_at, seats_at, ready_grows, waiting_next, queue_within, seats_within_lem}
use Rattle.quota.specs.inner.Rounds.{rounds_serve, able_in_turn}
use Rattle.quota.specs.inner.Marks.{Ready, counted_by, share_within, part_is}
use Rattle.quota.specs.inner.Stages.{Stage, outside, waits, served, Staged, stage_admitted, stage_served, stage_later}
use Rattle.quota.specs.inner.Stages.{turn_is_root, root_waits}

-- ---- one state waits from now on

-- The lists that a state's stage is kept in, with their tournaments.
pub record Entries (ps xs outers arrivals keys ranking : List ℕ) : Type 0 where
  pub states : States ps (sum ps)
  pub seats_within : sum xs ≤ house_limit
  pub seats_long : length xs ≡ length ps
  pub outers_long : length outers ≡ length ps
  pub keys_long : length keys ≡ length ps
  pub outer_played : Played outers arrivals
  pub key_played : Played keys ranking

pub entries_root_lt : {ps xs outers arrivals keys ranking : List ℕ} → Entries ps xs outers arrivals keys ranking
    → get_or arrivals 1 0 < length ps
entries_root_lt {ps} {xs} {outers} e =
    omega (arith, root_lt outers e.outer_played (omega (arith, e.states.some_state, e.outers_long)), e.outers_long)

-- The state at a place is no longer outside, and has its key.
pub record OneAdmitted (ps xs : List ℕ) (place : ℕ) (outers keys outers_after keys_after : List ℕ) : Type 0 where
  pub outer : outers_after ≡ set outers place 0
  pub key : keys_after ≡ set keys place (key_of (get_or ps place 0) (get_or xs place 0))

-- ---- all that are able wait

-- The turn of the number after k can be prepared.
pub record Turn (ps : List ℕ) (H k : ℕ) (xs outers arrivals keys ranking : List ℕ) : Type 0 where
  pub problem : Problem ps (sum ps) H
  pub inside : k < H
  pub seats_within : sum xs ≤ house_limit
  pub staged : Staged ps H k xs outers keys
  pub outer_played : Played outers arrivals
  pub key_played : Played keys ranking

-- It is prepared: no state outside is able to have its seat.
pub record Admitted (ps : List ℕ) (H k : ℕ) (xs outers arrivals keys ranking : List ℕ) : Type 0 where
  pub staged : Staged ps H k xs outers keys
  pub outer_played : Played outers arrivals
  pub key_played : Played keys ranking
  pub none : (i : ℕ) → i < length ps → get_or outers i 0 < H - k

pub turn_entries : {ps : List ℕ} {H k : ℕ} {xs outers arrivals keys ranking : List ℕ} → Turn ps H k xs outers arrivals keys ranking
    → Entries ps xs outers arrivals keys ranking
turn_entries t = record {
  states = t.problem.states;
  seats_within = t.seats_within;
  seats_long = t.staged.seats_long;
  outers_long = t.staged.outers_long;
  keys_long = t.staged.keys_long;
  outer_played = t.outer_played;
  key_played = t.key_played;
}

module _ {ps : List ℕ} {H k : ℕ} {xs outers keys : List ℕ} (all : Staged ps H k xs outers keys) where
  -- No entry of a state outside is above the house.
  pub outer_within : (i : ℕ) → i < length ps → get_or outers i 0 ≤ H
  outer_within i hi = by_stage (all.each i hi)
    where
      by_stage : {x key outer : ℕ} → Stage (get_or ps i 0) (sum ps) H (whole_part ps H i) k x outer key → outer ≤ H
      by_stage (outside e f g) = omega (arith, f)
      by_stage (waits e f g here) = omega (arith, f)
      by_stage (served e f g) = omega (arith, f)

  pub staged_admitted : (place : ℕ) → place < length ps → k < H → H ≤ get_or outers place 0 + k
      → Staged ps H k xs (set outers place 0) (set keys place (key_of (get_or ps place 0) (get_or xs place 0)))
  staged_admitted place within inside due = record {
    seats_long = all.seats_long;
    outers_long = length-set outers place 0 ∙ all.outers_long;
    keys_long = length-set keys place _ ∙ all.keys_long;
    each = λ i hi. by_place i hi (ℕ_discrete i place);
  }
    where
      key : ℕ
      key = key_of (get_or ps place 0) (get_or xs place 0)

      by_place : (i : ℕ) → i < length ps → Dec (i ≡ place)
          → Stage (get_or ps i 0) (sum ps) H (whole_part ps H i) k (get_or xs i 0) (get_or (set outers place 0) i 0)
          (get_or (set keys place key) i 0)
      by_place i hi (yes e) =
          rw (
            e,
            get_or-set_same outers place 0 0 (omega (arith, within, all.outers_long)),
            get_or-set_same keys place key 0 (omega (arith, within, all.keys_long)),
          )
          (stage_admitted inside (omega (arith, due)) (all.each place within))
      by_place i hi (no apart) = rw (get_or-set_other outers place i 0 0 apart, get_or-set_other keys place i key 0 apart) (all.each i hi)

  pub staged_served : (place : ℕ) → place < length ps → 0 < get_or keys place 0
      → Staged ps H k (one_more xs place) outers (set keys place 0)
  unfolding one_more
  staged_served place within some = record {
    seats_long = length-set xs place _ ∙ all.seats_long;
    outers_long = all.outers_long;
    keys_long = length-set keys place 0 ∙ all.keys_long;
    each = λ i hi. by_place i hi (ℕ_discrete i place);
  }
    where
      more : ℕ
      more = get_or xs place 0 + 1

      by_place : (i : ℕ) → i < length ps → Dec (i ≡ place)
          → Stage (get_or ps i 0) (sum ps) H (whole_part ps H i) k (get_or (set xs place more) i 0) (get_or outers i 0)
          (get_or (set keys place 0) i 0)
      by_place i hi (yes e) =
          rw (
            e,
            get_or-set_same xs place more 0 (omega (arith, within, all.seats_long)),
            get_or-set_same keys place 0 0 (omega (arith, within, all.keys_long)),
          )
          (stage_served some (all.each place within))
      by_place i hi (no apart) = rw (get_or-set_other xs place i more 0 apart, get_or-set_other keys place i 0 0 apart) (all.each i hi)

  pub staged_later : (l : ℕ) → k ≤ l → Staged ps H l xs outers keys
  staged_later l h = record {
    seats_long = all.seats_long;
    outers_long = all.outers_long;
    keys_long = all.keys_long;
    each = λ i hi. stage_later h (all.each i hi);
  }

-- One more of a turn's preparation.
module _ {ps : List ℕ} {H k : ℕ} {xs outers arrivals keys ranking : List ℕ} (t : Turn ps H k xs outers arrivals keys ranking) where
  some_outer : 0 < length outers
  some_outer = omega (arith, t.problem.states.some_state, t.staged.outers_long)

  pub arrival_lt : get_or arrivals 1 0 < length ps
  arrival_lt = omega (arith, root_lt outers t.outer_played some_outer, t.staged.outers_long)

  pub arrivals_long_lem : length arrivals ≡ 2 * length ps
  arrivals_long_lem = omega (arith, t.outer_played.size, t.staged.outers_long)

  pub ranking_long_lem : length ranking ≡ 2 * length ps
  ranking_long_lem = omega (arith, t.key_played.size, t.staged.keys_long)

  pub turn_admitted : {outers_after arrivals_after keys_after ranking_after : List ℕ} → H ≤ get_or outers (get_or arrivals 1 0) 0 + k
      → OneAdmitted ps xs (get_or arrivals 1 0) outers keys outers_after keys_after
      → Played outers_after arrivals_after × Played keys_after ranking_after
      → Turn ps H k xs outers_after arrivals_after keys_after ranking_after × (sum outers_after < sum outers)
  turn_admitted due one played =
      let place = get_or arrivals 1 0 in
      let staged = staged_admitted t.staged place arrival_lt t.inside due in (
        record {
          problem = t.problem;
          inside = t.inside;
          seats_within = t.seats_within;
          staged = rw (one.outer, one.key) staged;
          outer_played = played.0;
          key_played = played.1;
        },
        rw one.outer
            (omega (arith, sum-set outers place 0 (omega (arith, arrival_lt, t.staged.outers_long)), due, t.inside)),
      )

  pub none_due_lem : get_or outers (get_or arrivals 1 0) 0 + k < H → Admitted ps H k xs outers arrivals keys ranking
  none_due_lem rest = record {
    staged = t.staged;
    outer_played = t.outer_played;
    key_played = t.key_played;
    none = λ i hi. omega (arith, root_largest outers t.outer_played some_outer i (omega (arith, hi, t.staged.outers_long)), rest);
  }

-- ---- the number's seat is given

-- The state at the root can have a seat more.
pub record Giving (xs keys ranking : List ℕ) : Type 0 where
  pub some : 0 < length keys
  pub same_length : length xs ≡ length keys
  pub seats_within : sum xs ≤ house_limit
  pub key_played : Played keys ranking

-- Where no seat of a whole part waits, some state is able to have the number's seat.
abbrev pub Owed : (ps : List ℕ) (number waiting : ℕ) (xs : List ℕ) → Type 0
Owed ps number waiting xs = waiting ≡ 0 → able ps number xs (seat_goes_to ps number xs) ≡ true

-- The seats after a number at which so many seats of whole parts wait.
unfoldable pub served_one : (ps : List ℕ) (number waiting : ℕ) (seats : List ℕ) → List ℕ
served_one ps number waiting seats = cond (eqb waiting 0) (one_more seats (seat_goes_to ps number seats)) seats

-- The lists are in order after number k.
pub record InPlay (ps : List ℕ) (H k : ℕ) (xs outers arrivals keys ranking : List ℕ) : Type 0 where
  pub staged : Staged ps H k xs outers keys
  pub outer_played : Played outers arrivals
  pub key_played : Played keys ranking

module _ {ps : List ℕ} {H k : ℕ} {xs : List ℕ} (problem : Problem ps (sum ps) H) (inside : k < H) (within : sum xs ≤ house_limit)
    {outers arrivals keys ranking : List ℕ} (a : Admitted ps H k xs outers arrivals keys ranking) where
  pub can_give : Giving xs keys ranking
  can_give = record {
    some = omega (arith, problem.states.some_state, a.staged.keys_long);
    same_length = a.staged.seats_long ∙ sym a.staged.keys_long;
    seats_within = within;
    key_played = a.key_played;
  }

  -- The state at the root is the one whose turn it is.
  pub given_by_turn : {waiting : ℕ} {xs_after keys_after ranking_after : List ℕ} → waiting ≡ 0 → Owed ps (k + 1) waiting xs
      → xs_after ≡ one_more xs (get_or ranking 1 0) → keys_after ≡ set keys (get_or ranking 1 0) 0 → Played keys_after ranking_after
      → (xs_after ≡ served_one ps (k + 1) waiting xs) × InPlay ps H k xs_after outers arrivals keys_after ranking_after
  unfolding served_one
  given_by_turn {waiting} idle owed seats key played =
      let ok = problem_peopled problem in
      let root = get_or ranking 1 0 in
      let turn = turn_is_root ok a.staged inside within a.none a.key_played in
      let some = root_waits ok a.staged inside within a.none a.key_played (owed idle) in
      let place : root < length ps
      = omega (arith, root_lt keys a.key_played (omega (arith, ok.some, a.staged.keys_long)), a.staged.keys_long) in (
        rw (idle, ← turn) seats,
        record {
          staged = rw (seats, key) (staged_served a.staged root place some);
          outer_played = a.outer_played;
          key_played = played;
        },
      )

-- A seat of a whole part goes first.
pub part_goes_first : {ps : List ℕ} {H k : ℕ} {xs outers arrivals keys ranking : List ℕ} {waiting : ℕ} → (waiting ≡ 0 → ⊥)
    → Turn ps H k xs outers arrivals keys ranking
    → (xs ≡ served_one ps (k + 1) waiting xs) × InPlay ps H k xs outers arrivals keys ranking
unfolding served_one
part_goes_first {waiting = waiting} busy t =
    (rw (ne_eqb waiting 0 busy), record { staged = t.staged; outer_played = t.outer_played; key_played = t.key_played })

-- ---- all numbers

-- What going through the numbers starts from: the whole parts, the counts of their seats, and every state outside or, without a whole
-- part, waiting.
pub record Started (ps : List ℕ) (H : ℕ) (due xs outers arrivals keys ranking : List ℕ) : Type 0 where
  pub problem : Problem ps (sum ps) H
  pub wholes : xs ≡ whole_parts ps H
  pub ready : Ready ps H due
  pub in_play : InPlay ps H 0 xs outers arrivals keys ranking

-- The count at place k is of the seats that are due from the next number on.
pub due_is : {ps : List ℕ} {H : ℕ} {due : List ℕ} → Peopled ps → Ready ps H due → (k : ℕ) → get_or due k 0 ≡ due_at ps H (suc k)
due_is {ps} {H} {due} ok r k =
    let next : counted_by due (k + 1) ≡ ready_by ps H (suc k) = rw (← (add-one k)) (r.ready (k + 1)) in
    omega (
      arith,
      r.ready k,
      next,
      sum-list_of_more (λ (j : ℕ). get_or due j 0) k,
      ready_grows ok H k,
    )

pub served_next : (ps : List ℕ) (H t : ℕ)
    → served_one ps (t + 1) (waiting_at ps H t + due_at ps H (suc t)) (seats_at ps H t) ≡ seats_at ps H (t + 1)
unfolding served_one seats_at
served_next ps H t = rw (add-one t)

-- Number k is past.
pub record Reached (ps : List ℕ) (H k waiting : ℕ) (xs outers arrivals keys ranking : List ℕ) : Type 0 where
  pub within : k ≤ H
  pub waiting_is : waiting ≡ waiting_at ps H k
  pub seats_are : xs ≡ seats_at ps H k
  pub in_play : InPlay ps H k xs outers arrivals keys ranking

pub reached_none : {ps : List ℕ} {H : ℕ} {due xs outers arrivals keys ranking : List ℕ} → Started ps H due xs outers arrivals keys ranking
    → Reached ps H 0 0 xs outers arrivals keys ranking
unfolding waiting_at seats_at
reached_none s = record { within = omega arith; waiting_is = refl; seats_are = s.wholes; in_play = s.in_play }

module _ {ps : List ℕ} {H k waiting : ℕ} {due xs outers arrivals keys ranking : List ℕ} (problem : Problem ps (sum ps) H)
    (ready : Ready ps H due) (r : Reached ps H k waiting xs outers arrivals keys ranking) (inside : k < H) where
  queue_is : waiting + get_or due k 0 ≡ waiting_at ps H k + due_at ps H (suc k)
  queue_is = omega (arith, r.waiting_is, due_is (problem_peopled problem) ready k)

  pub queue_fits : waiting + get_or due k 0 ≤ 2 * house_limit
  queue_fits = omega (arith, queue_is, queue_within (problem_peopled problem) H k inside, problem.house_within)

  pub next_turn : Turn ps H k xs outers arrivals keys ranking
  next_turn = record {
    problem = problem;
    inside = inside;
    seats_within = rw r.seats_are (le_trans (seats_within_lem (problem_peopled problem) H k r.within) problem.house_within);
    staged = r.in_play.staged;
    outer_played = r.in_play.outer_played;
    key_played = r.in_play.key_played;
  }

  pub next_owed : Owed ps (k + 1) (waiting + get_or due k 0) xs
  next_owed idle =
      let ok = problem_peopled problem in
      rw (add-one k, r.seats_are) (able_in_turn ok H k (rounds_serve ok H k) (sym queue_is ∙ idle))

  pub reached_next : {waiting_after : ℕ} {xs_after outers_after arrivals_after keys_after ranking_after : List ℕ}
      → waiting_after ≡ waiting + get_or due k 0 - 1
      → xs_after ≡ served_one ps (k + 1) (waiting + get_or due k 0) xs
      → InPlay ps H k xs_after outers_after arrivals_after keys_after ranking_after
      → Reached ps H (k + 1) waiting_after xs_after outers_after arrivals_after keys_after ranking_after
  reached_next w e play = record {
    within = omega (arith, inside);
    waiting_is = rw (add-one k) (omega (arith, w, queue_is, waiting_next (problem_peopled problem) H k));
    seats_are = e ∙ rw (queue_is, r.seats_are) (served_next ps H k);
    in_play = record {
      staged = staged_later play.staged (k + 1) (omega arith);
      outer_played = play.outer_played;
      key_played = play.key_played;
    };
  }

-- ---- every state at its first stage

-- The entry of a state outside; without a whole part it is not outside.
unfoldable pub outer_for : (p P H whole : ℕ) → ℕ
outer_for p P H whole = cond (eqb whole 0) 0 (H - whole * P / p)

-- The key of a state that is able from the first number on.
unfoldable pub first_key_for : (p whole : ℕ) → ℕ
first_key_for p whole = cond (eqb whole 0) (key_of p 0) 0

-- Those of state i.
abbrev pub outer_of : (ps : List ℕ) (H i : ℕ) → ℕ
outer_of ps H i = outer_for (get_or ps i 0) (sum ps) H (whole_part ps H i)

abbrev pub first_key_of : (ps : List ℕ) (H i : ℕ) → ℕ
first_key_of ps H i = first_key_for (get_or ps i 0) (whole_part ps H i)

-- The entry can be worked out in machine words.
pub record EntryFits (p P H whole : ℕ) : Type 0 where
  pub someone : 0 < p
  pub share : whole * P ≤ p * H
  pub fits : Fits w64 (p * H)

module _ {ps : List ℕ} {P H : ℕ} (ok : Problem ps P H) {wholes : List ℕ} (are : wholes ≡ whole_parts ps H) (i : ℕ)
    (hi : i < length ps) where
  pub entry_fits : EntryFits (get_or ps i 0) P H (get_or wholes i 0)
  entry_fits = record { someone = ok.states.peopled i hi; share = share_within ok are i hi; fits = share_fits ok i }

  pub outer_is : outer_for (get_or ps i 0) P H (get_or wholes i 0) ≡ outer_of ps H i
  outer_is = rw (part_is ok are i hi, ok.states.sums)

  pub first_key_is : first_key_for (get_or ps i 0) (get_or wholes i 0) ≡ first_key_of ps H i
  first_key_is = rw (part_is ok are i hi)

first_stage : (p P H m : ℕ) → Stage p P H m 0 m (outer_for p P H m) (first_key_for p m)
unfolding outer_for first_key_for
first_stage p P H m = either_way (eqb m 0)
    (λ e.
    let none : m ≡ 0 = eqb-true m 0 e in
    let at_once : 0 * P / p ≡ 0 = rw zero-mul (zero-div p) in
    rw none (waits refl refl refl (omega (arith, at_once))))
    (λ e. rw e (outside refl refl refl))

pub all_staged : (ps : List ℕ) (H : ℕ)
    → Staged ps H 0 (whole_parts ps H) (list_of (outer_of ps H) (length ps)) (list_of (first_key_of ps H) (length ps))
all_staged ps H = record {
  seats_long = length-list_of (whole_part ps H) (length ps);
  outers_long = length-list_of (outer_of ps H) (length ps);
  keys_long = length-list_of (first_key_of ps H) (length ps);
  each = λ i hi.
      rw (
        get_d_list_of (whole_part ps H) (length ps) i hi,
        get_d_list_of (outer_of ps H) (length ps) i hi,
        get_d_list_of (first_key_of ps H) (length ps) i hi,
      )
      (first_stage (get_or ps i 0) (sum ps) H (whole_part ps H i));
}

-- Room for what is kept beside the seats, with zeros where seats are counted.
pub record Room (ps : List ℕ) (H : ℕ) (due outers arrivals keys ranking : List ℕ) : Type 0 where
  pub due_long : length due ≡ H
  pub none_due : sum due ≡ 0
  pub outers_long : length outers ≡ length ps
  pub arrivals_long : length arrivals ≡ 2 * length ps
  pub keys_long : length keys ≡ length ps
  pub ranking_long : length ranking ≡ 2 * length ps

module _ {ps : List ℕ} {P H : ℕ} (ok : Problem ps P H) {due outers arrivals keys ranking : List ℕ}
    (room : Room ps H due outers arrivals keys ranking) where
  pub can_mark : {wholes : List ℕ} → wholes ≡ whole_parts ps H
      → (Problem ps P (length due) × (sum due ≡ 0)) × (wholes ≡ whole_parts ps (length due))
  can_mark are = rw room.due_long ((ok, room.none_due), are)

  -- A tournament of a list that was filled in for every state.
  pub can_play : (f : ℕ → ℕ) (tree : List ℕ) {xs : List ℕ} → xs ≡ list_of f (length ps) → length tree ≡ 2 * length ps
      → (0 < length xs) × (length tree ≡ 2 * length xs)
  can_play f tree are long = rw (are, length-list_of f (length ps)) (ok.states.some_state, long)

  -- Everything is filled in, and both tournaments are played.
  pub all_started : {due_after xs outers_after arrivals_after keys_after ranking_after : List ℕ} → xs ≡ whole_parts ps H
      → Ready ps (length due) due_after
      → outers_after ≡ list_of (outer_of ps H) (length ps) → keys_after ≡ list_of (first_key_of ps H) (length ps)
      → Played outers_after arrivals_after → Played keys_after ranking_after
      → Started ps H due_after xs outers_after arrivals_after keys_after ranking_after
  all_started are ready outer key outer_played key_played = record {
    problem = rw ok.states.sums at ok;
    wholes = are;
    ready = rw room.due_long at ready;
    in_play = record {
      staged = rw (are, outer, key) (all_staged ps H);
      outer_played = outer_played;
      key_played = key_played;
    };
  }
