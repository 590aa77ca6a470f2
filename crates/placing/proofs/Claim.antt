-- Demand 3, whole (`demand`): one claim about a list of moves of any length, none included, that starts from the placing which an opening
-- that was not refused handed back; each move gets the placing that the last one left. It is about the contracts of opening, as `Reads` has
-- it, and of moving a lent placing, as its own clause has it, so that a weaker contract of either breaks it. Beside it stands what the
-- claim's word leximin means of the seats standing (`standing_least_of_all`), and that two moves are one by the sum (`two_moves_are_one`).
-- Assumes nothing.
use mathlib.Core.Path.{◌≡◌, refl, sym, ◌∙◌, ap}
use mathlib.Core.Bool.{cond}
use mathlib.Core.List.{List, [], ◌∷◌, map}
use Prim.Native.Nat.{ℕ, zero, suc, ◌+◌, ◌-◌, ◌<◌, ◌≤◌, min}
use native.Mathlib.Omega.{arith}
use native.Mathlib.Nat.{not-suc-le-zero, le_of_suc-le-suc, zero-add}
use lib.Dec.{ltb, eqb}
use lib.ListN.{length, take}
use borrow.Author.Tests.{eqb-true, eqb-false}
use base.Logic.{emp}
use contract.Lifetimes.{Lfts}
use denote.Triple.Entry.{Args}
use denote.Triple.Clauses.{AtExit}
use borrow.Fn.Claims.{AllOf}
use borrow.Fn.Kinds.{Dens, ended_of}
use borrow.Fn.Read.{Read, no_know, all_models, r_last}
use borrow.Fn.World.{World, Pr}
use Rattle.apportionment.specs.inner.Tests.{either_way}
use Rattle.apportionment.specs.Refusals.{accepted}
use Rattle.apportionment.specs.Lists.{sum}
use Rattle.apportionment.specs.Leximin.{leximin_for, start_total, gap, total_after}
use Rattle.claims.specs.inner.StartBounds.{gap_below_states}
use Rattle.claims.specs.inner.LeximinSteps.{states_at_most_passed}
use Rattle.claims.specs.inner.LeastOfAll.{LeastOfAll, leximin_least_of_all}
use Rattle.apportionment.specs.Allotment.{open_refusal}
use Rattle.problem.specs.inner.Passed.{open_passed}
use Rattle.claims.specs.inner.SizeClaims.{problem_positive}
use Rattle.placing.specs.Placing.{padded, placing_at, started, opened_of, moved_of}
use Rattle.placing.specs.inner.Lists.{take_padded}
use Rattle.placing.specs.inner.Walk.{start_is_first, moved_after, in_all, moved_twice}
use Rattle.placing.specs.declared.Placing.{Placing}
use Rattle.placing.specs.declared.Placed.{Placed}
use Rattle.placing.specs.declared.Moved.{Moved}
use Rattle.placing.specs.declared.MovedOn.{MovedOn}
use Rattle.placing.proofs.Placing.open.Reads as open-reads
use Rattle.placing.proofs.Placing.open.Kinds as open-kinds
use Rattle.placing.specs.contracts.Placing.advance as advance

-- ---- opening

-- One call of opening that was not refused: by its contract, given the populations ps and the house H, it handed back r.
pub record Opened (ps : List ℕ) (H : ℕ) (r : Placed) : Type 0 where
  -- The call as its contract has it: for how long the populations are lent, what is given, and what stands there at the end.
  pub lasting : Lfts 1
  pub given : Dens lasting open-kinds.ps
  pub ended : AtExit (ended_of 1 open-kinds.ps open-kinds.r) lasting
  -- It was given ps and H.
  pub populations : given.0.now ≡ ps
  pub house : given.1.0 ≡ H
  -- Its contract holds, and r is not a refusal.
  pub contract : open-reads.Post lasting given r ended
  pub accepts : r.refusal ≡ accepted

-- ---- one move

module _ (lasting : Lfts 1) (given : Args advance.signature lasting) (r : Moved) (ended : AtExit advance.ended lasting) where
  -- What the contract of moving ensures, at a model of the logic.
  abbrev ensured : (w : World) → Pr w
  ensured w = (advance.clauses w.𝓛 w.𝓜.mem w.𝓡.run lasting given).ensures tt r ended

  -- It is one plain claim, the same at every model, which a caller learns with nothing else in hand.
  abbrev reading : Read (λ w. emp w.𝓤) no_know ensured
  reading = all_models ensured (λ w. r_last _) (λ w. refl) (λ w. refl) (λ w. refl)

  -- What a caller learns from it.
  abbrev pub Learnt : Type 0
  Learnt = AllOf reading.tells

-- One call of moving: by its contract, lent the placing p and given the number k, it answered r and left the placing q there.
pub record Call (p : Placing) (k : ℕ) (r : Moved) (q : Placing) : Type 0 where
  -- The call as its contract has it: for how long the placing is lent, what is given, and what stands there at the end.
  pub lasting : Lfts 1
  pub given : Args advance.signature lasting
  pub ended : AtExit advance.ended lasting
  -- It was given p and k, and q stands there at the end.
  pub placing : given.0.now ≡ p
  pub seats : given.1.0 ≡ k
  pub left : ended.0.now ≡ q
  -- Its contract holds.
  pub contract : Learnt lasting given r ended

call_moves : {p q : Placing} {k : ℕ} {r : Moved} → Call p k r q → record { answer = r; placing = q } ≡ moved_of p k
call_moves c = rw (c.placing, c.seats, c.left) at c.contract

-- ---- a list of moves

-- Calls of moving in a row, each on the placing that the last left, with nothing else writing it in between: from the placing it stood at
-- first, the numbers given, the answers, and the placing that stands after them.
pub data Moves : Placing → List ℕ → List Moved → Placing → Type 0 where
  none : {p : Placing} → Moves p [] [] p
  move : {p q last : Placing} {k : ℕ} {r : Moved} {ks : List ℕ} {rs : List Moved} → Call p k r q → Moves q ks rs last
      → Moves p (k ∷ ks) (r ∷ rs) last

-- How many seats were moved in all.
abbrev pub moved_in_all : List Moved → ℕ
moved_in_all rs = sum (map (λ (r : Moved). r.moved) rs)

-- The refusal of the call with a given number, counted from 0.
pub refusal_at : List Moved → ℕ → ℕ
refusal_at [] i = accepted
refusal_at (r ∷ rs) zero = r.refusal
refusal_at (r ∷ rs) (suc i) = refusal_at rs i

-- What is claimed of moves by ks that answered rs, and of the placing p that stands after them.
pub record Claimed (ps : List ℕ) (H : ℕ) (ks : List ℕ) (rs : List Moved) (p : Placing) : Type 0 where
  -- The steps made are m, the smaller of the sum of the numbers given, which may pass any machine word, and the gap between L and H.
  pub steps : p.steps ≡ min (sum ks) (gap ps H)
  -- As many seats were moved in all.
  pub moved : moved_in_all rs ≡ p.steps
  -- The total is L + m if L is below H, and otherwise L less m.
  pub total : p.total ≡ cond (ltb (start_total ps H) H) (start_total ps H + p.steps) (start_total ps H - p.steps)
  -- The seats are the leximin allotment for that total, with 0 past the states.
  pub seats : p.seats ≡ padded (leximin_for ps H p.total)
  -- Populations and house are as opened.
  pub states : p.states ≡ length ps
  pub populations : p.populations ≡ padded ps
  pub house : p.house ≡ H
  -- No call is refused.
  pub accepts : (i : ℕ) → i < length rs → refusal_at rs i ≡ accepted
  -- The gap is less than the number of states.
  pub near : gap ps H < length ps

-- ---- from a placing after m steps

module _ (ps : List ℕ) (H : ℕ) (opens : open_refusal ps H ≡ accepted) where
  -- Where moves lead that begin m steps after opening.
  record Led (m : ℕ) (ks : List ℕ) (rs : List Moved) (p : Placing) : Type 0 where
    is : p ≡ placing_at ps H (min (m + sum ks) (gap ps H))
    moved : m + moved_in_all rs ≡ min (m + sum ks) (gap ps H)
    accepts : (i : ℕ) → i < length rs → refusal_at rs i ≡ accepted

  -- One move more, in front: by its contract it is not refused, and the others begin where it leads.
  led_by_move : {m k : ℕ} {p q last : Placing} {r : Moved} {ks : List ℕ} {rs : List Moved} → m ≤ gap ps H → p ≡ placing_at ps H m
      → Call p k r q → ((m' : ℕ) → m' ≤ gap ps H → q ≡ placing_at ps H m' → Led m' ks rs last) → Led m (k ∷ ks) (r ∷ rs) last
  unfolding refusal_at sum
  led_by_move {m} {k} {p} {q} {last} {r} {ks} {rs} few e called onward =
      let made : ℕ = min k (gap ps H - m) in
      let answered : MovedOn = record { answer = r; placing = q } in
      let on : answered ≡ record { answer = record { refusal = accepted; moved = made }; placing = placing_at ps H (m + made) } =
      call_moves called ∙ ap (λ (x : Placing). moved_of x k) e ∙ moved_after ps H opens m k few in
      let led = onward (m + made) (omega arith) (ap (λ (x : MovedOn). x.placing) on) in
      let told : r.moved ≡ made = ap (λ (x : MovedOn). x.answer.moved) on in
      record {
        is = led.is ∙ ap (placing_at ps H) (omega arith);
        moved = omega (arith, led.moved, told);
        accepts = all (ap (λ (x : MovedOn). x.answer.refusal) on) led.accepts;
      }
    where
      all : r.refusal ≡ accepted → ((i : ℕ) → i < length rs → refusal_at rs i ≡ accepted)
          → (i : ℕ) → i < length (r ∷ rs) → refusal_at (r ∷ rs) i ≡ accepted
      all first later zero h = first
      all first later (suc i) h = later i (le_of_suc-le-suc h)

  moves_lead : {m : ℕ} {p last : Placing} {ks : List ℕ} {rs : List Moved} → m ≤ gap ps H → p ≡ placing_at ps H m → Moves p ks rs last
      → Led m ks rs last
  unfolding sum
  moves_lead {m} few e none =
      record {
        is = e ∙ ap (placing_at ps H) (omega arith);
        moved = omega arith;
        accepts = λ i h. absurd (not-suc-le-zero h);
      }
  moves_lead few e (move called later) = led_by_move few e called (λ m' few' e'. moves_lead few' e' later)

-- ---- the claim

-- An opening that was not refused opens.
not_refused : {ps : List ℕ} {H : ℕ} {r : Placed} → Opened ps H r → (open_refusal ps H ≡ accepted) × (r.placing ≡ started ps H)
unfolding opened_of
not_refused {ps} {H} {r} opened =
    let handed : r ≡ opened_of ps H = rw (opened.populations, opened.house) at opened.contract in
    either_way (eqb (open_refusal ps H) accepted)
    (λ t. (eqb-true _ _ t, ap (λ (x : Placed). x.placing) (rw t at handed)))
    (λ t. absurd (eqb-false _ _ t (sym (ap (λ (x : Placed). x.refusal) (rw t at handed)) ∙ opened.accepts)))

led_claimed : (ps : List ℕ) (H : ℕ) (opens : open_refusal ps H ≡ accepted) {ks : List ℕ} {rs : List Moved} {p : Placing}
    → Led ps H opens 0 ks rs p → Claimed ps H ks rs p
unfolding placing_at total_after
led_claimed ps H opens {ks} {rs} {p} led =
    let m : ℕ = min (sum ks) (gap ps H) in
    let is : p ≡ placing_at ps H m = led.is ∙ ap (λ (k : ℕ). placing_at ps H (min k (gap ps H))) (zero-add (sum ks)) in
    let steps : p.steps ≡ m = ap (λ (q : Placing). q.steps) is in
    record {
      steps = steps;
      moved = omega (arith, led.moved, steps);
      total = rw is;
      seats = rw is;
      states = ap (λ (q : Placing). q.states) is;
      populations = ap (λ (q : Placing). q.populations) is;
      house = ap (λ (q : Placing). q.house) is;
      accepts = led.accepts;
      near = gap_below_states (problem_positive (open_passed ps H opens).problem);
    }

-- Demand 3: an opening that was not refused handed back r, moves by ks in a row from there answered rs, and p stands after them.
pub demand : {ps : List ℕ} {H : ℕ} {r : Placed} {p : Placing} → Opened ps H r → (ks : List ℕ) (rs : List Moved) → Moves r.placing ks rs p
    → Claimed ps H ks rs p
demand {ps} {H} opened ks rs moves =
    let start = not_refused opened in
    led_claimed ps H start.0 (moves_lead ps H start.0 (omega arith) (start.1 ∙ start_is_first ps H start.0) moves)

-- ---- least of all

-- The seats of a placing's states, without the 0 past them.
unfoldable pub own_seats : Placing → List ℕ
own_seats p = take p.states p.seats

-- Whatever moves were made, the seats standing have the least list of all with their total and, where several have it, more seats at the
-- first state where they differ: what document 01 means by the leximin allotment.
pub standing_least_of_all : {ps : List ℕ} {H : ℕ} {r : Placed} {p : Placing} → Opened ps H r → (ks : List ℕ) (rs : List Moved)
    → Moves r.placing ks rs p → LeastOfAll ps H p.total (own_seats p)
unfolding own_seats total_after
standing_least_of_all {ps} {H} {r} {p} opened ks rs moves =
    let claimed = demand opened ks rs moves in
    let o = open_passed ps H (not_refused opened).0 in
    let positive = problem_positive o.problem in
    let few : p.steps ≤ gap ps H = omega (arith, claimed.steps) in
    let enough = states_at_most_passed positive o.seat_for_each p.steps few in
    let least = leximin_least_of_all positive p.total (rw claimed.total enough) in
    rw (claimed.states, claimed.seats, ← least.allotted.states, take_padded) least

-- ---- two moves

-- Moving by j and then by k leaves the same placing, and as many moved in all, as moving by j + k, where that sum can be given; the placing
-- may be any, and a foreign one is refused by both ways alike.
pub two_moves_are_one : {p q last other : Placing} {j k : ℕ} {r s t : Moved} → Call p j r q → Call q k s last → Call p (j + k) t other
    → (other ≡ last) × (t.moved ≡ r.moved + s.moved) × (t.refusal ≡ s.refusal)
two_moves_are_one {p} {q} {last} {other} {j} {k} {r} {s} {t} first second both =
    (ap (λ (x : MovedOn). x.placing) same, ap (λ (x : MovedOn). x.answer.moved) same, ap (λ (x : MovedOn). x.answer.refusal) same)
  where
    one : MovedOn
    one = record { answer = r; placing = q }

    two : MovedOn
    two = record { answer = s; placing = last }

    same : record { answer = t; placing = other } ≡ in_all one two
    same =
        call_moves both ∙ moved_twice p j k
        ∙ sym (ap (in_all one) (call_moves second)
        ∙ ap (λ (x : MovedOn). in_all x (moved_of x.placing k)) (call_moves first))
