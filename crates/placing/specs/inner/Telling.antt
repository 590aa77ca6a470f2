-- A placing of full lists is genuine exactly if it passes the tests that the code makes; and what a move gives of one that is, and of one
-- that is not.
-- Assumes nothing.
use Rattle.std.specs.Prelude.{◌≡◌, refl, true, false, List, ℕ, ◌+◌, ◌≤◌, leb, eqb, length, take, drop}
use Rattle.std.proofs.Common.{sym, ◌∙◌, ap, length-take-le, eq-eqb, eqb-true, le-leb, leb-true}
use Rattle.std.proofs.lemmas.Bool.{false≢true}
use Rattle.apportionment.specs.Limits.{state_limit}
use Rattle.apportionment.specs.Refusals.{accepted, placing_foreign}
use Rattle.apportionment.specs.Lists.{same_list}
use Rattle.apportionment.specs.inner.Lists.{same_list_self, same_list_equal}
use Rattle.apportionment.specs.Leximin.{leximin_for, gap, total_after}
use Rattle.apportionment.specs.Allotment.{open_refusal}
use Rattle.problem.specs.inner.Passed.{open_passed}
use Rattle.problem.specs.inner.Total.{capped_total, total_is_sum}
use Rattle.apportionment.specs.inner.Tests.{either_way}
use Rattle.apportionment.specs.inner.Problem.{Problem}
use Rattle.agreement.specs.inner.Lists.{all_zero}
use Rattle.agreement.specs.inner.Agreement.{and_both, steps_agree, seats_agree, agreeing, lex_states, lex_agrees, agreed_seats}
use Rattle.placing.specs.Placing.{padded, placing_at, people_of, same_placing, genuine, movable, moved_of}
use Rattle.placing.specs.inner.Lists.{padded_first, take_padded, zeros_past_padded}
use Rattle.placing.specs.declared.Placing.{Placing}

-- ---- placings that agree are equal

pub same_placing_self : (p : Placing) → same_placing p p ≡ true
unfolding same_placing
same_placing_self p =
    rw (
      eq-eqb p.states p.states refl,
      same_list_self p.populations,
      eq-eqb p.house p.house refl,
      same_list_self p.seats,
      eq-eqb p.total p.total refl,
      eq-eqb p.steps p.steps refl,
    )

pub record_equal : {s s' h h' t t' k k' : ℕ} {ps ps' xs xs' : List ℕ} → s ≡ s' → ps ≡ ps' → h ≡ h' → xs ≡ xs' → t ≡ t' → k ≡ k'
    → ◌≡◌ {A = Placing}
    (record { states = s; populations = ps; house = h; seats = xs; total = t; steps = k })
    (record { states = s'; populations = ps'; house = h'; seats = xs'; total = t'; steps = k' })
record_equal e₁ e₂ e₃ e₄ e₅ e₆ = rw (e₁, e₂, e₃, e₄, e₅, e₆)

pub same_placing_equal : (p q : Placing) → same_placing p q ≡ true → p ≡ q
unfolding same_placing
same_placing_equal p q e =
    let steps = and_both _ (eqb p.steps q.steps) e in
    let total = and_both _ (eqb p.total q.total) steps.0 in
    let seats = and_both _ (same_list p.seats q.seats) total.0 in
    let house = and_both _ (eqb p.house q.house) seats.0 in
    let people = and_both (eqb p.states q.states) (same_list p.populations q.populations) house.0 in
    record_equal (eqb-true _ _ people.0) (same_list_equal _ _ people.1) (eqb-true _ _ house.1) (same_list_equal _ _ seats.1)
    (eqb-true _ _ total.1) (eqb-true _ _ steps.1)

-- ---- genuine, as facts

pub record Genuine (p : Placing) : Type 0 where
  pub opens : open_refusal (people_of p) p.house ≡ accepted
  pub few : p.steps ≤ gap (people_of p) p.house
  pub is : p ≡ placing_at (people_of p) p.house p.steps

pub genuine_facts : (p : Placing) → genuine p ≡ true → Genuine p
unfolding genuine
genuine_facts p e =
    let same = and_both _ (same_placing p (placing_at (people_of p) p.house p.steps)) e in
    let both = and_both (eqb (open_refusal (people_of p) p.house) accepted) _ same.0 in
    record {
      opens = eqb-true _ _ both.0;
      few = leb-true _ _ both.1;
      is = same_placing_equal _ _ same.1;
    }

pub facts_genuine : (p : Placing) → Genuine p → genuine p ≡ true
unfolding genuine
facts_genuine p g =
    rw (eq-eqb _ _ g.opens, le-leb _ _ g.few)
    (ap (same_placing p) (sym g.is) ∙ same_placing_self p)

-- ---- the tests

-- A placing from what it holds.
abbrev pub placing_of : (states house total steps : ℕ) (populations seats : List ℕ) → Placing
placing_of states house total steps populations seats =
    record { states = states; house = house; total = total; steps = steps; populations = populations; seats = seats }

pub record Tested (p : Placing) : Type 0 where
  pub states_fit : p.states ≤ state_limit
  pub opens : open_refusal (people_of p) p.house ≡ accepted
  pub agrees : agreeing (people_of p) (take p.states p.seats) p.house p.total p.steps ≡ true
  pub people_end : all_zero (drop p.states p.populations) ≡ true
  pub seats_end : all_zero (drop p.states p.seats) ≡ true

-- The steps are no more than the gap, the total is the one that they lead to, and the seats are leximin for it.
pub record Agreed (ps xs : List ℕ) (H total steps : ℕ) : Type 0 where
  pub few : steps ≤ gap ps H
  pub reached : total ≡ total_after ps H steps
  pub seats : seats_agree ps xs H total ≡ true

agreed_facts : (ps xs : List ℕ) (H total steps : ℕ) → agreeing ps xs H total steps ≡ true → Agreed ps xs H total steps
unfolding agreeing steps_agree
agreed_facts ps xs H total steps e =
    let all = and_both (steps_agree ps H total steps) (seats_agree ps xs H total) e in
    let both = and_both (leb steps (gap ps H)) (eqb total (total_after ps H steps)) all.0 in
    record { few = leb-true _ _ both.0; reached = eqb-true _ _ both.1; seats = all.1 }

own_states : (p : Placing) → length p.populations ≡ state_limit → p.states ≤ state_limit → length (people_of p) ≡ p.states
unfolding people_of
own_states p full few = length-take-le p.states p.populations (rw full few)

placing_is : (p : Placing) → length (people_of p) ≡ p.states → p.populations ≡ padded (people_of p)
    → p.seats ≡ padded (leximin_for (people_of p) p.house (total_after (people_of p) p.house p.steps))
    → p.total ≡ total_after (people_of p) p.house p.steps → p ≡ placing_at (people_of p) p.house p.steps
unfolding placing_at
placing_is p many people seats total = record_equal (sym many) people refl seats total refl

-- The placing that m steps give passes.
placed_passes : (ps : List ℕ) (H m : ℕ) → open_refusal ps H ≡ accepted → m ≤ gap ps H → Tested (placing_at ps H m)
unfolding placing_at people_of agreeing steps_agree
placed_passes ps H m opens few =
    let o = open_passed ps H opens in
    let own : take (length ps) (padded ps) ≡ ps = take_padded ps in
    let lex : List ℕ = leximin_for ps H (total_after ps H m) in
    let states : length lex ≡ length ps = lex_states o.problem o.seat_for_each m few in
    record {
      states_fit = o.problem.states.states_within;
      opens = rw own opens;
      agrees =
          rw (
            own,
            sym (ap (λ (k : ℕ). take k (padded lex)) states) ∙ take_padded lex,
            le-leb m (gap ps H) few,
            eq-eqb (total_after ps H m) (total_after ps H m) refl,
          )
          (lex_agrees o.problem o.seat_for_each m few);
      people_end = zeros_past_padded ps;
      seats_end =
          ap (λ (k : ℕ). all_zero (drop k (padded lex))) (sym states) ∙ zeros_past_padded lex;
    }

-- A genuine placing passes.
pub genuine_passes : (p : Placing) → Genuine p → Tested p
genuine_passes p g = rw g.is (placed_passes (people_of p) p.house p.steps g.opens g.few)

-- A placing of full lists that passes is genuine.
pub passing_genuine : (p : Placing) → length p.populations ≡ state_limit → length p.seats ≡ state_limit → Tested p → Genuine p
unfolding people_of
passing_genuine p full_people full_seats t =
    let o = open_passed (people_of p) p.house t.opens in
    let agreed = agreed_facts (people_of p) (take p.states p.seats) p.house p.total p.steps t.agrees in
    let many : length (people_of p) ≡ p.states = own_states p full_people t.states_fit in
    let seats : take p.states p.seats ≡ leximin_for (people_of p) p.house (total_after (people_of p) p.house p.steps) =
    agreed_seats o.problem o.seat_for_each p.steps agreed.few
    (length-take-le p.states p.seats (rw full_seats t.states_fit) ∙ sym many) agreed.reached agreed.seats in
    record {
      opens = t.opens;
      few = agreed.few;
      is = placing_is p many (padded_first p.populations p.states full_people t.states_fit t.people_end)
          (padded_first p.seats p.states full_seats t.states_fit t.seats_end ∙ ap padded seats) agreed.reached;
    }

-- ---- as the code asks

-- What no passing placing can be is not genuine.
pub not_genuine : (p : Placing) → (Tested p → ⊥) → genuine p ≡ false
not_genuine p refuted =
    either_way (genuine p) (λ e. absurd (refuted (genuine_passes p (genuine_facts p e)))) (λ e. e)

-- Populations that open make a problem with the sum that was added up.
pub opened_problem : {ps : List ℕ} {P H : ℕ} → open_refusal ps H ≡ accepted → P ≡ capped_total ps → Problem ps P H
opened_problem {ps} {P} {H} opens added =
    let problem = (open_passed ps H opens).problem in
    rw (added ∙ total_is_sum ps problem.states.sum_within) problem

-- The first places of two full lists are equally many.
pub same_first : (n : ℕ) (xs ys : List ℕ) → length xs ≡ state_limit → length ys ≡ state_limit → n ≤ state_limit
    → length (take n xs) ≡ length (take n ys)
same_first n xs ys x y h = length-take-le n xs (rw x h) ∙ sym (length-take-le n ys (rw y h))

-- Once all other tests are passed, the last one decides.
pub last_test : (p : Placing) → length p.populations ≡ state_limit → length p.seats ≡ state_limit → p.states ≤ state_limit
    → open_refusal (people_of p) p.house ≡ accepted
    → agreeing (people_of p) (take p.states p.seats) p.house p.total p.steps ≡ true
    → all_zero (drop p.states p.populations) ≡ true → all_zero (drop p.states p.seats) ≡ genuine p
last_test p full_people full_seats few opens agrees people =
    either_way (all_zero (drop p.states p.seats))
    (λ e. e ∙ sym (facts_genuine p (passing_genuine p full_people full_seats
    (record { states_fit = few; opens = opens; agrees = agrees; people_end = people; seats_end = e }))))
    (λ e. e ∙ sym (not_genuine p (λ t. false≢true (sym e ∙ t.seats_end))))

-- ---- what a move gives

pub genuine_moved : (p : Placing) (k : ℕ) → Genuine p
    → moved_of p k
    ≡ record {
      answer = record { refusal = accepted; moved = movable p k };
      placing = placing_at (people_of p) p.house (p.steps + movable p k);
    }
unfolding moved_of
genuine_moved p k g = rw (facts_genuine p g)

pub foreign_moved : (p : Placing) (k : ℕ) → genuine p ≡ false
    → moved_of p k ≡ record { answer = record { refusal = placing_foreign; moved = 0 }; placing = p }
unfolding moved_of
foreign_moved p k e = rw e
