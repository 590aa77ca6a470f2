-- `Placing::later` meets its contract: whether the placing is genuine picks the case of the definition; no more seats are moved than are
-- left to the house, and what is left is the placing so many steps later, as `Moving` has it.
use Rattle.std.proofs.Common.{◌≡◌, sym, ◌∙◌, ap, ℕ, ◌+◌, ◌≤◌, arith}
use Rattle.std.proofs.lemmas.Bool.Decides.{nat_tests}
use Rattle.apportionment.specs.Refusals.{accepted}
use Rattle.apportionment.specs.Quantities.{distance}
use Rattle.placing.specs.Placing.{placing_at, people_of, movable}
use Rattle.placing.specs.inner.Telling.{Genuine, genuine_facts, genuine_moved, foreign_moved}
use Rattle.placing.specs.inner.Moving.{states_fit_lem, steps_fit, own_towards, later_placing}
use Rattle.placing.specs.declared.Placing.{Placing}
use Rattle.placing.specs.declared.MovedOn.{MovedOn}
use Rattle.placing.proofs.Placing.later.Goals as goal
use Rattle.placing.proofs.Placing.later.Goals.{After-min-moved, Else-not-is_genuine}

-- As many seats are moved as the definition says.
moved_as_defined : (c : After-min-moved) → c.min-moved.result ≡ movable c.args.self.now c.args.seats
unfolding movable distance
moved_as_defined c = grind (arith, nat_tests)

few_moved : (c : After-min-moved) → c.min-moved.result ≤ distance c.args.self.now.total c.args.self.now.house
unfolding movable
few_moved c = omega (arith, moved_as_defined c)

genuine_here : (c : Else-not-is_genuine) → Genuine c.args.self.now
genuine_here c = genuine_facts _ (sym c.is_genuine.ensures ∙ c.if-not-is_genuine.false)

pub returns-then-not-is_genuine : goal.returns-then-not-is_genuine
returns-then-not-is_genuine c =
    rw c.number.ensures (sym (foreign_moved _ _ (sym c.is_genuine.ensures ∙ c.if-not-is_genuine.true)))

pub shared_ref_as_front-move_towards : goal.shared_ref_as_front-move_towards
shared_ref_as_front-move_towards c =
    states_fit_lem _ (genuine_here (goal.at.shared_ref_as_front-move_towards c).Else-not-is_genuine)

pub move_towards-requires : goal.move_towards-requires
unfolding people_of
move_towards-requires c =
    let at = goal.at.move_towards-requires c in
    own_towards _ (genuine_here at.Else-not-is_genuine) (few_moved at.After-min-moved)

pub total_later-requires : goal.total_later-requires
total_later-requires c = few_moved (goal.at.total_later-requires c).After-min-moved

pub overflow_add-result : goal.overflow_add-result
overflow_add-result c =
    let at = goal.at.overflow_add-result c in
    omega (arith, steps_fit _ (genuine_here at.Else-not-is_genuine) (few_moved at.After-min-moved))

pub returns : goal.returns
unfolding movable people_of
returns c =
    let at = goal.at.returns c in
    let genuine = genuine_here at.Else-not-is_genuine in
    let p = c.args.self.now in
    let on : ℕ → Placing → MovedOn = λ moved placing. record { answer = record { refusal = accepted; moved = moved }; placing = placing } in
    ap (on _) (later_placing p genuine (few_moved at.After-min-moved) c.move_towards.ensures c.total_later.ensures)
    ∙ ap (λ (k : ℕ). on k (placing_at (people_of p) p.house (p.steps + k))) (moved_as_defined at.After-min-moved)
    ∙ sym (genuine_moved p _ genuine)
