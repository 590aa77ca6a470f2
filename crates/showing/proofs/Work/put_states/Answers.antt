use Rattle.std.proofs.Common.{refl, sym, ap, ◌≡◌, ◌∙◌, ◌<◌, arith, length, get_or}
use Rattle.std.proofs.lemmas.List.{length_push}
use Rattle.std.proofs.lemmas.Slice.Zip.{zip_turn, zip_end}
use Rattle.register.specs.Register.{lines_after}
use Rattle.register.specs.inner.Rows.{rows_next, name_of_first}
use Rattle.placing.specs.Placing.{people_of}
use Rattle.showing.specs.Work.{states_text, state_lines, seats_in}
use Rattle.showing.specs.inner.Work.{state_lines_more}
use Rattle.writing.specs.inner.Page.{appended_nothing, appended_then}
use Rattle.showing.proofs.Work.put_states.Goals as goal
use Rattle.showing.proofs.Work.put_states.Goals.{After-first_name}

-- A turn is at a state's place, and its numbers are that state's.
turn_of : (c : After-first_name)
    → (length c.loop-population.yielded < length (people_of c.args.self.now.placing))
    × (c.in-Some.population.now ≡ get_or (people_of c.args.self.now.placing) (length c.loop-population.yielded) 0)
    × (c.in-Some.held.now ≡ get_or (seats_in c.args.self.now.placing) (length c.loop-population.yielded) 0)
unfolding people_of seats_in
turn_of c =
    let placing = c.args.self.now.placing in
    let turn = zip_turn (people_of placing) (seats_in placing) c.loop-population.yielded _ _ c.next.new.self _ (cc) (cc)
    c.loop-population.yielded_by (c.in-Some.population, c.in-Some.held) c.in-Some.is c.next.ensures.steps in
    (turn.0, turn.2 0, turn.3 0)

pub loop-population-init : goal.loop-population-init
unfolding lines_after state_lines
loop-population-init c = record { next_row = refl; wrote = appended_nothing c.args.page.now }

pub put_line-requires : goal.put_line-requires
put_line-requires c =
    let turn = turn_of (goal.at.put_line-requires c).After-first_name in
    rw (turn.1, turn.2) (c.args.self.now.fit.in_limits.each (length c.loop-population.yielded) turn.0)

pub loop-population-preserved : goal.loop-population-preserved
loop-population-preserved c =
    let rows = c.args.self.now.rows.now in
    let k = length c.loop-population.yielded in
    let turn = turn_of (goal.at.loop-population-preserved c).After-first_name in
    let so_far = c.loop-population.invariant in
    rw (length_push c.loop-population.yielded (c.in-Some.population, c.in-Some.held))
    (record {
      next_row = c.rest-row.ensures ∙ ap (lines_after 1) so_far.next_row ∙ sym (rows_next k rows);
      wrote =
          rw state_lines_more
          (appended_then so_far.wrote
          (rw (c.first_name.ensures, so_far.next_row, name_of_first k rows, turn.1, turn.2) at c.put_line.ensures));
    })

pub returns : goal.returns
unfolding states_text people_of seats_in
returns c =
    let fit = c.args.self.now.fit in
    let placing = c.args.self.now.placing in
    let end = zip_end (people_of placing) (seats_in placing) c.loop-population.yielded _ _ c.next.new.self _ (cc) (cc)
    c.loop-population.yielded_by c.in-None.is c.next.ensures.steps in
    let all : length c.loop-population.yielded ≡ c.args.self.now.placing.states = omega (arith, end, fit.in_limits.paired, fit.counted) in
    appended_then (rw all at c.loop-population.invariant.wrote) c.put_total.ensures
