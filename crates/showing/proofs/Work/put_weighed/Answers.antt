use Rattle.std.proofs.Common.{refl, sym, ap, ◌≡◌, ◌∙◌, ◌<◌, arith, length, get_or, le_trans}
use Rattle.std.proofs.lemmas.List.{length_push}
use Rattle.std.proofs.lemmas.Slice.Zip.{zip_turn, zip_end}
use Rattle.register.specs.Register.{lines_after}
use Rattle.register.specs.inner.Rows.{rows_next, name_of_first}
use Rattle.placing.specs.Placing.{people_of}
use Rattle.showing.specs.Work.{weighed_text, weighed_lines, seats_in}
use Rattle.showing.specs.inner.Work.{weighed_at, weighed_lines_more}
use Rattle.showing.specs.inner.Showable.{all_weighable}
use Rattle.writing.specs.inner.Page.{appended_nothing, appended_then}
use Rattle.showing.proofs.Work.put_weighed.Goals as goal
use Rattle.showing.proofs.Work.put_weighed.Goals.{After-first_name}

-- A turn is at a state's place, and its numbers are that state's.
turn_of : (c : After-first_name)
    → (length c.loop-population.yielded < length (people_of c.args.self.now.placing))
    × (c.in-Some.population.now ≡ get_or (people_of c.args.self.now.placing) (length c.loop-population.yielded) 0)
    × (c.in-Some.held.now ≡ get_or (seats_in c.args.self.now.placing) (length c.loop-population.yielded) 0)
unfolding people_of seats_in
turn_of c =
    let placing = c.args.self.now.placing in
    let turn = zip_turn (people_of placing) (seats_in placing) c.loop-population.yielded _ _ c.next.new.self _ (cc) (cc)
    c.loop-population.yielded_by (c.in-Some.population, c.in-Some.held) c.in-Some.is c.next.ensures.steps in
    (turn.0, turn.2 0, turn.3 0)

pub loop-population-init : goal.loop-population-init
unfolding lines_after weighed_lines
loop-population-init c = record { next_row = refl; wrote = appended_nothing c.args.page.now }

pub seats_if_moved-requires : goal.seats_if_moved-requires
seats_if_moved-requires c =
    let k = length c.loop-population.yielded in
    let turn = turn_of (goal.at.seats_if_moved-requires c).After-first_name in
    let weighable = all_weighable c.args.self.now.fit in
    let moved = weighable.as_they_would_be k turn.0 in
    rw turn.2 (weighable.seated k turn.0, le_trans moved.seats_within_lem moved.house_limited)

pub put_weighed-requires : goal.put_weighed-requires
put_weighed-requires c =
    let k = length c.loop-population.yielded in
    let turn = turn_of (goal.at.put_weighed-requires c).After-first_name in
    let weighable = all_weighable c.args.self.now.fit in
    rw (c.seats_if_moved.ensures, turn.1, turn.2) (weighable.as_they_are.each k turn.0, weighable.as_they_would_be k turn.0)

pub loop-population-preserved : goal.loop-population-preserved
unfolding weighed_at
loop-population-preserved c =
    let rows = c.args.self.now.rows.now in
    let k = length c.loop-population.yielded in
    let turn = turn_of (goal.at.loop-population-preserved c).After-first_name in
    let so_far = c.loop-population.invariant in
    rw (length_push c.loop-population.yielded (c.in-Some.population, c.in-Some.held))
    (record {
      next_row = c.rest-row.ensures ∙ ap (lines_after 1) so_far.next_row ∙ sym (rows_next k rows);
      wrote =
          rw weighed_lines_more
          (appended_then so_far.wrote
          (rw (c.seats_if_moved.ensures, c.first_name.ensures, so_far.next_row, name_of_first k rows, turn.1, turn.2) at
          c.put_weighed.ensures));
    })

pub returns : goal.returns
unfolding weighed_text people_of seats_in
returns c =
    let fit = c.args.self.now.fit in
    let placing = c.args.self.now.placing in
    let end = zip_end (people_of placing) (seats_in placing) c.loop-population.yielded _ _ c.next.new.self _ (cc) (cc)
    c.loop-population.yielded_by c.in-None.is c.next.ensures.steps in
    let all : length c.loop-population.yielded ≡ c.args.self.now.placing.states = omega (arith, end, fit.in_limits.paired, fit.counted) in
    rw all at c.loop-population.invariant.wrote
