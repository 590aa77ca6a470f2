-- `showing::rows::State::put_departure` meets its contract: within the limits the answer's text is that of the departure.
use Rattle.text.specs.inner.Departures.{answered_departure}
use Rattle.showing.proofs.rows.State.put_departure.Goals as goal

pub returns : goal.returns
returns c =
    rw (answered_departure c.requires c.departure_of.ensures) at
    c.put_departure.ensures
