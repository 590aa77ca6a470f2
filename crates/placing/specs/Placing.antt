-- Document 01, "Leximin" and "Operations", with W-207: a placing once opened and after each step, which are genuine, and moving one.
use Rattle.std.specs.Prelude.{◌&&◌, ◌++◌, ◌+◌, ◌-◌, Bool, cond, List, [], ℕ, min, leb, eqb, length, take, replicate}
use Rattle.apportionment.specs.Limits.{state_limit}
use Rattle.apportionment.specs.Leximin.{leximin_for, start_seats, start_total, gap, total_after}
use Rattle.apportionment.specs.{Refusals.accepted, Refusals.placing_foreign, Lists.same_list, Quantities.distance, Allotment.open_refusal}
use Rattle.placing.specs.{declared.Placing.Placing, declared.Placed.Placed, declared.MovedOn.MovedOn}

unfoldable pub padded : List ℕ → List ℕ  -- A list as a placing holds it: 0 past its places.
padded xs = xs ++ replicate (state_limit - length xs) 0

unfoldable pub started : (ps : List ℕ) (H : ℕ) → Placing  -- The placing that opening gives: each state's nearest seats, and no step made.
started ps H =
    record {
      states = length ps;
      populations = padded ps;
      house = H;
      seats = padded (start_seats ps H);
      total = start_total ps H;
      steps = 0;
    }

unfoldable pub placing_at : (ps : List ℕ) (H m : ℕ) → Placing  -- The placing m steps later: leximin's for the total that they lead to.
placing_at ps H m =
    let t = total_after ps H m in
    record { states = length ps; populations = padded ps; house = H; seats = padded (leximin_for ps H t); total = t; steps = m }

unfoldable pub empty_placing : Placing  -- Everything 0: what a refused opening hands back.
empty_placing = record { states = 0; populations = padded []; house = 0; seats = padded []; total = 0; steps = 0 }

unfoldable pub opened_of : (ps : List ℕ) (H : ℕ) → Placed  -- What opening hands back.
opened_of ps H =
    cond (eqb (open_refusal ps H) accepted) (record { refusal = accepted; placing = started ps H })
    (record { refusal = open_refusal ps H; placing = empty_placing })

unfoldable pub people_of : Placing → List ℕ  -- A placing's own populations.
people_of p = take p.states p.populations

unfoldable pub same_placing : Placing → Placing → Bool  -- Two placings agree in everything that they hold.
same_placing p q =
    eqb p.states q.states && same_list p.populations q.populations && eqb p.house q.house
    && same_list p.seats q.seats && eqb p.total q.total && eqb p.steps q.steps

unfoldable pub genuine : Placing → Bool  -- Its own populations and house open, and so many steps, at most the gap, give this very placing.
genuine p =
    eqb (open_refusal (people_of p) p.house) accepted && leb p.steps (gap (people_of p) p.house)
    && same_placing p (placing_at (people_of p) p.house p.steps)

unfoldable pub movable : Placing → (k : ℕ) → ℕ  -- How many seats a move by k makes: fewer only if the house is reached.
movable p k = min k (distance p.total p.house)

unfoldable pub moved_of : Placing → (k : ℕ) → MovedOn  -- What a move by k answers and leaves: 21, and all as it was, unless genuine.
moved_of p k =
    let m = movable p k in
    cond (genuine p)
    (record { answer = record { refusal = accepted; moved = m }; placing = placing_at (people_of p) p.house (p.steps + m) })
    (record { answer = record { refusal = placing_foreign; moved = 0 }; placing = p })
