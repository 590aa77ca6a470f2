-- `House::ends_apart` meets its contract: the two scans give the theory's two ends, both of them states of the list, and
-- comparing their claims is comparing sizes.
use native.Mathlib.Omega.{arith}
use borrow.Author.Rules.{scaled_Fits}
use Rattle.leximin.specs.inner.Moves.{met_inside, unmet_inside, inside_states}
use Rattle.leximin.specs.inner.Settled.{none_to_spare, ends_compared}
use Rattle.leximin.specs.inner.Scan.{state_with}
use native.Mathlib.Nat.{le_refl}
use Rattle.leximin.proofs.house.House.ends_apart.Goals as goal

pub offset_bounds-seats-i : goal.offset_bounds-seats-i
offset_bounds-seats-i c =
    scaled_Fits _ _ 8
    (met_inside c.requires.bounded c.last_met-i.ensures)
    c.well_formed.1.0.1

pub bounds-seats-i : goal.bounds-seats-i
bounds-seats-i c =
    met_inside c.requires.bounded c.last_met-i.ensures

pub returns-then-seats-i-le1 : goal.returns-then-seats-i-le1
returns-then-seats-i-le1 c =
    none_to_spare c.requires c.last_met-i.ensures c.first_unmet-j.ensures c.if-seats-i-le1.true

pub claim_of-met-requires : goal.claim_of-met-requires
claim_of-met-requires c =
    state_with c.requires.bounded c.last_met-i.result (omega (arith, c.if-seats-i-le1.false))

pub offset_bounds-self-j : goal.offset_bounds-self-j
offset_bounds-self-j c =
    let b = c.requires.bounded in
    omega (arith, inside_states b (unmet_inside b c.first_unmet-j.ensures), b.fillable.problem.states.states_within)

pub bounds-self-j : goal.bounds-self-j
bounds-self-j c = inside_states c.requires.bounded (unmet_inside c.requires.bounded c.first_unmet-j.ensures)

pub offset_bounds-seats-j : goal.offset_bounds-seats-j
offset_bounds-seats-j c =
    scaled_Fits _ _ 8 (unmet_inside c.requires.bounded c.first_unmet-j.ensures) c.well_formed.1.0.1

pub bounds-seats-j : goal.bounds-seats-j
bounds-seats-j c =
    unmet_inside c.requires.bounded c.first_unmet-j.ensures

pub claim_of-unmet-requires : goal.claim_of-unmet-requires
claim_of-unmet-requires c =
    state_with c.requires.bounded c.first_unmet-j.result (le_refl _)

pub returns : goal.returns
returns c =
    rw
    (← ends_compared c.requires c.last_met-i.ensures c.first_unmet-j.ensures c.if-seats-i-le1.false
    c.claim_of-met.ensures c.claim_of-unmet.ensures)
    c.comes_before.ensures
