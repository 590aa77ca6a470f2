-- Laws of what Allot.antt defines, which proofs cite.
-- Assumes nothing.
use Rattle.std.specs.Prelude.{◌≡◌, true, false, List, ℕ, eqb, length, Result, Ok, Err}
use Rattle.std.proofs.Common.{sym, ◌∙◌, eq-eqb}
use Rattle.apportionment.specs.Refusals.{accepted, refusal_number, refusal_of}
use Rattle.apportionment.specs.Allotment.{allot_refusal, seats_of, steps_of, seats_after, steps_after}
use Rattle.apportionment.specs.inner.Checks.{refusal_has_number}
use Rattle.apportionment.specs.declared.Method.{Method}
use Rattle.apportionment.specs.declared.refusals.Refusal.{Refusal}
use Rattle.allot.specs.Allot.{AllotmentIs}

-- The seats of the method, and its steps.
pub record Filled (m : Method) (ps : List ℕ) (H : ℕ) (xs : List ℕ) (made : ℕ) : Type 0 where
  pub seats : xs ≡ seats_of m ps H
  pub steps : made ≡ steps_of m ps H

-- The seats that an allotment left in the list, where it was not refused, are the method's, and none of its checks failed.
pub seats_unless_refused : {m : Method} {H : ℕ} {ps before after : List ℕ} {r : Result ℕ Refusal} → AllotmentIs m H ps before after r
    → refusal_of r ≡ accepted → (allot_refusal m H ps (length before) ≡ accepted) × (after ≡ seats_of m ps H)
unfolding seats_after
seats_unless_refused {m} {H} {ps} {before} {after} {r} promise none =
    let passed : allot_refusal m H ps (length before) ≡ accepted = sym promise.refusal ∙ none in
    let test : eqb (allot_refusal m H ps (length before)) accepted ≡ true = eq-eqb _ _ passed in
    (passed, promise.seats ∙ rw test)

-- A refusal: nothing is allotted and the list is as it was.
pub refused_untouched : {m : Method} {H : ℕ} {ps before : List ℕ} {refusal : Refusal}
    → refusal_number refusal ≡ allot_refusal m H ps (length before) → AllotmentIs m H ps before before (Err refusal)
unfolding seats_after
refused_untouched {m} {H} {ps} {before} {refusal} e =
    let no : eqb (allot_refusal m H ps (length before)) accepted ≡ false = rw e at (refusal_has_number refusal) in
    record { refusal = e; steps = tt; seats = rw no }

-- No refusal: the method's seats and steps.
pub accepted_filled : {m : Method} {H : ℕ} {ps before after : List ℕ} {made : ℕ}
    → accepted ≡ allot_refusal m H ps (length before) → Filled m ps H after made → AllotmentIs m H ps before after (Ok made)
unfolding seats_after steps_after
accepted_filled {m} {H} {ps} {before} {after} {made} e f =
    let yes : eqb (allot_refusal m H ps (length before)) accepted ≡ true = eq-eqb _ _ (sym e) in
    record { refusal = e; steps = rw yes f.steps; seats = rw yes f.seats }
