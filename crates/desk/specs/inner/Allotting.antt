-- Laws of allotting by a number, which proofs cite.
-- Assumes nothing.
use Rattle.std.specs.Prelude.{◌≡◌, true, false, List, ℕ, eqb, leb, ltb, length, Result, Ok, Err}
use Rattle.std.proofs.Common.{sym, eq-eqb, leb-true, leb-false, lt-ltb, le-ltb}
use Rattle.apportionment.specs.Methods.{last_method, method_at, method_numbered}
use Rattle.apportionment.specs.inner.Tests.{either_way}
use Rattle.apportionment.specs.declared.Method.{Method}
use Rattle.apportionment.specs.Refusals.{accepted, refusal_number}
use Rattle.apportionment.specs.Allotment.{allot_refusal, steps_after}
use Rattle.apportionment.specs.inner.Checks.{refusal_has_number}
use Rattle.apportionment.specs.declared.refusals.Refusal.{Refusal}
use Rattle.apportionment.specs.declared.refusals.Refusal.TheVariants.{MethodUnknown}
use Rattle.allot.specs.Allot.{AllotmentIs}
use Rattle.desk.specs.declared.DeskAllotted.{DeskAllotted}
use Rattle.desk.specs.Interface.{allotted_by, seats_by}

-- The record of the interface for what allotting answers.
abbrev pub exported_allotted : Result ℕ Refusal → DeskAllotted
exported_allotted (Ok steps) = record { refusal = accepted; steps = steps }
exported_allotted (Err refusal) = record { refusal = refusal_number refusal; steps = 0 }

-- What allotting by a number answers, and the seats that it leaves, are the interface's.
pub record AllottedBy (number H : ℕ) (ps before after : List ℕ) (r : Result ℕ Refusal) : Type 0 where
  pub value : exported_allotted r ≡ allotted_by number H ps (length before)
  pub seats_after : after ≡ seats_by number H ps before

-- The record, and the seats left, where the number is a method's.
told_by : {m : Method} {H : ℕ} {ps before after : List ℕ} (r : Result ℕ Refusal) → AllotmentIs m H ps before after r
    → exported_allotted r ≡ record { refusal = allot_refusal m H ps (length before); steps = steps_after m H ps (length before) }
unfolding steps_after
told_by {m} {H} {ps} {before} (Ok steps) made =
    let yes : eqb (allot_refusal m H ps (length before)) accepted ≡ true = eq-eqb _ _ (sym made.refusal) in
    rw (made.steps, yes, ← made.refusal)
told_by {m} {H} {ps} {before} (Err refusal) made =
    let no : eqb (allot_refusal m H ps (length before)) accepted ≡ false = rw made.refusal at (refusal_has_number refusal) in
    rw (no, made.refusal)

in_terms : {number H : ℕ} {ps before after : List ℕ} {r : Result ℕ Refusal} → ltb last_method number ≡ false
    → AllotmentIs (method_at number) H ps before after r → AllottedBy number H ps before after r
unfolding allotted_by seats_by
in_terms {number} {H} {ps} {before} {after} {r} low made = record { value = rw low (told_by r made); seats_after = rw low made.seats }

-- A number that is no method: 4 is told, and nothing is allotted.
unknown : {number H : ℕ} {ps before : List ℕ} → leb number last_method ≡ false → AllottedBy number H ps before before (Err MethodUnknown)
unfolding allotted_by seats_by
unknown {number} past =
    let beyond : ltb last_method number ≡ true = lt-ltb last_method number (leb-false number last_method past) in
    record { value = rw beyond; seats_after = rw beyond }

pub no_method : {number H : ℕ} {ps before : List ℕ} {refusal : Refusal} → Err refusal ≡ method_numbered number
    → AllottedBy number H ps before before (Err refusal)
no_method {number} {H} {ps} {before} {refusal} told =
    either_way (leb number last_method)
    (λ known. let here : ◌≡◌ {A = Result Method Refusal} (Err refusal) (Ok (method_at number)) = rw known at told in absurd (cc))
    (λ past.
    let here : ◌≡◌ {A = Result Method Refusal} (Err refusal) (Err MethodUnknown) = rw past at told in
    let same : MethodUnknown ≡ refusal = cc in
    rw same at (unknown {H = H} {ps = ps} {before = before} past))

-- What allotting by the method with a number gives, where there is one.
pub by_method : {number H : ℕ} {ps before after : List ℕ} {m : Method} {r : Result ℕ Refusal} → Ok m ≡ method_numbered number
    → AllotmentIs m H ps before after r → AllottedBy number H ps before after r
by_method {number} {H} {ps} {before} {after} {m} {r} told made =
    either_way (leb number last_method)
    (λ known.
    let here : ◌≡◌ {A = Result Method Refusal} (Ok m) (Ok (method_at number)) = rw known at told in
    let same : m ≡ method_at number = cc in
    by_number known (rw same at made))
    (λ past. let here : ◌≡◌ {A = Result Method Refusal} (Ok m) (Err MethodUnknown) = rw past at told in absurd (cc))
  where
    by_number : leb number last_method ≡ true → AllotmentIs (method_at number) H ps before after r → AllottedBy number H ps before after r
    by_number known made = in_terms (le-ltb last_method number (leb-true number last_method known)) made
