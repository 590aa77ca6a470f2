-- `read_places` tests the length, then the head, and leaves the rest to `read_states`, which keeps the places.
use Rattle.std.proofs.Common.{rules, arith, ◌≡◌, ℕ, ◌≤◌, List, length, refl, Result, Err, Ok, OnOk, sym, ap, ◌∙◌, lt-ltb, le-ltb}
use Rattle.apportionment.specs.Limits.{register_limit}
use Rattle.apportionment.specs.Refusals.{refusal_of}
use Rattle.apportionment.specs.declared.refusals.Refusal.{Refusal}
use Rattle.lines.specs.Lines.{head_of, head_refused, head_accepted, head_outcome}
use Rattle.lines.specs.declared.head.Head.{Head}
use Rattle.lines.specs.inner.Lines.{head_sound}
use Rattle.lines.specs.inner.Places.{rest_is_end}
use Rattle.register.specs.Register.{reading_of, reading_outcome, lines_of, rows_of}
use Rattle.register.specs.inner.Lines.{on_line, on_line_made, refused_on, passed_on, head_refused_on}
use Rattle.register.specs.inner.Rows.{Placed, PlacedIn}
use Rattle.register.specs.declared.Reading.{Reading}
use Rattle.apportionment.specs.declared.refusals.Refused.{Refused}
use Rattle.lines.specs.declared.NamePlace.{NamePlace}
use Rattle.register.specs.inner.Sound.{reading_counted}
use Rattle.register.proofs.read_places.Goals as goal
use Rattle.register.proofs.read_places.Goals.{After-map_err, In_ok-head, After-read_states}

head : (c : After-map_err) → c.map_err.result ≡ on_line 1 c.read_head.result
head c = on_line_made _ c.read_head.result _ c.map_err.ensures.cases (λ refusal e learnt. search rules)

outcome_refusal : (r : Result Head Refusal) → (head_outcome r).refusal ≡ refusal_of r
unfolding head_refused
outcome_refusal (Ok head) = refl
outcome_refusal (Err refusal) = refl

-- The head that was read is the definition's.
head_is : (c : In_ok-head) → head_of c.args.bytes.now ≡ head_accepted c.in_ok-head.head
head_is c =
    sym c.read_head.ensures
    ∙ ap head_outcome (passed_on _ c.read_head.result _ (sym (head (goal.at.In_ok-head c).After-map_err) ∙ c.in_ok-head.was))

pub returns-then-bytes-gt-REGISTER_LIMIT-clause-reading : goal.returns-then-bytes-gt-REGISTER_LIMIT-clause-reading
unfolding reading_of
returns-then-bytes-gt-REGISTER_LIMIT-clause-reading c = rw (c.from.ensures, lt-ltb _ _ c.if-bytes-gt-REGISTER_LIMIT.true)

pub returns-in_err-head-clause-reading : goal.returns-in_err-head-clause-reading
unfolding reading_of
returns-in_err-head-clause-reading c =
    let at = (goal.at.returns-in_err-head-clause-reading c).After-map_err in
    let given : c.from_residual.result ≡ Err c.in_err-head.field-0.0 = search rules in
    let refused = refused_on _ c.read_head.result _ (sym (head at) ∙ c.in_err-head.was) in
    let number = sym (outcome_refusal c.read_head.result) ∙ ap (λ h. h.refusal) c.read_head.ensures in
    rw (given, le-ltb _ _ c.if-bytes-gt-REGISTER_LIMIT.false) (head_refused_on _ _ (rw number at refused))

pub read_states-requires : goal.read_states-requires
read_states-requires c =
    let is = head_is (goal.at.read_states-requires c).In_ok-head in
    let short : length (rows_of c.args.bytes.now) ≤ register_limit =
    omega (arith, c.if-bytes-gt-REGISTER_LIMIT.false, (rest_is_end c.args.bytes.now).shorter) in
    (rw is at (head_sound _ (ap (λ h. h.refusal) is)).states.1, rw c.of.ensures short, c.requires)

told : (c : After-read_states) → reading_outcome c.read_states.result ≡ reading_of c.args.bytes.now
unfolding reading_of lines_of
told c =
    let is = head_is (goal.at.After-read_states c).In_ok-head in
    c.read_states.ensures.reading ∙ rw (c.of.ensures, le-ltb _ _ c.if-bytes-gt-REGISTER_LIMIT.false, is)

pub returns-clause-reading : goal.returns-clause-reading
returns-clause-reading c = told (goal.at.returns-clause-reading c).After-read_states

-- The places of a register that is read are those of as many names as it says.
placed_in : (s : List ℕ) (places : List NamePlace) {n : ℕ} {rows : List ℕ} (r : Result Reading Refused) → OnOk r (Placed n rows places)
    → rows ≡ rows_of s → reading_outcome r ≡ reading_of s → n ≡ (head_of s).states → PlacedIn s places r
placed_in s places (Ok reading) placed same is count =
    let counted = ap (λ r. r.states) is ∙ reading_counted s (ap (λ r. r.refusal) (sym is)) in
    rw (counted ∙ sym count, ← same) placed
placed_in s places (Err e) placed same is count = tt

pub returns-clause-placed : goal.returns-clause-placed
returns-clause-placed c =
    let is = head_is (goal.at.returns-clause-placed c).In_ok-head in
    placed_in _ _ c.read_states.result c.read_states.ensures.placed c.of.ensures
    (told (goal.at.returns-clause-placed c).After-read_states) (sym (ap (λ h. h.states) is))
