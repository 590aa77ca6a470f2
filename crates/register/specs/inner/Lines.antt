-- A refusal that is put on a line of the register, as the code puts that of the head, of a state's line and of the closing line.
-- Assumes nothing.
use Rattle.std.specs.Prelude.{◌≡◌, refl, false, List, ℕ, ◌+◌, ◌<◌, eqb, Result, Ok, Err}
use Rattle.std.proofs.Common.{sym}
use Rattle.std.proofs.lemmas.Bool.{eqb-false}
use Rattle.std.specs.Result.{MatchResult, IsErrAnd}
use Rattle.apportionment.specs.Refusals.{accepted, refusal_number, refusal_of}
use Rattle.apportionment.specs.inner.Checks.{refusal_has_number}
use Rattle.apportionment.specs.declared.refusals.Refusal.{Refusal}
use Rattle.apportionment.specs.declared.refusals.Refused.{Refused}
use Rattle.lines.specs.Lines.{HeadOutcome, head_of, state_refusal, closing_refusal}
use Rattle.register.specs.Register.{refused, closing_of, states_from, lines_of}
use Rattle.register.specs.inner.Register.{states_refused}

-- What comes of a line: the same, or the refusal with the line.
abbrev pub on_line : {A : Type 0} → (line : ℕ) → Result A Refusal → Result A Refused
on_line line (Ok x) = Ok x
on_line line (Err refusal) = Err (record { refusal = refusal; line = line })

-- So `map_err` makes it, with a closure of which this is known.
pub on_line_made : {A : Type 0} {Learnt : Refusal → Refused → Type 0} (line : ℕ) (r : Result A Refusal) (made : Result A Refused)
    → MatchResult r (λ x. made ≡ Ok x) (λ refusal. IsErrAnd made (Learnt refusal))
    → ((refusal : Refusal) (e : Refused) → Learnt refusal e → e ≡ record { refusal = refusal; line = line }) → made ≡ on_line line r
on_line_made line (Ok x) made is learnt = is
on_line_made line (Err refusal) (Ok x) is learnt = absurd is
on_line_made line (Err refusal) (Err e) is learnt = rw (learnt refusal e is)

-- What is known of the result where a line was refused.
pub record RefusedOn (line number : ℕ) (e : Refused) : Type 0 where
  pub here : e.line ≡ line
  pub why : number ≡ refusal_number e.refusal
  pub some : eqb number accepted ≡ false

pub refused_on : {A : Type 0} (line : ℕ) (r : Result A Refusal) (e : Refused) → on_line line r ≡ Err e → RefusedOn line (refusal_of r) e
refused_on line (Ok x) e is = cc
refused_on line (Err refusal) e is =
    let same : ◌≡◌ {A = Refused} (record { refusal = refusal; line = line }) e = cc in
    rw (← same) (record { here = refl; why = refl; some = refusal_has_number refusal })

-- And where it was not.
pub passed_on : {A : Type 0} (line : ℕ) (r : Result A Refusal) (x : A) → on_line line r ≡ Ok x → r ≡ Ok x
passed_on line (Ok y) x is = cc
passed_on line (Err refusal) x is = cc

-- ---- the readings that follow

pub head_refused_on : (s : List ℕ) (e : Refused) → RefusedOn 1 (head_of s).refusal e
    → refused (refusal_number e.refusal) e.line ≡ lines_of s
unfolding lines_of
head_refused_on s e on = rw (on.here, ← on.why, on.some)

pub state_refused_on : (head : HeadOutcome) (first : List ℕ) (left k sum : ℕ) (populations s : List ℕ) (e : Refused) → 0 < left
    → RefusedOn (k + 2) (state_refusal first k sum s) e
    → refused (refusal_number e.refusal) e.line ≡ states_from head first left k sum populations s
state_refused_on head first left k sum populations s e some on =
    rw (on.here, ← on.why) (sym (states_refused head first left k sum populations s some (eqb-false _ accepted on.some)))

pub closing_refused_on : (head : HeadOutcome) (total : ℕ) (populations s : List ℕ) (e : Refused)
    → RefusedOn (head.states + 2) (closing_refusal total s) e
    → refused (refusal_number e.refusal) e.line ≡ closing_of head total populations s
unfolding closing_of
closing_refused_on head total populations s e on = rw (on.here, ← on.why, on.some)
