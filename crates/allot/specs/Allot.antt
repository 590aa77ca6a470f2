-- What allotting hands back and leaves in the lent list: one outcome for each input, by the definitions of `apportionment`.
use Rattle.std.specs.Prelude.{◌≡◌, List, ℕ, length, Result, IfOk}
use Rattle.apportionment.specs.Refusals.{refusal_of}
use Rattle.apportionment.specs.declared.refusals.Refusal.{Refusal}
use Rattle.apportionment.specs.{Allotment.allot_refusal, Allotment.seats_after, Allotment.steps_after, declared.Method.Method}

pub record AllotmentIs (m : Method) (H : ℕ) (ps before after : List ℕ) (r : Result ℕ Refusal) : Type 0 where  -- What allotting promises.
  pub refusal : refusal_of r ≡ allot_refusal m H ps (length before)
  pub steps : IfOk r (λ steps. steps ≡ steps_after m H ps (length before))
  pub seats : after ≡ seats_after m H ps before
