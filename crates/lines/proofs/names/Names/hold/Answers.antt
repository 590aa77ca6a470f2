use Rattle.std.proofs.Common.{◌≡◌, ℕ, ◌<◌, List, false, eqb, length, get_or, sym, ap, ◌∙◌, arith, below_more}
use lib.Pointwise.{pointwise}
use Rattle.apportionment.specs.Lists.{same_list}
use Rattle.fields.specs.inner.Parts.{same_is}
use Rattle.lines.specs.declared.NamePlace.{NamePlace}
use Rattle.lines.specs.inner.Places.{name_on, part_of, no_place, NamesKept, other_fingerprint, used_on, used_on_none}
use Rattle.lines.specs.inner.Places.{unused_without_fingerprint}
use Rattle.lines.proofs.names.Names.hold.Goals as goal
use Rattle.lines.proofs.names.Names.hold.Goals.{else-self-i-via-then-self-i+else-eq, else-self-i-via-else-self-i}

-- What the comparison with the bytes at a name's place tells.
compared : {first prints : List ℕ} {places : List NamePlace} → NamesKept first prints places → (i : ℕ) → i < length prints → {part : List ℕ}
    → part ≡ part_of first (get_or places i no_place).start (get_or places i no_place).end → (name : List ℕ)
    → pointwise eqb part name ≡ same_list (name_on i first) name
compared kept i below part name = same_is _ name ∙ ap (λ there. same_list there name) (part ∙ (kept.each i below).there)

pub returns-then-not-holds : goal.returns-then-not-holds
returns-then-not-holds c = sym (unused_without_fingerprint _ c.args.self.kept c.requires (sym c.holds.ensures ∙ c.if-not-holds.true))

pub returns-then-eq : goal.returns-then-eq
returns-then-eq c =
    let kept = c.args.self.kept in
    let below : c.loop-i.i < length c.args.self.prints.now = omega (arith, kept.paired) in
    sym (used_on _ _ _ c.loop-i.i below
    (sym (c.eq.ensures ∙ compared kept c.loop-i.i below c.part.ensures c.args.name.now) ∙ c.if-eq.true))

pub loop-i-preserved : goal.loop-i-preserved
loop-i-preserved c =
    let kept = c.args.self.kept in
    let below : c.loop-i.i < length c.args.self.prints.now = omega (arith, kept.paired) in
    below_more (λ j. same_list (name_on j _) _ ≡ false) _ c.loop-i.invariant
    (elim c.else-self-i.branch [
      | else-self-i-via-then-self-i+else-eq w ↦
          sym (w.eq.ensures ∙ compared kept c.loop-i.i below w.part.ensures c.args.name.now) ∙ w.if-eq.false
      | else-self-i-via-else-self-i w ↦
          other_fingerprint _ _ (λ equal. w.if-self-i.false (kept.printed c.loop-i.i below ∙ equal ∙ sym c.requires))
    ])

pub returns : goal.returns
returns c =
    let kept = c.args.self.kept in
    sym (used_on_none _ _ _ (λ j below. c.loop-i.invariant j (omega (arith, kept.paired))))
