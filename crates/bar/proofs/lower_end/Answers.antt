use Rattle.std.proofs.Common.{◌∙◌, sym, arith, get_or}
use Rattle.apportionment.specs.inner.Lists.{count_none}
use Rattle.bar.specs.inner.Reaching.{reaches}
use Rattle.bar.specs.inner.Search.{NotBelow, drawn_up_on, min_is}
use Rattle.bar.proofs.lower_end.Goals as goal
use Rattle.bar.proofs.lower_end.Goals.{then-own-low, else-own-low}

pub loop-own-init : goal.loop-own-init
loop-own-init c =
    let xs = c.args.precedences.now in
    let none = count_none (reaches xs c.args.low) ∙ sym (count_none (reaches xs c.args.high)) in
    record { not_below = c.requires; within = omega arith; same = none }

pub loop-own-preserved : goal.loop-own-preserved
loop-own-preserved c =
    let own : NotBelow (get_or c.args.precedences.now c.loop-own.own-index 0) c.args.low c.args.high c.if-own-low.end
    = elim c.if-own-low.branch [
      | then-own-low w ↦ (λ h. omega arith, λ h. omega arith)
      | else-own-low w ↦ (λ h. omega arith, λ h. omega arith)
    ] in
    drawn_up_on _ _ _ _ _ _ _ c.loop-own.invariant own (c.min-best.ensures ∙ min_is _ _)
