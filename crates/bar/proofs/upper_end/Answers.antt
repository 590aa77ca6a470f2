use Rattle.std.proofs.Common.{◌∙◌, ◌+◌, sym, arith, get_or}
use Rattle.apportionment.specs.inner.Lists.{count_none}
use Rattle.bar.specs.inner.Reaching.{reaches}
use Rattle.bar.specs.inner.Search.{NotAbove, drawn_down_on, max_is}
use Rattle.bar.proofs.upper_end.Goals as goal
use Rattle.bar.proofs.upper_end.Goals.{then-high-own, else-high-own}

pub loop-own-init : goal.loop-own-init
loop-own-init c =
    let xs = c.args.precedences.now in
    let none = count_none (reaches xs (c.args.low + 1)) ∙ sym (count_none (reaches xs (c.args.high + 1))) in
    record { within = omega arith; not_above = c.requires; same = none }

pub loop-own-preserved : goal.loop-own-preserved
loop-own-preserved c =
    let own : NotAbove (get_or c.args.precedences.now c.loop-own.own-index 0) c.args.high c.args.low c.if-high-own.end
    = elim c.if-high-own.branch [
      | then-high-own w ↦ (λ h. omega arith, λ h. omega arith)
      | else-high-own w ↦ (λ h. omega arith, λ h. omega arith)
    ] in
    drawn_down_on _ _ _ _ _ _ _ c.loop-own.invariant own (c.max-best.ensures ∙ max_is _ _)
