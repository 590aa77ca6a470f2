use mathlib.Core.Path.{◌≡◌, ◌∙◌}
use native.Mathlib.Omega.{arith}
use Rattle.quota.specs.inner.Play.{reached_none, queue_fits, next_turn, next_owed, reached_next}
use Rattle.quota.proofs.rounds.serve.Goals as goal

pub loop-passed-init : goal.loop-passed-init
loop-passed-init c =
    reached_none c.requires

pub overflow_add-queue : goal.overflow_add-queue
overflow_add-queue c =
    omega (arith, c.from.ensures, queue_fits c.requires.problem c.requires.ready c.loop-passed.invariant c.loop-passed-test.true)

pub serve_one-due-requires : goal.serve_one-due-requires
serve_one-due-requires c =
    record {
      turn = next_turn c.requires.problem c.requires.ready c.loop-passed.invariant c.loop-passed-test.true;
      owed = rw c.from.ensures (next_owed c.requires.problem c.requires.ready c.loop-passed.invariant c.loop-passed-test.true);
    }

pub loop-passed-preserved : goal.loop-passed-preserved
loop-passed-preserved c =
    reached_next c.requires.problem c.requires.ready c.loop-passed.invariant c.loop-passed-test.true
    (rw c.from.ensures at c.serve_one-due.ensures.value)
    (rw c.from.ensures at c.serve_one-due.ensures.seats_after)
    c.serve_one-due.ensures.in_play

pub returns : goal.returns
returns c =
    let all : c.loop-passed.passed ≡ c.args.house = omega (arith, c.loop-passed.invariant.within, c.loop-passed-test.false) in
    c.loop-passed.invariant.seats_are ∙ rw all
