-- `allot::way_of` is right because each arm of its match is the definition's clause for that method.
use Rattle.allot.specs.inner.Ways.{way_of}
use Rattle.allot.proofs.way_of.Goals as goal

pub returns-in-Leximin : goal.returns-in-Leximin
unfolding way_of
returns-in-Leximin c = rw c.in-Leximin.is

pub returns-in-Adams : goal.returns-in-Adams
unfolding way_of
returns-in-Adams c = rw c.in-Adams.is

pub returns-in-Dean : goal.returns-in-Dean
unfolding way_of
returns-in-Dean c = rw c.in-Dean.is

pub returns-in-Hill : goal.returns-in-Hill
unfolding way_of
returns-in-Hill c = rw c.in-Hill.is

pub returns-in-Webster : goal.returns-in-Webster
unfolding way_of
returns-in-Webster c = rw c.in-Webster.is

pub returns-in-Jefferson : goal.returns-in-Jefferson
unfolding way_of
returns-in-Jefferson c = rw c.in-Jefferson.is

pub returns-in-Remainders : goal.returns-in-Remainders
unfolding way_of
returns-in-Remainders c = rw c.in-Remainders.is

pub returns-in-Quota : goal.returns-in-Quota
unfolding way_of
returns-in-Quota c = rw c.in-Quota.is
