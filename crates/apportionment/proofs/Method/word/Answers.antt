-- `Method::word` writes each method's word out, as its definition does.
use Rattle.apportionment.specs.Methods.{method_text}
use Rattle.apportionment.proofs.Method.word.Goals as goal

pub returns-in-Leximin : goal.returns-in-Leximin
unfolding method_text
returns-in-Leximin c = rw c.in-Leximin.is

pub returns-in-Adams : goal.returns-in-Adams
unfolding method_text
returns-in-Adams c = rw c.in-Adams.is

pub returns-in-Dean : goal.returns-in-Dean
unfolding method_text
returns-in-Dean c = rw c.in-Dean.is

pub returns-in-Hill : goal.returns-in-Hill
unfolding method_text
returns-in-Hill c = rw c.in-Hill.is

pub returns-in-Webster : goal.returns-in-Webster
unfolding method_text
returns-in-Webster c = rw c.in-Webster.is

pub returns-in-Jefferson : goal.returns-in-Jefferson
unfolding method_text
returns-in-Jefferson c = rw c.in-Jefferson.is

pub returns-in-Remainders : goal.returns-in-Remainders
unfolding method_text
returns-in-Remainders c = rw c.in-Remainders.is

pub returns-in-Quota : goal.returns-in-Quota
unfolding method_text
returns-in-Quota c = rw c.in-Quota.is
