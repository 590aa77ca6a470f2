-- The limits of document 01, "Quantities" and "Operations", each named once.
use Rattle.std.specs.Prelude.{ℕ}

abbrev pub state_limit : ℕ  -- The most states a register may have (n).
state_limit = 800

abbrev pub house_limit : ℕ  -- The largest house (H).
house_limit = 30000

abbrev pub sum_limit : ℕ  -- The largest sum of populations (P).
sum_limit = 4294967295

abbrev pub register_limit : ℕ  -- The most bytes of a register.
register_limit = 65536
