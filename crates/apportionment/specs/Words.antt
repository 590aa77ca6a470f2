-- Words that the definitions share: the methods and marks as the code declares them, and values that may be missing.
pub use Rattle.std.proofs.Math.Option.{Option, none, some, get_or as option_get_or}
pub use Rattle.apportionment.specs.declared.Mark.TheVariants.{None, In, High, Over}
pub use Rattle.apportionment.specs.declared.Method.TheVariants.{Leximin, Adams, Dean, Hill, Webster, Jefferson, Remainders, Quota}
pub use Rattle.apportionment.specs.{declared.DivisorMethod.DivisorMethod, declared.Mark.Mark, declared.Method.Method}
