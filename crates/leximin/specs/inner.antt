-- What the leximin layer's functions hand back, and that it is what the theory of claims speaks of.
pub mod Scan
pub mod Sided
pub mod Tournament
pub mod Start
pub mod Moves
pub mod Settled
