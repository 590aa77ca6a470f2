-- The divisor methods in machine words: rounded seats, moves, and that they come to the method's allotment.
pub mod Moves
pub mod Rounding
pub mod Steps
