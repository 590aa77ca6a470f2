-- What opening hands back, and what a move answers and leaves.
pub mod Placing
pub mod inner
