-- Beside the proofs of the functions, the starred examples.
pub mod Examples
