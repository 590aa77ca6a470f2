-- Beside the proofs of the functions, the four laws of clean copies.
pub mod Laws
