-- Beside the proofs of the functions, the claim about whole lists of moves.
pub mod Claim
