-- Beside the proofs of the functions, what allotting's promise says of the quota, and of growth without loss.
pub mod Quota
pub mod Growth
