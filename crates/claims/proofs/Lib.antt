-- Beside the proofs of the functions, what the growth of counts does to the seats of the divisor methods.
pub mod Growth
