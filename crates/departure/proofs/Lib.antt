-- The laws that the proofs of this crate share.
pub mod Signed
pub mod Rounding
