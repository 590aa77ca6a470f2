-- The lines of a register, each with its checks.
pub mod Lines
pub mod inner
