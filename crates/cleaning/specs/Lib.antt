-- The clean form of a register, and what writing it gives, for any bytes and any lent buffer.
pub mod Clean
pub mod inner
