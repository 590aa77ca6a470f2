-- The listing of a register, for any bytes: its text, its refusals, and the lent buffer afterwards.
pub mod Listing
pub mod inner
