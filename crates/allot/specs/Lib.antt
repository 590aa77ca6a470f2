-- What allotting hands back.
pub mod Allot
pub mod inner
