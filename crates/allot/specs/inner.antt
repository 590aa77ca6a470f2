-- What filling the seats gives, the way in which each method fills them, and that they add up to the house.
pub mod Allot
pub mod Ways
pub mod Shared
