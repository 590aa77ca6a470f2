-- What the text of a stored form is made of, how long it is, and that reading it gives back what was written.
pub mod Stored
pub mod Room
pub mod Back
pub mod Cleaned
