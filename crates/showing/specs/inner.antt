-- Laws of the lines of the work, what a placing on the way offers, and that every block fits its page.
pub mod Work
pub mod Showable
pub mod Room
