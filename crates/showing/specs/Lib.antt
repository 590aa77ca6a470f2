-- The text of leximin's work: its lines and its blocks.
pub mod Work
pub mod inner
