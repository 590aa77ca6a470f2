-- What is asked of the writer that a program hands over.
pub mod Pages
