-- Laws of the grammar, one step and the end of each loop, and of tests made one after the other.
pub mod Tests
pub mod Parts
pub mod Grammar
pub mod Written
