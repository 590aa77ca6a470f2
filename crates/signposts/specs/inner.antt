-- Claims as the code holds them, the table of signposts, and which state moves first by them.
pub mod Claims
pub mod Table
pub mod Order
