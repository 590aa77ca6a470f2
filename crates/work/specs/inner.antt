-- What is known of the placings that the program shows.
pub mod Way
