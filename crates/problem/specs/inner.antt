-- The total as the code adds it up, and what holds once nothing is refused.
pub mod Populations
pub mod Total
pub mod Passed
