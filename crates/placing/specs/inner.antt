-- How a genuine placing is told, and the walk from the start to the house.
pub mod Lists
pub mod Telling
pub mod Moving
pub mod Walk
