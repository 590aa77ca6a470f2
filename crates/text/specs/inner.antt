-- What a shown departure and an answer of the departure operation are written as, and how long a piece of text can be.
pub mod Shown
pub mod Bounds
pub mod Departures
