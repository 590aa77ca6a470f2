-- Exact departures, the laws of the departure operation, and what is shown at the edges.
pub mod Exact
pub mod Answer
pub mod Edges
