-- What writing a listing comes to, that every listing fits its page, and document 01's listing.
pub mod Rows
pub mod Room
pub mod Listed
pub mod Example
