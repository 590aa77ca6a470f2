-- Sizes as the code holds them, and what comparing claims by quotients asks.
pub mod Sizes
pub mod Quotients
