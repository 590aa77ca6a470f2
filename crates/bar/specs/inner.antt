-- The bar that parts the states which are served from the others, and the search for it.
pub mod Reaching
pub mod Search
