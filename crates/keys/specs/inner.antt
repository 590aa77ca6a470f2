-- Keys, which order quotients exactly, and tournaments of them.
pub mod Keys
pub mod Tournament
