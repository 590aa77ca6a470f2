-- What an operation that writes into a lent buffer hands back and leaves there.
pub mod Handover
pub mod inner
