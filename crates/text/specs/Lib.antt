-- The lines that the desk's texts share.
pub mod Shared
pub mod inner
