-- Laws of a register's lines; for speed, fingerprints of names, where they stand, and lines cut once.
pub mod Lines
pub mod Written
pub mod Fingerprints
pub mod Places
pub mod Cut
