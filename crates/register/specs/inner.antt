-- What a register that is read holds, its rows and where their names stand, and document 01's registers.
pub mod Register
pub mod Lines
pub mod Names
pub mod Sound
pub mod Examples
pub mod Kept
pub mod Rows
pub mod Written
