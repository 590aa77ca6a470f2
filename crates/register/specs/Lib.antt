-- What reading a register gives, for any bytes: its refusals and lines, or what it says.
pub mod Register
pub mod inner
