-- What the C interface hands back, from what the operations do.
pub mod Interface
pub mod inner
