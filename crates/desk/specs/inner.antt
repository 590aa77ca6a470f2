-- That what the C interface hands back is what the operations do.
pub mod Exported
pub mod Allotting
pub mod Part
