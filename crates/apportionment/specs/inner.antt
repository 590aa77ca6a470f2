-- Laws of the words about lists, filling, written numbers, methods, quantities, signposts and checks, the checked problem that the
-- layers above start from, the bound of its products, and the whole parts of its shares.
pub mod Tests
pub mod Lists
pub mod Filling
pub mod Checks
pub mod Decimal
pub mod Methods
pub mod Quantities
pub mod Signposts
pub mod Problem
pub mod MachineWords
pub mod WholeParts
