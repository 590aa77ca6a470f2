-- The definitions of document 01, in its order. A reader who believes these files believes the desk.
pub mod Words
pub mod Limits
pub mod Refusals
pub mod Lists
pub mod Text
pub mod Methods
pub mod Quantities
pub mod Leximin
pub mod Divisor
pub mod Remainders
pub mod Quota
pub mod Allotment
pub mod inner
