-- What handing a text over comes to in each of its cases, and what a program prints.
pub mod Handover
