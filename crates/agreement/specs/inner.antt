-- The tests of lists, and those of steps, total and seats, which the leximin allotment passes and no other seats do.
pub mod Lists
pub mod Agreement
