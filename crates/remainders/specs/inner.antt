-- How largest remainders are worked out: the precedence of states where the seats that are left are served, serving by a bar, and the
-- seats; and that these add up to the house.
pub mod Precedence
pub mod Serving
pub mod Seats
pub mod House
