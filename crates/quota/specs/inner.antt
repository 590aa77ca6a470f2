-- The quota method: whose turn a seat is, what follows for any way of giving seats by turns, that the quota is kept, and that giving the
-- seats beyond the whole parts alone comes to the same seats; then how the code does so: seats counted, states by stages, and what its
-- functions promise.
pub mod Sums
pub mod Turns
pub mod Serving
pub mod Quota
pub mod Released
pub mod Best
pub mod Served
pub mod Rounds
pub mod Spots
pub mod Marks
pub mod Stages
pub mod Play
