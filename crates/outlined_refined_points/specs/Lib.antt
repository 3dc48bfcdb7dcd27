-- The definitions that contracts cite: the refusals of refining with an outline and then a point, the answer, the one
-- contract of the calls that do both, demand 3 on the door, and what else is promised.
pub mod Refusals
pub mod Answers
pub mod Contract
pub mod DemandThree
pub mod Promises
