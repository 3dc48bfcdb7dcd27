-- The definitions that contracts cite: the refusals, what the calls answer, demand 3 of them and what it does not
-- claim, and their contract.
pub mod Refusals
pub mod Answers
pub mod DemandThree
pub mod NotClaimed
pub mod Contract
