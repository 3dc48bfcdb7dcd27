-- The definitions that contracts cite: the refusals and what the calls answer; what the inner functions hand on; and
-- the statements about the calls.
pub mod Refusals
pub mod Rows
pub mod Answers
pub mod Promises
