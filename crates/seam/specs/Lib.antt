-- The definitions that contracts cite: how far apart the points of a seam can be, the refusals, and what the call
-- answers and leaves.
pub mod Seam
pub mod Promises
pub mod Refusals
pub mod Answers
pub mod Contract
