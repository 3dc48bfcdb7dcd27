-- The definitions that contracts cite: the refusals, and what reading answers and leaves.
pub mod Refusals
pub mod Answers
