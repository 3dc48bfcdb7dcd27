-- The definitions that contracts cite: the refusals, and what writing answers and leaves.
pub mod Refusals
pub mod Answers
