-- The definitions that contracts cite: the refusals, and what refining answers and leaves.
pub mod Refusals
pub mod Answers
