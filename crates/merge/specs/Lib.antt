-- The definitions that contracts cite: the merged net, the refusals, and what merging answers.
pub mod Merge
pub mod Refusals
pub mod Answers
pub mod Promises
