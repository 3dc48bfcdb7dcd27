-- The definitions that contracts cite: the details of a net, the refusals, and what splitting answers.
pub mod Split
pub mod Refusals
pub mod Answers
pub mod Promises
