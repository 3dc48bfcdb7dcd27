-- The definitions that contracts cite: the refusals of refining with an outline, what it leaves, and what is promised
-- of it.
pub mod Refusals
pub mod Answers
pub mod Promises
