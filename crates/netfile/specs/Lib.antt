-- The statements of the round trip, and what the call that does it answers.
pub mod Promises
pub mod Answers
