-- The definitions that contracts cite: given points and their storage, the net through them, the refusals, and what the
-- call answers; and the statements about the answer.
pub mod Given
pub mod HermiteNet
pub mod Sums
pub mod Refusals
pub mod Answers
pub mod Promises
