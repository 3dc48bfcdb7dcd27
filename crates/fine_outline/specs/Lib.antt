-- The definitions that contracts and theorems cite: the outline after k steps, the same by rows, and what is
-- promised of it.
pub mod FineOutline
pub mod Rows
pub mod Promises
