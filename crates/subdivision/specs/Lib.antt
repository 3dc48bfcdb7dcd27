-- The definitions of one refinement and of its weight table, and the statements about them.
pub mod Refinement
pub mod WeightTable
pub mod Promises
