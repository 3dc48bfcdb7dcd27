-- The definitions that contracts cite: rounding, weighted sums, and lists that are written front to back.
pub mod Rounding
pub mod WeightedSum
pub mod Filling
