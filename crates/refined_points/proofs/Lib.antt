-- Demand 3 of the calls, the grid after k steps, and numbers that do not matter.
pub mod RefinedPoints
pub mod EdgeCounts
pub mod CutNets
