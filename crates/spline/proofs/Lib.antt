-- The laws of the exact spline: weights, and the same value in every triangle and at every edge count.
pub mod GridSums
pub mod Located
pub mod ControlWeights
pub mod AnyTriangle
pub mod EdgeCounts
