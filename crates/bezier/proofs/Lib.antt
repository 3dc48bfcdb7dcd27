-- The laws of Bézier nets.
pub mod Weights
pub mod Placing
pub mod BezierNets
pub mod Beyond
